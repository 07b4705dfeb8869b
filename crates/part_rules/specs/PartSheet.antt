-- The fields of a part sheet before its trees: the counts and the links.
use Rattle.std.specs.Prelude.{ℕ, ◌+◌, ◌-◌, ◌*◌, List}
use Rattle.fields.specs.Reading.{Reader, done, ◌>>=◌, times, free, within, field, filled}
use Rattle.part_rules.specs.Part.{Link}

-- How wide the fields are, in bits, and the most trees of a part.
abbrev pub tree_count_width : ℕ
tree_count_width = 5

abbrev pub link_count_width : ℕ
link_count_width = 8

abbrev pub tree_width : ℕ
tree_width = 4

abbrev pub leaf_width : ℕ
leaf_width = 6

abbrev pub trees_most : ℕ
trees_most = 16

-- How wide a link is, and where the first begins.
abbrev pub link_width : ℕ
link_width = tree_width + leaf_width + tree_width

abbrev pub links_at : ℕ
links_at = tree_count_width + link_count_width

-- The first bit of the leaf field of the link at a position.
abbrev pub leaf_field : ℕ → ℕ
leaf_field position = links_at + link_width * position + tree_width

-- What stands before the trees.
pub record Counts : Type 0 where
  pub trees : ℕ
  pub links : List Link

module _ (s : List ℕ) where
  -- "Each link has a reading tree in 4 bits, a leaf node in 6 and a driving tree in 4." "A tree number not below the tree count is out of range."
  unfoldable pub link : ℕ → List Link → Reader Link
  link trees before = do
    reading ← field s tree_width (within 0 (trees - 1))
    node ← field s leaf_width free
    driving ← field s tree_width (within 0 (trees - 1))
    done (record { reading = reading; node = node; driving = driving })

  -- "A part sheet lists 1 to 16 trees in 5 bits and a link count in 8 bits." The tail after the links is only the zero bits to the byte.
  unfoldable pub counts : Reader Counts
  unfolding link
  counts = do
    trees ← field s tree_count_width (within 1 trees_most)
    count ← field s link_count_width free
    links ← times count (link trees)
    λ c. (record { trees = trees; links = links }, filled s c)
