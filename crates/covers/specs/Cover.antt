-- Covers, their area and arrival, and the relation "is a legal cover" of a node under a load.
use Rattle.std.specs.Prelude.{ℕ, ◌+◌, ◌*◌, max, ◌≡◌, List, [], ◌∷◌, ◌++◌}
use Rattle.sheets_rules.specs.Model.{Leaf, arrival_of, Shape, leaf, Pin, Cell, Library}
use Rattle.covers.specs.Match.{Input, Match, IsMatch, pin_at, pin_load, delay}

-- What a cover costs: its area, and the arrival at its root.
pub record Point : Type 0 where
  pub area : ℕ
  pub arrival : ℕ

-- One listed match: its node, its pattern's number and its crossing number.
pub record Placed : Type 0 where
  pub node : ℕ
  pub pattern : ℕ
  pub crossing : ℕ

-- A cover: its point, and its matches in ascending order of nodes.
pub record Cover : Type 0 where
  pub point : Point
  pub placed : List Placed

-- When a leaf arrives: at its stated arrival, later by its drive for each unit of the load that it drives.
unfoldable pub leaf_arrival : Leaf → ℕ → ℕ
leaf_arrival x load = arrival_of x + x.drive * load

-- Side by side: areas add up, and the later arrival counts.
unfoldable pub beside : Point → Point → Point
beside p q = record { area = p.area + q.area; arrival = max p.arrival q.arrival }

-- Later by a delay.
unfoldable pub late : ℕ → Point → Point
late d p = record { area = p.area; arrival = p.arrival + d }

-- Larger by a cell's area.
unfoldable pub raised : ℕ → Point → Point
raised a p = record { area = a + p.area; arrival = p.arrival }

-- The point of a leaf.
unfoldable pub leaf_point : Leaf → ℕ → Point
unfolding leaf_arrival
leaf_point x load = record { area = 0; arrival = leaf_arrival x load }

-- The cover of a leaf: no match at all.
unfoldable pub leaf_cover : Leaf → ℕ → Cover
unfolding leaf_point
leaf_cover x load = record { point = leaf_point x load; placed = [] }

-- No input covered yet.
unfoldable pub nothing : Cover
nothing = record { point = record { area = 0; arrival = 0 }; placed = [] }

-- A cover of one input together with covers of those drawn after it.
unfoldable pub together : Cover → Cover → Cover
unfolding beside
together c d = record { point = beside c.point d.point; placed = c.placed ++ d.placed }

-- An input's cover as its match sees it: later by the delay of the pin.
unfoldable pub delayed : ℕ → Cover → Cover
unfolding late
delayed d c = record { point = late d c.point; placed = c.placed }

-- A match at node n on top of the covers of its inputs.
unfoldable pub topped : ℕ → Match → Cover → Cover
unfolding raised
topped n m c = record { point = raised m.pattern.cell.area c.point; placed = record { node = n; pattern = m.number; crossing = m.crossing } ∷ c.placed }

-- The pin that an input feeds.
unfoldable pub feeds : Cell → Input → Pin
unfolding pin_at
feeds c i = pin_at c i.pin

-- The delay of that pin in a match that drives a load.
unfoldable pub input_delay : Cell → ℕ → Input → ℕ
unfolding feeds delay
input_delay c load i = delay (feeds c i) load

-- "No arrival now exceeds 9,290,305", and no area 4,128,705, where library and tree are sound.
abbrev pub latest_arrival : ℕ
latest_arrival = 9_290_305

abbrev pub largest_area : ℕ
largest_area = 4_128_705

mutual
  -- A legal cover of the node n, over the subtree s, under a load.
  pub data IsCover (l : Library) : ℕ → ℕ → Shape → Cover → Type 0 where
    bare : {load n : ℕ} {x : Leaf} {c : Cover} →
        c ≡ leaf_cover x load →
        IsCover l load n (leaf x) c
    matching : {load n : ℕ} {s : Shape} {c d : Cover} (m : Match) →
        IsMatch l load n s m →
        AreCovers l m.pattern.cell load m.inputs d →
        c ≡ topped n m d →
        IsCover l load n s c

  -- A legal cover of each input of a match that drives a load, each under the load of its pin, taken together.
  pub data AreCovers (l : Library) : Cell → ℕ → List Input → Cover → Type 0 where
    done : {cell : Cell} {load : ℕ} {c : Cover} →
        c ≡ nothing →
        AreCovers l cell load [] c
    more : {cell : Cell} {load : ℕ} {i : Input} {is : List Input} {c d e : Cover} →
        IsCover l (pin_load l (feeds cell i)) i.node i.shape d →
        AreCovers l cell load is e →
        c ≡ together (delayed (input_delay cell load i) d) e →
        AreCovers l cell load (i ∷ is) c
