-- How far a scan of a sheet can go: the greatest number of bits of each part of a sheet. All of a sheet is within reach, so no place is ever
-- near 2^32.
use Rattle.std.specs.Prelude.{ℕ, ◌+◌, ◌*◌}
use Rattle.shapes_rules.specs.Drawing.{node_bits}
use Rattle.sheets_rules.specs.Model.{pins_most}

abbrev pub bin_bits : ℕ
bin_bits = 8

-- Hold mark, area, highest load and pin count.
abbrev pub head_bits : ℕ
head_bits = 1 + 16 + 8 + 3

-- Bin number, intrinsic delay and drive.
abbrev pub pin_bits : ℕ
pin_bits = 2 + 16 + 8

abbrev pub pattern_bits : ℕ
pattern_bits = node_bits * 16

abbrev pub count_bits : ℕ
count_bits = 3

abbrev pub drawings_bits : ℕ
drawings_bits = count_bits + pattern_bits * 7

abbrev pub cell_bits : ℕ
cell_bits = head_bits + pin_bits * pins_most + drawings_bits

-- A bin count, the bins, a cell count and the cells.
abbrev pub library_bits : ℕ
library_bits = 3 + bin_bits * 4 + 7 + cell_bits * 64

-- Root load, required time and the nodes.
abbrev pub tree_bits : ℕ
tree_bits = 8 + 24 + node_bits * 64
