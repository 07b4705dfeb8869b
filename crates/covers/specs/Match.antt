-- Where a pattern matches the subject tree, which matches are legal, and what a match's pins cost.
use Rattle.std.specs.Prelude.{ℕ, suc, ◌+◌, ◌*◌, ◌≡◌, Bool, true, ◌&&◌, not, List, [], ◌∷◌, ◌++◌, get_or, leb}
use Rattle.std.proofs.Math.Option.{Option, none, some}
use Rattle.std.proofs.Math.ListN.{get_elem?}
use Rattle.sheets_rules.specs.Model.{pin_of, Shape, leaf, inv, nand, size, Pin, bin_load_of, Cell, Library, Pattern, patterns, patterns_from, drawn}
use Rattle.covers.specs.Lists.{select}
use Rattle.covers.specs.Crossing.{redrawn, is_crossing, crossings}

-- One input of a match: the number of the pin that it feeds, its node's number, and the subtree that stands there.
pub record Input : Type 0 where
  pub pin : ℕ
  pub node : ℕ
  pub shape : Shape

-- The inputs of two branches; none if either does not match.
unfoldable pub joined : Option (List Input) → Option (List Input) → Option (List Input)
joined none js = none
joined (some is) none = none
joined (some is) (some js) = some (is ++ js)

-- The inputs, in drawn order, of a drawing laid over the subtree at node n; none if the shapes differ. A drawing's leaf stands on any node.
unfoldable pub laid : Shape → ℕ → Shape → Option (List Input)
unfolding joined size
laid (leaf x) n s = some (record { pin = pin_of x; node = n; shape = s } ∷ [])
laid (inv p) n (leaf x) = none
laid (inv p) n (inv s) = laid p (suc n) s
laid (inv p) n (nand s t) = none
laid (nand p q) n (leaf x) = none
laid (nand p q) n (inv s) = none
laid (nand p q) n (nand s t) = joined (laid p (suc n) s) (laid q (suc n + size s) t)

-- The same for a whole pattern. A bare leaf, which no sound library has, matches nowhere.
unfoldable pub matched : Shape → ℕ → Shape → Option (List Input)
unfolding laid
matched (leaf x) n s = none
matched (inv p) n s = laid (inv p) n s
matched (nand p q) n s = laid (nand p q) n s

-- Which cells may be matched at all: those not held.
unfoldable pub usable : Cell → Bool
usable c = not c.held

-- A match that drives a load is legal if its cell may be matched and the load is at most the cell's highest.
unfoldable pub legal : Cell → ℕ → Bool
unfolding usable
legal c load = usable c && leb load c.highest

-- A match of a pattern: the pattern's number, and the crossing under which it matches.
pub record Match : Type 0 where
  pub number : ℕ
  pub crossing : ℕ
  pub pattern : Pattern
  pub inputs : List Input

-- A legal match at node n, over the subtree s, under a load.
pub record IsMatch (l : Library) (load n : ℕ) (s : Shape) (m : Match) : Type 0 where
  pub numbered : get_elem? (patterns l) m.number ≡ some m.pattern
  pub crossed : is_crossing m.pattern.drawing m.crossing ≡ true
  pub allowed : legal m.pattern.cell load ≡ true
  pub fits : matched (redrawn m.crossing m.pattern.drawing) n s ≡ some m.inputs

-- The match of pattern number k under a crossing, put before others if there is one.
unfoldable pub put_first : ℕ → Pattern → ℕ → Option (List Input) → List Match → List Match
put_first k p x none ms = ms
put_first k p x (some is) ms = record { number = k; crossing = x; pattern = p; inputs = is } ∷ ms

-- The matches at a node of pattern number k under these crossings.
unfoldable pub fitting_under : ℕ → Shape → ℕ → Pattern → List ℕ → List Match
unfolding put_first matched redrawn
fitting_under n s k p [] = []
fitting_under n s k p (x ∷ xs) = put_first k p x (matched (redrawn x p.drawing) n s) (fitting_under n s k p xs)

-- The matches at a node of patterns numbered from k on.
unfoldable pub fitting_from : ℕ → Shape → ℕ → List Pattern → List Match
unfolding fitting_under crossings
fitting_from n s k [] = []
fitting_from n s k (p ∷ ps) = fitting_under n s k p (crossings p.drawing) ++ fitting_from n s (suc k) ps

-- Every match at a node, legal or not, in the order of pattern numbers, and of crossing numbers for one pattern.
unfoldable pub fitting : Library → ℕ → Shape → List Match
unfolding patterns patterns_from drawn fitting_from
fitting l n s = fitting_from n s 0 (patterns l)

-- Every legal match at a node under a load, in the same order.
unfoldable pub matches : Library → ℕ → ℕ → Shape → List Match
unfolding select legal fitting
matches l load n s = select (λ m. legal m.pattern.cell load) (fitting l n s)

-- The pin of a cell with a given number.
unfoldable pub pin_at : Cell → ℕ → Pin
pin_at c k = get_or c.pins k (record { bin = 0; intrinsic = 0; drive = 0 })

-- The load that a pin presents to what drives it: its load bin's.
unfoldable pub pin_load : Library → Pin → ℕ
pin_load l p = bin_load_of l.bins p

-- What a pin adds to its input's arrival when the match drives a load.
unfoldable pub delay : Pin → ℕ → ℕ
delay p load = p.intrinsic + p.drive * load
