-- What the work area holds once every curve is in it.
use Rattle.std.specs.Prelude.{ℕ, ◌<◌, ◌≡◌, List}
use Rattle.sheets_rules.specs.Model.{Library, Tree}
use Rattle.covers.specs.Enumeration.{covers}
use Rattle.covers.specs.Inside.Curve.{Filled, curve, gates}
use Rattle.curves.specs.Inside.Words.{table_of, Small}

-- The curves of every gate below the root under every load bin, and the root's under the root load in the place of bin 0.
pub record CurvesStored (most : ℕ) (l : Library) (t : Tree) (work : List ℕ) : Type 0 where
  pub below : Filled l t.shape (table_of most work) 1
  pub root : 0 < gates t.shape → table_of most work 0 0 ≡ curve (covers l t.load 0 t.shape)
  pub small : Small work
