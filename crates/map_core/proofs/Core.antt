-- From what the core starts from to the curves, and what it answers where a node is overfull.
use Prim.Native.Nat.{ℕ, ◌≤◌}
use mathlib.Core.Path.{◌≡◌, refl, sym, ap, ◌∙◌}
use mathlib.Core.List.{List}
use mathlib.Core.Option.{Option, some}
use native.Mathlib.Omega.{arith}
use lib.ListN.{length, get_or, replicate, length-replicate}
use Rattle.std.specs.Prelude.{Result, Ok, Err, MatchResult, IsErrAnd}
use Rattle.std.proofs.lemmas.Result.{err_from_is_err_and}
use Rattle.fields.proofs.Lists.{zeros_at}
use Rattle.sheets_rules.specs.declared.LibraryRecord.{LibraryRecord}
use Rattle.sheets_rules.specs.declared.Refusal.{Refusal}
use Rattle.sheets_rules.specs.declared.TreeRecord.{TreeRecord}
use Rattle.sheets_rules.specs.Model.{Library, Tree, patterns}
use Rattle.sheets_rules.specs.Inside.Layout.{library_laid}
use Rattle.covers.specs.Answer.{answered, mapped, nonempty, listed}
use Rattle.covers.specs.Capacity.{work_words}
use Rattle.covers.specs.Choice.{choice}
use Rattle.covers.specs.Tradeoff.{tradeoffs, overfull_node}
use Rattle.covers.specs.Inside.Allowed.{Allowed}
use Rattle.overlay.specs.Inside.Promises.{Decoded, SheetsStored}
use Rattle.overlay.proofs.Sheets.{decoded_of}
use Rattle.filling.specs.Inside.Promises.{FillStart, FillingIs}
use Rattle.map_core.specs.Inside.Found.{overfull_at}
use Rattle.map_core.specs.Inside.Promises.{rows_of, Started, Curved, FilledIs, MappedIs, ListedIs}

-- What it starts from, where the whole library and the whole tree are stored.
pub started_by : {most : ℕ} {l : Library} {t : Tree} {library : LibraryRecord} {tree : TreeRecord} {work : List ℕ} → SheetsStored l t library tree → Allowed most → work ≡ replicate (work_words most) 0 → Started most l t library tree work
unfolding library_laid
started_by g h zeros = record {
  decoded = decoded_of g;
  bins_are = ap (λ (r : LibraryRecord). r.bins) g.read.library_is;
  total_is = ap (λ (r : LibraryRecord). r.total) g.read.library_is;
  tree_is = g.tree_is;
  some_most = h.some;
  bounded = h.bounded;
  zeros = zeros;
}

-- The rows that there are.
pub few_rows : {l : Library} {t : Tree} {rows ss zs : List ℕ} {total : ℕ} → Decoded l t rows ss zs → total ≡ length (patterns l) → total ≤ 128
few_rows d e = omega (arith, e, d.library.few_patterns)

module _ {most : ℕ} {l : Library} {t : Tree} {library : LibraryRecord} {tree : TreeRecord} {work : List ℕ} (start : Started most l t library tree work) where
  pub work_long : length work ≡ work_words most
  work_long = ap length start.zeros ∙ length-replicate {A = ℕ} (work_words most) 0

  -- What the curves are filled from, and the curves.
  pub fill_start : FillStart l t (rows_of library) library.bins tree most work
  fill_start = record {
    decoded = start.decoded;
    bins_are = start.bins_are;
    tree_is = start.tree_is;
    work_length = work_long;
    zero = λ k. ap (λ (ws : List ℕ). get_or ws k 0) start.zeros ∙ zeros_at (work_words most) k;
    some_most = start.some_most;
    bounded = start.bounded;
  }

  pub curved : (work' : List ℕ) → length work' ≡ length work → FillingIs most l t work' (Ok tt) → Curved most l t library tree work'
  curved work' e w = record {
    total_is = start.total_is;
    tree_is = start.tree_is;
    prepared = record {
      decoded = start.decoded;
      room_is = refl;
      area = record { bounded = start.bounded; room = omega (arith, e, work_long); small = w.1.small };
      curves = w.1;
    };
    some_most = start.some_most;
    not_overfull = w.0;
  }

  -- The overfull node that was named becomes a refusal.
  pub filled : (work' : List ℕ) → length work' ≡ length work → (r : Result (Unit {0}) ℕ) → FillingIs most l t work' r → (m : Result (Unit {0}) Refusal) {Becomes : ℕ → Refusal → Type 0} →
      MatchResult r (λ u. m ≡ Ok u) (λ n. IsErrAnd m (Becomes n)) → ((n : ℕ) (q : Refusal) → Becomes n q → q ≡ overfull_at n) → FilledIs most l t library tree work' m
  filled work' e (Ok tt) w m is become = rw is (curved work' e w)
  filled work' e (Err n) w m is become = let (q, said, h) = err_from_is_err_and m is in rw said (n, become n q h, w)

-- ---- an overfull node

pub map_overfull : (most : ℕ) (l : Library) (t : Tree) (q : Refusal) (n : ℕ) → q ≡ overfull_at n → overfull_node most l t ≡ some n → MappedIs most l t (Err q)
unfolding mapped answered
map_overfull most l t q n is e = rw is (record { answer_is = sym (ap (λ (o : Option ℕ). answered o (choice l t.load 0 t.shape t.required)) e); few = tt })

pub list_overfull : (most : ℕ) (l : Library) (t : Tree) (work : List ℕ) (q : Refusal) (n : ℕ) → q ≡ overfull_at n → overfull_node most l t ≡ some n → ListedIs most l t work (Err q)
unfolding listed answered
list_overfull most l t work q n is e = rw is (record { answer_is = sym (ap (λ (o : Option ℕ). answered o (nonempty (tradeoffs l t.load 0 t.shape))) e); few = tt; small = tt })
