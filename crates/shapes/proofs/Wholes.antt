-- Laws about a whole shape: one for each way out of its reader.
use mathlib.Core.Path.{◌≡◌, refl, sym, ap, ◌∙◌}
use mathlib.Core.List.{List}
use mathlib.Core.Bool.{Bool, false, ◌&&◌}
use Prim.Native.Nat.{ℕ, suc, ◌+◌, ◌*◌, ◌≤◌, ◌<◌}
use native.Mathlib.Nat.{zero-add}
use native.Mathlib.Omega.{arith}
use lib.ListN.{length, take, drop, replicate, length-replicate}
use Rattle.std.specs.Prelude.{Result, Ok, Err}
use Rattle.std.proofs.lemmas.List.{get_or-replicate}
use Rattle.fields.proofs.Lists.{take_sets}
use Rattle.bits.specs.declared.Cursor.{Cursor}
use Rattle.bits.specs.Bits.{place_of}
use Rattle.bits.specs.Inside.Promises.{Opens}
use Rattle.bits.proofs.Laws.{cursor_is}
use Rattle.fields.specs.declared.Fault.{Fault}
use Rattle.fields.specs.declared.Fault.TheVariants.{Truncated}
use Rattle.fields.specs.declared.Flaw.{Flaw}
use Rattle.fields.specs.declared.Sheet.{Sheet}
use Rattle.fields.specs.Reading.{Scan, At, Refused, place, Live}
use Rattle.shapes_rules.specs.declared.Rules.{Rules}
use Rattle.shapes_rules.specs.Shape.{Shape, symbols}
use Rattle.shapes_rules.specs.Drawing.{elem, has_all, shape, node_bits}
use Rattle.shapes.specs.declared.Source.{Source}
use Rattle.shapes.specs.declared.Progress.{Progress}
use Rattle.shapes.specs.declared.ShapeRead.{ShapeRead}
use Rattle.shapes.specs.Inside.Promises.{all_marked, outcome, reached, Followed, Room, Laid, NodeEnd, Drawn, ShapeIs}
use Rattle.shapes.proofs.Marks.{whole_marked}
use Rattle.shapes.proofs.Drawn.{run_seen}
use Rattle.shapes_rules.proofs.Shifted.{shift, shape_shift, shape_truncated}

-- The bytes end before the shape's first code.
pub shape_ended : (sheet : Sheet) (rules : Rules) (l : List ℕ) (e : Flaw) → length l ≡ 64 → e ≡ record { fault = Truncated; place = place_of sheet.at } →
    8 * length sheet.bytes.now < place_of sheet.at + 2 → ShapeIs sheet sheet rules l l (Err e)
shape_ended sheet rules l e long q h =
    rw q (record {
      reads = record { same = refl; takes = record { says = shape_truncated sheet.bytes.now rules sheet.at h; near = omega arith } };
      symbols_long = long;
    })

-- ---- how far it is read at the start

pub start_room : (source : Source) (s : List ℕ) (u : ℕ) (l : List ℕ) → Opens source.opening.now s source.bytes → Followed source.rules → length l ≡ 64 → u < 8 →
    Room source (record { at = record { byte = 0; used = u }; nodes = 0; pins = replicate 13 false }) l
unfolding place_of elem
start_room source s u l opens followed long h = record {
  rules_are = followed;
  opened = record { sheet = s; opens = opens };
  long = refl;
  symbols_long = long;
  read = omega arith;
  used = h;
  near = omega (arith, followed.nodes);
  met = λ p x b. get_or-replicate 13 x false false (omega (arith, followed.pins p));
}

-- ---- a shape was read in the bytes from number b on

module _ (sheet : Sheet) (rules : Rules) (b u : ℕ) (few : b ≤ length sheet.bytes.now) (at : 8 * b + u ≡ place_of sheet.at) (followed : Followed rules)
    (l l' : List ℕ) (p' : Progress) (end : Result (Unit {0}) Fault) (long : length l ≡ 64)
    (pins : List Bool) (done : NodeEnd (drop b sheet.bytes.now) rules (record { at = record { byte = 0; used = u }; nodes = 0; pins = pins }) l p' l' end) where
  abbrev next : Cursor
  next = record { byte = b + p'.at.byte; used = p'.at.used }

  abbrev x : Shape × Scan
  x = shape (drop b sheet.bytes.now) rules (At (record { byte = 0; used = u }))

  laid : Laid 0 l l' (reached end p') x.1 (symbols x.0)
  unfolding shape
  laid = done.0.laid (suc rules.nodes) (omega arith)

  whole_is : shape sheet.bytes.now rules (At sheet.at) ≡ (x.0, shift b x.1)
  unfolding place_of
  whole_is = shape_shift sheet.bytes.now b few rules (record { byte = 0; used = u }) sheet.at (omega arith)

  -- How the reader ended, farther on.
  farther : (r : Result (Unit {0}) Fault) → (Live (outcome r p'.at) → p'.at.used < 8) → outcome r next ≡ shift b (outcome r p'.at)
  unfolding place_of
  farther (Ok a) h = ap At (cursor_is (b + p'.at.byte) p'.at.used (8 * b + (8 * p'.at.byte + p'.at.used)) (h tt) (omega arith))
  farther (Err f) h = ap (Refused f) (omega arith)

  ends : outcome end next ≡ (shape sheet.bytes.now rules (At sheet.at)).1
  ends = farther end done.1.used ∙ ap (shift b) laid.scan ∙ sym (ap (λ (y : Shape × Scan). y.1) whole_is)

  -- The place at which it ended.
  there : (r : Result (Unit {0}) Fault) → place (outcome r p'.at) ≡ place_of p'.at
  there (Ok a) = refl
  there (Err f) = refl

  pub end_place : place_of next ≤ place_of sheet.at + node_bits * rules.nodes
  unfolding place_of
  end_place = omega (arith, there end, done.0.went.far)

  pub shape_stops : (e : Flaw) → end ≡ Err e.fault → e.place ≡ place_of next → ShapeIs sheet sheet rules l l' (Err e)
  shape_stops e stop q = record {
    reads = record { same = refl; takes = record { says = sym (rw stop at ends) ∙ ap (Refused e.fault) (sym q); near = omega (arith, end_place) } };
    symbols_long = done.1.symbols_long;
  }

  pub shape_done : end ≡ Ok tt → (w : Bool) → w ≡ (rules.pattern && all_marked (suc rules.most) p'.pins) →
      ShapeIs sheet (record { bytes = sheet.bytes; at = next }) rules l l' (Ok (record { size = p'.nodes; whole = w }))
  shape_done sound w marked =
      let live : Live (outcome end p'.at) = rw sound tt in
      let seen : take p'.nodes l' ≡ symbols x.0 = run_seen 0 l l' (reached end p') x.1 (symbols x.0) live (omega (arith, done.0.went.upto, followed.nodes)) laid in
      record {
        reads = record {
          same = refl;
          takes = record {
            at = sym (rw sound at ends);
            holds = rw whole_is (record {
              symbols_are = laid.symbols live;
              size_is = omega (arith, laid.next live);
              whole_is = marked ∙ whole_marked rules p'.pins (take p'.nodes l') (done.1.met live)
                  ∙ ap (λ (ss : List ℕ). rules.pattern && has_all (suc rules.most) ss) seen;
              few = done.0.went.upto;
            });
            near = end_place;
          };
        };
        symbols_long = done.1.symbols_long;
      }

-- ---- what a whole shape says

-- The first words of an array that had zeros are the shape's symbols.
pub drawn_is : (rules : Rules) (l' : List ℕ) (x : Shape) (read : ShapeRead) → rules.nodes ≤ 64 → Drawn rules (replicate 64 0) l' x read → take read.size l' ≡ symbols x
drawn_is rules l' x read few h =
    rw (h.size_is, h.symbols_are) (rw zero-add at (take_sets (replicate 64 0) 0 (symbols x) (omega (arith, h.size_is, h.few, length-replicate {A = ℕ} 64 0))))
