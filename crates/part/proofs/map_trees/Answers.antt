use native.Mathlib.Omega.{arith}
use Prim.Native.Nat.{ℕ, ◌<◌}
use mathlib.Core.Path.{◌≡◌, sym, ap, subst, ◌∙◌}
use mathlib.Core.List.{[], map}
use lib.ListN.{length, take, length-set}
use Rattle.fields.specs.Answer.{Bounded}
use Rattle.sheets_rules.specs.declared.TreeRecord.{TreeRecord}
use Rattle.result_sheets.specs.Public.{cover_of}
use Rattle.part.specs.Inside.Promises.{Zeros}
use Rattle.part.proofs.Laws.{cleared_zeros, zeros_kept}
use Rattle.part.proofs.Trees.{few_more, next, linked, going_more, going_stops, going_all}
use Rattle.part.proofs.map_trees.Goals as goal

-- what the code has where an array ends
abbrev blank : TreeRecord
blank = record { load = 0; required = 0; count = 0; symbols = []; sizes = [] }

pub map_linked-requires-clause-zeros : goal.map_linked-requires-clause-zeros
map_linked-requires-clause-zeros c =
    let a = c.args in
    let room = c.requires.room in
    subst (Zeros a.most) (sym c.loop-k.invariant.same) (cleared_zeros a.most a.work.now c.clear.new.work room.0 (omega (arith, c.clear.auto.work, room.1)) c.clear.ensures)

pub map_linked-requires-clause-sheets : goal.map_linked-requires-clause-sheets
map_linked-requires-clause-sheets c =
    let (l, (p, read, stored)) = c.requires.stored in
    let (t, more, split, sound, is) = next stored (omega (arith, stored.count_is)) (c.loop-k.invariant.going l p read stored) blank in
    (l, (t, record { read = read; tree_sound = sound; tree_is = is }))

pub returns-in-Err-clause-work_after : goal.returns-in-Err-clause-work_after
returns-in-Err-clause-work_after c =
    let a = c.args in
    let room = c.requires.room in
    zeros_kept a.most (cleared_zeros a.most a.work.now c.clear.new.work room.0 (omega (arith, c.clear.auto.work, room.1)) c.clear.ensures) c.loop-k.invariant.same c.map_linked.ensures.work_after ∙ c.clear.ensures

pub returns-in-Err-clause-maps_trees : goal.returns-in-Err-clause-maps_trees
unfolding Bounded
returns-in-Err-clause-maps_trees c l p read stored =
    let i = c.loop-k in
    let h = i.invariant.going l p read stored in
    let here : i.k < length p.trees = omega (arith, stored.count_is) in
    let m = linked stored here h blank read c.in-Err.ensures.maps_linked (omega arith) in
    (going_stops stored here h blank m, (omega (arith, i.invariant.room), m.fits.1, m.fits.2, m.fits.3))

pub loop-k-preserved : goal.loop-k-preserved
loop-k-preserved c =
    let a = c.args in
    let i = c.loop-k in
    let room = c.requires.room in
    let (l, (p, read, stored)) = c.requires.stored in record {
      room = i.invariant.room;
      same = zeros_kept a.most (cleared_zeros a.most a.work.now c.clear.new.work room.0 (omega (arith, c.clear.auto.work, room.1)) c.clear.ensures) i.invariant.same c.map_linked.ensures.work_after;
      long = length-set i.covers i.k c.in-Ok.cover ∙ i.invariant.long;
      few = few_more i.covers i.k c.in-Ok.cover i.invariant.few
          (linked stored (omega (arith, stored.count_is)) (i.invariant.going l p read stored) blank read c.in-Ok.ensures.maps_linked (omega arith)).few;
      times = length-set i.arrivals i.k c.in-Ok.cover.arrival ∙ i.invariant.times;
      going = λ l p read stored.
          let h = i.invariant.going l p read stored in
          let here : i.k < length p.trees = omega (arith, stored.count_is) in
          going_more stored here h blank (linked stored here h blank read c.in-Ok.ensures.maps_linked (omega arith)) (omega (arith, i.invariant.long, i.invariant.room));
    }

pub returns-clause-maps_trees : goal.returns-clause-maps_trees
returns-clause-maps_trees c l p read stored =
    let i = c.loop-k in
    let h = i.invariant.going l p read stored in
    let done : i.k ≡ c.args.part.now.count = omega arith in
    (h.cs, going_all (done ∙ stored.count_is) h, record { many = h.mapped ∙ done; covers_are = ap (λ (n : ℕ). map cover_of (take n i.covers)) (sym done) ∙ h.covers_are; few = i.invariant.few })
