use native.Mathlib.Omega.{arith}
use Prim.Native.Nat.{ℕ, ◌+◌, ◌<◌, ◌≤◌}
use mathlib.Core.Path.{◌≡◌, refl, sym, ap, ◌∙◌}
use mathlib.Core.List.{List, [], ◌∷◌}
use mathlib.Core.Option.{some}
use borrow.Author.Rules.{rules}
use lib.Seq.{length-take-le}
use Rattle.std.proofs.lemmas.List.{get_or-take}
use lib.ListN.{length, get_or, take, length-take}
use Rattle.sheets_rules.specs.Model.{Shape, Library, Tree}
use Rattle.covers.specs.Cover.{Placed, Cover}
use Rattle.covers.specs.Choice.{choice}
use Rattle.result_sheets.specs.declared.CoverRecord.{CoverRecord}
use Rattle.result_sheets.specs.Public.{appended}
use Rattle.result_sheets.proofs.Laws.{appended_none, appended_more}
use Rattle.filling.proofs.Node.{gate_here}
use Rattle.choosing.specs.declared.Goal.{Goal}
use Rattle.choosing.specs.declared.Inputs.{Inputs}
use Rattle.choosing.specs.Inside.Promises.{no_goal, Chooses}
use Rattle.choosing.proofs.Gate.{limits, ready, chosen_there}
use Rattle.choosing.proofs.Below.{Topmost, placed_to, few_inputs, placed_start, placed_all, Following, following, leaf_appended, gate_top}
use Rattle.choosing.proofs.+choose.Goals as goal
use Rattle.choosing.proofs.+choose.Goals.{After-push, In-loop-next}

-- the match at the top, for whatever was lent at the entry
topmost : (t : ℕ) (c : After-push t) (l : Library) (tree : Tree) (s : Shape) → let a = c.args in let ts = a.tree.now in
    Chooses a.curves.now.most l tree a.rows.now ts.symbols ts.sizes (length a.found.now) a.curves.now.work.now a.goal a.cover.now s →
    (d : Cover) → choice l a.goal.load a.goal.node s a.goal.time ≡ some d → let m = c.choose_match-inputs in
    (top : Topmost a.curves.now.most l tree a.rows.now ts.symbols ts.sizes (length m.new.found) a.curves.now.work.now a.goal.node m.result c.push.new.self.count)
    × (d.placed ≡ record { node = a.goal.node; pattern = m.result.pattern; crossing = m.result.crossing } ∷ top.rest.placed)
topmost t c l tree s all d e =
    let m = c.choose_match-inputs in
    gate_top all (gate_here (ready all.prepared all.driven) c.if-tree-goal-ge-LEAF.false) d e m.result (m.ensures l tree s all.prepared all.driven) (sym m.auto.found) (ap (λ (r : CoverRecord). r.count) c.push.ensures)

own : (t : ℕ) (c : After-push t) → let a = c.args in let ts = a.tree.now in let m = c.choose_match-inputs in
    Topmost a.curves.now.most c.requires.0 c.requires.1.0 a.rows.now ts.symbols ts.sizes (length m.new.found) a.curves.now.work.now a.goal.node m.result c.push.new.self.count
own t c =
    let a = c.args in
    let p = c.requires in
    let d = chosen_there p.0 a.goal.load a.goal.node p.1.1.0 a.goal.time p.1.1.1.driven.some_cover.1 in
    (topmost t c p.0 p.1.0 p.1.1.0 p.1.1.1 d.0 d.1).0

-- the goals that are walked
few : (t : ℕ) (c : After-push t) → c.choose_match-inputs.result.count ≤ 6
few t c = few_inputs (own t c)

abbrev walked : (t : ℕ) → After-push t → List Goal
walked t c = let r = c.choose_match-inputs.result in take r.count r.goals

long : (t : ℕ) (c : After-push t) → length (walked t c) ≡ c.choose_match-inputs.result.count
long t c =
    let r = c.choose_match-inputs.result in
    let room : length r.goals ≡ 6 = search rules in
    length-take-le r.count r.goals (omega (arith, few t c))

-- the next input of any such match
turn : (t : ℕ) (c : In-loop-next t) (l : Library) (tree : Tree) (inputs : Inputs) → let a = c.args in let ts = a.tree.now in let m = c.choose_match-inputs in let i = c.loop-next in
    let goals = take m.result.count m.result.goals in goals ≡ take inputs.count inputs.goals →
    (top : Topmost a.curves.now.most l tree a.rows.now ts.symbols ts.sizes (length m.new.found) a.curves.now.work.now a.goal.node inputs c.push.new.self.count) →
    Following a.curves.now.most l tree a.rows.now ts.symbols ts.sizes (length i.found) a.curves.now.work.now a.goal.node (get_or goals i.next-index no_goal) i.cover (placed_to top i.next-index) (placed_to top (i.next-index + 1))
turn t c l tree inputs e top =
    let i = c.loop-next in
    let inside : i.next-index < inputs.count = omega (arith, c.loop-next-test.true, ap length e, length-take inputs.count inputs.goals) in
    following top inside (ap (λ (r : CoverRecord). r.count) (i.invariant l tree inputs e top)) (sym i.auto.found)
    (ap (λ (gs : List Goal). get_or gs i.next-index no_goal) e ∙ get_or-take inputs.count inputs.goals i.next-index no_goal inside)

pub offset_bounds-tree-goal : goal.offset_bounds-tree-goal
offset_bounds-tree-goal t c = omega (arith, (limits c.requires.1.1.1.prepared c.requires.1.1.1.driven).node_small)

pub bounds-tree-goal : goal.bounds-tree-goal
bounds-tree-goal t c = (limits c.requires.1.1.1.prepared c.requires.1.1.1.driven).node_small

pub returns-then-tree-goal-ge-LEAF : goal.returns-then-tree-goal-ge-LEAF
returns-then-tree-goal-ge-LEAF t c = λ l tree s all d e. leaf_appended all c.if-tree-goal-ge-LEAF.true d e

pub choose_match-inputs-requires : goal.choose_match-inputs-requires
choose_match-inputs-requires t c =
    let p = c.requires in
    let all = p.1.1.1 in
    (p.0, (p.1.0, (p.1.1.0, (all.prepared, all.driven, c.if-tree-goal-ge-LEAF.false))))

pub overflow_cast-goal : goal.overflow_cast-goal
overflow_cast-goal t c = omega (arith, (limits c.requires.1.1.1.prepared c.requires.1.1.1.driven).node_small)

pub push-requires : goal.push-requires
push-requires t c =
    let all = c.requires.1.1.1 in
    omega (arith, all.fits, gate_here (ready all.prepared all.driven) c.if-tree-goal-ge-LEAF.false)

pub shared_ref_as_front-next-items : goal.shared_ref_as_front-next-items
shared_ref_as_front-next-items t c = few t (goal.at.shared_ref_as_front-next-items t c).After-push

pub loop-next-init : goal.loop-next-init
loop-next-init t c = λ l tree inputs e top. appended_none c.push.new.self ∙ ap (appended c.push.new.self) (sym (placed_start top))

pub choose-requires : goal.choose-requires
choose-requires t c =
    let p = c.requires in
    let f = turn t (goal.at.choose-requires t c).In-loop-next p.0 p.1.0 c.choose_match-inputs.result refl (own t (goal.at.choose-requires t c).After-push) in
    (omega (arith, f.smaller), (p.0, (p.1.0, (f.shape, f.chooses))))

pub loop-next-preserved : goal.loop-next-preserved
loop-next-preserved t c = λ l tree inputs e top.
    let i = c.loop-next in
    let begun = c.push.new.self in
    let f = turn t (goal.at.loop-next-preserved t c).In-loop-next l tree inputs e top in
    c.choose.ensures l tree f.shape f.chooses f.chosen f.choice_is ∙ ap (λ (x : CoverRecord). appended x f.chosen.placed) (i.invariant l tree inputs e top)
    ∙ appended_more begun (placed_to top i.next-index) f.chosen.placed ∙ ap (appended begun) (sym f.more)

pub returns : goal.returns
returns t c = λ l tree s all d e.
    let a = c.args in
    let k = c.loop-next.next-index in
    let begun = (goal.at.returns t c).After-push in
    let q = topmost t begun l tree s all d e in
    let r = c.choose_match-inputs.result in
    let x : Placed = record { node = a.goal.node; pattern = r.pattern; crossing = r.crossing } in
    c.loop-next.invariant l tree r refl q.0 ∙ ap (λ (g : CoverRecord). appended g (placed_to q.0 k)) c.push.ensures ∙ appended_more a.cover.now (x ∷ []) (placed_to q.0 k)
    ∙ ap (λ (xs : List Placed). appended a.cover.now (x ∷ xs)) (placed_all q.0 k (omega (arith, long t begun, c.loop-next-test.false))) ∙ ap (appended a.cover.now) (sym q.1)
