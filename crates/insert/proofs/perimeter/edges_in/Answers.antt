-- The edges of the pairs passed by: laws of Apart, Told and Loops. The perimeter is told by its array.
use Prim.Native.Nat.{ℕ}
use native.Mathlib.Omega.{arith}
use mathlib.Core.Path.{◌≡◌, refl, ap, sym, subst, ◌∙◌}
use mathlib.Core.List.{List}
use lib.ListN.{length, take, replicate, length-set}
use Rattle.rules.specs.Table.{up_to}
use Rattle.rules.specs.Mesh.{Mesh, list_of}
use Rattle.rules.specs.Lent.{mesh_of}
use Rattle.rules.specs.Insert.{edges_in}
use Rattle.rules.proofs.Lent.{same-itself, same-then}
use Rattle.lists.proofs.Laws.{list-taken, next-on}
use Rattle.insert.specs.Perimeter.{edge_in}
use Rattle.insert.proofs.Apart.{Telling, tells_first, tells_more, is-pair}
use Rattle.insert.proofs.Told.{Told, told_none, told_more, told-all}
use Rattle.insert.proofs.Loops.{edges_more}
use Rattle.insert.proofs.perimeter.edges_in.Goals as goal

pub loop-i-init : goal.loop-i-init
unfolding up_to
loop-i-init c =
    let a = c.args in
    let t = a.mesh.now.arcs.now in
    let n = c.size-n in
    let tells = tells_first t (list_of a.per) a.xs c.requires.xs_value in
    let same = list-taken a.per n.result n.ensures in
    (same-itself _, (refl, (subst (λ (l : List ℕ). Telling t l (list_of a.xs) 0) (sym same) tells, (c.requires.used_before, (refl, told_none t (take n.result a.per.at) (replicate 64 0))))))

pub met_before-met-requires : goal.met_before-met-requires
met_before-met-requires c = (omega (arith, c.size-n.ensures, c.known_few.ensures), omega arith)

pub offset_bounds-ends-place_after : goal.offset_bounds-ends-place_after
offset_bounds-ends-place_after c = let on = next-on c.size-n.result c.loop-i.i c.place_after.result c.loop-i-test.true c.place_after.ensures in omega (arith, on, c.size-n.ensures, c.known_few.ensures)

pub bounds-ends-place_after : goal.bounds-ends-place_after
bounds-ends-place_after c = let on = next-on c.size-n.result c.loop-i.i c.place_after.result c.loop-i-test.true c.place_after.ensures in omega (arith, on, c.size-n.ensures, c.known_few.ensures)

pub offset_bounds-ends-i : goal.offset_bounds-ends-i
offset_bounds-ends-i c = omega (arith, c.size-n.ensures, c.known_few.ensures, c.loop-i-test.true)

pub bounds-ends-i : goal.bounds-ends-i
bounds-ends-i c = omega (arith, c.size-n.ensures, c.known_few.ensures, c.loop-i-test.true)

pub edge_in-done-requires : goal.edge_in-done-requires
edge_in-done-requires c = c.loop-i.invariant.1.1.1.0

pub bounds-at-i : goal.bounds-at-i
bounds-at-i c = omega (arith, c.loop-i.invariant.1.1.1.1.0, c.known_few.ensures, c.size-n.ensures, c.loop-i-test.true)

pub loop-i-preserved : goal.loop-i-preserved
loop-i-preserved c =
    let l = c.loop-i in
    let a = c.args in
    let n = c.size-n in
    let few = c.known_few.ensures in
    let on = c.loop-i-test.true in
    let j = c.place_after in
    let per : List ℕ = take n.result a.per.at in
    let all : length per ≡ n.result = ap length (list-taken a.per n.result n.ensures) ∙ sym n.ensures in
    let v = l.invariant in
    let t = v.1.1 in
    let g = c.edge_in-done in
    let pair = is-pair a.per.at n.result l.i j.result _ _ _ all on j.ensures (next-on n.result l.i j.result on j.ensures) refl refl c.met_before-met.ensures in
    let h = g.ensures.edge per l.i pair (record { on = omega (arith, all, on); tells = λ q. c.item-found.ensures ∙ t.0 l.i q; arcs-used = t.1.0.0; edges-used = t.1.0.1 }) in
    let m = mesh_of l.mesh in
    let o = mesh_of g.new.mesh in
    let tells = tells_more m o per (list_of a.xs) l.i h.0 t.0 in
    let told = told_more m o per l.at l.i g.result.arc (omega (arith, t.1.1.0, few, n.ensures, on)) h.0 h.1.1 t.1.1.1 in
    (same-then v.0 g.ensures.same, (edges_more (mesh_of a.mesh.now) per l.i v.1.0 h.0, (tells, (h.1.0, (length-set l.at l.i g.result.arc ∙ t.1.1.0, told)))))

pub returns : goal.returns
unfolding edges_in list_of
returns c =
    let a = c.args in
    let l = c.loop-i in
    let n = c.size-n in
    let m : Mesh = mesh_of a.mesh.now in
    let v = l.invariant in
    let t = v.1.1.1.1 in
    let same = list-taken a.per n.result n.ensures in
    let all : l.i ≡ length (list_of a.per) = omega (arith, n.ensures) in
    let end : l.i ≡ n.result = omega arith in
    let told = subst (λ (per : List ℕ). Told l.mesh.arcs.now per l.at l.i) same t.1 in
    record {
      edges = v.1.0 ∙ ap (λ (per : List ℕ). up_to (edge_in per) l.i m) same ∙ ap (λ (k : ℕ). up_to (edge_in (list_of a.per)) k m) all;
      told = told-all l.mesh.arcs.now (list_of a.per) l.at n.result n.ensures (omega (arith, t.0, c.known_few.ensures)) (rw end at told);
      same = v.0;
    }
