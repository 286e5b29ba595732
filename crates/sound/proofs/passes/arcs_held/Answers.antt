-- `sound::passes::arcs_held` meets its contract. The loop keeps that every row gone through passes, and how many of them are arcs, and hold a
-- face; laws of HeldRuns and Rows. Assumes nothing.
use Prim.Native.Nat.{◌+◌}
use native.Mathlib.Omega.{arith}
use mathlib.Core.Path.{sym, ◌∙◌}
use mathlib.Core.List.{[]}
use lib.ListN.{get_or}
use Rattle.rules.specs.Table.{used}
use Rattle.rules.specs.Lent.{mesh_in}
use Rattle.rules.specs.Mesh.{mesh}
use Rattle.proved.specs.Demand.{holds_some}
use Rattle.tables.proofs.Scans.{counted_none, counted-all}
use Rattle.names.proofs.Loops.{none_yet, one_more}
use Rattle.sound.proofs.Rows.{arcs-fail, arcs-other, arcs-pass, one-second, one_up_lem, counted-on}
use Rattle.sound.proofs.HeldRuns.{told-run}
use Rattle.sound.specs.Tests.{arc_test}
use borrow.Author.Rules.{rules}
use Rattle.sound.proofs.passes.arcs_held.Goals as goal

pub loop-i-init : goal.loop-i-init
loop-i-init c = (search rules, (search rules, (none_yet (λ j. arc_test c.args.mesh.arcs.now (get_or c.args.mesh.arcs.now j [])), (search rules, search rules))))

pub loop-i-preserved-then-holds_some : goal.loop-i-preserved-then-holds_some
loop-i-preserved-then-holds_some c =
    let m = mesh_in c.args.mesh in
    let e = sym c.holds_some.ensures ∙ c.if-holds_some.true in
    let s = c.skip_held-end in
    let i = c.loop-i.invariant in
    (s.ensures.1.0, (omega (arith, i.1.0, s.ensures.0), told-run m.arcs c.loop-i.held c.loop-i.loose c.loop-i.i s.result e s.ensures i.1.1))

pub returns-then-not-arc_row : goal.returns-then-not-arc_row
returns-then-not-arc_row c =
    let a = c.args.mesh.arcs.now in
    λ v p e f k q. arcs-fail (mesh v p a e f k) c.loop-i.i (omega arith) (sym c.arc_row.ensures ∙ c.if-not-arc_row.true)

pub loop-i-preserved : goal.loop-i-preserved
loop-i-preserved c =
    let m = mesh_in c.args.mesh in
    let h = c.loop-i-test.true in
    let i = c.loop-i.invariant in
    let r = get_or m.arcs c.loop-i.i [] in
    let e = sym c.holds_some.ensures ∙ c.if-holds_some.false in
    let up = one-second c.loop-i.held c.loop-i.loose c.plus-loose.result (used r) c.plus-loose.ensures in
    let on = one_more (λ j. arc_test m.arcs (get_or m.arcs j [])) c.loop-i.i i.1.1.0 (sym c.arc_row.ensures ∙ c.if-not-arc_row.false) in
    let arcs-on = counted-on used m.arcs (c.loop-i.held + c.loop-i.loose) c.loop-i.i h i.1.1.1.0 (c.loop-i.held + c.plus-loose.result) up in
    let held_on = counted_none holds_some m.arcs [] c.loop-i.held c.loop-i.i h e i.1.1.1.1 in
    (search rules, (one_up_lem (used r) (c.loop-i.held + c.loop-i.loose) c.loop-i.i (c.loop-i.held + c.plus-loose.result) i.1.0 up, (on, (arcs-on, held_on))))

pub returns-then-held-loose : goal.returns-then-held-loose
returns-then-held-loose c =
    let a = c.args.mesh.arcs.now in
    λ v p e f k q. (arcs-other (mesh v p a e f k) (c.loop-i.held + c.loop-i.loose) c.args.named (counted-all used a [] (c.loop-i.held + c.loop-i.loose) c.loop-i.i c.loop-i-test.false c.loop-i.invariant.1.1.1.0) q c.loop-i.i (omega arith) (omega arith) c.loop-i.invariant.1.1.0 c.if-held-loose.true)

pub returns : goal.returns
returns c =
    let a = c.args.mesh.arcs.now in
    let n = counted-all holds_some a [] c.loop-i.held c.loop-i.i c.loop-i-test.false c.loop-i.invariant.1.1.1.1 in
    λ v p e f k q. (arcs-pass (mesh v p a e f k) (c.loop-i.held + c.loop-i.loose) c.args.named (counted-all used a [] (c.loop-i.held + c.loop-i.loose) c.loop-i.i c.loop-i-test.false c.loop-i.invariant.1.1.1.0) q c.loop-i.i (omega arith) (omega arith) c.loop-i.invariant.1.1.0 c.if-held-loose.false, n)
