-- `checks::split::held_by_other` meets its contract. The loop keeps that no pair passed by is (held l) by another face; laws of Below. Assumes nothing.
use native.Mathlib.Omega.{arith}
use mathlib.Core.Path.{◌≡◌, refl, sym, ◌∙◌}
use lib.ListN.{length}
use Rattle.rules.specs.Table.{some_below}
use Rattle.rules.specs.Mesh.{mesh, list_of}
use Rattle.rules.specs.Edit.{held_by_other}
use Rattle.pairs.proofs.Below.{some_more, some-here}
use Rattle.checks.proofs.Pairs.{taken}
use Rattle.pairs.specs.Pairs.{arcs_of}
use Rattle.pairs.proofs.Listed.{arcs-held}
use Rattle.checks.proofs.split.held_by_other.Goals as goal
use Rattle.checks.proofs.split.held_by_other.Goals.{At-loop-i}

pub loop-i-init : goal.loop-i-init
unfolding some_below
loop-i-init c = (λ vs ps es fs ks per e. refl)

-- the list of arcs, at the loop
held : (l : At-loop-i) → let a = l.args in list_of l.perimeter_arcs-xs.result ≡ arcs_of a.arcs.now (list_of a.per)
held l =
    let a = l.args in
    arcs-held a.arcs.now (list_of a.per) l.perimeter_arcs-xs.result l.known_few.ensures l.perimeter_arcs-xs.ensures

pub returns-then-other_holds : goal.returns-then-other_holds
unfolding held_by_other
returns-then-other_holds c =
    let a = c.args in
    λ vs ps es fs ks. sym (some-here (taken (mesh vs ps a.arcs.now es fs ks) a.f (list_of a.per)) (length (list_of a.per)) c.loop-i.i (omega (arith, c.size-i-end.ensures)) (sym (c.other_holds.ensures vs ps es fs ks (list_of a.per) (held c.before.before.before)) ∙ c.if-other_holds.true))

pub loop-i-preserved : goal.loop-i-preserved
loop-i-preserved c =
    let a = c.args in
    (λ vs ps es fs ks per e. some_more (taken (mesh vs ps a.arcs.now es fs ks) a.f per) c.loop-i.i (c.loop-i.invariant vs ps es fs ks per e) (sym (c.other_holds.ensures vs ps es fs ks per e) ∙ c.if-other_holds.false))

pub returns : goal.returns
unfolding held_by_other
returns c =
    let a = c.args in
    let all : c.loop-i.i ≡ length (list_of a.per) = omega (arith, c.size-i-end.ensures) in
    λ vs ps es fs ks. sym (rw all at (c.loop-i.invariant vs ps es fs ks (list_of a.per) (held c.before)))
