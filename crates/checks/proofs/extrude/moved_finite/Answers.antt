-- `checks::extrude::moved_finite` meets its contract. The loop keeps that each vertex passed by is finite once moved; laws of Scan. Assumes nothing.
use native.Mathlib.Omega.{arith}
use mathlib.Core.Path.{◌≡◌, sym, ◌∙◌}
use lib.ListN.{length}
use Rattle.rules.specs.Mesh.{mesh, list_of}
use borrow.Author.Count.{below_none, below_more}
use Rattle.rules.specs.Point.{finite_position}
use Rattle.rules.specs.Extrude.{moved_position, moved_finite}
use Rattle.rules.proofs.Scan.{every-passes, one-fails}
use Rattle.checks.proofs.extrude.moved_finite.Goals as goal

pub loop-i-init : goal.loop-i-init
loop-i-init c = below_none _

pub returns-then-not-one_finite : goal.returns-then-not-one_finite
unfolding moved_finite
returns-then-not-one_finite c =
    let a = c.args in
    λ vs ar es fs ks. sym (one-fails (λ v. finite_position (moved_position (mesh vs a.positions.now ar es fs ks) a.mv v)) (list_of a.list) 0 c.loop-i.i (omega (arith, c.size-i-end.ensures)) (rw c.item.ensures at (sym (c.one_finite.ensures vs ar es fs ks) ∙ c.if-not-one_finite.true)))

pub loop-i-preserved : goal.loop-i-preserved
loop-i-preserved c =
    (below_more _ _ c.loop-i.invariant (λ vs ar es fs ks. rw c.item.ensures at (sym (c.one_finite.ensures vs ar es fs ks) ∙ c.if-not-one_finite.false)))

pub returns : goal.returns
unfolding moved_finite
returns c =
    let a = c.args in
    let all : c.loop-i.i ≡ length (list_of a.list) = omega (arith, c.size-i-end.ensures) in
    λ vs ar es fs ks. sym (every-passes (λ v. finite_position (moved_position (mesh vs a.positions.now ar es fs ks) a.mv v)) (list_of a.list) 0 (λ k q. c.loop-i.invariant k (omega arith) vs ar es fs ks))
