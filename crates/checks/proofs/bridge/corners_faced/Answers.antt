-- `checks::bridge::corners_faced` meets its contract. The loop keeps that no pair passed by has a face; laws of Below and Pairs. Assumes nothing.
use borrow.Author.Rules.{rules}
use native.Mathlib.Omega.{arith}
use mathlib.Core.Path.{◌≡◌, refl, sym, ◌∙◌}
use Rattle.rules.specs.Table.{some_below}
use Rattle.rules.specs.Mesh.{mesh}
use Rattle.rules.specs.Insert.{has_face}
use Rattle.pairs.proofs.Below.{some_more, some-here}
use Rattle.checks.proofs.bridge.corners_faced.Goals as goal

pub loop-i-init : goal.loop-i-init
unfolding some_below
loop-i-init c = (λ vs ps es fs ks four e. refl)

pub returns-then-has_face : goal.returns-then-has_face
returns-then-has_face c =
    let a = c.args in
    λ vs ps es fs ks four e. sym (some-here (has_face (mesh vs ps a.arcs.now es fs ks) four) 4 c.loop-i.i (search rules) (sym (c.has_face.ensures vs ps es fs ks four e) ∙ c.if-has_face.true))

pub loop-i-preserved : goal.loop-i-preserved
loop-i-preserved c =
    let a = c.args in
    (λ vs ps es fs ks four e. some_more (has_face (mesh vs ps a.arcs.now es fs ks) four) c.loop-i.i (c.loop-i.invariant vs ps es fs ks four e) (sym (c.has_face.ensures vs ps es fs ks four e) ∙ c.if-has_face.false))

pub returns : goal.returns
returns c =
    let all : c.loop-i.i ≡ 4 = omega arith in
    λ vs ps es fs ks four e. sym (rw all at (c.loop-i.invariant vs ps es fs ks four e))
