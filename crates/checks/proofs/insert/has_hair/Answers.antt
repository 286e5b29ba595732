-- `checks::insert::has_hair` meets its contract. The loop keeps that no pair passed by is in one spot; laws of Below. Assumes nothing.
use native.Mathlib.Omega.{arith}
use mathlib.Core.Path.{◌≡◌, refl, sym, ◌∙◌}
use lib.ListN.{length}
use Rattle.rules.specs.Table.{some_below}
use Rattle.rules.specs.Mesh.{mesh}
use Rattle.rules.specs.Insert.{in_one_spot, has_hair}
use Rattle.pairs.proofs.Below.{some_more, some-here}
use Rattle.checks.proofs.insert.has_hair.Goals as goal

pub loop-i-init : goal.loop-i-init
unfolding some_below
loop-i-init c = λ vs ar es fs ks. refl

pub returns-then-in_one_spot : goal.returns-then-in_one_spot
unfolding in_one_spot has_hair
returns-then-in_one_spot c =
    let a = c.args in
    λ vs ar es fs ks. sym (some-here (in_one_spot (mesh vs a.positions.now ar es fs ks) a.per.now) (length a.per.now) c.loop-i.i c.loop-i-test.true (sym c.in_one_spot.ensures ∙ c.if-in_one_spot.true))

pub loop-i-preserved : goal.loop-i-preserved
unfolding in_one_spot
loop-i-preserved c =
    let a = c.args in
    λ vs ar es fs ks. some_more (in_one_spot (mesh vs a.positions.now ar es fs ks) a.per.now) c.loop-i.i (c.loop-i.invariant vs ar es fs ks) (sym c.in_one_spot.ensures ∙ c.if-in_one_spot.false)

pub returns : goal.returns
unfolding has_hair
returns c =
    let end : c.loop-i.i ≡ length c.args.per.now = omega arith in
    λ vs ar es fs ks. sym (rw end at (c.loop-i.invariant vs ar es fs ks))
