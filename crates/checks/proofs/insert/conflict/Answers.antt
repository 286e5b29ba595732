-- `checks::insert::conflict` meets its contract. The loop keeps that no pair passed by has a conflict; laws of Below. Assumes nothing.
use native.Mathlib.Omega.{arith}
use mathlib.Core.Path.{◌≡◌, refl, ap, sym, ◌∙◌}
use mathlib.Core.Bool.{true}
use lib.ListN.{length}
use Rattle.rules.specs.Table.{some_below}
use Rattle.rules.specs.Mesh.{mesh}
use Rattle.rules.specs.Insert.{conflict}
use Rattle.pairs.proofs.Listed.{arcs-length}
use Rattle.pairs.proofs.Below.{some_more, some-here}
use Rattle.checks.proofs.Pairs.{clash, face-at, back-at}
use Rattle.checks.proofs.insert.conflict.Goals as goal
use Rattle.checks.proofs.insert.conflict.Goals.{then-faced-via-then-faced, then-faced-via-else-faced+then-leads_back}

pub loop-i-init : goal.loop-i-init
unfolding some_below
loop-i-init c = λ vs ps es fs ks. refl

pub returns-then-faced : goal.returns-then-faced
unfolding conflict
returns-then-faced c =
    let a = c.args in
    let many : length a.xs.now ≡ length a.per.now = ap length c.requires ∙ arcs-length a.arcs.now a.per.now in
    λ vs ps es fs ks.
    let m = mesh vs ps a.arcs.now es fs ks in
    let face = face-at m a.per.now a.xs.now c.requires c.loop-i.i c.faced.result c.faced.ensures in
    let here : clash m a.per.now c.loop-i.i ≡ true = elim c.then-faced.branch [
      | then-faced-via-then-faced w ↦ rw (sym face ∙ w.if-faced.true)
      | then-faced-via-else-faced+then-leads_back w ↦ rw (sym face ∙ w.if-faced.false, sym (back-at m a.per.now a.xs.now c.requires c.loop-i.i c.place_after.result w.leads_back.result c.place_after.ensures w.leads_back.ensures) ∙ w.if-leads_back.true)
    ] in
    sym (some-here (clash m a.per.now) (length a.per.now) c.loop-i.i (omega (arith, many, c.loop-i-test.true)) here)

pub loop-i-preserved : goal.loop-i-preserved
loop-i-preserved c =
    let a = c.args in
    λ vs ps es fs ks.
    let m = mesh vs ps a.arcs.now es fs ks in
    let face = face-at m a.per.now a.xs.now c.requires c.loop-i.i c.faced.result c.faced.ensures in
    let back = back-at m a.per.now a.xs.now c.requires c.loop-i.i c.place_after.result c.leads_back.result c.place_after.ensures c.leads_back.ensures in
    some_more (clash m a.per.now) c.loop-i.i (c.loop-i.invariant vs ps es fs ks) (rw (sym face ∙ c.if-faced.false, sym back ∙ c.if-leads_back.false))

pub returns : goal.returns
unfolding conflict
returns c =
    let a = c.args in
    let end : c.loop-i.i ≡ length a.per.now = omega (arith, ap length c.requires, arcs-length a.arcs.now a.per.now) in
    λ vs ps es fs ks. sym (rw end at (c.loop-i.invariant vs ps es fs ks))
