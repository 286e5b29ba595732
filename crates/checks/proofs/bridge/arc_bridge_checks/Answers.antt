-- `checks::bridge::arc_bridge_checks` meets its contract. An arc that is not there is tested first; else the four vertices are the corners. Assumes nothing.
use Rattle.rules.specs.Edit.{arc_bridge_checks}
use Rattle.checks.proofs.Between.{missing}
use Rattle.checks.proofs.bridge.arc_bridge_checks.Goals as goal

pub returns-then-told-eq0 : goal.returns-then-told-eq0
unfolding arc_bridge_checks
returns-then-told-eq0 c =
    let t = c.arcs_between-told in
    λ vs es fs ks. rw (← t.ensures.0.one, ← t.ensures.0.other, missing t.result.x t.result.y c.then-told-eq0.either)

pub arc_bridge_checks_by-requires : goal.arc_bridge_checks_by-requires
arc_bridge_checks_by-requires c =
    let t = c.arcs_between-told.ensures in
    record {
      per_value = t.1 c.if-told-eq0.false c.if-told-eq0-2.false;
      xs_value = t.0.found;
    }

pub returns : goal.returns
returns c =
    λ vs es fs ks.
    let t = c.arcs_between-told.ensures.0 in
    rw (← t.one, ← t.other) (c.arc_bridge_checks_by.ensures vs es fs ks)
