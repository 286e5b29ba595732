-- `checks::bridge::arc_bridge_checks_by` meets its contract. The tests in their order. Assumes nothing.
use mathlib.Core.Path.{◌≡◌, sym, ◌∙◌}
use lib.ListN.{length}
use borrow.Author.Tests.{ne_eqb}
use Rattle.rules.specs.Table.{some_below}
use Rattle.rules.specs.Mesh.{mesh, list_of}
use Rattle.rules.specs.Insert.{has_face}
use Rattle.rules.specs.Edit.{corners, arc_bridge_checks}
use Rattle.checks.proofs.Between.{missing}
use Rattle.checks.proofs.Pairs.{corners-size}
use Rattle.checks.proofs.bridge.arc_bridge_checks_by.Goals as goal

pub returns-then-x-eq0 : goal.returns-then-x-eq0
unfolding arc_bridge_checks
returns-then-x-eq0 c = let a = c.args in λ vs es fs ks. rw (missing a.x a.y c.then-x-eq0.either)

pub returns-then-corners_faced : goal.returns-then-corners_faced
unfolding arc_bridge_checks
returns-then-corners_faced c =
    λ vs es fs ks.
    let a = c.args in
    let four : list_of a.per ≡ corners (mesh vs a.positions.now a.arcs.now es fs ks) a.x a.y = c.requires.per_value vs a.positions.now es fs ks in
    let some : c.corners_faced.result ≡ some_below (has_face (mesh vs a.positions.now a.arcs.now es fs ks) (corners (mesh vs a.positions.now a.arcs.now es fs ks) a.x a.y)) (length (corners (mesh vs a.positions.now a.arcs.now es fs ks) a.x a.y)) = c.corners_faced.ensures vs a.positions.now es fs ks (list_of a.per) c.requires.xs_value ∙ rw (four, corners-size (mesh vs a.positions.now a.arcs.now es fs ks) a.x a.y) in
    rw (ne_eqb _ _ c.if-x-eq0.false, ne_eqb _ _ c.if-y-eq0.false, sym some ∙ c.if-corners_faced.true)

pub insert_checks_by-requires : goal.insert_checks_by-requires
insert_checks_by-requires c = c.requires.xs_value

pub returns : goal.returns
unfolding arc_bridge_checks
returns c =
    λ vs es fs ks.
    let a = c.args in
    let four : list_of a.per ≡ corners (mesh vs a.positions.now a.arcs.now es fs ks) a.x a.y = c.requires.per_value vs a.positions.now es fs ks in
    let some : c.corners_faced.result ≡ some_below (has_face (mesh vs a.positions.now a.arcs.now es fs ks) (corners (mesh vs a.positions.now a.arcs.now es fs ks) a.x a.y)) (length (corners (mesh vs a.positions.now a.arcs.now es fs ks) a.x a.y)) = c.corners_faced.ensures vs a.positions.now es fs ks (list_of a.per) c.requires.xs_value ∙ rw (four, corners-size (mesh vs a.positions.now a.arcs.now es fs ks) a.x a.y) in
    rw (ne_eqb _ _ c.if-x-eq0.false, ne_eqb _ _ c.if-y-eq0.false, sym some ∙ c.if-corners_faced.false) (rw four at (c.insert_checks_by.ensures vs es fs ks))
