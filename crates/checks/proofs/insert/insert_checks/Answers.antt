-- `checks::insert::insert_checks` meets its contract. The tests in their order, in two halves; laws of Named. Assumes nothing.
use Rattle.std.proofs.Common.{rules}
use mathlib.Core.Path.{◌≡◌, sym, ◌∙◌}
use mathlib.Core.Bool.{true, false}
use Rattle.rules.specs.Answer.{Refused}
use Rattle.rules.specs.Lent.{allowed}
use Rattle.rules.specs.Mesh.{mesh, list_of}
use Rattle.checks.proofs.Named.{named-refused, named-passed}
use Rattle.pairs.proofs.Listed.{arcs-held}
use Rattle.checks.proofs.insert.insert_checks.Goals as goal

pub returns-in_err-named : goal.returns-in_err-named
returns-in_err-named c =
    let a = c.args in
    let refused : allowed c.from_residual.result ≡ Refused c.in_err-named.field-0.0 = search rules in
    λ vs es fs ks. refused ∙ named-refused (mesh vs a.positions.now a.arcs.now es fs ks) (list_of a.names) (list_of a.per) (c.in_err-named.ensures vs a.arcs.now es fs ks)

pub conflict_by-requires : goal.conflict_by-requires
conflict_by-requires c = let a = c.args in arcs-held a.arcs.now (list_of a.per) c.perimeter_arcs-xs.result c.known_few.ensures c.perimeter_arcs-xs.ensures

pub returns-then-conflict_by : goal.returns-then-conflict_by
returns-then-conflict_by c =
    let a = c.args in
    λ vs es fs ks. named-passed (mesh vs a.positions.now a.arcs.now es fs ks) (list_of a.names) (list_of a.per) (c.in_ok-named.ensures vs a.arcs.now es fs ks) true (sym c.if-conflict_by.true ∙ c.conflict_by.ensures vs a.positions.now es fs ks)

pub returns : goal.returns
returns c =
    let a = c.args in
    λ vs es fs ks. named-passed (mesh vs a.positions.now a.arcs.now es fs ks) (list_of a.names) (list_of a.per) (c.in_ok-named.ensures vs a.arcs.now es fs ks) false (sym c.if-conflict_by.false ∙ c.conflict_by.ensures vs a.positions.now es fs ks)
