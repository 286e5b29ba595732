-- `checks::bridge::arcs_between` meets its contract, by the places of the arcs that are found. Assumes nothing.
use Rattle.checks.specs.declared.bridge.Between.{Between}
use Rattle.checks.proofs.Between.{told, cornered}
use Rattle.checks.proofs.bridge.arcs_between.Goals as goal

pub returns : goal.returns
returns c =
    let a = c.args in
    let n = c.known_four in
    let per = c.corner_list-per in
    let found = c.perimeter_arcs-found in
    let r : Between = record { x = c.item-x.result; y = c.item-y.result; per = per.result; found = found.result } in (
      told a.arcs.now a.four n.ensures r per.ensures found.ensures c.item-x.ensures c.item-y.ensures,
      cornered a.arcs.now a.four n.ensures r per.ensures found.ensures c.item-x.ensures c.item-y.ensures,
    )
