-- `fills::holding::can_hold` meets its contract. Assumes nothing.
use mathlib.Core.Path.{◌≡◌, sym, ◌∙◌}
use mathlib.Core.Bool.{◌&&◌}
use Rattle.rules.specs.Table.{every}
use Rattle.bodies.specs.Bodies.{records_in}
use Rattle.fills.specs.Fills.{key_fits, finite_record, storable}
use Rattle.fills.proofs.Ands.{four-hold, four-fail}
use Rattle.fills.proofs.holding.can_hold.Goals as goal
use Rattle.fills.proofs.holding.can_hold.Goals.{then-keys_fit, else-keys_fit, then-keys_fit-2, else-keys_fit-2}

pub returns-then-keys_fit-3 : goal.returns-then-keys_fit-3
unfolding storable
returns-then-keys_fit-3 c =
    let t = c.args.file.text.now in
    let two : c.if-keys_fit.value ≡ (every key_fits (records_in t 0) && every key_fits (records_in t 2)) =
    elim c.if-keys_fit.branch [
      | then-keys_fit w ↦ rw (sym c.keys_fit.ensures ∙ w.if-keys_fit.true) (w.value-is ∙ w.keys_fit-then-keys_fit.ensures)
      | else-keys_fit w ↦ rw (sym c.keys_fit.ensures ∙ w.if-keys_fit.false) (w.value-is ∙ w.if-keys_fit.false)
    ] in
    let three : c.if-keys_fit-2.value ≡ ((every key_fits (records_in t 0) && every key_fits (records_in t 2)) && every key_fits (records_in t 3)) =
    elim c.if-keys_fit-2.branch [
      | then-keys_fit-2 w ↦ rw (sym two ∙ w.if-keys_fit-2.true) (w.value-is ∙ w.keys_fit-then-keys_fit-2.ensures)
      | else-keys_fit-2 w ↦ rw (sym two ∙ w.if-keys_fit-2.false) (w.value-is ∙ w.if-keys_fit-2.false)
    ] in
    c.positions_finite.ensures ∙ four-hold (every key_fits (records_in t 0)) (every key_fits (records_in t 2)) (every key_fits (records_in t 3)) (every finite_record (records_in t 0)) _ three c.if-keys_fit-3.true

pub returns-else-keys_fit-3 : goal.returns-else-keys_fit-3
unfolding storable
returns-else-keys_fit-3 c =
    let t = c.args.file.text.now in
    let two : c.if-keys_fit.value ≡ (every key_fits (records_in t 0) && every key_fits (records_in t 2)) =
    elim c.if-keys_fit.branch [
      | then-keys_fit w ↦ rw (sym c.keys_fit.ensures ∙ w.if-keys_fit.true) (w.value-is ∙ w.keys_fit-then-keys_fit.ensures)
      | else-keys_fit w ↦ rw (sym c.keys_fit.ensures ∙ w.if-keys_fit.false) (w.value-is ∙ w.if-keys_fit.false)
    ] in
    let three : c.if-keys_fit-2.value ≡ ((every key_fits (records_in t 0) && every key_fits (records_in t 2)) && every key_fits (records_in t 3)) =
    elim c.if-keys_fit-2.branch [
      | then-keys_fit-2 w ↦ rw (sym two ∙ w.if-keys_fit-2.true) (w.value-is ∙ w.keys_fit-then-keys_fit-2.ensures)
      | else-keys_fit-2 w ↦ rw (sym two ∙ w.if-keys_fit-2.false) (w.value-is ∙ w.if-keys_fit-2.false)
    ] in
    four-fail (every key_fits (records_in t 0)) (every key_fits (records_in t 2)) (every key_fits (records_in t 3)) (every finite_record (records_in t 0)) _ three c.if-keys_fit-3.false
