-- `fills::holding::finite_record` meets its contract. Assumes nothing.
use mathlib.Core.Path.{◌≡◌, refl, sym, ◌∙◌}
use mathlib.Core.Bool.{◌&&◌}
use mathlib.Core.List.{[]}
use lib.ListN.{get_or}
use lib.Ieee.{binary64, of_bits}
use Rattle.rules.specs.Point.{finite_number}
use Rattle.bodies.specs.Bodies.{records_in}
use Rattle.fills.proofs.Ands.{three-hold, three-fail}
use Rattle.fills.proofs.Finite.{finite-is, so-told}
use Rattle.fills.proofs.holding.finite_record.Goals as goal
use Rattle.fills.proofs.holding.finite_record.Goals.{then-finite_bits, else-finite_bits}

pub returns-then-finite_bits-2 : goal.returns-then-finite_bits-2
returns-then-finite_bits-2 c =
    let r = get_or (records_in c.args.file.text.now 0) c.args.i [] in
    let x = so-told c.bits.result (get_or r 1 0) c.finite_bits.result _ c.bits.ensures.0 c.finite_bits.ensures refl in
    let both : c.if-finite_bits.value ≡ (finite_number (of_bits binary64 (get_or r 1 0)) && finite_number (of_bits binary64 (get_or r 2 0))) =
    elim c.if-finite_bits.branch [
      | then-finite_bits w ↦
          rw (x ∙ w.if-finite_bits.true)
          (sym (so-told w.bits-then-finite_bits.result (get_or r 2 0) w.finite_bits-then-finite_bits.result _ w.bits-then-finite_bits.ensures.0
          w.finite_bits-then-finite_bits.ensures (sym w.value-is)))
      | else-finite_bits w ↦ rw (x ∙ w.if-finite_bits.false) (w.value-is ∙ w.if-finite_bits.false)
    ] in
    let z = c.finite_bits-then-finite_bits-2 in
    let last = so-told c.bits-then-finite_bits-2.result (get_or r 3 0) z.result _ c.bits-then-finite_bits-2.ensures.0 z.ensures refl in
    sym (finite-is r ∙ sym (sym last ∙ three-hold (finite_number (of_bits binary64 (get_or r 1 0))) (finite_number (of_bits binary64 (get_or r 2 0))) (finite_number (of_bits binary64 (get_or r 3 0))) _ both c.if-finite_bits-2.true))

pub returns-else-finite_bits-2 : goal.returns-else-finite_bits-2
returns-else-finite_bits-2 c =
    let r = get_or (records_in c.args.file.text.now 0) c.args.i [] in
    let x = so-told c.bits.result (get_or r 1 0) c.finite_bits.result _ c.bits.ensures.0 c.finite_bits.ensures refl in
    let both : c.if-finite_bits.value ≡ (finite_number (of_bits binary64 (get_or r 1 0)) && finite_number (of_bits binary64 (get_or r 2 0))) =
    elim c.if-finite_bits.branch [
      | then-finite_bits w ↦
          rw (x ∙ w.if-finite_bits.true)
          (sym (so-told w.bits-then-finite_bits.result (get_or r 2 0) w.finite_bits-then-finite_bits.result _ w.bits-then-finite_bits.ensures.0
          w.finite_bits-then-finite_bits.ensures (sym w.value-is)))
      | else-finite_bits w ↦ rw (x ∙ w.if-finite_bits.false) (w.value-is ∙ w.if-finite_bits.false)
    ] in
    three-fail (finite_number (of_bits binary64 (get_or r 1 0))) (finite_number (of_bits binary64 (get_or r 2 0))) (finite_number (of_bits binary64 (get_or r 3 0))) _ both c.if-finite_bits-2.false ∙ sym (finite-is r)
