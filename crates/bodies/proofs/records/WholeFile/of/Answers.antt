-- `bodies::records::WholeFile::of` meets its contract. Assumes nothing.
use mathlib.Core.Path.{sym, ap, ◌∙◌}
use mathlib.Core.Bool.{true, false}
use Rattle.std.specs.Option.{is_some}
use Rattle.proved.proofs.Rows.{true-T, T_true}
use Rattle.bodies.proofs.Keys.{keys-decide}
use Rattle.bodies.proofs.records.WholeFile.of.Goals as goal

pub returns-in_err-file-clause-whole : goal.returns-in_err-file-clause-whole
returns-in_err-file-clause-whole c = ap is_some c.from_residual.ensures ∙ sym (keys-decide c.args.text.now false (sym c.in_err-file.ensures.stands))

pub returns-then-not-keys_rise-clause-whole : goal.returns-then-not-keys_rise-clause-whole
returns-then-not-keys_rise-clause-whole c =
    rw (keys-decide c.args.text.now true (sym c.in_ok-file.ensures.stands), sym c.in_ok-file.ensures.same) (sym c.if-not-keys_rise.true ∙ c.keys_rise.ensures)

pub invariant_of-result : goal.invariant_of-result
invariant_of-result c =
    let f = c.in_ok-file.file in
    record { in_place = true-T (keys-decide f.text.now true (T_true _ f.laid.stands) ∙ sym c.keys_rise.ensures ∙ c.if-not-keys_rise.false) }
