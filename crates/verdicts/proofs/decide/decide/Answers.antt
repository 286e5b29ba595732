-- `verdicts::decide::decide` meets its contract. Assumes nothing.
use mathlib.Core.Path.{sym, ap, ◌∙◌}
use Rattle.rules.specs.Lent.{mesh_in}
use Rattle.rules.specs.Script.{Text}
use Rattle.file.specs.File.{contents_in, tables_hold}
use Rattle.fills.specs.Fills.{storable}
use Rattle.verdicts.specs.Refusals.{number_of}
use Rattle.verdicts.proofs.Numbered.{found-or-12}
use Rattle.verdicts.proofs.Taking.{not-long, not-placed, too_many, held-or-12}
use Rattle.verdicts.proofs.decide.decide.Goals as goal

pub returns-then-not-length_fits-clause-first : goal.returns-then-not-length_fits-clause-first
returns-then-not-length_fits-clause-first c = not-long (mesh_in c.args.mesh) c.args.text.now (sym c.length_fits.ensures ∙ c.if-not-length_fits.true)

pub returns-in_default-clause-first : goal.returns-in_default-clause-first
returns-in_default-clause-first c =
    not-placed (mesh_in c.args.mesh) c.args.text.now (sym c.length_fits.ensures ∙ c.if-not-length_fits.false) (sym c.in_default.ensures.whole)

pub returns-then-not-tables_hold-clause-first : goal.returns-then-not-tables_hold-clause-first
returns-then-not-tables_hold-clause-first c =
    let m = mesh_in c.args.mesh in
    too_many m c.args.text.now (sym c.length_fits.ensures ∙ c.if-not-length_fits.false) (sym c.in-Some.ensures.whole)
    (ap (λ (t : Text). tables_hold m (contents_in t)) (sym c.in-Some.ensures.same) ∙ sym c.tables_hold.ensures ∙ c.if-not-tables_hold.true)

pub returns-clause-first : goal.returns-clause-first
returns-clause-first c =
    let m = mesh_in c.args.mesh in
    let few = ap (λ (t : Text). tables_hold m (contents_in t)) (sym c.in-Some.ensures.same) ∙ sym c.tables_hold.ensures ∙ c.if-not-tables_hold.false in
    let held = ap (λ (t : Text). storable (contents_in t)) (sym c.in-Some.ensures.same) ∙ sym c.of-2.ensures.holds in
    ap number_of c.ok_or.ensures.value ∙ found-or-12 c.of-2.result
    ∙ held-or-12 m c.args.text.now _ (sym c.length_fits.ensures ∙ c.if-not-length_fits.false) (sym c.in-Some.ensures.whole) few held
