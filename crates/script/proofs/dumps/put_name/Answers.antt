-- `script::dumps::put_name` meets its contract. By the case of the name, and where it is absent by the number of dashes. Assumes nothing.
use mathlib.Core.Path.{ap, sym, ◌∙◌}
use mathlib.Core.List.{[], ◌∷◌}
use native.Mathlib.Omega.{arith}
use Rattle.rules.specs.Script.{Text, spaced}
use Rattle.script.specs.declared.Name.{Name}
use Rattle.script.specs.Texts.{wrote}
use Rattle.script.specs.Dumps.{name_text}
use Rattle.script.proofs.Writes.{wrote_none, wrote_then, spaced-two}
use Rattle.script.proofs.RecordTexts.{name-key, name-arc, name-none, name-one, name-two}
use Rattle.script.proofs.dumps.put_name.Goals as goal

pub returns-then-dashes-eq0-clause-result_after : goal.returns-then-dashes-eq0-clause-result_after
returns-then-dashes-eq0-clause-result_after c =
    let a = c.args in
    wrote_none a.out.now a.at (omega (arith, c.requires)) ∙ ap (wrote a.out.now a.at) (name-none a.dashes c.if-dashes-eq0.true)
    ∙ sym (ap (λ (n : Name). wrote a.out.now a.at (name_text a.dashes n)) c.in-Absent.is)

pub returns-then-dashes-eq1-clause-result_after : goal.returns-then-dashes-eq1-clause-result_after
returns-then-dashes-eq1-clause-result_after c =
    let a = c.args in
    let w = c.put_two-next in
    w.ensures.result_after ∙ ap (wrote a.out.now a.at) (name-one a.dashes c.if-dashes-eq1.true)
    ∙ sym (ap (λ (n : Name). wrote a.out.now a.at (name_text a.dashes n)) c.in-Absent.is)

pub returns-else-dashes-eq1-clause-result_after : goal.returns-else-dashes-eq1-clause-result_after
returns-else-dashes-eq1-clause-result_after c =
    let o = c.args.out.now in
    let a = c.args in
    let x0 = c.put_two-next in
    let t0 : Text = 32 ∷ 45 ∷ [] in
    let x1 = c.put_two in
    let t1 : Text = 32 ∷ 45 ∷ [] in
    let w1 = wrote_then o a.at x0.new.out x1.new.out x0.result x1.result (t0) t1 (omega (arith, c.requires, x0.ensures.next, x1.ensures.next)) x0.ensures.result_after x1.ensures.result_after in
    w1 ∙ ap (wrote o a.at) (name-two a.dashes c.if-dashes-eq0.false c.if-dashes-eq1.false ∙ sym (ap (name_text a.dashes) c.in-Absent.is))

pub returns-in-Key-clause-result_after : goal.returns-in-Key-clause-result_after
returns-in-Key-clause-result_after c =
    let a = c.args in
    let w = c.put_spaced in
    w.ensures.result_after ∙ ap (wrote a.out.now a.at) (name-key a.dashes c.in-Key.k ∙ sym (ap (name_text a.dashes) c.in-Key.is))

pub returns-in-Arc-clause-result_after : goal.returns-in-Arc-clause-result_after
returns-in-Arc-clause-result_after c =
    let o = c.args.out.now in
    let a = c.args in
    let x0 = c.put_spaced-next in
    let t0 : Text = spaced (c.in-Arc.s ∷ []) in
    let x1 = c.put_spaced-in-Arc in
    let t1 : Text = spaced (c.in-Arc.d ∷ []) in
    let w1 = wrote_then o a.at x0.new.out x1.new.out x0.result x1.result (t0) t1 (omega (arith, c.requires, x0.ensures.short, x1.ensures.short)) x0.ensures.result_after x1.ensures.result_after in
    w1 ∙ ap (wrote o a.at) (spaced-two c.in-Arc.s c.in-Arc.d ∙ name-arc a.dashes c.in-Arc.s c.in-Arc.d ∙ sym (ap (name_text a.dashes) c.in-Arc.is))
