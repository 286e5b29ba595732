-- By whether a point stands after the numbers.
use Rattle.std.proofs.Common.{sym, ◌∙◌}
use Rattle.script.proofs.Says.{aim_at, aim-nowhere}
use Rattle.script.proofs.lines.aimed.Goals as goal

pub returns-in_err-p : goal.returns-in_err-p
returns-in_err-p c = λ n fs h. c.from_residual.ensures ∙ aim-nowhere _ _ (sym c.in_err-p.was ∙ h.spot)

pub returns : goal.returns
returns c = λ n fs h. aim_at _ _ _ h.numbers _ (sym c.in_ok-p.was ∙ h.spot)
