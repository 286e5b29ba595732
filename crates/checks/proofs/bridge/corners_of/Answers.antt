-- `checks::bridge::corners_of` meets its contract. The four cells. Assumes nothing.
use Rattle.rules.specs.Edit.{corners}
use Rattle.checks.proofs.bridge.corners_of.Goals as goal

pub returns : goal.returns
unfolding corners
returns c = λ vs ps es fs ks. rw (c.cell-a.ensures, c.cell-b.ensures, c.cell-c.ensures, c.cell-d.ensures)
