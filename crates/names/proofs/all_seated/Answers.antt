use Rattle.names.proofs.Loops.{none_yet}
use Rattle.names.specs.Slots.{finds}
use Rattle.names.proofs.all_seated.Goals as goal

pub loop-row-init : goal.loop-row-init
loop-row-init c = let a = c.args in none_yet (finds a.slots.now a.names.now a.part)
