use Rattle.sound.specs.Tests.{position_test}
use Rattle.sound.proofs.blanks.position_row.Goals as goal

pub returns : goal.returns
unfolding position_test
returns c = rw (← c.used_row.ensures) c.place_row.ensures
