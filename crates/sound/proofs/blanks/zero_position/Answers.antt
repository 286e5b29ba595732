use Rattle.rules.specs.Point.{zero_position_row}
use Rattle.sound.proofs.blanks.zero_position.Goals as goal

pub returns : goal.returns
unfolding zero_position_row
returns c = rw (c.zero_bits.ensures, c.zero_bits-2.ensures, c.zero_bits-3.ensures)
