use Rattle.sound.specs.Rings.{ring_row}
use Rattle.sound.proofs.faces.ring_row.Goals as goal

pub returns : goal.returns
unfolding ring_row
returns c = rw c.wide.ensures
