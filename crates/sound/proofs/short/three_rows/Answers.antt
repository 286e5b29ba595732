use Rattle.sound.specs.Rings.{three_rows}
use Rattle.sound.proofs.short.three_rows.Goals as goal

pub returns : goal.returns
unfolding three_rows
returns c = rw (c.ring_row.ensures, c.ring_row-2.ensures, c.ring_row-3.ensures, c.three_apart.ensures)
