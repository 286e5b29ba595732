use Rattle.sound.specs.Rings.{four_rows}
use Rattle.sound.proofs.short.four_rows.Goals as goal

pub returns : goal.returns
unfolding four_rows
returns c = rw (c.ring_row.ensures, c.ring_row-2.ensures, c.ring_row-3.ensures, c.ring_row-4.ensures, c.three_apart.ensures)
