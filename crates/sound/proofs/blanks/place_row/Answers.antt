use Rattle.sound.proofs.blanks.place_row.Goals as goal

pub returns : goal.returns
returns c = rw (c.zero_position.ensures, c.finite_row.ensures)
