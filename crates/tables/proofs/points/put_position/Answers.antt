-- `tables::points::put_position` meets its contract. A law of Cells for each way out: through none, past the table, and there. Assumes nothing.
use Rattle.tables.proofs.Cells.{row-none, row_here, row-past}
use Rattle.tables.proofs.points.put_position.Goals as goal

pub returns-then-v-eq0 : goal.returns-then-v-eq0
returns-then-v-eq0 c = row-none _ _ _ c.if-v-eq0.true

pub returns-then-i-ps : goal.returns-then-i-ps
returns-then-i-ps c = row_here _ _ _ c.if-v-eq0.false

pub returns-else-i-ps : goal.returns-else-i-ps
returns-else-i-ps c = row-past _ _ _ c.if-v-eq0.false c.if-i-ps.false
