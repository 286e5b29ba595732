-- `tables::rows::put_row` meets its contract. A law of Cells for each way out: through none, past the table, and there. Assumes nothing.
use Rattle.tables.proofs.Cells.{row-none, row_here, row-past}
use Rattle.tables.proofs.rows.put_row.Goals as goal

pub returns-then-l-eq0 : goal.returns-then-l-eq0
returns-then-l-eq0 g c = row-none _ _ _ c.if-l-eq0.true

pub returns-then-i-t : goal.returns-then-i-t
returns-then-i-t g c = row_here _ _ _ c.if-l-eq0.false

pub returns-else-i-t : goal.returns-else-i-t
returns-else-i-t g c = row-past _ _ _ c.if-l-eq0.false c.if-i-t.false
