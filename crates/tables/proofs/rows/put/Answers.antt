-- `tables::rows::put` meets its contract. A law of Cells for each way out: through none, past the table, and there. Assumes nothing.
use Prim.Native.Nat.{◌-◌}
use mathlib.Core.Path.{ap, ◌∙◌}
use lib.ListN.{set}
use Rattle.tables.proofs.Cells.{put-none, put-here, put-past}
use Rattle.tables.proofs.rows.put.Goals as goal

pub returns-then-l-eq0 : goal.returns-then-l-eq0
returns-then-l-eq0 g c = put-none _ _ _ _ c.if-l-eq0.true

pub returns-then-i-t : goal.returns-then-i-t
returns-then-i-t g c =
    let a = c.args in
    ap (set a.t.now (a.l - 1)) c.put_in.ensures ∙ put-here _ _ _ c.if-l-eq0.false _

pub returns-else-i-t : goal.returns-else-i-t
returns-else-i-t g c = put-past _ _ _ c.if-l-eq0.false _ c.if-i-t.false
