-- `tables::rows::find_key` meets its contract. The likely row has the key; or it has not, or is past the table, and the scan decides. Assumes nothing.
use mathlib.Core.Path.{◌∙◌}
use borrow.Author.Rules.{rules}
use Rattle.tables.proofs.Scans.{key-large, likely-found, likely-missed, likely-past}
use Rattle.tables.proofs.rows.find_key.Goals as goal
use Rattle.tables.proofs.rows.find_key.Goals.{in_default-via-in-Some+else-holds_key, in_default-via-in_default}

pub returns-then-t-gt-ROW_LIMIT : goal.returns-then-t-gt-ROW_LIMIT
returns-then-t-gt-ROW_LIMIT g c = key-large _ _ c.if-t-gt-ROW_LIMIT.true

pub returns-in-Some : goal.returns-in-Some
returns-in-Some g c =
    let a = c.args in
    likely-found a.t.now a.key c.if-t-gt-ROW_LIMIT.false (search rules)

pub returns-in_default : goal.returns-in_default
returns-in_default g c =
    let a = c.args in
    let missed = likely-missed a.t.now a.key in
    let past = likely-past a.t.now a.key in
    c.scan_key.ensures ∙ elim c.in_default.branch [ in_default-via-in-Some+else-holds_key w ↦ missed (search rules) | in_default-via-in_default w ↦ past (search rules) ]
