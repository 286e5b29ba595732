-- Key, position, destination of the leading arc. Assumes nothing.
use Rattle.rules.specs.Lent.{mesh_in}
use Rattle.writes.proofs.Rows.{vertex-put}
use Rattle.writes.proofs.records.put_vertex.Goals as goal

pub returns : goal.returns
returns c =
    let a = c.args in
    vertex-put (mesh_in a.mesh) a.x a.at a.out.now c.put_word.new.out c.put_long.new.out c.put_long-2.new.out c.put_long-3.new.out c.put_word-2.new.out
    _ _ _ _ _ _ c.position_at-p.result
    c.put_word.ensures c.put_long.ensures c.put_long-2.ensures c.put_long-3.ensures c.put_word-2.ensures
    c.key-key.ensures c.position_at-p.ensures c.bits_of.ensures c.bits_of-2.ensures c.bits_of-3.ensures
    c.cell.ensures c.ends-leading.ensures.destination
