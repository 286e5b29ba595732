-- Two new arcs, the second on what the first left, which keep the counters; then the record and the counter.
use mathlib.Core.Path.{◌≡◌, ap, ◌∙◌}
use mathlib.Core.List.{List}
use Prim.Native.Nat.{ℕ}
use lib.ListN.{get_or}
use Rattle.rules.specs.Lent.{mesh_of}
use Rattle.rules.specs.Mesh.{Mesh, one_up}
use Rattle.rules.specs.Table.{free_row}
use Rattle.rules.specs.Link.{new_arc, new_edge}
use Rattle.edges.proofs.Searches.{second_from}
use Rattle.edges.proofs.edge.new_edge_from.Goals as goal

pub new_arc-y-requires : goal.new_arc-y-requires
new_arc-y-requires c =
    let one = c.new_arc-x in
    second_from (mesh_of c.args.mesh.now) _ _ _ _ _ one.ensures.row one.ensures.arc

-- an arc keeps the counters
counted-before : (m n : Mesh) (a b e : ℕ) → n ≡ new_arc m a b e → n.counters ≡ m.counters
unfolding new_arc
counted-before m n a b e q = ap (λ (o : Mesh). o.counters) q

pub returns-clause-edge : goal.returns-clause-edge
unfolding new_edge
returns-clause-edge c =
    let row = c.free_row-row.ensures ∙ ap (λ (m : Mesh). free_row m.edges) c.view.ensures in
    let one = c.new_arc-x.ensures in
    let two = c.new_arc-y.ensures in
    let counters = counted-before _ _ _ _ _ two.arc ∙ counted-before _ _ _ _ _ one.arc in
    let first = c.one_up-first.ensures in
    let next = first ∙ ap (λ (k : List ℕ). one_up (get_or k 1 0)) counters in
    rw (← row, ← one.arc, ← two.arc, ← one.row, ← two.row, ← next, ← first, ← c.put_row.ensures)
