-- An edge whose rows are looked for from the first row on.
use Rattle.edges.proofs.Searches.{used-none}
use Rattle.edges.proofs.edge.new_edge.Goals as goal

pub new_edge_from-requires : goal.new_edge_from-requires
new_edge_from-requires c =
    let none = c.default.ensures in
    rw (none.0, none.1.0) (used-none c.args.mesh.now.arcs.now, used-none c.args.mesh.now.edges.now)
