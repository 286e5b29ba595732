-- What was found for the vertices passed by.
use mathlib.Core.List.{◌++◌}
use lib.ListN.{take}
use Rattle.walks.proofs.Listing.{Made}
use Rattle.insert.proofs.Seeking.{out_of, back_of}
use Rattle.insert.proofs.search.search_lists.Given as goal

abbrev pub invariant-loop-i : goal.invariant-loop-i
invariant-loop-i l =
    let soon = l.mine ++ l.theirs in
    Made (out_of l.mesh.vertices.now l.mesh.arcs.now l.mesh.edges.now soon) (take l.n l.from) l.outs l.i
    × Made (back_of l.mesh.vertices.now l.mesh.arcs.now l.mesh.edges.now soon) (take l.n l.from) l.backs l.i
