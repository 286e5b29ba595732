use Prim.Native.Nat.{◌≤◌}
use mathlib.Core.Path.{◌≡◌}
use mathlib.Core.List.{[], map}
use lib.ListN.{length}
use Rattle.rules.specs.Table.{used}
use Rattle.rules.specs.Lent.{mesh_in}
use Rattle.tables.proofs.Lists.{upto}
use Rattle.tables.proofs.Scans.{Counted}
use Rattle.names.proofs.Loops.{Passed}
use Rattle.sound.proofs.Rows.{edge_passes}
use Rattle.sound.proofs.Named.{Risen}
use Rattle.sound.specs.Names.{edge_name}
use Rattle.sound.proofs.passes.edges_named.Given as goal

abbrev pub invariant-loop-i : goal.invariant-loop-i
invariant-loop-i l =
    (length l.names ≡ length l.initial.names)
    × ((l.there ≤ l.i)
    × (Passed (edge_passes (mesh_in l.mesh)) l.i
    × (Counted used l.mesh.edges.now [] l.there l.i
    × ((l.names ≡ upto (map (edge_name l.mesh.arcs.now) l.mesh.edges.now) l.i l.initial.names)
    × Risen l.mesh.edges.now l.i l.keys.so l.keys.last))))
