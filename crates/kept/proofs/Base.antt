-- A sound mesh is one of which every clause but that on rings holds, and whose rings are sound. It has two free arcs for each free edge.
use Prim.Native.Nat.{ℕ, ◌*◌, ◌≤◌}
use native.Mathlib.Omega.{arith}
use Rattle.rules.specs.Table.{count, unused}
use Rattle.rules.specs.Mesh.{Mesh}
use Rattle.rules.proofs.Counts.{used-unused}
use Rattle.proved.specs.Facts.{SoundFacts, RingFacts, IsFace}
use Rattle.proved.proofs.SoundParts.{parts}
use Rattle.proved.proofs.Totals.{arcs-at-most}
use Rattle.proved.proofs.Edges.{Edges}
use Rattle.proved.proofs.Clauses.{sound-from}
use Rattle.kept.specs.Frame.{AllButRings}

-- two free arcs for each free edge
two-free : (m : Mesh) → SoundFacts m → 2 * count unused m.edges ≤ count unused m.arcs
two-free m s =
    omega (arith, arcs-at-most m (parts m (sound-from m s)), used-unused m.arcs, used-unused m.edges, s.sizes.arc-rows)

pub but-rings : (m : Mesh) → SoundFacts m → AllButRings m
but-rings m s =
    record {
      sizes = s.sizes;
      vertex-keys-differ = s.vertex-keys-differ;
      edge-keys-differ = s.edge-keys-differ;
      face-keys-differ = s.face-keys-differ;
      vertex-keys-below = s.vertex-keys-below;
      edge-keys-below = s.edge-keys-below;
      face-keys-below = s.face-keys-below;
      both-arcs = s.both-arcs;
      ends-differ = s.ends-differ;
      ends-exist = s.ends-exist;
      pairs-differ = s.pairs-differ;
      edge-exists = s.edge-exists;
      edge-names = s.edge-names;
      leads-out = s.leads-out;
      next-leaves = s.next-leaves;
      previous-arrives = s.previous-arrives;
      face-exists = s.face-exists;
      vertices-zero = s.vertices-zero;
      arcs-zero = s.arcs-zero;
      edges-zero = s.edges-zero;
      faces-zero = s.faces-zero;
      positions-zero = s.positions-zero;
      all-finite = s.all-finite;
      two-free = two-free m s;
    }

pub with-rings : (m : Mesh) → AllButRings m → ((f : ℕ) → IsFace m f → RingFacts m f) → SoundFacts m
with-rings m s rings =
    record {
      sizes = s.sizes;
      vertex-keys-differ = s.vertex-keys-differ;
      edge-keys-differ = s.edge-keys-differ;
      face-keys-differ = s.face-keys-differ;
      vertex-keys-below = s.vertex-keys-below;
      edge-keys-below = s.edge-keys-below;
      face-keys-below = s.face-keys-below;
      both-arcs = s.both-arcs;
      ends-differ = s.ends-differ;
      ends-exist = s.ends-exist;
      pairs-differ = s.pairs-differ;
      edge-exists = s.edge-exists;
      edge-names = s.edge-names;
      leads-out = s.leads-out;
      next-leaves = s.next-leaves;
      previous-arrives = s.previous-arrives;
      face-exists = s.face-exists;
      vertices-zero = s.vertices-zero;
      arcs-zero = s.arcs-zero;
      edges-zero = s.edges-zero;
      faces-zero = s.faces-zero;
      positions-zero = s.positions-zero;
      all-finite = s.all-finite;
      rings = rings;
    }

-- what it says of edges
pub edges-of : (m : Mesh) → AllButRings m → Edges m
edges-of m s = record { both-arcs = s.both-arcs; ends-differ = s.ends-differ; edge-exists = s.edge-exists; edge-names = s.edge-names }
