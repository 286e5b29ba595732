-- The mesh that is filled into a room, over plain values, and what is judged of it.
use Prim.Native.Nat.{ℕ}
use native.Mathlib.Omega.{arith}
use mathlib.Core.Path.{◌≡◌, ap, sym, ◌∙◌}
use mathlib.Core.Bool.{true, false, ◌&&◌}
use mathlib.Core.List.{List, [], ◌∷◌, map}
use lib.ListN.{length}
use lib.Dec.{T, eqb, leb, leb→le, eqb→eq}
use lib.Ieee.Fits.{and_l, and_r}
use Rattle.rules.specs.Mesh.{Mesh, mesh, Room, room, vertex_limit}
use Rattle.rules.specs.Point.{zero_float}
use Rattle.rules.specs.Sound.{within_limits, sound}
use Rattle.rules.specs.Script.{Text}
use Rattle.proved.proofs.Rows.{true-T}
use Rattle.tables.specs.Sets.{set_over}
use Rattle.tables.proofs.Lists.{over-same}
use Rattle.file.specs.File.{Contents, contents_in, body, vertex_row, position_row, arc_row, edge_row, face_row, filled, mesh_of, tables_hold}
use Rattle.rules.specs.Lent.{tables_of}
use Rattle.fills.specs.Fills.{as_mesh, RowsFor}
use Rattle.verdicts.specs.Verdicts.{SameSize, taken, judged}

-- a room as long as tables that hold the records has a row for each
pub rows-for : (m : Mesh) (r : Room) (c : Contents) → T (tables_hold m c) → within_limits m ≡ true → SameSize (tables_of m) r → RowsFor c r
unfolding tables_hold within_limits
rows-for m r c h w z =
    let v = leb (length (body c 0)) (length m.vertices) in
    let a = leb (length (body c 1)) (length m.arcs) in
    let e = leb (length (body c 2)) (length m.edges) in
    let f = leb (length (body c 3)) (length m.faces) in
    let h₁ = and_r v (a && (e && f)) h in
    let h₂ = and_r a (e && f) h₁ in
    let few = leb→le (length (body c 0)) (length m.vertices) (and_l v (a && (e && f)) h) in
    let pairs = eqb→eq (length m.positions) (length m.vertices)
    (and_l (eqb (length m.positions) (length m.vertices)) _ (and_r (leb (length m.vertices) vertex_limit) _ (true-T w))) in
    record {
      vertices = omega (arith, few, z.vertices);
      positions = omega (arith, few, pairs, z.positions);
      arcs = omega (arith, leb→le (length (body c 1)) (length m.arcs) (and_l a (e && f) h₁), z.arcs);
      edges = omega (arith, leb→le (length (body c 2)) (length m.edges) (and_l e f h₂), z.edges);
      faces = omega (arith, leb→le (length (body c 3)) (length m.faces) (and_r e f h₂), z.faces);
    }

-- o is the room filled, k the file's counters: together the mesh that the file holds
pub mesh-filled : (m : Mesh) (r o : Room) (c : Contents) (k : List ℕ) → SameSize (tables_of m) r → o ≡ tables_of (mesh_of (as_mesh r []) c) → k ≡ c.counters
    → as_mesh o k ≡ mesh_of m c
unfolding mesh_of
mesh-filled m r o c k z eo ek =
    (λ i. as_mesh (eo i) (ek i))
    ∙ (λ i.
    mesh (filled (sym z.vertices i) (0 ∷ 0 ∷ []) (map (vertex_row c) (body c 0)))
    (filled (sym z.positions i) (zero_float ∷ zero_float ∷ zero_float ∷ []) (map position_row (body c 0)))
    (filled (sym z.arcs i) (0 ∷ 0 ∷ 0 ∷ 0 ∷ 0 ∷ 0 ∷ []) (map (arc_row c) (body c 1)))
    (filled (sym z.edges i) (0 ∷ 0 ∷ 0 ∷ []) (map (edge_row c) (body c 2)))
    (filled (sym z.faces i) (0 ∷ 0 ∷ 0 ∷ []) (map (face_row c) (body c 3)))
    c.counters)

-- a set of tables over one that is as long
pub set_same : (s d : Room) → SameSize s d → set_over s d ≡ s
unfolding set_over
set_same s d z =
    λ i.
    room (over-same s.vertices d.vertices z.vertices i) (over-same s.positions d.positions z.positions i)
    (over-same s.arcs d.arcs z.arcs i) (over-same s.edges d.edges z.edges i) (over-same s.faces d.faces z.faces i)

-- judged in the room: n is the mesh there
pub judged-unsound : (m n : Mesh) (t : Text) → n ≡ mesh_of m (contents_in t) → sound n ≡ false → taken 12 m ≡ judged m t
unfolding judged
judged-unsound m n t e s = let q : sound (mesh_of m (contents_in t)) ≡ false = ap sound (sym e) ∙ s in rw q

-- o is the room, y the tables with it copied over
pub judged-sound : (m : Mesh) (o y : Room) (k : List ℕ) (t : Text) → as_mesh o k ≡ mesh_of m (contents_in t) → sound (as_mesh o k) ≡ true
    → y ≡ set_over o (tables_of m) → SameSize o (tables_of m) → taken 0 (as_mesh y k) ≡ judged m t
unfolding judged
judged-sound m o y k t e s ey z =
    let q : sound (mesh_of m (contents_in t)) ≡ true = ap sound (sym e) ∙ s in
    ap (λ (r : Room). taken 0 (as_mesh r k)) (ey ∙ set_same o (tables_of m) z) ∙ ap (taken 0) e ∙ rw q
