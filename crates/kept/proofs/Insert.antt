-- Any accepted face insert whose need is met, into a mesh of which every clause of Sound holds but perhaps that on rings, as in the middle of
-- an edit: these clauses are kept, and the new face has a sound ring. So answer 8 means that a face that was there lost its ring.
use Prim.Native.Nat.{ℕ, ◌<◌}
use native.Mathlib.Omega.{arith}
use mathlib.Core.Path.{◌≡◌, refl, ap, sym, subst, ◌∙◌}
use mathlib.Core.List.{List, []}
use mathlib.Core.Logic.{◌⊎◌, inl, inr}
use lib.ListN.{length}
use lib.Dec.{T}
use Rattle.rules.specs.Table.{Table, there, free_row}
use Rattle.rules.specs.Mesh.{Mesh, mesh, source, dest, face_kind, counted}
use Rattle.rules.specs.Insert.{arc_at, edges_in, new_face, interior, exterior, put_face}
use Rattle.rules.specs.Call.{insert_need}
use Rattle.proved.proofs.Rows.{in_table}
use Rattle.proved.specs.Facts.{SoundFacts, RingFacts, IsFace, IsArc}
use Rattle.kept.specs.Frame.{AllButRings, Took, ThreeCounters, Met, RoomForFace, Linked}
use Rattle.kept.specs.Perimeter.{ListsLeave, Perimeter, corner, following, Inside, Inserted, Outside, Reached}
use Rattle.kept.proofs.Free.{there-cases}
use Rattle.kept.proofs.Links.{OtherFaces, relinked-kept, relinked-sound}
use Rattle.kept.proofs.EdgesIn.{EdgesUpTo, edges-in, grown-vertex, grown-arc}
use Rattle.kept.proofs.Find.{arc-back}
use Rattle.kept.proofs.Opposite.{found-is}
use Rattle.kept.proofs.Interior.{Joined, pair-arc, inside}
use Rattle.kept.proofs.Exterior.{inserted}
use Rattle.kept.proofs.Lists.{lists-stay}
use Rattle.kept.proofs.Reach.{reach}
use Rattle.kept.proofs.NewRing.{new-ring}
use Rattle.kept.proofs.Face.{edges_room, face-room, face_row, with_face, new-face-is, face-took, unheld, faces-after}

-- ---- behind the edges

module _ (m : Mesh) (s : AllButRings m) (per : List ℕ) (p : Perimeter m per) (j : Joined m per) (r : RoomForFace m) (mark : ℕ) where
  -- the new face's link, and the faces and counters with it
  abbrev pub new_face_link : ℕ
  new_face_link = free_row m.faces

  abbrev pub new_faces : Table
  new_faces = with_face m s r (arc_at m per 0) mark

  abbrev pub new_counters : List ℕ
  new_counters = counted m.counters face_kind

  -- the mesh with these, and with the arcs t
  abbrev pub result : Table → Mesh
  result t = mesh m.vertices m.positions t m.edges new_faces new_counters

  pub faces-took : Took m.faces new_faces new_face_link (face_row m s r (arc_at m per 0) mark)
  faces-took = face-took m s r (arc_at m per 0) mark

  module _ (t₀ : Table) (h : Inside m per new_face_link t₀) (t : Table) (linked : Linked m t) (out : Outside m per t₀ t) where
    pub insert-whole : Inserted m per new_face_link t
    insert-whole = inserted m s per p j new_face_link faces-took.some t₀ h [] t out

    pub insert-faces : OtherFaces m t new_faces new_counters
    insert-faces = faces-after m s r (arc_at m per 0) mark per t insert-whole

    -- the new face's ring
    pub insert-ring : RingFacts (result t) new_face_link
    insert-ring = new-ring m s per p j new_face_link t insert-whole (unheld m s r (arc_at m per 0) mark) (result t) refl (faces-took.row 1)

    -- every clause but rings
    pub insert-base : AllButRings (result t)
    insert-base = relinked-kept m s t linked new_faces new_counters insert-faces

    -- sound, if the rings that were there are
    pub insert-sound : ((g : ℕ) → IsFace m g → RingFacts (result t) g) → SoundFacts (result t)
    insert-sound rings = relinked-sound m s t linked new_faces new_counters insert-faces (λ g u. go g (there-cases faces-took g u))
      where
        go : (g : ℕ) → (g ≡ new_face_link) ⊎ IsFace m g → RingFacts (result t) g
        go g (inl e) = subst (RingFacts (result t)) (sym e) insert-ring
        go g (inr u) = rings g u

  -- the record and the interior are in
  pub insert-inside : (lists : List (List ℕ)) → (t₀ : Table) × (exterior per lists (interior per new_face_link (new_face m (arc_at m per 0) mark)) ≡ exterior per lists (result t₀)) × Inside m per new_face_link t₀
  insert-inside lists =
      let i = inside m s per p j new_face_link new_faces new_counters in
      (i.0, ap (λ (a : Mesh). exterior per lists (interior per new_face_link a)) (new-face-is m s r (arc_at m per 0) mark) ∙ ap (exterior per lists) i.1, i.2)

-- ---- the whole insert, by any lists of arcs that leave the perimeter's vertices

module _ (m : Mesh) (s : AllButRings m) (per : List ℕ) (p : Perimeter m per) (k : ThreeCounters m) (w : Met m (insert_need m per)) where
  abbrev pub with_edges : Mesh
  with_edges = edges_in per m

  pub edges-up : EdgesUpTo m per (length per) with_edges
  edges-up = edges-in m per p (edges_room m per k w) s

  pub perimeter-up : Perimeter with_edges per
  perimeter-up =
      record { at-least-3 = p.at-least-3; at-most-64 = p.at-most-64; vertices = λ i l. grown-vertex edges-up.grown (corner per i) (p.vertices i l); differ = p.differ }

  pub room-up : RoomForFace with_edges
  room-up = face-room m with_edges per k w edges-up.grown

  -- an arc of the perimeter that was there was the pair's arc then
  pub edges-pair-before : (x i : ℕ) → IsArc m x → i < length per → x ≡ arc_at with_edges per i → arc_at m per i ≡ x
  unfolding arc_at
  edges-pair-before x i u l e =
      let g = edges-up.grown in
      let j = pair-arc with_edges edges-up.base per perimeter-up edges-up.joined i l in
      found-is m s (corner per i) (following per i) x (record { exists = u; leaves = sym (g.arcs-stay x 0 u) ∙ ap (source with_edges) e ∙ j.leaves; arrives = sym (g.arcs-stay x 1 u) ∙ ap (dest with_edges) e ∙ j.arrives })

  -- and the pair's arc, where there was one, is it still
  pub edges-pair-after : (x i : ℕ) → IsArc m x → i < length per → x ≡ arc_at m per i → arc_at with_edges per i ≡ x
  unfolding arc_at
  edges-pair-after x i u l e =
      let g = edges-up.grown in
      let b = arc-back m.arcs (corner per i) (following per i) (λ z. let t = in_table m.arcs x u in omega arith) in
      found-is with_edges edges-up.base (corner per i) (following per i) x
      (record { exists = grown-arc g x u; leaves = g.arcs-stay x 0 u ∙ ap (source m) e ∙ b.leaves; arrives = g.arcs-stay x 1 u ∙ ap (dest m) e ∙ b.arrives })

  module _ (lists : List (List ℕ)) (leave : ListsLeave m per lists) (mark : ℕ) where
    abbrev pub result_up : Table → Mesh
    result_up t = result with_edges edges-up.base per perimeter-up edges-up.joined room-up mark t

    -- what an insert leaves
    pub record Leaves : Type 0 where
      pub inside-arcs : Table
      pub arcs : Table
      pub is : put_face m per lists mark ≡ result_up arcs
      pub in-ring : Inside with_edges per (free_row with_edges.faces) inside-arcs
      pub reached : Reached with_edges per inside-arcs arcs

    pub leaves : Leaves
    unfolding put_face
    leaves =
        let i = insert-inside with_edges edges-up.base per perimeter-up edges-up.joined room-up mark lists in
        let took = faces-took with_edges edges-up.base per perimeter-up edges-up.joined room-up mark in
        let e = reach with_edges edges-up.base per perimeter-up edges-up.joined (free_row with_edges.faces) took.some i.0 i.2 lists (lists-stay m with_edges per lists edges-up.grown leave) (new_faces with_edges edges-up.base per perimeter-up edges-up.joined room-up mark) (new_counters with_edges edges-up.base per perimeter-up edges-up.joined room-up mark) in
        record { inside-arcs = i.0; arcs = e.0; is = i.1 ∙ e.1; in-ring = i.2; reached = e.2 }

    -- every clause but rings is kept
    pub insert-kept : AllButRings (put_face m per lists mark)
    insert-kept =
        subst AllButRings (sym leaves.is)
        (insert-base with_edges edges-up.base per perimeter-up edges-up.joined room-up mark leaves.inside-arcs leaves.in-ring leaves.arcs leaves.reached.linked leaves.reached.out)

    -- and the new face's ring is sound: so is the mesh, if the rings that were there are
    pub all-but-rings : ((g : ℕ) → IsFace m g → RingFacts (put_face m per lists mark) g) → SoundFacts (put_face m per lists mark)
    all-but-rings rings =
        subst SoundFacts (sym leaves.is)
        (insert-sound with_edges edges-up.base per perimeter-up edges-up.joined room-up mark leaves.inside-arcs leaves.in-ring leaves.arcs leaves.reached.linked leaves.reached.out
        (λ g u. subst (λ (a : Mesh). RingFacts a g) leaves.is (rings g (subst (λ (z : Table). T (there z g)) edges-up.grown.faces-stay u))))
