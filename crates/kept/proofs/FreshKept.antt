-- A face insert on vertices that no arc touches keeps a mesh sound. So it is never answered with 8. It makes an edge for each key, and links
-- its border in a ring.
use Prim.Native.Nat.{ℕ, zero, suc, ◌<◌}
use native.Mathlib.Omega.{arith}
use mathlib.Core.Path.{◌≡◌, refl, ap, sym, subst, ◌∙◌}
use mathlib.Core.Bool.{not}
use mathlib.Core.List.{List, []}
use mathlib.Core.Logic.{◌⊎◌, inl, inr}
use native.Mathlib.Decide.{ℕ_discrete}
use lib.ListN.{length, get_or}
use lib.Dec.{T, eqb, leb→le}
use Rattle.rules.specs.declared.Edit.TheVariants.{FaceInsert}
use Rattle.rules.specs.Table.{Table, cell, there, free_row, after, sum_below}
use Rattle.rules.specs.Mesh.{Mesh, Room, ring_limit, source, face, leading, opposite_of, find_arc}
use Rattle.rules.specs.Link.{outgoing}
use Rattle.rules.specs.Insert.{arc_at, edges_in, new_face, interior, exterior, lists_of, put_face, insert_work}
use Rattle.rules.specs.Step.{told}
use Rattle.rules.specs.Call.{given, checks, need, pairs_without, insert_need, work, by_keys, face_insert}
use Rattle.rules.proofs.Walks.{walk_none}
use Rattle.proved.specs.Demand.{Holds}
use Rattle.proved.specs.Facts.{SoundFacts, RingFacts, IsArc, IsFace}
use Rattle.proved.proofs.Rows.{in_table}
use Rattle.proved.proofs.Clauses.{facts, sound-from}
use Rattle.kept.specs.Frame.{AllButRings, Took, RingStays, ThreeCounters, Met, RoomForFace}
use Rattle.kept.specs.Perimeter.{Perimeter, corner, following, Blank, Inside, outer, Inserted, Fresh, Border}
use Rattle.kept.proofs.Base.{but-rings}
use Rattle.kept.proofs.Free.{old-differs, old-cell}
use Rattle.kept.proofs.Counted.{met}
use Rattle.kept.proofs.Rings.{ring-stays}
use Rattle.kept.proofs.Round.{after-low}
use Rattle.kept.proofs.Opposite.{ends-opposite}
use Rattle.kept.proofs.Find.{arc-back}
use borrow.Author.Tests.{eq-eqb}
use Rattle.kept.proofs.EdgesIn.{need_at, EdgesUpTo}
use Rattle.kept.proofs.Interior.{Joined, pair-arc, pair_found}
use Rattle.kept.proofs.Exterior.{outer-is, outer-leaves}
use Rattle.kept.proofs.NewRing.{among}
use Rattle.kept.proofs.Face.{face_row}
use Rattle.kept.proofs.Insert.{new_faces, new_counters, result, faces-took, insert-whole, insert-sound, insert-inside, edges-up, perimeter-up, room-up}
use Rattle.kept.proofs.Fresh.{Bordered, bordered}
use Rattle.kept.proofs.Lists.{map_at}
use Rattle.kept.proofs.Passed.{passed, keys-perimeter, keys-fresh}
use Rattle.kept.specs.Reaches.{NoArcAt}
use Rattle.kept.proofs.Eight.{answer-zero, never-8}

-- ---- where all arcs of the perimeter and their opposites are new

module _ (m : Mesh) (s : AllButRings m) (rings : (g : ℕ) → IsFace m g → RingFacts m g) (per : List ℕ) (p : Perimeter m per) (j : Joined m per) (r : RoomForFace m) (inner : (i : ℕ) → i < length per → Blank m (arc_at m per i)) (outers : (i : ℕ) → i < length per → Blank m (outer m per i)) (lists : List (List ℕ)) (empty : (i : ℕ) → i < length per → get_or lists i [] ≡ []) (mark : ℕ) where
  abbrev f : ℕ
  f = free_row m.faces

  took : Took m.faces (new_faces m s per p j r mark) f (face_row m s r (arc_at m per 0) mark)
  took = faces-took m s per p j r mark

  module _ (t₀ : Table) (h : Inside m per f t₀) (t : Table) (b : Bordered m s per p j outers lists empty f took.some t₀ h t) where
    abbrev made : Mesh
    made = result m s per p j r mark t

    whole : Inserted m per f t
    whole = insert-whole m s per p j r mark t₀ h t b.linked b.out

    -- a face that was there keeps its ring: none of its arcs is new
    old-ring : (g : ℕ) → IsFace m g → RingStays m made g
    old-ring g u =
        record {
          first = old-cell took g 1 u;
          rows = b.linked.ends.rows;
          keeps = λ x c q. b.others-stay x c (λ i l e. none (sym q.its-face ∙ ap (face m) e ∙ (outers i l).no-face)) ∙ h.others-stay x c (λ i l e. none (sym q.its-face ∙ ap (face m) e ∙ (inner i l).no-face));
          no_more = λ x q. was x q (among (arc_at m per) (length per) x);
        }
      where
        none : g ≡ 0 → ⊥
        none z = let l = in_table m.faces g u in omega arith

        was : (x : ℕ) → Holds made g x → ((i : ℕ) × (i < length per) × (x ≡ arc_at m per i)) ⊎ ((i : ℕ) → i < length per → x ≡ arc_at m per i → ⊥) → Holds m g x
        was x q (inl w) = absurd (old-differs took g u (sym q.its-face ∙ ap (λ (z : ℕ). cell t z 4) w.2 ∙ whole.face-on w.0 w.1))
        was x q (inr o) =
            record { exists = subst (λ (z : ℕ). T (not (eqb z 0))) (b.linked.ends.source_stays x) q.exists; its-face = sym (whole.faces-stay x o) ∙ q.its-face }

    made-sound : SoundFacts made
    made-sound = insert-sound m s per p j r mark t₀ h t b.linked b.out (λ g u. ring-stays m made g (old-ring g u) (rings g u))

    -- the border, as the result has it
    same-outer : (i : ℕ) → outer made per i ≡ outer m per i
    same-outer i = ap (opposite_of t m.edges) (pair_found m s per p j made t b.linked.ends i) ∙ ends-opposite m t b.linked.ends (arc_at m per i)

    made-border : Border made per t
    made-border =
        record {
          next-round = λ i l. ap (λ (x : ℕ). cell t x 2) (same-outer (after (length per) i)) ∙ b.border.next-round i l ∙ sym (same-outer i);
          previous-round = λ i l. ap (λ (x : ℕ). cell t x 3) (same-outer i) ∙ b.border.previous-round i l ∙ sym (same-outer (after (length per) i));
        }

  -- the record, the interior and the exterior
  face-made : SoundFacts (exterior per lists (interior per f (new_face m (arc_at m per 0) mark))) × Border (exterior per lists (interior per f (new_face m (arc_at m per 0) mark))) per (exterior per lists (interior per f (new_face m (arc_at m per 0) mark))).arcs
  face-made =
      let i = insert-inside m s per p j r mark lists in
      let e = bordered m s per p j outers lists empty f took.some i.0 i.2 (new_faces m s per p j r mark) (new_counters m s per p j r mark) in
      subst (λ (a : Mesh). SoundFacts a × Border a per a.arcs) (sym (i.1 ∙ e.1)) (made-sound i.0 i.2 e.0 e.2, made-border i.0 i.2 e.0 e.2)

-- ---- on vertices that no arc touches

all_ones : (g : ℕ → ℕ) (n : ℕ) → ((i : ℕ) → i < n → g i ≡ 1) → sum_below g n ≡ n
unfolding sum_below
all_ones g zero h = refl
all_ones g (suc n) h = omega (arith, all_ones g n (λ i l. h i (omega arith)), h n (omega arith))

module _ (m : Mesh) (s : SoundFacts m) (per : List ℕ) (p : Perimeter m per) (fresh : Fresh m per) (k : ThreeCounters m) (w : Met m (insert_need m per)) where
  abbrev m₁ : Mesh
  m₁ = edges_in per m

  grown : EdgesUpTo m per (length per) m₁
  grown = edges-up m (but-rings m s) per p k w

  p₁ : Perimeter m₁ per
  p₁ = perimeter-up m (but-rings m s) per p k w

  rings₁ : (g : ℕ) → IsFace m₁ g → RingFacts m₁ g
  rings₁ g u = let h = subst (λ (z : Table). T (there z g)) grown.grown.faces-stay u in ring-stays m m₁ g (grown.rings-stay g h) (s.rings g h)

  -- an arc that leaves a perimeter vertex is new
  new-leaves : (x i : ℕ) → IsArc m₁ x → i < length per → source m₁ x ≡ corner per i → Blank m₁ x
  new-leaves x i u l e =
      (grown.grown.arcs-new x u (λ o. fresh x i o l (sym (grown.grown.arcs-stay x 0 o) ∙ e))).blank

  inner : (i : ℕ) → i < length per → Blank m₁ (arc_at m₁ per i)
  inner i l = let a = pair-arc m₁ grown.base per p₁ grown.joined i l in new-leaves (arc_at m₁ per i) i a.exists l a.leaves

  outers : (i : ℕ) → i < length per → Blank m₁ (outer m₁ per i)
  outers i l =
      new-leaves (outer m₁ per i) (after (length per) i) (outer-is m₁ grown.base per p₁ grown.joined i l).exists (after-low (length per) i l) (outer-leaves m₁ grown.base per p₁ grown.joined i l)

  -- the vertices have no leading arcs, so their lists are empty
  no-leading : (i : ℕ) → i < length per → leading m (corner per i) ≡ 0
  no-leading i l = go (ℕ_discrete (leading m (corner per i)) 0)
    where
      go : Dec (leading m (corner per i) ≡ 0) → leading m (corner per i) ≡ 0
      go (yes e) = e
      go (no n) = let h = s.leads-out (corner per i) (p.vertices i l) n in absurd (fresh (leading m (corner per i)) i h.0 l h.1)

  no-list : (i : ℕ) → i < length per → get_or (lists_of m per) i [] ≡ []
  unfolding lists_of outgoing
  no-list i l = map_at (outgoing m) per i 0 [] l ∙ rw (no-leading i l) (walk_none _ 0 _)

  -- every pair needs its edge
  pub fresh-need : pairs_without m per ≡ length per
  unfolding pairs_without arc_at
  fresh-need = all_ones (need_at m per) (length per) one
    where
      one : (i : ℕ) → i < length per → need_at m per i ≡ 1
      one i l = rw (eq-eqb (find_arc m (corner per i) (following per i)) 0 (none (ℕ_discrete (find_arc m (corner per i) (following per i)) 0)))
        where
          none : Dec (find_arc m (corner per i) (following per i) ≡ 0) → find_arc m (corner per i) (following per i) ≡ 0
          none (yes e) = e
          none (no n) = let b = arc-back m.arcs (corner per i) (following per i) n in absurd (fresh (find_arc m (corner per i) (following per i)) i b.exists l b.leaves)

  both : (mark : ℕ) → SoundFacts (put_face m per (lists_of m per) mark) × Border (put_face m per (lists_of m per) mark) per (put_face m per (lists_of m per) mark).arcs
  unfolding put_face
  both mark = face-made m₁ grown.base rings₁ per p₁ grown.joined (room-up m (but-rings m s) per p k w) inner outers (lists_of m per) no-list mark

  -- the insert keeps the mesh sound
  pub fresh_kept : (mark : ℕ) → SoundFacts (put_face m per (lists_of m per) mark)
  fresh_kept mark = (both mark).0

  -- and links its border in a ring
  pub fresh-border : (mark : ℕ) → Border (put_face m per (lists_of m per) mark) per (put_face m per (lists_of m per) mark).arcs
  fresh-border mark = (both mark).1

-- ---- the call

module _ (m : Mesh) (one two : Room) (keys : List ℕ) (mark : ℕ) (k : ThreeCounters m) (n : NoArcAt m keys) where
  -- (3) a face insert on vertices that no arc touches is never answered with 8, whatever tables, rooms, keys and mark it is given
  pub never-8-fresh : (told (face_insert m one two keys mark).answer).number ≡ 8 → ⊥
  unfolding face_insert checks work insert_work given need
  never-8-fresh =
      never-8 m (FaceInsert mark) keys one two
      (λ b.
      let s = facts m b.was-sound in
      let l = leb→le (length keys) ring_limit b.numbers-given in
      let q = passed m keys (by_keys m keys) b.checks-passed in
      sound-from (put_face m (by_keys m keys) (lists_of m (by_keys m keys)) mark) (fresh_kept m s (by_keys m keys) (keys-perimeter m keys l q) (keys-fresh m keys l q n) k (met m (insert_need m (by_keys m keys)) b.need-met) mark))

  -- and where it is accepted it makes as many edges as there are keys, and links the border in a ring
  pub fresh-insert : (told (face_insert m one two keys mark).answer).number ≡ 0 → (pairs_without m (by_keys m keys) ≡ length (by_keys m keys)) × Border (face_insert m one two keys mark).mesh (by_keys m keys) (face_insert m one two keys mark).mesh.arcs
  unfolding face_insert checks work insert_work given need
  fresh-insert h =
      let a = answer-zero m (FaceInsert mark) keys one two h in
      let s = facts m a.behind.was-sound in
      let l = leb→le (length keys) ring_limit a.behind.numbers-given in
      let q = passed m keys (by_keys m keys) a.behind.checks-passed in
      let per = by_keys m keys in
      let p = keys-perimeter m keys l q in
      let fr = keys-fresh m keys l q n in
      let w = met m (insert_need m per) a.behind.need-met in
      (fresh-need m s per p fr k w, subst (λ (r : Mesh). Border r per r.arcs) (sym a.is) (fresh-border m s per p fr k w mark))
