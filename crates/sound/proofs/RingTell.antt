-- What full rings tell of the arcs that hold a face, and a sound mesh's rings are full. And what an edge's named arc tells of every arc.
use Prim.Native.Nat.{ℕ, zero, suc, ◌-◌, ◌*◌, ◌≤◌, ◌<◌}
use native.Mathlib.Omega.{arith}
use native.Mathlib.Decide.{ℕ_discrete}
use mathlib.Core.Path.{◌≡◌, refl, ap, sym, subst, ◌∙◌}
use mathlib.Core.Bool.{not, ◌&&◌, ◌||◌}
use mathlib.Core.Logic.{◌⊎◌, inl, inr}
use mathlib.Core.List.{[]}
use lib.ListN.{length, get_or}
use lib.Dec.{T, eqb, eqb→eq}
use lib.Ieee.Fits.{and_l, and_r, and_i}
use Rattle.rules.specs.Table.{cell, there, used, has, each_used, count}
use Rattle.rules.specs.Mesh.{Mesh, source, dest, next, previous, face, edge, edge_arc, edge_other, face_arc}
use Rattle.rules.specs.Link.{ring}
use Rattle.rules.specs.Sound.{Sound, unless_none, both_arcs, ends_differ, ends_exist, edge_joins, next_leaves, previous_arrives, face_exists, holders_on_ring, ring_sound, rings_sound}
use Rattle.rules.proofs.Scan.{every-passes}
use Rattle.rules.proofs.Sums.{or_else, or_r, all-at, every-has}
use Rattle.proved.specs.Demand.{Holds, holders, onward}
use Rattle.proved.specs.Facts.{IsArc, IsEdge, IsFace, IsVertex, BothArcs, RingFacts}
use Rattle.proved.proofs.Rows.{T_true, true-T, same-T, differ-T, if-so, cell_row, there-row, link_row, in_table, used-at, used_all, all_from}
use Rattle.proved.proofs.Around.{times_none, times_more, place-has}
use Rattle.proved.proofs.Ring.{RingSound, ring-parts, ring-facts}
use Rattle.proved.proofs.Totals.{arcs-at-most}
use Rattle.proved.proofs.Clauses as facts
use Rattle.sound.specs.Tests.{next_row, previous_row, loose_row}
use Rattle.sound.specs.Parts.{edge_ends, loose_links}
use Rattle.sound.specs.Rings.{ring_whole, ring_linked, rings_full}
use Rattle.sound.proofs.Rows as rows
use Rattle.sound.proofs.Counting.{sound-whole, whole_parts, on-ring, counts-add, counts-show, faces-from}
use Rattle.sound.proofs.Joining.{at_least, joins-from}
use Rattle.sound.proofs.RingFull.{all-full, sum-full, full_from}

-- ---- one ring

module _ (m : Mesh) (f : ℕ) (s : RingSound m f) where
  abbrev told : RingFacts m f
  told = ring-facts m f s

  -- the arc after one that holds the face holds it too
  pub after : (x : ℕ) → Holds m f x → Holds m f (next m x)
  after x h = go (told.each-met x h)
    where
      go : (k : ℕ) × (k < holders m f) × (onward m f k ≡ x) → Holds m f (next m x)
      go (k, l, e) = at (ℕ_discrete (suc k) (holders m f))
        where
          step : onward m f (suc k) ≡ next m x
          step = times_more (next m) k (face_arc m f) ∙ ap (next m) e

          at : Dec (suc k ≡ holders m f) → Holds m f (next m x)
          at (yes q) =
              let z : onward m f 0 ≡ next m x = times_none (next m) (face_arc m f) ∙ sym told.returns ∙ ap (onward m f) (sym q) ∙ step in
              subst (λ (y : ℕ). Holds m f y) z (told.each_holds 0 (omega arith))
          at (no q) = subst (λ (y : ℕ). Holds m f y) step (told.each_holds (suc k) (omega arith))

  -- and it is the arc after some that holds it, which previous names
  pub before : (x : ℕ) → Holds m f x → (y : ℕ) × Holds m f y × (next m y ≡ x) × (previous m x ≡ y)
  before x h = go (told.each-met x h)
    where
      from : (j : ℕ) → j < holders m f → onward m f (suc j) ≡ x → (y : ℕ) × Holds m f y × (next m y ≡ x) × (previous m x ≡ y)
      from j l e =
          let z : next m (onward m f j) ≡ x = sym (times_more (next m) j (face_arc m f)) ∙ e in
          (onward m f j, told.each_holds j l, z, ap (previous m) (sym z) ∙ told.runs-back j l)

      go : (k : ℕ) × (k < holders m f) × (onward m f k ≡ x) → (y : ℕ) × Holds m f y × (next m y ≡ x) × (previous m x ≡ y)
      go (zero, l, e) =
          let j : ℕ = holders m f - 1 in
          let z : suc j ≡ holders m f = omega arith in
          from j (omega arith) (ap (onward m f) z ∙ told.returns ∙ sym (times_none (next m) (face_arc m f)) ∙ e)
      go (suc j, l, e) = from j (omega arith) e

  stands_on : (x : ℕ) → Holds m f x → T (has (ring m f) x)
  unfolding holders_on_ring
  stands_on x h =
      if-so (eqb (face m x) f) (has (ring m f) x) (used-at (λ y. not (eqb (face m y) f) || has (ring m f) y) m.arcs s.holders-on-ring x h.exists) (same-T (face m x) f h.its-face)

  -- each arc that holds the face ends where its next leaves
  pub leaves : T (ring_linked m f) → (x : ℕ) → Holds m f x → source m (next m x) ≡ dest m x
  unfolding ring_linked
  leaves t x h = eqb→eq _ _ (every-has (λ y. eqb (source m (next m y)) (dest m y)) (ring m f) t x (stands_on x h))

-- ---- all rings

module _ (m : Mesh) (t : T (rings_full m)) where
  whole-at : (f : ℕ) → IsFace m f → T (ring_whole m f)
  whole-at f u = and_l (ring_whole m f) (ring_linked m f) (used-at (λ y. ring_whole m y && ring_linked m y) m.faces (all-full m t) f u)

  linked-at : (f : ℕ) → IsFace m f → T (ring_linked m f)
  linked-at f u = and_r (ring_whole m f) (ring_linked m f) (used-at (λ y. ring_whole m y && ring_linked m y) m.faces (all-full m t) f u)

  all_whole : T (each_used (ring_whole m) m.faces)
  all_whole = used_all (ring_whole m) m.faces whole-at

  pub full-faces : T (face_exists m)
  full-faces = faces-from m all_whole (sum-full m t)

  pub full-rings : T (rings_sound m)
  full-rings = counts-show m full-faces all_whole (sum-full m t)

  ring-at : (f : ℕ) → IsFace m f → RingSound m f
  unfolding rings_sound
  ring-at f u = ring-parts m f (used-at (ring_sound m) m.faces full-rings f u)

  face-at : (x : ℕ) → IsArc m x → (face m x ≡ 0 → ⊥) → IsFace m (face m x)
  face-at = (facts.face-exists m).0 full-faces

  -- arcs without a face were looked at one by one
  module _ (loose : T (loose_links m)) where
    loose_at : (x : ℕ) → IsArc m x → face m x ≡ 0 → T (next_row m.arcs (get_or m.arcs (x - 1) [])) × T (previous_row m.arcs (get_or m.arcs (x - 1) []))
    unfolding loose_links loose_row
    loose_at x u z =
        let b = in_table m.arcs x u in
        let k : ℕ = x - 1 in
        let r = get_or m.arcs k [] in
        let e : get_or r 4 0 ≡ 0 = sym (cell_row m.arcs k 4) ∙ ap (face m) (link_row x b.0) ∙ z in
        let h = all-at (λ i. loose_row m.arcs (get_or m.arcs i [])) (length m.arcs) loose k (omega arith) in
        let p = or_else (not (eqb (get_or r 4 0) 0)) (next_row m.arcs r && previous_row m.arcs r) h (subst (λ (y : ℕ). T (not (not (eqb y 0)))) (sym e) tt) in
        (and_l (next_row m.arcs r) (previous_row m.arcs r) p, and_r (next_row m.arcs r) (previous_row m.arcs r) p)

    row-used : (x : ℕ) → IsArc m x → T (used (get_or m.arcs (x - 1) []))
    row-used x u = subst T (there-row m.arcs (x - 1)) (subst (λ (y : ℕ). IsArc m y) (sym (link_row x (in_table m.arcs x u).0)) u)

    cell_at : (x c : ℕ) → IsArc m x → get_or (get_or m.arcs (x - 1) []) c 0 ≡ cell m.arcs x c
    cell_at x c u = sym (cell_row m.arcs (x - 1) c) ∙ ap (λ (y : ℕ). cell m.arcs y c) (link_row x (in_table m.arcs x u).0)

    loose-next : (x : ℕ) → IsArc m x → face m x ≡ 0 → T (unless_none (next m x) (there m.arcs (next m x) && eqb (source m (next m x)) (dest m x)))
    unfolding next_row
    loose-next x u z =
        let r = get_or m.arcs (x - 1) [] in
        let n = get_or r 2 0 in
        rw (← cell_at x 2 u, ← cell_at x 1 u) (if-so (used r) (unless_none n (there m.arcs n && eqb (cell m.arcs n 0) (get_or r 1 0))) (loose_at x u z).0 (row-used x u))

    loose-previous : (x : ℕ) → IsArc m x → face m x ≡ 0 → T (unless_none (previous m x) (there m.arcs (previous m x) && eqb (dest m (previous m x)) (source m x)))
    unfolding previous_row
    loose-previous x u z =
        let r = get_or m.arcs (x - 1) [] in
        let n = get_or r 3 0 in
        rw (← cell_at x 3 u, ← cell_at x 0 u) (if-so (used r) (unless_none n (there m.arcs n && eqb (cell m.arcs n 1) (get_or r 0 0))) (loose_at x u z).1 (row-used x u))

    pub full-next : T (next_leaves m)
    full-next = (facts.next-leaves m).1 (λ x u nz. go x u nz (ℕ_discrete (face m x) 0))
      where
        go : (x : ℕ) → IsArc m x → (next m x ≡ 0 → ⊥) → Dec (face m x ≡ 0) → IsArc m (next m x) × (source m (next m x) ≡ dest m x)
        go x u nz (yes z) =
            (facts.test-unless (next m x) (there m.arcs (next m x) && eqb (source m (next m x)) (dest m x)) (facts.test-and (there m.arcs (next m x)) (eqb (source m (next m x)) (dest m x)) facts.itself (facts.test-same (source m (next m x)) (dest m x)))).0 (loose-next x u z) nz
        go x u nz (no z) =
            let f = face-at x u z in
            let h : Holds m (face m x) x = record { exists = u; its-face = refl } in
            ((after m (face m x) (ring-at (face m x) f) x h).exists, leaves m (face m x) (ring-at (face m x) f) (linked-at (face m x) f) x h)

    pub full-previous : T (previous_arrives m)
    full-previous = (facts.previous-arrives m).1 (λ x u nz. go x u nz (ℕ_discrete (face m x) 0))
      where
        go : (x : ℕ) → IsArc m x → (previous m x ≡ 0 → ⊥) → Dec (face m x ≡ 0) → IsArc m (previous m x) × (dest m (previous m x) ≡ source m x)
        go x u nz (yes z) =
            (facts.test-unless (previous m x) (there m.arcs (previous m x) && eqb (dest m (previous m x)) (source m x)) (facts.test-and (there m.arcs (previous m x)) (eqb (dest m (previous m x)) (source m x)) facts.itself (facts.test-same (dest m (previous m x)) (source m x)))).0 (loose-previous x u z) nz
        go x u nz (no z) = from (before m (face m x) r x (record { exists = u; its-face = refl }))
          where
            f : IsFace m (face m x)
            f = face-at x u z

            r : RingSound m (face m x)
            r = ring-at (face m x) f

            from : (y : ℕ) × Holds m (face m x) y × (next m y ≡ x) × (previous m x ≡ y) → IsArc m (previous m x) × (dest m (previous m x) ≡ source m x)
            from (y, h, e, q) =
                (subst (λ (w : ℕ). IsArc m w) (sym q) h.exists, ap (dest m) q ∙ sym (leaves m (face m x) r (linked-at (face m x) f) y h) ∙ ap (source m) e)

-- ---- a sound mesh

module _ (m : Mesh) (s : Sound m) where
  ring_of : (f : ℕ) → IsFace m f → T (ring_sound m f)
  unfolding rings_sound
  ring_of f u = used-at (ring_sound m) m.faces s.rings-sound f u

  linked_of : (f : ℕ) → IsFace m f → T (ring_linked m f)
  unfolding ring_linked
  linked_of f u = true-T (every-passes (λ x. eqb (source m (next m x)) (dest m x)) (ring m f) 0 (λ k l. T_true _ (at (get_or (ring m f) k 0) (place-has (ring m f) k l))))
    where
      at : (x : ℕ) → T (has (ring m f) x) → T (eqb (source m (next m x)) (dest m x))
      at x i =
          let h = on-ring m f (whole_parts m f (sound-whole m f (ring_of f u))) x i in
          let n = in_table m.arcs (next m x) (after m f (ring-parts m f (ring_of f u)) x h).exists in
          same-T _ _ ((facts.next-leaves m).0 s.next-leaves x h.exists (λ z. let y : ⊥ = omega arith in y)).1

  pub sound-full : T (rings_full m)
  sound-full =
      full_from m
      (used_all (λ f. ring_whole m f && ring_linked m f) m.faces (λ f u. and_i (ring_whole m f) (ring_linked m f) (sound-whole m f (ring_of f u)) (linked_of f u)))
      (counts-add m s.face-exists s.rings-sound)

  pub sound-loose : T (loose_links m)
  unfolding loose_links loose_row
  sound-loose = all_from (λ i. loose_row m.arcs (get_or m.arcs i [])) (length m.arcs) (λ k l.
      let r = get_or m.arcs k [] in
      or_r (not (eqb (get_or r 4 0) 0)) (next_row m.arcs r && previous_row m.arcs r) (and_i (next_row m.arcs r) (previous_row m.arcs r) (all-at (λ i. next_row m.arcs (get_or m.arcs i [])) (length m.arcs) (subst T (rows.next-leaves m) s.next-leaves) k l) (all-at (λ i. previous_row m.arcs (get_or m.arcs i [])) (length m.arcs) (subst T (rows.previous-arrives m) s.previous-arrives) k l)))

  pub sound-ends : T (edge_ends m)
  unfolding edge_ends
  sound-ends =
      used_all (λ e. not (eqb (source m (edge_arc m e)) (dest m (edge_arc m e))) && (there m.vertices (source m (edge_arc m e)) && there m.vertices (dest m (edge_arc m e)))) m.edges
      (λ e u.
      let x : ℕ = edge_arc m e in
      let b = ((facts.both-arcs m).0 s.both-arcs e u).first-exists in
      let v = (facts.ends-exist m).0 s.ends-exist x b in
      and_i (not (eqb (source m x) (dest m x))) _ (differ-T _ _ ((facts.ends-differ m).0 s.ends-differ x b)) (and_i (there m.vertices (source m x)) (there m.vertices (dest m x)) v.0 v.1))

-- ---- the ends of every arc, from those of the arcs that edges name

module _ (m : Mesh) (both : T (both_arcs m)) (ends : T (edge_ends m)) where
  ends_at : (e : ℕ) → IsEdge m e → (source m (edge_arc m e) ≡ dest m (edge_arc m e) → ⊥) × (IsVertex m (source m (edge_arc m e)) × IsVertex m (dest m (edge_arc m e)))
  unfolding edge_ends
  ends_at e u =
      let x : ℕ = edge_arc m e in
      let d = not (eqb (source m x) (dest m x)) in
      let v = there m.vertices (source m x) in
      let w = there m.vertices (dest m x) in
      (facts.test-and d (v && w) (facts.test-differ (source m x) (dest m x)) (facts.test-and v w facts.itself facts.itself)).0 (used-at (λ e. not (eqb (source m (edge_arc m e)) (dest m (edge_arc m e))) && (there m.vertices (source m (edge_arc m e)) && there m.vertices (dest m (edge_arc m e)))) m.edges ends e u)

  -- as many arcs as edges name
  pub all_join : count used m.arcs ≡ 2 * count used m.edges → T (edge_joins m)
  all_join = joins-from m ((facts.both-arcs m).0 both) (λ e u. (ends_at e u).0)

  pub named-arcs : 2 * count used m.edges ≤ count used m.arcs
  named-arcs = at_least m ((facts.both-arcs m).0 both) (λ e u. (ends_at e u).0)

  abbrev Ends : ℕ → Type 0
  Ends x = (source m x ≡ dest m x → ⊥) × (IsVertex m (source m x) × IsVertex m (dest m x))

  ends_of : T (edge_joins m) → (x : ℕ) → IsArc m x → Ends x
  ends_of joins x u = go j.1
    where
      j : IsEdge m (edge m x) × ((edge_arc m (edge m x) ≡ x) ⊎ (edge_other m (edge m x) ≡ x))
      j = (facts.edge-joins m).0 joins x u

      b : BothArcs m (edge m x)
      b = (facts.both-arcs m).0 both (edge m x) j.0

      n : Ends (edge_arc m (edge m x))
      n = ends_at (edge m x) j.0

      go : (edge_arc m (edge m x) ≡ x) ⊎ (edge_other m (edge m x) ≡ x) → Ends x
      go (inl q) = subst Ends q n
      go (inr q) =
          let p : source m (edge_arc m (edge m x)) ≡ dest m x = b.leaves-where-ends ∙ ap (dest m) q in
          let r : dest m (edge_arc m (edge m x)) ≡ source m x = b.ends-where-leaves ∙ ap (source m) q in
          (λ e. n.0 (p ∙ sym e ∙ sym r), (subst (λ (w : ℕ). IsVertex m w) r n.1.1, subst (λ (w : ℕ). IsVertex m w) p n.1.0))

  pub all-differ : T (edge_joins m) → T (ends_differ m)
  all-differ joins = (facts.ends-differ m).1 (λ x u. (ends_of joins x u).0)

  pub all-exist : T (edge_joins m) → T (ends_exist m)
  all-exist joins = (facts.ends-exist m).1 (λ x u. (ends_of joins x u).1)

-- ---- a sound mesh has twice as many arcs as edges

pub sound-twice : (m : Mesh) → Sound m → count used m.arcs ≡ 2 * count used m.edges
sound-twice m s = omega (arith, arcs-at-most m s, named-arcs m s.both-arcs (sound-ends m s))
