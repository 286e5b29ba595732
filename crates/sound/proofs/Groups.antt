-- The clauses of Sound by the tables that they go over, and the whole of Sound.
use Prim.Native.Nat.{ℕ, ◌*◌, ◌≤◌}
use native.Mathlib.Omega.{arith}
use mathlib.Core.Path.{◌≡◌, subst, ◌∙◌}
use mathlib.Core.List.{List, map}
use lib.ListN.{length, take}
use mathlib.Core.Bool.{Bool, true, false, ◌&&◌}
use lib.Dec.{T, eqb, eqb→eq}
use lib.Ieee.Fits.{and_l, and_r, and_i}
use Rattle.rules.specs.Table.{count, used}
use Rattle.rules.specs.Mesh.{Mesh, source, dest, next_key, vertex_kind, edge_kind, face_kind}
use Rattle.rules.specs.Sound.{Sound, sound, within_limits, keys_differ, keys_below, both_arcs, ends_differ, ends_exist, pairs_differ, edge_joins, leads_out, unused_zero, positions_zero, rest_zero, all_finite}
use Rattle.rules.proofs.Sums.{same_test}
use Rattle.proved.proofs.Rows.{T_true, true-T, same-T}
use Rattle.proved.proofs.SoundParts.{parts, whole, sizes}
use Rattle.proved.specs.Facts.{IsArc, IsVertex}
use Rattle.proved.proofs.Clauses as facts
use Rattle.proved.proofs.Edges.{Edges}
use Rattle.sound.specs.Parts.{below, vertices_sound, positions_sound, edge_ends, loose_links, arcs_sound, edges_sound, faces_sound, rows_sound}
use Rattle.names.specs.Names as names
use Rattle.sound.specs.Names.{edge_name}
use Rattle.sound.specs.Rings.{rings_full}
use Rattle.sound.proofs.Named.{pairs-differ}
use Rattle.sound.proofs.RingTell.{full-faces, full-rings, full-next, full-previous, sound-full, sound-loose, sound-ends, sound-twice, all_join, all-differ, all-exist}

-- what a sound mesh has, and this one has not
pub lacks : (m : Mesh) (b : Bool) → (T (sound m) → T b) → b ≡ false → false ≡ sound m
lacks m b f e = same_test false (sound m) (λ z. absurd z) (λ t. subst T e (f t))

-- all that sizes and rows tell
pub record RowsTell (m : Mesh) : Type 0 where
  pub within-limits : T (within_limits m)
  pub keys_below : T (keys_below m)
  pub both-arcs : T (both_arcs m)
  pub edge-ends : T (edge_ends m)
  pub twice : T (eqb (count used m.arcs) (2 * count used m.edges))
  pub leads-out : T (leads_out m)
  pub loose-links : T (loose_links m)
  pub rest-zero : T (rest_zero m)
  pub all-finite : T (all_finite m)

module _ (m : Mesh) where
  abbrev two_each : Bool
  two_each = eqb (count used m.arcs) (2 * count used m.edges)

  abbrev vertex_keys : Bool
  vertex_keys = below m.vertices (next_key m vertex_kind)

  abbrev edge_keys : Bool
  edge_keys = below m.edges (next_key m edge_kind)

  abbrev face_keys : Bool
  face_keys = below m.faces (next_key m face_kind)

  pub rows_tell : T (rows_sound m) → RowsTell m
  unfolding rows_sound vertices_sound positions_sound arcs_sound edges_sound faces_sound keys_below rest_zero
  rows_tell h =
      let h₁ = and_r (within_limits m) _ h in
      let v = and_l (vertices_sound m) _ h₁ in
      let h₂ = and_r (vertices_sound m) _ h₁ in
      let p = and_l (positions_sound m) _ h₂ in
      let h₃ = and_r (positions_sound m) _ h₂ in
      let f = and_l (faces_sound m) _ h₃ in
      let h₄ = and_r (faces_sound m) _ h₃ in
      let e = and_l (edges_sound m) _ h₄ in
      let a = and_r (edges_sound m) _ h₄ in
      let v₁ = and_r (unused_zero m.vertices) (vertex_keys && leads_out m) v in
      let e₁ = and_r (unused_zero m.edges) (edge_keys && (both_arcs m && edge_ends m)) e in
      let e₂ = and_r edge_keys (both_arcs m && edge_ends m) e₁ in
      let a₁ = and_r (unused_zero m.arcs) (loose_links m && two_each) a in
      record {
        within-limits = and_l (within_limits m) _ h;
        keys_below = and_i vertex_keys (edge_keys && face_keys) (and_l vertex_keys (leads_out m) v₁) (and_i edge_keys face_keys (and_l edge_keys (both_arcs m && edge_ends m) e₁) (and_r (unused_zero m.faces) face_keys f));
        both-arcs = and_l (both_arcs m) (edge_ends m) e₂;
        edge-ends = and_r (both_arcs m) (edge_ends m) e₂;
        twice = and_r (loose_links m) two_each a₁;
        leads-out = and_r vertex_keys (leads_out m) v₁;
        loose-links = and_l (loose_links m) two_each a₁;
        rest-zero =
            and_i (unused_zero m.vertices) _ (and_l (unused_zero m.vertices) (vertex_keys && leads_out m) v)
            (and_i (unused_zero m.arcs) _ (and_l (unused_zero m.arcs) (loose_links m && two_each) a)
            (and_i (unused_zero m.edges) _ (and_l (unused_zero m.edges) (edge_keys && (both_arcs m && edge_ends m)) e)
            (and_i (unused_zero m.faces) (positions_zero m) (and_l (unused_zero m.faces) face_keys f) (and_l (positions_zero m) (all_finite m) p))));
        all-finite = and_r (positions_zero m) (all_finite m) p;
      }

  -- a sound mesh has it all
  pub rows_of : T (sound m) → T (rows_sound m)
  unfolding rows_sound vertices_sound positions_sound arcs_sound edges_sound faces_sound keys_below rest_zero
  rows_of t =
      let s = parts m t in
      let k = s.keys_below in
      let k₁ = and_r vertex_keys (edge_keys && face_keys) k in
      let z = s.rest-zero in
      let z₁ = and_r (unused_zero m.vertices) _ z in
      let z₂ = and_r (unused_zero m.arcs) _ z₁ in
      let z₃ = and_r (unused_zero m.edges) _ z₂ in
      and_i (within_limits m) _ s.within-limits
      (and_i (vertices_sound m) _ (and_i (unused_zero m.vertices) _ (and_l (unused_zero m.vertices) _ z) (and_i vertex_keys (leads_out m) (and_l vertex_keys (edge_keys && face_keys) k) s.leads-out))
      (and_i (positions_sound m) _ (and_i (positions_zero m) (all_finite m) (and_r (unused_zero m.faces) (positions_zero m) z₃) s.all-finite)
      (and_i (faces_sound m) _ (and_i (unused_zero m.faces) face_keys (and_l (unused_zero m.faces) (positions_zero m) z₃) (and_r edge_keys face_keys k₁))
      (and_i (edges_sound m) (arcs_sound m) (and_i (unused_zero m.edges) _ (and_l (unused_zero m.edges) _ z₂) (and_i edge_keys (both_arcs m && edge_ends m) (and_l edge_keys face_keys k₁) (and_i (both_arcs m) (edge_ends m) s.both-arcs (sound-ends m s))))
      (and_i (unused_zero m.arcs) _ (and_l (unused_zero m.arcs) _ z₁) (and_i (loose_links m) two_each (sound-loose m s) (same-T _ _ (sound-twice m s))))))))

  -- and each table of it
  pub vertices-of : T (sound m) → T (vertices_sound m)
  unfolding rows_sound
  vertices-of t = and_l (vertices_sound m) _ (and_r (within_limits m) _ (rows_of t))

  pub positions-of : T (sound m) → T (positions_sound m)
  unfolding rows_sound
  positions-of t = and_l (positions_sound m) _ (and_r (vertices_sound m) _ (and_r (within_limits m) _ (rows_of t)))

  rows-faces : T (sound m) → T (faces_sound m && (edges_sound m && arcs_sound m))
  unfolding rows_sound
  rows-faces t = and_r (positions_sound m) _ (and_r (vertices_sound m) _ (and_r (within_limits m) _ (rows_of t)))

  pub edges-of : T (sound m) → T (edges_sound m)
  edges-of t = and_l (edges_sound m) (arcs_sound m) (and_r (faces_sound m) _ (rows-faces t))

  pub arcs-of : T (sound m) → T (arcs_sound m)
  arcs-of t = and_r (edges_sound m) (arcs_sound m) (and_r (faces_sound m) _ (rows-faces t))

  pub faces-of : T (sound m) → T (faces_sound m && rings_full m)
  faces-of t = and_i (faces_sound m) (rings_full m) (and_l (faces_sound m) _ (rows-faces t)) (sound-full m (parts m t))

  -- one table after the other
  pub rows_all : within_limits m ≡ true → vertices_sound m ≡ true → positions_sound m ≡ true → edges_sound m ≡ true → arcs_sound m ≡ true → (faces_sound m && rings_full m) ≡ true → (rows_sound m ≡ true) × (rings_full m ≡ true)
  unfolding rows_sound
  rows_all l v p e a f = let h = T_true (faces_sound m) (and_l (faces_sound m) (rings_full m) (true-T f)) in (rw (l, v, p, h, e, a), T_true (rings_full m) (and_r (faces_sound m) (rings_full m) (true-T f)))

  pub pairs_of : T (sound m) → T (pairs_differ m)
  pairs_of t = (parts m t).pairs-differ

  module _ (h : rows_sound m ≡ true) where
    abbrev told : RowsTell m
    told = rows_tell (true-T h)

    pub limits-kept : within_limits m ≡ true
    limits-kept = T_true (within_limits m) told.within-limits

    joins : T (edge_joins m)
    joins = all_join m told.both-arcs told.edge-ends (eqb→eq _ _ told.twice)

    ends-differ : T (ends_differ m)
    ends-differ = all-differ m told.both-arcs told.edge-ends joins

    ends-exist : T (ends_exist m)
    ends-exist = all-exist m told.both-arcs told.edge-ends joins

    -- what is known of edges
    pub edges-told : Edges m
    edges-told =
        record { both-arcs = (facts.both-arcs m).0 told.both-arcs; ends-differ = (facts.ends-differ m).0 ends-differ; edge-exists = λ x u. ((facts.edge-joins m).0 joins x u).0; edge-names = λ x u. ((facts.edge-joins m).0 joins x u).1 }

    pub ends-told : (x : ℕ) → IsArc m x → IsVertex m (source m x) × IsVertex m (dest m x)
    ends-told = (facts.ends-exist m).0 ends-exist

    -- the names of the edges tell whether edges join different pairs
    pub pairs-told : (list : List ℕ) → take (length m.edges) list ≡ map (edge_name m.arcs) m.edges → (r : Bool) → (length m.edges ≤ 8192 → r ≡ names.differ list (length m.edges)) → r ≡ pairs_differ m
    pairs-told list named r e =
        let s = sizes m told.within-limits in
        e s.edge-rows ∙ pairs-differ m edges-told ends-told s.vertex-rows list named (omega arith)

    -- the rest holds: then the last clause decides
    pub decides : rings_full m ≡ true → pairs_differ m ≡ true → keys_differ m ≡ sound m
    decides g q = same_test (keys_differ m) (sound m) (λ t. whole m (all t)) (λ t. (parts m t).keys-differ)
      where
        all : T (keys_differ m) → Sound m
        all t =
            record {
              within-limits = told.within-limits;
              keys-differ = t;
              keys_below = told.keys_below;
              both-arcs = told.both-arcs;
              ends-differ = ends-differ;
              ends-exist = ends-exist;
              pairs-differ = true-T q;
              edge-joins = joins;
              leads-out = told.leads-out;
              next-leaves = full-next m (true-T g) told.loose-links;
              previous-arrives = full-previous m (true-T g) told.loose-links;
              face-exists = full-faces m (true-T g);
              rings-sound = full-rings m (true-T g);
              rest-zero = told.rest-zero;
              all-finite = told.all-finite;
            }
