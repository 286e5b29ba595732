-- The test `sound` and the record `Sound` say the same; and the clauses of sizes and keys, taken apart.
use Prim.Native.Nat.{◌*◌}
use mathlib.Core.Bool.{◌&&◌}
use lib.ListN.{length}
use lib.Dec.{T, eqb, leb, leb→le, le→leb, eqb→eq}
use lib.Ieee.Fits.{and_l, and_r, and_i, eq→eqb}
use Rattle.rules.specs.Table.{distinct}
use Rattle.rules.specs.Mesh.{Mesh, vertex_limit, edge_limit, face_limit}
use Rattle.rules.specs.Sound.{Sound, sound, keys_of, within_limits, keys_differ, keys_below, both_arcs, ends_differ, ends_exist, pairs_differ, edge_joins, leads_out, next_leaves, previous_arrives, face_exists, rings_sound, rest_zero, all_finite}
use Rattle.proved.specs.Facts.{Sizes}

pub parts : (m : Mesh) → T (sound m) → Sound m
unfolding sound
parts m h =
    let h₁ = and_r (within_limits m) _ h in
    let h₂ = and_r (keys_differ m) _ h₁ in
    let h₃ = and_r (keys_below m) _ h₂ in
    let h₄ = and_r (both_arcs m) _ h₃ in
    let h₅ = and_r (ends_differ m) _ h₄ in
    let h₆ = and_r (ends_exist m) _ h₅ in
    let h₇ = and_r (pairs_differ m) _ h₆ in
    let h₈ = and_r (edge_joins m) _ h₇ in
    let h₉ = and_r (leads_out m) _ h₈ in
    let h₁₀ = and_r (next_leaves m) _ h₉ in
    let h₁₁ = and_r (previous_arrives m) _ h₁₀ in
    let h₁₂ = and_r (face_exists m) _ h₁₁ in
    let h₁₃ = and_r (rings_sound m) _ h₁₂ in
    record {
      within-limits = and_l (within_limits m) _ h;
      keys-differ = and_l (keys_differ m) _ h₁;
      keys_below = and_l (keys_below m) _ h₂;
      both-arcs = and_l (both_arcs m) _ h₃;
      ends-differ = and_l (ends_differ m) _ h₄;
      ends-exist = and_l (ends_exist m) _ h₅;
      pairs-differ = and_l (pairs_differ m) _ h₆;
      edge-joins = and_l (edge_joins m) _ h₇;
      leads-out = and_l (leads_out m) _ h₈;
      next-leaves = and_l (next_leaves m) _ h₉;
      previous-arrives = and_l (previous_arrives m) _ h₁₀;
      face-exists = and_l (face_exists m) _ h₁₁;
      rings-sound = and_l (rings_sound m) _ h₁₂;
      rest-zero = and_l (rest_zero m) _ h₁₃;
      all-finite = and_r (rest_zero m) _ h₁₃;
    }

pub whole : (m : Mesh) → Sound m → T (sound m)
unfolding sound
whole m s =
    and_i (within_limits m) _ s.within-limits
    (and_i (keys_differ m) _ s.keys-differ
    (and_i (keys_below m) _ s.keys_below
    (and_i (both_arcs m) _ s.both-arcs
    (and_i (ends_differ m) _ s.ends-differ
    (and_i (ends_exist m) _ s.ends-exist
    (and_i (pairs_differ m) _ s.pairs-differ
    (and_i (edge_joins m) _ s.edge-joins
    (and_i (leads_out m) _ s.leads-out
    (and_i (next_leaves m) _ s.next-leaves
    (and_i (previous_arrives m) _ s.previous-arrives
    (and_i (face_exists m) _ s.face-exists
    (and_i (rings_sound m) _ s.rings-sound
    (and_i (rest_zero m) (all_finite m) s.rest-zero s.all-finite)))))))))))))

-- ---- sizes

pub sizes : (m : Mesh) → T (within_limits m) → Sizes m
unfolding within_limits
sizes m h =
    let v = leb (length m.vertices) vertex_limit in
    let p = eqb (length m.positions) (length m.vertices) in
    let e = leb (length m.edges) edge_limit in
    let a = eqb (length m.arcs) (2 * length m.edges) in
    let f = leb (length m.faces) face_limit in
    let h₁ = and_r v (p && (e && (a && f))) h in
    let h₂ = and_r p (e && (a && f)) h₁ in
    let h₃ = and_r e (a && f) h₂ in
    record {
      vertex-rows = leb→le _ _ (and_l v (p && (e && (a && f))) h);
      position-rows = eqb→eq _ _ (and_l p (e && (a && f)) h₁);
      edge-rows = leb→le _ _ (and_l e (a && f) h₂);
      arc-rows = eqb→eq _ _ (and_l a f h₃);
      face-rows = leb→le _ _ (and_r a f h₃);
    }

pub sizes-within : (m : Mesh) → Sizes m → T (within_limits m)
unfolding within_limits
sizes-within m s =
    and_i (leb (length m.vertices) vertex_limit) _ (le→leb _ _ s.vertex-rows)
    (and_i (eqb (length m.positions) (length m.vertices)) _ (eq→eqb s.position-rows)
    (and_i (leb (length m.edges) edge_limit) _ (le→leb _ _ s.edge-rows)
    (and_i (eqb (length m.arcs) (2 * length m.edges)) (leb (length m.faces) face_limit) (eq→eqb s.arc-rows) (le→leb _ _ s.face-rows))))

-- ---- keys

pub keys-distinct : (m : Mesh) → T (keys_differ m) → T (distinct (keys_of m.vertices)) × T (distinct (keys_of m.edges)) × T (distinct (keys_of m.faces))
unfolding keys_differ
keys-distinct m h =
    let v = distinct (keys_of m.vertices) in
    let e = distinct (keys_of m.edges) in
    let f = distinct (keys_of m.faces) in
    (and_l v (e && f) h, and_l e f (and_r v (e && f) h), and_r e f (and_r v (e && f) h))
