-- Three computed examples. A mesh lent without its counters, which the code's types rule out, is answered with 8 by a vertex insert: so the
-- theorems on 8 take it that the counters are there. And the theorem on fresh vertices speaks of calls that are accepted: three vertices, and
-- a face on them. And where the test of the need fails an edit does run out, so what the law on needs says is not said of every mesh.
use Prim.Native.Nat.{ℕ, ◌+◌}
use native.Mathlib.Omega.{arith}
use mathlib.Core.Path.{◌≡◌, refl, ap, subst}
use mathlib.Core.Bool.{◌&&◌, cond}
use mathlib.Core.List.{List, [], ◌∷◌}
use lib.ListN.{replicate}
use lib.Dec.{T, leb}
use borrow.Author.Tests.{le-leb}
use Rattle.rules.specs.declared.Edit.{Edit}
use Rattle.rules.specs.declared.Edit.TheVariants.{VertexInsert}
use Rattle.rules.specs.Table.{Table, there, cell, put, put_row, first_row, free_row, count, every, some_below, all_below, sum_below, up_to, has, distinct}
use Rattle.rules.specs.Mesh.{Mesh, mesh, key_limit, vertex_kind, next_key, opposite_of, find_key, arc_between, one_up}
use Rattle.rules.specs.Point.{position, zero_float, exponent_field, finite_number, zero_number, position_at, same_place, finite_position, finite_row, zero_position_row}
use Rattle.rules.specs.Link.{put_vertex, new_vertex, connect, set_face, walk, walk_ended, ring, ring_ended, arc_count, turn_in, outgoing, new_arc, new_edge, get_or_insert_edge}
use Rattle.rules.specs.Step.{Step, number_of, told, accepted, and_then, answering, checked}
use Rattle.rules.specs.Insert.{arc_at, malformed, in_one_spot, has_hair, has_face, leads_back, conflict, insert_checks, edges_in, new_face, interior, faceless_in, exterior_at, exterior, put_face, lists_of, insert_work, insert_face}
use Rattle.rules.specs.Sound.{within_limits, keys_of, keys_differ, keys_below, has_both_arcs, both_arcs, ends_differ, ends_exist, pairs_differ, edge_joins, leads_out, next_leaves, previous_arrives, face_exists, names_holder, closed, comes_back, three_to_limit, sources_differ, ring_holds, holders_on_ring, runs_back, ring_sound, rings_sound, positions_zero, rest_zero, all_finite, sound}
use Rattle.rules.specs.Call.{room_enough, zeroed, ready, given, by_keys, checks, moves_finite, pairs_without, insert_need, need, rows_for, keys_for, room_for, work, last_step, worked, decided, kept, called, vertex_insert, face_insert}
use Rattle.rules.specs.Script.{empty_room, empty_mesh}
use lib.Ieee.{span, climb, size, odd, units, round, of_fields, of_bits, to_bits, eq}
use Rattle.proved.proofs.Reached.{none-there}
use Rattle.kept.specs.Reaches.{NoArcAt}
use Rattle.makers.specs.Makers.{Makers, by_lists, LikeRules, work_by}
use Rattle.kept.specs.Suffices.{Suffices}
use Rattle.proved.specs.Demand.{Made, after_call, after_calls, reached, three_apart}

-- an empty mesh of one vertex row, without its counters
abbrev uncounted : Mesh
uncounted = mesh ((0 ∷ 0 ∷ []) ∷ []) ((zero_float ∷ zero_float ∷ zero_float ∷ []) ∷ []) [] [] [] []

pub without-counters-8 : (told (vertex_insert uncounted (empty_room 1 0 0) (empty_room 1 0 0) (position zero_float zero_float zero_float)).answer).number ≡ 8
unfolding cell put put_row first_row free_row count every some_below all_below sum_below up_to has distinct find_key arc_between one_up exponent_field finite_number zero_number position_at same_place finite_position finite_row zero_position_row put_vertex new_vertex number_of told accepted within_limits keys_of keys_differ keys_below has_both_arcs both_arcs ends_differ ends_exist pairs_differ edge_joins leads_out next_leaves previous_arrives face_exists rings_sound positions_zero rest_zero all_finite sound room_enough zeroed ready given checks moves_finite need rows_for keys_for room_for work last_step worked decided kept called vertex_insert empty_room span climb size odd units round of_fields of_bits to_bits eq
without-counters-8 = refl

-- three vertices, and a face on them
abbrev three : List Made
three = three_apart

pub fresh-accepted : (told (face_insert (reached 3 3 1 three) (empty_room 3 3 1) (empty_room 3 3 1) (0 ∷ 1 ∷ 2 ∷ []) 7).answer).number ≡ 0
unfolding cell put put_row first_row free_row count every some_below all_below sum_below up_to has distinct opposite_of find_key arc_between one_up exponent_field finite_number zero_number position_at same_place finite_position finite_row zero_position_row put_vertex new_vertex connect set_face walk walk_ended ring ring_ended arc_count turn_in outgoing new_arc new_edge get_or_insert_edge number_of told accepted and_then answering checked arc_at malformed in_one_spot has_hair has_face leads_back conflict insert_checks edges_in new_face interior faceless_in exterior_at exterior put_face lists_of insert_work insert_face within_limits keys_of keys_differ keys_below has_both_arcs both_arcs ends_differ ends_exist pairs_differ edge_joins leads_out next_leaves previous_arrives face_exists names_holder closed comes_back three_to_limit sources_differ ring_holds holders_on_ring runs_back ring_sound rings_sound positions_zero rest_zero all_finite sound room_enough zeroed ready given by_keys checks moves_finite pairs_without insert_need need rows_for keys_for room_for work last_step worked decided kept called face_insert empty_room empty_mesh span climb size odd units round of_fields of_bits to_bits eq after_call after_calls reached three_apart
fresh-accepted = refl

no-arcs : (reached 3 3 1 three).arcs ≡ replicate 6 (0 ∷ 0 ∷ 0 ∷ 0 ∷ 0 ∷ 0 ∷ [])
unfolding cell put put_row first_row free_row count every some_below all_below sum_below up_to has distinct opposite_of find_key arc_between one_up exponent_field finite_number zero_number position_at same_place finite_position finite_row zero_position_row put_vertex new_vertex connect set_face walk walk_ended ring ring_ended arc_count turn_in outgoing new_arc new_edge get_or_insert_edge number_of told accepted and_then answering checked arc_at malformed in_one_spot has_hair has_face leads_back conflict insert_checks edges_in new_face interior faceless_in exterior_at exterior put_face lists_of insert_work insert_face within_limits keys_of keys_differ keys_below has_both_arcs both_arcs ends_differ ends_exist pairs_differ edge_joins leads_out next_leaves previous_arrives face_exists names_holder closed comes_back three_to_limit sources_differ ring_holds holders_on_ring runs_back ring_sound rings_sound positions_zero rest_zero all_finite sound room_enough zeroed ready given by_keys checks moves_finite pairs_without insert_need need rows_for keys_for room_for work last_step worked decided kept called face_insert empty_room empty_mesh span climb size odd units round of_fields of_bits to_bits eq after_call after_calls reached three_apart
no-arcs = refl

pub fresh-there : NoArcAt (reached 3 3 1 three) (0 ∷ 1 ∷ 2 ∷ [])
unfolding every
fresh-there = record { none-leaves = λ x k u h e. none x u; none-arrives = λ x k u h e. none x u }
  where
    none : (x : ℕ) → T (there (reached 3 3 1 three).arcs x) → ⊥
    none x u = none-there 6 (0 ∷ 0 ∷ 0 ∷ 0 ∷ 0 ∷ 0 ∷ []) tt x (subst (λ (t : Table). T (there t x)) no-arcs u)

-- ---- what the law on needs rules out

-- makers that make no vertex where no row or no key is left
abbrev idle : Makers
idle = record { vertex = λ m p. cond (leb 1 (free_row m.vertices) && leb (next_key m vertex_kind + 1) key_limit) (new_vertex m p) m; edge = new_edge; face = new_face; outside = by_lists }

idle-like : LikeRules idle
idle-like =
    record { vertex-same = λ m p r. rw (le-leb 1 (free_row m.vertices) r.a-row, le-leb (next_key m vertex_kind + 1) key_limit r.a_key); edge_same = λ m a b r. refl; face-same = λ m x mark r. refl; outside-same = λ old soon per m t. refl }

-- a mesh without rows, where the test of the need fails: by the rules a vertex insert would count a key there and write no vertex, and by these makers do nothing
abbrev rowless : Mesh
rowless = mesh [] [] [] [] [] (0 ∷ 0 ∷ 0 ∷ [])

abbrev insert_there : Edit
insert_there = VertexInsert (position zero_float zero_float zero_float)

pub runs-out : Suffices rowless insert_there [] → ⊥
unfolding work work_by new_vertex put_vertex put_row free_row first_row one_up
runs-out h = let e : ◌≡◌ {A = ℕ} 0 1 = ap (λ (t : Step). next_key t.tables vertex_kind) (h.never-out idle idle-like) in omega arith
