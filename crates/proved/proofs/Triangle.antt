-- Demand 3 is not about empty meshes alone: after three vertices and a face on them, three arcs hold a face, on three edges. Computed.
use mathlib.Core.Path.{◌≡◌, refl}
use mathlib.Core.List.{[], ◌∷◌}
use Rattle.rules.specs.Table.{cell, put, put_row, first_row, free_row, count, every, some_below, all_below, sum_below, up_to, has, distinct}
use Rattle.rules.specs.Mesh.{opposite_of, find_key, arc_between, one_up}
use Rattle.rules.specs.Point.{exponent_field, finite_number, zero_number, position_at, same_place, finite_position, finite_row, zero_position_row}
use Rattle.rules.specs.Link.{put_vertex, new_vertex, connect, set_face, walk, walk_ended, ring, ring_ended, arc_count, turn_in, outgoing, new_arc, new_edge, get_or_insert_edge}
use Rattle.rules.specs.Step.{accepted, and_then, answering, checked}
use Rattle.rules.specs.Insert.{arc_at, malformed, in_one_spot, has_hair, has_face, leads_back, conflict, insert_checks, edges_in, new_face, interior, faceless_in, exterior_at, exterior, put_face, lists_of, insert_work, insert_face}
use Rattle.rules.specs.Sound.{within_limits, keys_of, keys_differ, keys_below, has_both_arcs, both_arcs, ends_differ, ends_exist, pairs_differ, edge_joins, leads_out, next_leaves, previous_arrives, face_exists, names_holder, closed, comes_back, three_to_limit, sources_differ, ring_holds, holders_on_ring, runs_back, ring_sound, rings_sound, positions_zero, rest_zero, all_finite, sound}
use Rattle.rules.specs.Call.{room_enough, zeroed, ready, given, by_keys, checks, moves_finite, pairs_without, insert_need, need, rows_for, keys_for, room_for, work, last_step, worked, decided, kept, called}
use Rattle.rules.specs.Script.{empty_room, empty_mesh}
use lib.Ieee.{span, climb, size, odd, units, round, of_fields, of_bits, to_bits, eq}
use Rattle.proved.specs.Demand.{after_call, after_calls, reached, three_apart, triangle, all_holders, edge_count}

pub three-hold : all_holders (reached 3 3 1 triangle) ∷ edge_count (reached 3 3 1 triangle) ∷ [] ≡ 3 ∷ 3 ∷ []
unfolding cell put put_row first_row free_row count every some_below all_below sum_below up_to has distinct opposite_of find_key arc_between one_up exponent_field finite_number zero_number position_at same_place finite_position finite_row zero_position_row put_vertex new_vertex connect set_face walk walk_ended ring ring_ended arc_count turn_in outgoing new_arc new_edge get_or_insert_edge accepted and_then answering checked arc_at malformed in_one_spot has_hair has_face leads_back conflict insert_checks edges_in new_face interior faceless_in exterior_at exterior put_face lists_of insert_work insert_face within_limits keys_of keys_differ keys_below has_both_arcs both_arcs ends_differ ends_exist pairs_differ edge_joins leads_out next_leaves previous_arrives face_exists names_holder closed comes_back three_to_limit sources_differ ring_holds holders_on_ring runs_back ring_sound rings_sound positions_zero rest_zero all_finite sound room_enough zeroed ready given by_keys checks moves_finite pairs_without insert_need need rows_for keys_for room_for work last_step worked decided kept called empty_room empty_mesh span climb size odd units round of_fields of_bits to_bits eq after_call after_calls reached three_apart triangle
three-hold = refl
