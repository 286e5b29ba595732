-- The starred corners of document 01 hold, together under one statement; and further ones. Both sides are computed. Assumes nothing.
use Prim.Native.Nat.{ℕ}
use mathlib.Core.Path.{◌≡◌, refl}
use mathlib.Core.Bool.{true}
use mathlib.Core.List.{List, [], ◌∷◌}
use Rattle.rules.specs.Table.{cell, put, put_row, first_row, free_row, count, every, some_below, all_below, sum_below, up_to, has, distinct}
use Rattle.rules.specs.Mesh.{opposite_of, find_key, arc_between, one_up}
use Rattle.rules.specs.Point.{position, zero_float, exponent_field, finite_number, zero_number, position_at, same_place, finite_position, finite_row, zero_position_row, moved, finite_move}
use Rattle.rules.specs.Link.{put_vertex, new_vertex, connect, set_face, walk, walk_ended, ring, ring_ended, ring_vertices, arc_count, turn_in, outgoing, new_arc, new_edge, get_or_insert_edge}
use Rattle.rules.specs.Step.{number_of, told, accepted, and_then, answering, checked}
use Rattle.rules.specs.Insert.{arc_at, malformed, in_one_spot, has_hair, has_face, leads_back, conflict, insert_checks, edges_in, new_face, interior, faceless_in, exterior_at, exterior, put_face, lists_of, insert_work, insert_face}
use Rattle.rules.specs.Edit.{known, remove, remove_work, place, ring_distance, stretch, half, held_by_other, split_checks, split_work, poke_work, corners, arc_bridge_checks, arc_bridge_work, arc_bridge, bridge_checks, bridge_work}
use Rattle.rules.specs.Extrude.{moved_position, moved_finite, copy_one, copies, wall, extrude_work, arc_extrude_checks, arc_extrude_work}
use Rattle.rules.specs.Sound.{within_limits, keys_of, keys_differ, keys_below, has_both_arcs, both_arcs, ends_differ, ends_exist, pairs_differ, edge_joins, leads_out, next_leaves, previous_arrives, face_exists, names_holder, closed, comes_back, three_to_limit, sources_differ, ring_holds, holders_on_ring, runs_back, ring_sound, rings_sound, positions_zero, rest_zero, all_finite, sound}
use Rattle.rules.specs.Call.{room_enough, zeroed, ready, given, arc_by_keys, by_keys, checks, moves_finite, pairs_without, insert_need, need, rows_for, keys_for, room_for, work, last_step, worked, decided, kept, called}
use Rattle.rules.specs.Records.{arc_name, key_name, arc_record}
use Rattle.rules.specs.Script.{bytes, with_head, parts_at, is_digit, value_from, digits_up_to, number_in, whole_of, coordinate_in, one_more, numbers_in, float_of, point_of, point_in, numbers_make, numbered, point_makes, pointed, keys_make, line_of, line_from, line_in, without_last_empty, lines_of, decimal, spaced, returned, shown_keys, answer_text, empty_room, empty_mesh, after_line, after_lines}
use Rattle.rules.specs.Corners.{script_q, desk, after_text, after_q, after, numbers_of, answer_of, ask, face_of, next_of, previous_of, lone_quad, split_quad, starred, split_beside, removed, full, brittle, poked, cramped, further, first_two, last_and_first, one_above, beside_face, spots}
use lib.Ieee.{binary64, span, climb, size, odd, units, round, of_int, of_fields, of_bits, to_bits, sum, add, sub, mul, eq}

-- a refusal with its number; a key, an arc, a mark
abbrev refused_with : ℕ → List ℕ
refused_with n = n ∷ 0 ∷ 0 ∷ 0 ∷ 0 ∷ 0 ∷ []

abbrev key_is : ℕ → List ℕ
key_is k = 0 ∷ k ∷ 0 ∷ 0 ∷ 0 ∷ 0 ∷ []

abbrev arc_is : ℕ → ℕ → List ℕ
arc_is s d = 0 ∷ 0 ∷ s ∷ d ∷ 0 ∷ 0 ∷ []

abbrev mark_is : ℕ → List ℕ
mark_is n = 0 ∷ 0 ∷ 0 ∷ 0 ∷ n ∷ 0 ∷ []

-- no keys, [0,0,99]: 3; [0,1,99]: 4; after six lines of Q [0,1,2]: 5, bridge 0 to 0: 4, split face 0 from 0 to 1: 3;
-- after five [1,0,3,2]: 5, [1,0,3] accepted; lone [0,1,2,3] split 0 to 2: arc (0,2), faces [0,1,2] and [2,3,0], marks 0;
-- after all of Q next of (2,1) is (1,0) and previous of (2,1) is (4,2). After a split beside another face next of (2,0) is (0,3)
pub starred-corners :
    starred
    ≡ refused_with 3
    ∷ refused_with 3
    ∷ refused_with 4
    ∷ refused_with 5
    ∷ refused_with 4
    ∷ refused_with 3
    ∷ refused_with 5
    ∷ key_is 1
    ∷ arc_is 0 2
    ∷ (0 ∷ 0 ∷ 1 ∷ 2 ∷ [])
    ∷ (0 ∷ 2 ∷ 3 ∷ 0 ∷ [])
    ∷ (1 ∷ 0 ∷ [])
    ∷ (4 ∷ 2 ∷ [])
    ∷ (0 ∷ 3 ∷ [])
    ∷ []
unfolding cell put put_row first_row free_row count every some_below all_below sum_below up_to has distinct opposite_of find_key arc_between one_up exponent_field finite_number zero_number position_at same_place finite_position finite_row zero_position_row moved finite_move put_vertex new_vertex connect set_face walk walk_ended ring ring_ended ring_vertices arc_count turn_in outgoing new_arc new_edge get_or_insert_edge number_of told accepted and_then answering checked arc_at malformed in_one_spot has_hair has_face leads_back conflict insert_checks edges_in new_face interior faceless_in exterior_at exterior put_face lists_of insert_work insert_face known remove remove_work place ring_distance stretch half held_by_other split_checks split_work poke_work corners arc_bridge_checks arc_bridge_work arc_bridge bridge_checks bridge_work moved_position moved_finite copy_one copies wall extrude_work arc_extrude_checks arc_extrude_work within_limits keys_of keys_differ keys_below has_both_arcs both_arcs ends_differ ends_exist pairs_differ edge_joins leads_out next_leaves previous_arrives face_exists names_holder closed comes_back three_to_limit sources_differ ring_holds holders_on_ring runs_back ring_sound rings_sound positions_zero rest_zero all_finite sound room_enough zeroed ready given arc_by_keys by_keys checks moves_finite pairs_without insert_need need rows_for keys_for room_for work last_step worked decided kept called arc_name key_name arc_record bytes with_head parts_at is_digit value_from digits_up_to number_in whole_of coordinate_in one_more numbers_in float_of point_of point_in numbers_make numbered point_makes pointed keys_make line_of line_from line_in without_last_empty lines_of decimal spaced returned shown_keys answer_text empty_room empty_mesh after_line after_lines script_q desk after_text after_q after numbers_of answer_of ask face_of next_of previous_of lone_quad split_quad starred split_beside removed full brittle poked cramped further span climb size odd units round of_int of_fields of_bits to_bits sum add sub mul eq
starred-corners = refl

-- the first part of a poked [0,1,2] is [1,2,c], with its mark; a removed face's key is not given again; on full tables 5 comes before 7, then 7,
-- and a removal needs no room; an arc extrude that would break the mesh is 8; bridged arcs with a face 5; a vertex outside the ring 4;
-- an unknown face 4; room too small 1; a coordinate out of range 2
pub further-corners :
    further
    ≡ (7 ∷ 1 ∷ 2 ∷ 3 ∷ [])
    ∷ key_is 1
    ∷ refused_with 5
    ∷ refused_with 7
    ∷ refused_with 7
    ∷ mark_is 9
    ∷ refused_with 8
    ∷ refused_with 5
    ∷ refused_with 4
    ∷ refused_with 4
    ∷ refused_with 1
    ∷ refused_with 2
    ∷ []
unfolding cell put put_row first_row free_row count every some_below all_below sum_below up_to has distinct opposite_of find_key arc_between one_up exponent_field finite_number zero_number position_at same_place finite_position finite_row zero_position_row moved finite_move put_vertex new_vertex connect set_face walk walk_ended ring ring_ended ring_vertices arc_count turn_in outgoing new_arc new_edge get_or_insert_edge number_of told accepted and_then answering checked arc_at malformed in_one_spot has_hair has_face leads_back conflict insert_checks edges_in new_face interior faceless_in exterior_at exterior put_face lists_of insert_work insert_face known remove remove_work place ring_distance stretch half held_by_other split_checks split_work poke_work corners arc_bridge_checks arc_bridge_work arc_bridge bridge_checks bridge_work moved_position moved_finite copy_one copies wall extrude_work arc_extrude_checks arc_extrude_work within_limits keys_of keys_differ keys_below has_both_arcs both_arcs ends_differ ends_exist pairs_differ edge_joins leads_out next_leaves previous_arrives face_exists names_holder closed comes_back three_to_limit sources_differ ring_holds holders_on_ring runs_back ring_sound rings_sound positions_zero rest_zero all_finite sound room_enough zeroed ready given arc_by_keys by_keys checks moves_finite pairs_without insert_need need rows_for keys_for room_for work last_step worked decided kept called arc_name key_name arc_record bytes with_head parts_at is_digit value_from digits_up_to number_in whole_of coordinate_in one_more numbers_in float_of point_of point_in numbers_make numbered point_makes pointed keys_make line_of line_from line_in without_last_empty lines_of decimal spaced returned shown_keys answer_text empty_room empty_mesh after_line after_lines script_q desk after_text after_q after numbers_of answer_of ask face_of next_of previous_of lone_quad split_quad starred split_beside removed full brittle poked cramped further span climb size odd units round of_int of_fields of_bits to_bits sum add sub mul eq
further-corners = refl

-- two neighbours in one spot (document 02, L6)
pub spots-in-order :
    spots
    ≡ refused_with 13
    ∷ refused_with 13
    ∷ key_is 0
    ∷ refused_with 4
    ∷ refused_with 13
    ∷ refused_with 13
    ∷ []
unfolding cell put put_row first_row free_row count every some_below all_below sum_below up_to has distinct opposite_of find_key arc_between one_up exponent_field finite_number zero_number position_at same_place finite_position finite_row zero_position_row moved finite_move put_vertex new_vertex connect set_face walk walk_ended ring ring_ended ring_vertices arc_count turn_in outgoing new_arc new_edge get_or_insert_edge number_of told accepted and_then answering checked arc_at malformed in_one_spot has_hair has_face leads_back conflict insert_checks edges_in new_face interior faceless_in exterior_at exterior put_face lists_of insert_work insert_face known remove remove_work place ring_distance stretch half held_by_other split_checks split_work poke_work corners arc_bridge_checks arc_bridge_work arc_bridge bridge_checks bridge_work moved_position moved_finite copy_one copies wall extrude_work arc_extrude_checks arc_extrude_work within_limits keys_of keys_differ keys_below has_both_arcs both_arcs ends_differ ends_exist pairs_differ edge_joins leads_out next_leaves previous_arrives face_exists names_holder closed comes_back three_to_limit sources_differ ring_holds holders_on_ring runs_back ring_sound rings_sound positions_zero rest_zero all_finite sound room_enough zeroed ready given arc_by_keys by_keys checks moves_finite pairs_without insert_need need rows_for keys_for room_for work last_step worked decided kept called arc_name key_name arc_record bytes with_head parts_at is_digit value_from digits_up_to number_in whole_of coordinate_in one_more numbers_in float_of point_of point_in numbers_make numbered point_makes pointed keys_make line_of line_from line_in without_last_empty lines_of decimal spaced returned shown_keys answer_text empty_room empty_mesh after_line after_lines script_q desk after_text after_q after numbers_of answer_of ask face_of next_of previous_of lone_quad split_quad starred split_beside removed full brittle poked cramped further span climb size odd units round of_int of_fields of_bits to_bits sum add sub mul eq first_two last_and_first one_above beside_face spots
spots-in-order = refl

-- -0 and 0 are one spot
pub zeros-in-one-spot : same_place (position (of_bits binary64 9223372036854775808) zero_float zero_float) (position zero_float zero_float zero_float) ≡ true
unfolding same_place eq of_bits of_fields
zeros-in-one-spot = refl
