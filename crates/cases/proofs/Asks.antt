-- What the calls answer is what Asks says, computed. Assumes nothing.
use mathlib.Core.Path.{◌≡◌, refl}
use mathlib.Core.List.{[], ◌∷◌, ◌++◌}
use Rattle.rules.specs.Table.{cell, put, put_row, first_row, free_row, count, every, some_below, all_below, sum_below, up_to, has, distinct}
use Rattle.rules.specs.Mesh.{opposite_of, find_key, arc_between, one_up}
use Rattle.rules.specs.Point.{exponent_field, finite_number, zero_number, position_at, same_place, finite_position, finite_row, zero_position_row, moved, finite_move}
use Rattle.rules.specs.Link.{put_vertex, new_vertex, connect, set_face, walk, walk_ended, ring, ring_ended, ring_vertices, arc_count, turn_in, outgoing, new_arc, new_edge, get_or_insert_edge}
use Rattle.rules.specs.Step.{number_of, told, accepted, and_then, answering, checked}
use Rattle.rules.specs.Insert.{arc_at, malformed, in_one_spot, has_hair, has_face, leads_back, conflict, insert_checks, edges_in, new_face, interior, faceless_in, exterior_at, exterior, put_face, lists_of, insert_work, insert_face}
use Rattle.rules.specs.Edit.{known, remove, remove_work, place, ring_distance, stretch, half, held_by_other, split_checks, split_work, poke_work, corners, arc_bridge_checks, arc_bridge_work, arc_bridge, bridge_checks, bridge_work}
use Rattle.rules.specs.Extrude.{moved_position, moved_finite, copy_one, copies, wall, extrude_work, arc_extrude_checks, arc_extrude_work}
use Rattle.rules.specs.Sound.{within_limits, keys_of, keys_differ, keys_below, has_both_arcs, both_arcs, ends_differ, ends_exist, pairs_differ, edge_joins, leads_out, next_leaves, previous_arrives, face_exists, names_holder, closed, comes_back, three_to_limit, sources_differ, ring_holds, holders_on_ring, runs_back, ring_sound, rings_sound, positions_zero, rest_zero, all_finite, sound}
use Rattle.rules.specs.Call.{room_enough, zeroed, ready, given, arc_by_keys, by_keys, checks, moves_finite, pairs_without, insert_need, need, rows_for, keys_for, room_for, work, last_step, worked, decided, kept, called, finished, check_mesh, vertex_insert, face_insert}
use Rattle.rules.specs.Script.{bytes, with_head, parts_at, is_digit, value_from, digits_up_to, number_in, whole_of, coordinate_in, one_more, numbers_in, float_of, point_of, point_in, numbers_make, numbered, point_makes, pointed, keys_make, line_of, line_from, line_in, without_last_empty, lines_of, decimal, spaced, returned, shown_keys, answer_text, empty_room, empty_mesh, after_line, after_lines}
use Rattle.rules.specs.Corners.{desk, after_text, numbers_of, answer_of, ask}
use lib.Ieee.{span, climb, size, odd, units, round, of_int, of_fields, of_bits, to_bits, sum, add, neg, sub, mul, eq}
use Rattle.cases.specs.Asks.{answered, answers, bridges, splits, arc_bridges, arc_extrudes, extrudes, pokes, inserts, hairs, hairs_in_mid_edit, both_zeros, removes, many_keys, numbers, lines, check_number, small, uncounted, lone_vertex, triangle, triangle_removed}

pub bridges-and-splits : answered (bridges ++ (arc_bridges ++ splits)) ≡ answers (bridges ++ (arc_bridges ++ splits))
unfolding cell put put_row first_row free_row count every some_below all_below sum_below up_to has distinct opposite_of find_key arc_between one_up exponent_field finite_number zero_number position_at same_place finite_position finite_row zero_position_row moved finite_move put_vertex new_vertex connect set_face walk walk_ended ring ring_ended ring_vertices arc_count turn_in outgoing new_arc new_edge get_or_insert_edge number_of told accepted and_then answering checked arc_at malformed in_one_spot has_hair has_face leads_back conflict insert_checks edges_in new_face interior faceless_in exterior_at exterior put_face lists_of insert_work insert_face known remove remove_work place ring_distance stretch half held_by_other split_checks split_work poke_work corners arc_bridge_checks arc_bridge_work arc_bridge bridge_checks bridge_work moved_position moved_finite copy_one copies wall extrude_work arc_extrude_checks arc_extrude_work within_limits keys_of keys_differ keys_below has_both_arcs both_arcs ends_differ ends_exist pairs_differ edge_joins leads_out next_leaves previous_arrives face_exists names_holder closed comes_back three_to_limit sources_differ ring_holds holders_on_ring runs_back ring_sound rings_sound positions_zero rest_zero all_finite sound room_enough zeroed ready given arc_by_keys by_keys checks moves_finite pairs_without insert_need need rows_for keys_for room_for work last_step worked decided kept called bytes with_head parts_at is_digit value_from digits_up_to number_in whole_of coordinate_in one_more numbers_in float_of point_of point_in numbers_make numbered point_makes pointed keys_make line_of line_from line_in without_last_empty lines_of decimal spaced returned shown_keys answer_text empty_room empty_mesh after_line after_lines desk after_text numbers_of answer_of ask span climb size odd units round of_int of_fields of_bits to_bits sum add neg sub mul answered answers bridges arc_bridges splits eq
bridges-and-splits = refl

pub extrudes-and-pokes : answered (arc_extrudes ++ (extrudes ++ pokes)) ≡ answers (arc_extrudes ++ (extrudes ++ pokes))
unfolding cell put put_row first_row free_row count every some_below all_below sum_below up_to has distinct opposite_of find_key arc_between one_up exponent_field finite_number zero_number position_at same_place finite_position finite_row zero_position_row moved finite_move put_vertex new_vertex connect set_face walk walk_ended ring ring_ended ring_vertices arc_count turn_in outgoing new_arc new_edge get_or_insert_edge number_of told accepted and_then answering checked arc_at malformed in_one_spot has_hair has_face leads_back conflict insert_checks edges_in new_face interior faceless_in exterior_at exterior put_face lists_of insert_work insert_face known remove remove_work place ring_distance stretch half held_by_other split_checks split_work poke_work corners arc_bridge_checks arc_bridge_work arc_bridge bridge_checks bridge_work moved_position moved_finite copy_one copies wall extrude_work arc_extrude_checks arc_extrude_work within_limits keys_of keys_differ keys_below has_both_arcs both_arcs ends_differ ends_exist pairs_differ edge_joins leads_out next_leaves previous_arrives face_exists names_holder closed comes_back three_to_limit sources_differ ring_holds holders_on_ring runs_back ring_sound rings_sound positions_zero rest_zero all_finite sound room_enough zeroed ready given arc_by_keys by_keys checks moves_finite pairs_without insert_need need rows_for keys_for room_for work last_step worked decided kept called bytes with_head parts_at is_digit value_from digits_up_to number_in whole_of coordinate_in one_more numbers_in float_of point_of point_in numbers_make numbered point_makes pointed keys_make line_of line_from line_in without_last_empty lines_of decimal spaced returned shown_keys answer_text empty_room empty_mesh after_line after_lines desk after_text numbers_of answer_of ask span climb size odd units round of_int of_fields of_bits to_bits sum add neg sub mul answered answers arc_extrudes extrudes pokes eq
extrudes-and-pokes = refl

pub inserts-and-lines : answered (inserts ++ (removes ++ (many_keys ++ (numbers ++ lines)))) ≡ answers (inserts ++ (removes ++ (many_keys ++ (numbers ++ lines))))
unfolding cell put put_row first_row free_row count every some_below all_below sum_below up_to has distinct opposite_of find_key arc_between one_up exponent_field finite_number zero_number position_at same_place finite_position finite_row zero_position_row moved finite_move put_vertex new_vertex connect set_face walk walk_ended ring ring_ended ring_vertices arc_count turn_in outgoing new_arc new_edge get_or_insert_edge number_of told accepted and_then answering checked arc_at malformed in_one_spot has_hair has_face leads_back conflict insert_checks edges_in new_face interior faceless_in exterior_at exterior put_face lists_of insert_work insert_face known remove remove_work place ring_distance stretch half held_by_other split_checks split_work poke_work corners arc_bridge_checks arc_bridge_work arc_bridge bridge_checks bridge_work moved_position moved_finite copy_one copies wall extrude_work arc_extrude_checks arc_extrude_work within_limits keys_of keys_differ keys_below has_both_arcs both_arcs ends_differ ends_exist pairs_differ edge_joins leads_out next_leaves previous_arrives face_exists names_holder closed comes_back three_to_limit sources_differ ring_holds holders_on_ring runs_back ring_sound rings_sound positions_zero rest_zero all_finite sound room_enough zeroed ready given arc_by_keys by_keys checks moves_finite pairs_without insert_need need rows_for keys_for room_for work last_step worked decided kept called bytes with_head parts_at is_digit value_from digits_up_to number_in whole_of coordinate_in one_more numbers_in float_of point_of point_in numbers_make numbered point_makes pointed keys_make line_of line_from line_in without_last_empty lines_of decimal spaced returned shown_keys answer_text empty_room empty_mesh after_line after_lines desk after_text numbers_of answer_of ask span climb size odd units round of_int of_fields of_bits to_bits sum add neg sub mul answered answers inserts removes many_keys numbers lines eq
inserts-and-lines = refl

-- two neighbours in one spot, and -0 in one spot with 0
pub hairs-refused : answered hairs ≡ answers hairs
unfolding cell put put_row first_row free_row count every some_below all_below sum_below up_to has distinct opposite_of find_key arc_between one_up exponent_field finite_number zero_number position_at same_place finite_position finite_row zero_position_row moved finite_move put_vertex new_vertex connect set_face walk walk_ended ring ring_ended ring_vertices arc_count turn_in outgoing new_arc new_edge get_or_insert_edge number_of told accepted and_then answering checked arc_at malformed in_one_spot has_hair has_face leads_back conflict insert_checks edges_in new_face interior faceless_in exterior_at exterior put_face lists_of insert_work insert_face known remove remove_work place ring_distance stretch half held_by_other split_checks split_work poke_work corners arc_bridge_checks arc_bridge_work arc_bridge bridge_checks bridge_work moved_position moved_finite copy_one copies wall extrude_work arc_extrude_checks arc_extrude_work within_limits keys_of keys_differ keys_below has_both_arcs both_arcs ends_differ ends_exist pairs_differ edge_joins leads_out next_leaves previous_arrives face_exists names_holder closed comes_back three_to_limit sources_differ ring_holds holders_on_ring runs_back ring_sound rings_sound positions_zero rest_zero all_finite sound room_enough zeroed ready given arc_by_keys by_keys checks moves_finite pairs_without insert_need need rows_for keys_for room_for work last_step worked decided kept called bytes with_head parts_at is_digit value_from digits_up_to number_in whole_of coordinate_in one_more numbers_in float_of point_of point_in numbers_make numbered point_makes pointed keys_make line_of line_from line_in without_last_empty lines_of decimal spaced returned shown_keys answer_text empty_room empty_mesh after_line after_lines desk after_text numbers_of answer_of ask span climb size odd units round of_int of_fields of_bits to_bits sum add neg sub mul answered answers inserts removes many_keys numbers lines eq arc_extrudes extrudes pokes bridges arc_bridges splits hairs
hairs-refused = refl

pub hairs-refused-in-mid-edit : answered hairs_in_mid_edit ≡ answers hairs_in_mid_edit
unfolding cell put put_row first_row free_row count every some_below all_below sum_below up_to has distinct opposite_of find_key arc_between one_up exponent_field finite_number zero_number position_at same_place finite_position finite_row zero_position_row moved finite_move put_vertex new_vertex connect set_face walk walk_ended ring ring_ended ring_vertices arc_count turn_in outgoing new_arc new_edge get_or_insert_edge number_of told accepted and_then answering checked arc_at malformed in_one_spot has_hair has_face leads_back conflict insert_checks edges_in new_face interior faceless_in exterior_at exterior put_face lists_of insert_work insert_face known remove remove_work place ring_distance stretch half held_by_other split_checks split_work poke_work corners arc_bridge_checks arc_bridge_work arc_bridge bridge_checks bridge_work moved_position moved_finite copy_one copies wall extrude_work arc_extrude_checks arc_extrude_work within_limits keys_of keys_differ keys_below has_both_arcs both_arcs ends_differ ends_exist pairs_differ edge_joins leads_out next_leaves previous_arrives face_exists names_holder closed comes_back three_to_limit sources_differ ring_holds holders_on_ring runs_back ring_sound rings_sound positions_zero rest_zero all_finite sound room_enough zeroed ready given arc_by_keys by_keys checks moves_finite pairs_without insert_need need rows_for keys_for room_for work last_step worked decided kept called bytes with_head parts_at is_digit value_from digits_up_to number_in whole_of coordinate_in one_more numbers_in float_of point_of point_in numbers_make numbered point_makes pointed keys_make line_of line_from line_in without_last_empty lines_of decimal spaced returned shown_keys answer_text empty_room empty_mesh after_line after_lines desk after_text numbers_of answer_of ask span climb size odd units round of_int of_fields of_bits to_bits sum add neg sub mul answered answers inserts removes many_keys numbers lines eq arc_extrudes extrudes pokes bridges arc_bridges splits hairs_in_mid_edit
hairs-refused-in-mid-edit = refl

pub both-zeros-in-one-spot : both_zeros.number ≡ 13
unfolding cell put put_row first_row free_row count every some_below all_below sum_below up_to has distinct opposite_of find_key arc_between one_up exponent_field finite_number zero_number position_at same_place finite_position finite_row zero_position_row moved finite_move put_vertex new_vertex connect set_face walk walk_ended ring ring_ended ring_vertices arc_count turn_in outgoing new_arc new_edge get_or_insert_edge number_of told accepted and_then answering checked arc_at malformed in_one_spot has_hair has_face leads_back conflict insert_checks edges_in new_face interior faceless_in exterior_at exterior put_face lists_of insert_work insert_face known remove remove_work place ring_distance stretch half held_by_other split_checks split_work poke_work corners arc_bridge_checks arc_bridge_work arc_bridge bridge_checks bridge_work moved_position moved_finite copy_one copies wall extrude_work arc_extrude_checks arc_extrude_work within_limits keys_of keys_differ keys_below has_both_arcs both_arcs ends_differ ends_exist pairs_differ edge_joins leads_out next_leaves previous_arrives face_exists names_holder closed comes_back three_to_limit sources_differ ring_holds holders_on_ring runs_back ring_sound rings_sound positions_zero rest_zero all_finite sound room_enough zeroed ready given arc_by_keys by_keys checks moves_finite pairs_without insert_need need rows_for keys_for room_for work last_step worked decided kept called bytes with_head parts_at is_digit value_from digits_up_to number_in whole_of coordinate_in one_more numbers_in float_of point_of point_in numbers_make numbered point_makes pointed keys_make line_of line_from line_in without_last_empty lines_of decimal spaced returned shown_keys answer_text empty_room empty_mesh after_line after_lines desk after_text numbers_of answer_of ask span climb size odd units round of_int of_fields of_bits to_bits sum add neg sub mul answered answers inserts removes many_keys numbers lines eq arc_extrudes extrudes pokes bridges arc_bridges splits both_zeros vertex_insert face_insert
both-zeros-in-one-spot = refl

-- the check: 0 where no vertex is without a leading arc, 3 where one is; unsound tables 1, unfinished ones too
pub check-answers :
    check_number (small "") ∷ check_number (small triangle) ∷ check_number (small triangle_removed) ∷ check_number (small lone_vertex)
    ∷ check_number (uncounted (small triangle)) ∷ check_number (uncounted (small lone_vertex)) ∷ []
    ≡ 0 ∷ 0 ∷ 0 ∷ 3 ∷ 1 ∷ 1 ∷ []
unfolding cell put put_row first_row free_row count every some_below all_below sum_below up_to has distinct opposite_of find_key arc_between one_up exponent_field finite_number zero_number position_at same_place finite_position finite_row zero_position_row moved finite_move put_vertex new_vertex connect set_face walk walk_ended ring ring_ended ring_vertices arc_count turn_in outgoing new_arc new_edge get_or_insert_edge number_of told accepted and_then answering checked arc_at malformed in_one_spot has_hair has_face leads_back conflict insert_checks edges_in new_face interior faceless_in exterior_at exterior put_face lists_of insert_work insert_face known remove remove_work place ring_distance stretch half held_by_other split_checks split_work poke_work corners arc_bridge_checks arc_bridge_work arc_bridge bridge_checks bridge_work moved_position moved_finite copy_one copies wall extrude_work arc_extrude_checks arc_extrude_work within_limits keys_of keys_differ keys_below has_both_arcs both_arcs ends_differ ends_exist pairs_differ edge_joins leads_out next_leaves previous_arrives face_exists names_holder closed comes_back three_to_limit sources_differ ring_holds holders_on_ring runs_back ring_sound rings_sound positions_zero rest_zero all_finite sound room_enough zeroed ready given arc_by_keys by_keys checks moves_finite pairs_without insert_need need rows_for keys_for room_for work last_step worked decided kept called finished check_mesh bytes with_head parts_at is_digit value_from digits_up_to number_in whole_of coordinate_in one_more numbers_in float_of point_of point_in numbers_make numbered point_makes pointed keys_make line_of line_from line_in without_last_empty lines_of decimal spaced returned shown_keys answer_text empty_room empty_mesh after_line after_lines desk after_text span climb size odd units round of_int of_fields of_bits to_bits sum add neg sub mul check_number small uncounted eq
check-answers = refl
