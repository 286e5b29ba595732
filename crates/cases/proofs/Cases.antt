-- The definitions of `rules`, computed, give what the Rust gives: every answer, every record and the counts of every case, letter for letter. Assumes nothing.
use native.Mathlib.Omega.{arith}
use mathlib.Core.Path.{◌≡◌, refl, ◌∙◌}
use Rattle.rules.specs.Table.{cell, put, put_row, first_row, free_row, count, every, some_below, all_below, sum_below, up_to, has, distinct}
use Rattle.rules.specs.Mesh.{opposite_of, find_key, arc_between, one_up}
use Rattle.rules.specs.Point.{exponent_field, finite_number, zero_number, position_at, same_place, finite_position, finite_row, zero_position_row, moved, finite_move}
use Rattle.rules.specs.Link.{put_vertex, new_vertex, connect, set_face, walk, walk_ended, ring, ring_ended, ring_vertices, arc_count, turn_in, outgoing, new_arc, new_edge, get_or_insert_edge}
use Rattle.rules.specs.Step.{number_of, told, accepted, and_then, answering, checked}
use Rattle.rules.specs.Insert.{arc_at, malformed, in_one_spot, has_hair, has_face, leads_back, conflict, insert_checks, edges_in, new_face, interior, faceless_in, exterior_at, exterior, put_face, lists_of, insert_work, insert_face}
use Rattle.rules.specs.Edit.{known, remove, remove_work, place, ring_distance, stretch, half, held_by_other, split_checks, split_work, poke_work, corners, arc_bridge_checks, arc_bridge_work, arc_bridge, bridge_checks, bridge_work}
use Rattle.rules.specs.Extrude.{moved_position, moved_finite, copy_one, copies, wall, extrude_work, arc_extrude_checks, arc_extrude_work}
use Rattle.rules.specs.Sound.{within_limits, keys_of, keys_differ, keys_below, has_both_arcs, both_arcs, ends_differ, ends_exist, pairs_differ, edge_joins, leads_out, next_leaves, previous_arrives, face_exists, names_holder, closed, comes_back, three_to_limit, sources_differ, ring_holds, holders_on_ring, runs_back, ring_sound, rings_sound, positions_zero, rest_zero, all_finite, sound}
use Rattle.rules.specs.Call.{room_enough, zeroed, ready, given, arc_by_keys, by_keys, checks, moves_finite, pairs_without, insert_need, need, rows_for, keys_for, room_for, work, last_step, worked, decided, kept, called, finished, check_mesh}
use Rattle.rules.specs.Records.{arc_name, key_name, vertex_record, arc_record, edge_record, face_record, used_from, put_among, in_order, key_before, arc_before, records}
use Rattle.rules.specs.Script.{Text, bytes, with_head, parts_at, is_digit, value_from, digits_up_to, number_in, whole_of, coordinate_in, one_more, numbers_in, float_of, point_of, point_in, numbers_make, numbered, point_makes, pointed, keys_make, line_of, line_from, line_in, without_last_empty, lines_of, digits_before, decimal, spaced, returned, shown_keys, answer_text, empty_room, empty_mesh, after_line, after_lines, after_script, end_text, checked_end, program_on, program}
use Rattle.rules.specs.Dump.{name_words, hex_digit, hex_before, bits_word, vertex_line, arc_line, edge_line, face_line, lines_by, records_text, dumped_on}
use Rattle.proved.specs.Unchecked.{program_unchecked}
use Rattle.proved.proofs.EndStays.{end_stays}
use lib.Ieee.{span, climb, size, odd, units, round, of_int, of_fields, of_bits, to_bits, sum, add, neg, sub, mul, eq}
use Rattle.cases.specs.Cases.{stored, drawn, computed, printed_of}
use Rattle.cases.specs.Moves.{scales, shifts, after_said, dumped_after, scales_printed, shifts_printed}

pub stored-as-the-rust : computed 8 12 5 stored ≡ printed_of stored
unfolding cell put put_row first_row free_row count every some_below all_below sum_below up_to has distinct opposite_of find_key arc_between one_up exponent_field finite_number zero_number position_at same_place finite_position finite_row zero_position_row moved finite_move put_vertex new_vertex connect set_face walk walk_ended ring ring_ended ring_vertices arc_count turn_in outgoing new_arc new_edge get_or_insert_edge number_of told accepted and_then answering checked arc_at malformed in_one_spot has_hair has_face leads_back conflict insert_checks edges_in new_face interior faceless_in exterior_at exterior put_face lists_of insert_work insert_face known remove remove_work place ring_distance stretch half held_by_other split_checks split_work poke_work corners arc_bridge_checks arc_bridge_work arc_bridge bridge_checks bridge_work moved_position moved_finite copy_one copies wall extrude_work arc_extrude_checks arc_extrude_work within_limits keys_of keys_differ keys_below has_both_arcs both_arcs ends_differ ends_exist pairs_differ edge_joins leads_out next_leaves previous_arrives face_exists names_holder closed comes_back three_to_limit sources_differ ring_holds holders_on_ring runs_back ring_sound rings_sound positions_zero rest_zero all_finite sound room_enough zeroed ready given arc_by_keys by_keys checks moves_finite pairs_without insert_need need rows_for keys_for room_for work last_step worked decided kept called finished check_mesh arc_name key_name vertex_record arc_record edge_record face_record used_from put_among in_order key_before arc_before records bytes with_head parts_at is_digit value_from digits_up_to number_in whole_of coordinate_in one_more numbers_in float_of point_of point_in numbers_make numbered point_makes pointed keys_make line_of line_from line_in without_last_empty lines_of digits_before decimal spaced returned shown_keys answer_text empty_room empty_mesh after_line after_lines after_script end_text checked_end program_on program name_words hex_digit hex_before bits_word vertex_line arc_line edge_line face_line lines_by records_text dumped_on span climb size odd units round of_int of_fields of_bits to_bits sum add neg sub mul stored computed printed_of eq
stored-as-the-rust = refl

pub drawn-as-the-rust : computed 11 20 9 drawn ≡ printed_of drawn
unfolding cell put put_row first_row free_row count every some_below all_below sum_below up_to has distinct opposite_of find_key arc_between one_up exponent_field finite_number zero_number position_at same_place finite_position finite_row zero_position_row moved finite_move put_vertex new_vertex connect set_face walk walk_ended ring ring_ended ring_vertices arc_count turn_in outgoing new_arc new_edge get_or_insert_edge number_of told accepted and_then answering checked arc_at malformed in_one_spot has_hair has_face leads_back conflict insert_checks edges_in new_face interior faceless_in exterior_at exterior put_face lists_of insert_work insert_face known remove remove_work place ring_distance stretch half held_by_other split_checks split_work poke_work corners arc_bridge_checks arc_bridge_work arc_bridge bridge_checks bridge_work moved_position moved_finite copy_one copies wall extrude_work arc_extrude_checks arc_extrude_work within_limits keys_of keys_differ keys_below has_both_arcs both_arcs ends_differ ends_exist pairs_differ edge_joins leads_out next_leaves previous_arrives face_exists names_holder closed comes_back three_to_limit sources_differ ring_holds holders_on_ring runs_back ring_sound rings_sound positions_zero rest_zero all_finite sound room_enough zeroed ready given arc_by_keys by_keys checks moves_finite pairs_without insert_need need rows_for keys_for room_for work last_step worked decided kept called finished check_mesh arc_name key_name vertex_record arc_record edge_record face_record used_from put_among in_order key_before arc_before records bytes with_head parts_at is_digit value_from digits_up_to number_in whole_of coordinate_in one_more numbers_in float_of point_of point_in numbers_make numbered point_makes pointed keys_make line_of line_from line_in without_last_empty lines_of digits_before decimal spaced returned shown_keys answer_text empty_room empty_mesh after_line after_lines after_script end_text checked_end program_on program name_words hex_digit hex_before bits_word vertex_line arc_line edge_line face_line lines_by records_text dumped_on span climb size odd units round of_int of_fields of_bits to_bits sum add neg sub mul drawn computed printed_of eq
drawn-as-the-rust = refl

-- both moves
pub scales-as-the-rust : dumped_after scales ≡ bytes scales_printed
unfolding cell put put_row first_row free_row count every some_below all_below sum_below up_to has distinct opposite_of find_key arc_between one_up exponent_field finite_number zero_number position_at same_place finite_position finite_row zero_position_row moved finite_move put_vertex new_vertex connect set_face walk walk_ended ring ring_ended ring_vertices arc_count turn_in outgoing new_arc new_edge get_or_insert_edge number_of told accepted and_then answering checked arc_at malformed in_one_spot has_hair has_face leads_back conflict insert_checks edges_in new_face interior faceless_in exterior_at exterior put_face lists_of insert_work insert_face known remove remove_work place ring_distance stretch half held_by_other split_checks split_work poke_work corners arc_bridge_checks arc_bridge_work arc_bridge bridge_checks bridge_work moved_position moved_finite copy_one copies wall extrude_work arc_extrude_checks arc_extrude_work within_limits keys_of keys_differ keys_below has_both_arcs both_arcs ends_differ ends_exist pairs_differ edge_joins leads_out next_leaves previous_arrives face_exists names_holder closed comes_back three_to_limit sources_differ ring_holds holders_on_ring runs_back ring_sound rings_sound positions_zero rest_zero all_finite sound room_enough zeroed ready given arc_by_keys by_keys checks moves_finite pairs_without insert_need need rows_for keys_for room_for work last_step worked decided kept called arc_name key_name vertex_record arc_record edge_record face_record used_from put_among in_order key_before arc_before records bytes with_head parts_at is_digit value_from digits_up_to number_in whole_of coordinate_in one_more numbers_in float_of point_of point_in numbers_make numbered point_makes pointed keys_make line_of line_from line_in without_last_empty lines_of digits_before decimal spaced returned shown_keys answer_text empty_room empty_mesh after_line after_lines end_text program_on program name_words hex_digit hex_before bits_word vertex_line arc_line edge_line face_line lines_by records_text dumped_on span climb size odd units round of_int of_fields of_bits to_bits sum add neg sub mul scales after_said dumped_after eq
scales-as-the-rust = refl

pub shifts-as-the-rust : dumped_after shifts ≡ bytes shifts_printed
unfolding cell put put_row first_row free_row count every some_below all_below sum_below up_to has distinct opposite_of find_key arc_between one_up exponent_field finite_number zero_number position_at same_place finite_position finite_row zero_position_row moved finite_move put_vertex new_vertex connect set_face walk walk_ended ring ring_ended ring_vertices arc_count turn_in outgoing new_arc new_edge get_or_insert_edge number_of told accepted and_then answering checked arc_at malformed in_one_spot has_hair has_face leads_back conflict insert_checks edges_in new_face interior faceless_in exterior_at exterior put_face lists_of insert_work insert_face known remove remove_work place ring_distance stretch half held_by_other split_checks split_work poke_work corners arc_bridge_checks arc_bridge_work arc_bridge bridge_checks bridge_work moved_position moved_finite copy_one copies wall extrude_work arc_extrude_checks arc_extrude_work within_limits keys_of keys_differ keys_below has_both_arcs both_arcs ends_differ ends_exist pairs_differ edge_joins leads_out next_leaves previous_arrives face_exists names_holder closed comes_back three_to_limit sources_differ ring_holds holders_on_ring runs_back ring_sound rings_sound positions_zero rest_zero all_finite sound room_enough zeroed ready given arc_by_keys by_keys checks moves_finite pairs_without insert_need need rows_for keys_for room_for work last_step worked decided kept called arc_name key_name vertex_record arc_record edge_record face_record used_from put_among in_order key_before arc_before records bytes with_head parts_at is_digit value_from digits_up_to number_in whole_of coordinate_in one_more numbers_in float_of point_of point_in numbers_make numbered point_makes pointed keys_make line_of line_from line_in without_last_empty lines_of digits_before decimal spaced returned shown_keys answer_text empty_room empty_mesh after_line after_lines end_text program_on program name_words hex_digit hex_before bits_word vertex_line arc_line edge_line face_line lines_by records_text dumped_on span climb size odd units round of_int of_fields of_bits to_bits sum add neg sub mul shifts after_said dumped_after eq
shifts-as-the-rust = refl

-- script Q, whole text in, whole text out. Its mesh is sound, so that the check before `end` need not be computed
abbrev Q : Text
Q = bytes "v 0 0 0\nv 4 0 0\nv 4 4 0\nv 0 4 0\nf 7 0 1 2\nf 7 0 2 3\nb 0 1\np 0 3 1 0\n"

abbrev Q-printed : Text
Q-printed = bytes "ok 0\nok 1\nok 2\nok 3\nok 0\nok 1\nno 3\nok 4\nend 5 8 4\n"

Q-computed : program_unchecked 64 128 64 Q ≡ Q-printed
unfolding cell put put_row first_row free_row count every some_below all_below sum_below up_to has distinct opposite_of find_key arc_between one_up exponent_field finite_number zero_number position_at same_place finite_position finite_row zero_position_row moved finite_move put_vertex new_vertex connect set_face walk walk_ended ring ring_ended ring_vertices arc_count turn_in outgoing new_arc new_edge get_or_insert_edge number_of told accepted and_then answering checked arc_at malformed in_one_spot has_hair has_face leads_back conflict insert_checks edges_in new_face interior faceless_in exterior_at exterior put_face lists_of insert_work insert_face known remove remove_work place ring_distance stretch half held_by_other split_checks split_work poke_work corners arc_bridge_checks arc_bridge_work arc_bridge bridge_checks bridge_work moved_position moved_finite copy_one copies wall extrude_work arc_extrude_checks arc_extrude_work within_limits keys_of keys_differ keys_below has_both_arcs both_arcs ends_differ ends_exist pairs_differ edge_joins leads_out next_leaves previous_arrives face_exists names_holder closed comes_back three_to_limit sources_differ ring_holds holders_on_ring runs_back ring_sound rings_sound positions_zero rest_zero all_finite sound room_enough zeroed ready given arc_by_keys by_keys checks moves_finite pairs_without insert_need need rows_for keys_for room_for work last_step worked decided kept called arc_name key_name vertex_record arc_record edge_record face_record used_from put_among in_order key_before arc_before records bytes with_head parts_at is_digit value_from digits_up_to number_in whole_of coordinate_in one_more numbers_in float_of point_of point_in numbers_make numbered point_makes pointed keys_make line_of line_from line_in without_last_empty lines_of digits_before decimal spaced returned shown_keys answer_text empty_room empty_mesh after_line after_lines after_script end_text program_unchecked name_words hex_digit hex_before bits_word vertex_line arc_line edge_line face_line lines_by records_text span climb size odd units round of_int of_fields of_bits to_bits sum add neg sub mul eq
Q-computed = refl

pub whole-Q :
    program (bytes "v 0 0 0\nv 4 0 0\nv 4 4 0\nv 0 4 0\nf 7 0 1 2\nf 7 0 2 3\nb 0 1\np 0 3 1 0\n")
    ≡ bytes "ok 0\nok 1\nok 2\nok 3\nok 0\nok 1\nno 3\nok 4\nend 5 8 4\n"
unfolding program
whole-Q = end_stays 64 128 64 (omega arith) (omega arith) (omega arith) Q ∙ Q-computed
