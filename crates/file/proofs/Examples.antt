-- Computed examples of the mesh file (request L3), one by one.
use mathlib.Core.Path.{refl}
use Rattle.rules.specs.Table.{cell, first_row, count, every, some_below, all_below, sum_below, up_to, has, distinct}
use Rattle.rules.specs.Mesh.{opposite_of, find_key, arc_between}
use Rattle.rules.specs.Point.{exponent_field, finite_number, zero_number, position_at, finite_position, finite_row, zero_position_row}
use Rattle.rules.specs.Link.{walk, walk_ended, ring, ring_ended}
use Rattle.rules.specs.Step.{number_of, told}
use Rattle.rules.specs.Sound.{within_limits, keys_of, keys_differ, keys_below, has_both_arcs, both_arcs, ends_differ, ends_exist, pairs_differ, edge_joins, leads_out, next_leaves, previous_arrives, face_exists, names_holder, closed, comes_back, three_to_limit, sources_differ, ring_holds, holders_on_ring, runs_back, ring_sound, rings_sound, positions_zero, rest_zero, all_finite, sound}
use Rattle.rules.specs.Call.{room_enough, zeroed, finished, check_mesh}
use Rattle.rules.specs.Records.{arc_name, key_name, vertex_record, arc_record, edge_record, face_record, used_from, put_among, in_order, key_before, arc_before, records}
use Rattle.rules.specs.Script.{empty_room, empty_mesh}
use lib.Ieee.{span, climb, size, odd, units, round, of_fields, of_bits, to_bits}
use Rattle.file.specs.File.{cell_text, cell_in, bytes_only, row_text, row_in, total, row_fits, body_text, body_in, body_length, places, bodies_text, file_text, count_in, offset_in, bodies_in, contents_in, asked, length_fits, placed, rises_by, rising, all_rise, in_place, key_cell, vertex_cells, arc_cells, edge_cells, face_cells, contents_of, file_of, body, or_nowhere, by_key, by_ends, unless_none, vertex_row, position_row, arc_row, edge_row, face_row, filled, mesh_of, sizes_serve, tables_hold, read_number, read_file, wrote, check_refuses, write_file}
use Rattle.file.specs.Examples.{triangle, scattered, triangle_file, changed, counted_over, infinite, empty_file, answer, lone, unsound, Computed}

pub computed : Computed
unfolding cell first_row count every some_below all_below sum_below up_to has distinct opposite_of find_key arc_between exponent_field finite_number zero_number position_at finite_position finite_row zero_position_row walk walk_ended ring ring_ended number_of told within_limits keys_of keys_differ keys_below has_both_arcs both_arcs ends_differ ends_exist pairs_differ edge_joins leads_out next_leaves previous_arrives face_exists names_holder closed comes_back three_to_limit sources_differ ring_holds holders_on_ring runs_back ring_sound rings_sound positions_zero rest_zero all_finite sound room_enough zeroed finished check_mesh arc_name key_name vertex_record arc_record edge_record face_record used_from put_among in_order key_before arc_before records empty_room empty_mesh span climb size odd units round of_fields of_bits to_bits cell_text cell_in bytes_only row_text row_in total row_fits body_text body_in body_length places bodies_text file_text count_in offset_in bodies_in contents_in asked length_fits placed rises_by rising all_rise in_place key_cell vertex_cells arc_cells edge_cells face_cells contents_of file_of body or_nowhere by_key by_ends unless_none vertex_row position_row arc_row edge_row face_row filled mesh_of sizes_serve tables_hold read_number read_file wrote check_refuses write_file triangle scattered triangle_file changed counted_over infinite empty_file answer lone unsound
computed =
    record {
      layout =
          record {
            triangle-sound = refl;
            scattered-sound = refl;
            triangle-length = refl;
            triangle-fits = refl;
            triangle-in-place = refl;
            rows-not-written = refl;
            contents-table = refl;
            vertex-bytes = refl;
            arc-bytes = refl;
            edge-bytes = refl;
            face-bytes = refl;
            empty-file = refl;
          };
      accepted =
          record {
            triangle-read = refl;
            larger-tables = refl;
            empty-read = refl;
            no-tables = refl;
          };
      one-and-ten =
          record {
            small-room = refl;
            byte-fewer = refl;
            byte_more = refl;
            nothing = refl;
            below-44 = refl;
            count-over = refl;
          };
      eleven =
          record {
            first-offset = refl;
            last-offset = refl;
            empty-offset = refl;
            equal-keys = refl;
            equal-ends = refl;
          };
      seven-and-twelve =
          record {
            few-vertices = refl;
            few-edges = refl;
            few-faces = refl;
            low-counter = refl;
            not_finite = refl;
            no-such-next = refl;
            no-such-leading = refl;
            no-such-face = refl;
            no-such-edge = refl;
          };
      writing =
          record {
            length-returned = refl;
            others-stay = refl;
            lone-written = refl;
            refused-1 = refl;
            refused-7 = refl;
            none-touched = refl;
          };
    }
