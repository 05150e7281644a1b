-- P1 to P12 (RULES, Examples) hold of the definitions, as one statement over their list, by computation. Assumes nothing.
use mathlib.Core.Path.{◌≡◌, refl}
use mathlib.Core.List.{map}
use lib.Count.{count_trailing_zeros}
use lib.Ieee.{size, span, climb, odd, units, round, neg, sum, add, sub, mul, div, lt, eq, le, of_int, is_nan, of_fields, of_bits, to_bits}
use Rattle.rounding.specs.Roots.{root_in, root, cut_to, rooted}
use Rattle.leaves.specs.Bits.{bits_of, float_of}
use Rattle.leaves.specs.Fma.{fma_of}
use Rattle.leaves.specs.Pieces.{pieces_of}
use Rattle.leaves.specs.Sixth.{sixth_root_of}
use Rattle.leaves.specs.Small.{negative_of, abs_of, less_of, min_of, max_of, clamp_of, ceil_of}
use Rattle.leaves.specs.Sqrt.{sqrt_of}
use Rattle.leaves.specs.Whole.{whole_up_of}
use Rattle.point.specs.Angle.{approx_atan2_of, angle_of, diff_of, full_diff_of, difference_of, changed_of}
use Rattle.point.specs.Curve.{lerp_of, curvature_of, inv_curvature_of, quad_at_of, cubic_at_of, eval_cubic_of, eval_quad_of}
use Rattle.point.specs.Point.{rational_of, applied_of, minus_of, same_of, len_of}
use Rattle.command.specs.Packing.{pack_of, unpack_of}
use Rattle.store.specs.Closing.{unclosed_of}
use Rattle.store.specs.Columns.{stored_point_of, last_command_of, put_point, put_command, even_of, usable_of}
use Rattle.store.specs.Drawable.{stored_ok_of, known_of, total_uses_of, drawable_of}
use Rattle.store.specs.Drawing.{coordinate_ok_of, weight_ok_of, every, coordinates_of, weights_of, appended, closed, moved, writes_of, put_points}
use Rattle.store.specs.Drawing.{put_commands, written, state_after, room_of, answer_of, draw_of, fresh_of}
use Rattle.store.specs.Replay.{replay_of}
use Rattle.primitives.specs.Cubics.{bend_of, cubic_error_of, cubic_pieces_of, cubic_point_of, control_of, quads_from, cut_of, cubic_quads_of}
use Rattle.primitives.specs.Plan.{refused_of, marked_of, plan_line_of, quad_row_of, plan_curve_of, plan_legs_of, plan_quad_of, plan_of}
use Rattle.primitives.specs.Quads.{cross_of, leg_of, own_curvature_of, straight_of, curve_of}
use Rattle.primitives.specs.Splines.{far_of, spline_kind_of, apart_of, opens_of, line_angle_of, move_angle_of, sum_before, quad_count_of, spline_edit_of}
use Rattle.tables.specs.Commands.{cubic_from, command_primitives_of, primitives_from, primitives_of, tables_of}
use Rattle.tables.specs.Run.{apply_of, push_of, run_of}
use Rattle.columns.specs.Flags.{flag_byte_of, is_flag_of}
use Rattle.tables.specs.Tables.{quad_capacity_of, spline_capacity_of, capacities_of, numbers_of, put_quad, number_at, quad_row_at, clear_flag, put_spline, spline_at, last_spline_of}
use Rattle.walk.specs.Walk.{subdivisions_of, step_size_of, starts_of, cursor_start_of, cursor_at, steps_from, cursor_from, cursor_after, spline_items_of, walk_from, walk_of, word_of, words_of}
use Rattle.evaluate.specs.Evaluate.{previous_sum_of, parameter_of, step_point_of, command_point_of, item_point_of, points_of}
use Rattle.flatten.specs.Flatten.{over, fits_output, write_output, walked, tabled, flatten_drawable, flatten_of}
use Rattle.promises.specs.Examples.{Example, promised, drawn, flat, words_told, words_after, points_told, points_after, row_after, stored_after, joined_quads, joined_splines, joined_cursors}
use Rattle.promises.specs.Room.{empty_columns, empty_quads, empty_splines, empty_output}

pub promised_hold : map (λ (e : Example). e.given) promised ≡ map (λ (e : Example). e.claimed) promised
unfolding root_in root rooted bits_of float_of fma_of pieces_of cut_to sixth_root_of negative_of abs_of less_of min_of max_of clamp_of ceil_of sqrt_of whole_up_of
    approx_atan2_of angle_of diff_of full_diff_of difference_of changed_of lerp_of curvature_of inv_curvature_of quad_at_of cubic_at_of eval_cubic_of eval_quad_of rational_of applied_of minus_of
    same_of len_of pack_of unpack_of unclosed_of stored_point_of last_command_of put_point put_command even_of usable_of stored_ok_of known_of total_uses_of drawable_of
    coordinate_ok_of weight_ok_of every coordinates_of weights_of appended closed moved writes_of put_points put_commands written state_after room_of answer_of
    draw_of fresh_of replay_of bend_of cubic_error_of cubic_pieces_of cubic_point_of control_of quads_from cut_of cubic_quads_of refused_of marked_of plan_line_of
    quad_row_of plan_curve_of plan_legs_of plan_quad_of plan_of cross_of leg_of own_curvature_of straight_of curve_of far_of
    spline_kind_of apart_of opens_of line_angle_of move_angle_of sum_before
    quad_count_of spline_edit_of cubic_from command_primitives_of primitives_from primitives_of tables_of apply_of push_of run_of flag_byte_of is_flag_of quad_capacity_of
    spline_capacity_of capacities_of numbers_of put_quad number_at quad_row_at clear_flag put_spline spline_at last_spline_of subdivisions_of step_size_of starts_of
    cursor_start_of cursor_at steps_from cursor_from cursor_after spline_items_of walk_from walk_of word_of words_of previous_sum_of parameter_of step_point_of command_point_of
    item_point_of points_of over fits_output write_output walked tabled flatten_drawable flatten_of drawn flat words_told words_after points_told points_after row_after stored_after
    joined_quads joined_splines joined_cursors empty_columns empty_quads empty_splines empty_output count_trailing_zeros size span climb odd units round neg sum add
    sub mul div lt eq le of_int is_nan of_fields of_bits to_bits
promised_hold = refl
