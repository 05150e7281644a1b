-- The walk over tables written out, by computation: where no Start is written, where the cursor begins and goes, and that every contour has its steps. Assumes nothing.
use Prim.Native.Nat.{ℕ}
use mathlib.Core.Path.{◌≡◌, refl}
use mathlib.Core.List.{List, [], ◌∷◌, map}
use lib.Count.{count_trailing_zeros}
use lib.Ieee.{Float, nan, size, span, climb, odd, units, round, neg, sum, add, sub, mul, div, lt, eq, le, of_int, is_nan, of_fields, of_bits, to_bits}
use lib.ListN.{get_or, replicate}
use Rattle.rounding.specs.Roots.{root_in, root, rooted}
use Rattle.leaves.specs.Single.{f32, zero32, whole32}
use Rattle.leaves.specs.Bits.{bits_of}
use Rattle.leaves.specs.Sqrt.{sqrt_of}
use Rattle.leaves.specs.Whole.{whole_up_of}
use Rattle.point.specs.declared.Setting.{Setting}
use Rattle.point.specs.declared.Setting.TheVariants.{Screen, Knife}
use Rattle.point.specs.Point.{minus_of, len_of}
use Rattle.command.specs.Packing.{pack_of}
use Rattle.columns.specs.Flags.{is_flag_of}
use Rattle.primitives.specs.declared.Three.{Three}
use Rattle.primitives.specs.declared.QuadRow.{QuadRow}
use Rattle.tables.specs.Tables.{SplineTable, spline_table, spline_at}
use Rattle.walk.specs.Walk.{Item, subdivisions_of, step_size_of, starts_of, cursor_start_of, cursor_at, steps_from, cursor_from, cursor_after}
use Rattle.walk.specs.Walk.{spline_items_of, walk_from, walk_of, word_of, words_of}

-- quads of these sums; the walk reads nothing else of them
unfoldable pub summed : List Float → ℕ → QuadRow
summed sums i =
    let none : Three = record { a = zero32; b = zero32; c = zero32 } in
    record {
      x = none;
      y = none;
      weight = none;
      x0 = zero32;
      dx_recip = zero32;
      k0 = zero32;
      dk = zero32;
      curvature_recip = zero32;
      partial_curvature = get_or sums i nan;
      spline = 0;
    }

-- two splines without length: the first ends at the origin, the second starts at (x, 0) and closes the contour
unfoldable pub apart : Float → SplineTable
apart x =
    spline_table (zero32 ∷ zero32 ∷ []) (zero32 ∷ x ∷ []) (zero32 ∷ zero32 ∷ []) (zero32 ∷ zero32 ∷ []) (zero32 ∷ zero32 ∷ []) (0 ∷ 1 ∷ []) (0 ∷ 0 ∷ [])
    (0 ∷ 0 ∷ [])

-- splines of these sums, flags and first quads, all at the origin; the walk reads no number of quads
unfoldable pub still : List Float → List ℕ → List ℕ → SplineTable
still sums flags firsts = let none = replicate 4 zero32 in spline_table sums none none none none flags firsts (replicate 4 0)

-- at a distance of exactly 0.0625 no Start is written, at the next f32 up one is
pub no_start_at_the_limit : words_of (walk_of Screen (summed []) (apart (f32 0x3d80_0000)) 2) ≡ 0x7f80_0000 ∷ 0xff80_0000 ∷ 0xffc0_0001 ∷ []
unfolding summed apart root_in root rooted bits_of sqrt_of whole_up_of minus_of len_of pack_of is_flag_of spline_at subdivisions_of step_size_of starts_of cursor_start_of cursor_at
    steps_from cursor_from cursor_after spline_items_of walk_from walk_of word_of words_of count_trailing_zeros size span climb odd units round neg sum add sub mul
    div lt eq le of_int is_nan of_fields of_bits to_bits
no_start_at_the_limit = refl

pub a_start_past_the_limit : words_of (walk_of Screen (summed []) (apart (f32 0x3d80_0001)) 2) ≡ 0x7f80_0000 ∷ 0xff80_0000 ∷ 0x7f80_0001 ∷ 0xffc0_0001 ∷ []
unfolding summed apart root_in root rooted bits_of sqrt_of whole_up_of minus_of len_of pack_of is_flag_of spline_at subdivisions_of step_size_of starts_of cursor_start_of cursor_at
    steps_from cursor_from cursor_after spline_items_of walk_from walk_of word_of words_of count_trailing_zeros size span climb odd units round neg sum add sub mul
    div lt eq le of_int is_nan of_fields of_bits to_bits
a_start_past_the_limit = refl

-- the sums 0.25, 0.5 and 3 in one spline: step 1 exceeds the first two and yet uses quad 1, step 2 quad 2
pub cursor_goes_on_once :
    map (λ (i : Item). i.quad) (walk_of Screen (summed (f32 0x3e80_0000 ∷ f32 0x3f00_0000 ∷ whole32 3 ∷ [])) (still (whole32 3 ∷ []) (1 ∷ []) (0 ∷ [])) 1)
    ≡ 0 ∷ 1 ∷ 2 ∷ 0 ∷ []
unfolding summed still root_in root rooted bits_of sqrt_of whole_up_of minus_of len_of pack_of is_flag_of spline_at subdivisions_of step_size_of starts_of cursor_start_of cursor_at
    steps_from cursor_from cursor_after spline_items_of walk_from walk_of word_of words_of count_trailing_zeros size span climb odd units round neg sum add sub mul
    div lt eq le of_int is_nan of_fields of_bits to_bits
cursor_goes_on_once = refl

-- the sums 2 and 3 in one spline, then spline 1 with quad 2: no step of the first comes to its quad 1, and the cursor is there when spline 1 begins. On the screen its
-- step strays to quad 1; for the knife the cursor begins at quad 2.
abbrev cursors : Setting → List ℕ
cursors setting =
    map (λ (i : Item). i.quad)
    (walk_of setting (summed (whole32 2 ∷ whole32 3 ∷ whole32 2 ∷ [])) (still (whole32 3 ∷ whole32 2 ∷ []) (0 ∷ 1 ∷ []) (0 ∷ 2 ∷ [])) 2)

pub cursor_begins : (cursors Screen ≡ 0 ∷ 0 ∷ 0 ∷ 0 ∷ 1 ∷ 0 ∷ []) × (cursors Knife ≡ 0 ∷ 0 ∷ 0 ∷ 0 ∷ 2 ∷ 0 ∷ [])
unfolding summed still root_in root rooted bits_of sqrt_of whole_up_of minus_of len_of pack_of is_flag_of spline_at subdivisions_of step_size_of starts_of cursor_start_of cursor_at
    steps_from cursor_from cursor_after spline_items_of walk_from walk_of word_of words_of count_trailing_zeros size span climb odd units round neg sum add sub mul
    div lt eq le of_int is_nan of_fields of_bits to_bits
cursor_begins = (refl, refl)

-- two contours of sum 2: each has its Start, its step of size 1 and its flagged End
pub every_contour_has_steps :
    words_of (walk_of Screen (summed (whole32 2 ∷ whole32 2 ∷ [])) (still (whole32 2 ∷ whole32 2 ∷ []) (1 ∷ 1 ∷ []) (0 ∷ 1 ∷ [])) 2)
    ≡ 0x7f80_0000 ∷ 0x3f80_0000 ∷ 0xffc0_0000 ∷ 0x7f80_0001 ∷ 0x3f80_0000 ∷ 0xffc0_0001 ∷ []
unfolding summed still root_in root rooted bits_of sqrt_of whole_up_of minus_of len_of pack_of is_flag_of spline_at subdivisions_of step_size_of starts_of cursor_start_of cursor_at
    steps_from cursor_from cursor_after spline_items_of walk_from walk_of word_of words_of count_trailing_zeros size span climb odd units round neg sum add sub mul
    div lt eq le of_int is_nan of_fields of_bits to_bits
every_contour_has_steps = refl
