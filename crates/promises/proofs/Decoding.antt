-- Demands 3a and 3b, and that 0x7FC00000 is never written. Decoding undoes packing on every command of the walk, so decoding the words gives the walk's commands; and
-- cutting commutes with decoding. Assumes nothing.
use mathlib.Core.Path.{◌≡◌, refl, sym, ap, ap₂, ◌∙◌, subst}
use mathlib.Core.Logic.{◌≢◌}
use mathlib.Core.List.{List, [], ◌∷◌, map}
use Prim.Native.Nat.{ℕ, zero, suc, ◌+◌, ◌≤◌, ◌<◌}
use native.Mathlib.Nat.{le_of_suc-le-suc, not-suc-le-zero, zero-add}
use native.Mathlib.Omega.{arith}
use lib.ListN.{length, get_or, length-map, get_or-map}
use Rattle.command.specs.declared.PointCommand.{PointCommand}
use Rattle.command.specs.declared.PointCommand.TheVariants.{Start, Incr, End}
use Rattle.command.specs.Packing.{index_limit, pack_of, unpack_of}
use Rattle.command.proofs.Laws.{Packs, Holds, command_back, only_nan}
use Rattle.primitives.specs.declared.Capacities.{Capacities}
use Rattle.tables.specs.Tables.{capacities_of, quad_row_at}
use Rattle.tables.specs.Commands.{primitives_of, tables_of}
use Rattle.tables.proofs.Sound.{Sound, sound, splines_room}
use Rattle.walk.specs.Walk.{Item, walk_of, word_of, words_of}
use Rattle.flatten.specs.Flatten.{Flattening, walked}
use Rattle.promises.specs.Words.{is_end, decoded, pieces_in}
use Rattle.contours.specs.Cutting.{cut_after}
use Rattle.promises.specs.Accepted.{Job, words_in, walk_in, piece_of}
use Rattle.promises.specs.Demand3.{Demand3a, NeverNan, PiecesAreSplines, Demand3b}
use Rattle.promises.proofs.Flattened.{world_of, items_in, finished_of, passed, words_are}
use Rattle.facts.specs.Every.{All}
use Rattle.contours.proofs.Cutting.{cut_map}
use Rattle.promises.proofs.Walking.{command_of, ends_item, Packed, pieces_count, piece_at, piece_commands, walk_packed}

-- ---- the tables of a job are sound, and its walk can be packed
abbrev pub caps_of : Job → Capacities
caps_of job = capacities_of job.quads job.splines

pub job_sound : (job : Job) → Sound (caps_of job) (world_of job)
unfolding tables_of
job_sound job = sound job.setting (primitives_of job.state job.columns) job.quads job.splines

few_splines : (job : Job) → (caps_of job).splines ≤ index_limit
unfolding capacities_of
few_splines job = (splines_room job.quads job.splines).2

pub job_packed : (job : Job) → All Packed (items_in job.setting (world_of job))
unfolding walk_of
job_packed job = walk_packed (caps_of job) (world_of job) (job_sound job) (few_splines job) job.setting (world_of job).state.splines 0 0 (zero_add_le (world_of job).state.splines)
  where
    zero_add_le : (n : ℕ) → 0 + n ≤ n
    zero_add_le n = omega arith

-- ---- 3a
decode_items : (items : List Item) → All Packed items → decoded (words_of items) ≡ map command_of items
unfolding words_of word_of
decode_items [] h = refl
decode_items (i ∷ items) h = ap₂ (λ (c : PointCommand) (cs : List PointCommand). c ∷ cs) (command_back i.command h.0) (decode_items items h.1)

job_decoded : (job : Job) → decoded (words_in (finished_of job)) ≡ map command_of (walk_in job.setting (finished_of job))
unfolding walked
job_decoded job = ap decoded (words_are job) ∙ decode_items (items_in job.setting (world_of job)) (job_packed job)

pub demand3a : Demand3a
demand3a job h = subst (λ (f : Flattening). decoded (words_in f) ≡ map command_of (walk_in job.setting f)) (sym (passed job h).result) (job_decoded job)

-- ---- 7FC00000
packs_holds : (c : PointCommand) → Packs c → Holds c
packs_holds (Start i) h = tt
packs_holds (Incr size) h = h.0
packs_holds (End i flag) h = tt

not_nan : (c : PointCommand) → Packs c → pack_of c ≢ 0x7fc0_0000
not_nan c h e = (subst Packs (only_nan c (packs_holds c h) e) h).1

words_not_nan : (items : List Item) → All Packed items → (i : ℕ) → i < length (words_of items) → get_or (words_of items) i 0 ≢ 0x7fc0_0000
unfolding words_of word_of
words_not_nan [] h i l = absurd (not-suc-le-zero l)
words_not_nan (x ∷ items) h zero l = not_nan x.command h.0
words_not_nan (x ∷ items) h (suc i) l = words_not_nan items h.1 i (le_of_suc-le-suc l)

pub never_nan : NeverNan
never_nan job h =
    subst (λ (f : Flattening). (i : ℕ) → i < length (words_in f) → get_or (words_in f) i 0 ≢ 0x7fc0_0000) (sym (passed job h).result)
    (subst (λ (ws : List ℕ). (i : ℕ) → i < length ws → get_or ws i 0 ≢ 0x7fc0_0000) (sym (words_are job)) (words_not_nan (items_in job.setting (world_of job)) (job_packed job)))

-- ---- 3b
cut_decoded : (words : List ℕ) (items : List Item) → decoded words ≡ map command_of items → map decoded (pieces_in words) ≡ map (map command_of) (cut_after ends_item items)
cut_decoded words items e = cut_map unpack_of is_end words ∙ ap (cut_after is_end) e ∙ sym (cut_map command_of is_end items)

decoded_at : (pieces : List (List ℕ)) (k : ℕ) → decoded (get_or pieces k []) ≡ get_or (map decoded pieces) k []
decoded_at pieces k = sym (get_or-map decoded pieces k [])

pub job_pieces : (job : Job) → PiecesAreSplines (finished_of job)
unfolding walked walk_of
job_pieces job =
    let w = world_of job in
    let f = finished_of job in
    let e = cut_decoded (words_in f) (walk_in job.setting f) (job_decoded job) in
    record {
      as_many =
          sym (length-map (pieces_in (words_in f)) decoded)
          ∙ ap length e
          ∙ length-map (cut_after ends_item (walk_in job.setting f)) (map command_of)
          ∙ pieces_count (quad_row_at w.quads) w.splines job.setting w.state.splines 0 0;
      each = λ k h.
          let z = piece_at (quad_row_at w.quads) w.splines job.setting (λ (j c : ℕ). Unit {0}) (λ (j c : ℕ). Unit {0}) w.state.splines 0 0 tt (λ j c l u. tt) (λ j c l u. tt) k h in
          decoded_at (pieces_in (words_in f)) k
          ∙ ap (λ (x : List (List PointCommand)). get_or x k []) e
          ∙ get_or-map (map command_of) (cut_after ends_item (walk_in job.setting f)) k []
          ∙ ap (map command_of) z.is
          ∙ piece_commands (quad_row_at w.quads) w.splines (0 + k) z.cursor
          ∙ ap (piece_of w.splines) (zero-add k);
    }

pub demand3b : Demand3b
demand3b job h = subst PiecesAreSplines (sym (passed job h).result) (job_pieces job)
