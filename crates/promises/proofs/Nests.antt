-- 02, Eight: the whole's points are the contours' points joined in order, its words are theirs with the splines numbered on; when each alone is accepted, and when the
-- whole is. The plan: the tables of the contours stand in those of the whole (NestTables); over such tables the knife's walks join (JoinedWalks); and where the condition on
-- sums holds the screen's walk is the knife's. Assumes nothing.
use Prim.Native.Nat.{ℕ, suc, ◌+◌}
use mathlib.Core.Path.{◌≡◌, refl, sym, ap, ap₂, ◌∙◌, subst}
use mathlib.Core.Logic.{◌↔◌}
use mathlib.Core.Bool.{false}
use mathlib.Core.List.{List, [], ◌∷◌, ◌++◌, map, flat_map, map-append, map-map}
use lib.Ieee.{Float}
use lib.ListN.{length}
use Rattle.columns.specs.Flags.{flag_byte_of}
use Rattle.command.specs.declared.PointCommand.{PointCommand}
use Rattle.command.specs.declared.PointCommand.TheVariants.{Start, Incr, End}
use Rattle.command.specs.Packing.{pack_of, unpack_of}
use Rattle.point.specs.declared.Setting.{Setting}
use Rattle.point.specs.declared.Setting.TheVariants.{Screen, Knife}
use Rattle.primitives.specs.declared.QuadRow.{QuadRow}
use Rattle.store.specs.Contours.{Drawing, contours_of}
use Rattle.tables.specs.Tables.{SplineTable, quad_row_at}
use Rattle.tables.specs.Run.{World}
use Rattle.tables.proofs.Standing.{StandFrom}
use Rattle.tables.proofs.Nested.{AllDone, all_both}
use Rattle.walk.specs.Walk.{Item}
use Rattle.evaluate.specs.Evaluate.{Finished, command_point_of, item_point_of, points_of}
use Rattle.flatten.specs.Flatten.{Flattening, walked}
use Rattle.promises.specs.Words.{decoded}
use Rattle.promises.specs.Accepted.{Job, flattening_of, Accepted, words_in, walk_in}
use Rattle.promises.specs.Demand3.{Spread}
use Rattle.promises.specs.Nests.{Lent, alones_from, alones_of, total, x_in, y_in, end_in, numbered_on, words_from, WordsJoined, Joined}
use Rattle.facts.specs.Every.{All}
use Rattle.promises.specs.Nests.{NestsTell, NestsJoin, SpreadAlike}
use Rattle.promises.proofs.Flattened.{world_of, items_in, passed, words_are}
use Rattle.promises.proofs.Decoding.{caps_of, job_sound, demand3a}
use Rattle.promises.proofs.Walking.{command_of}
use Rattle.facts.proofs.Every.{all_map}
use Rattle.promises.proofs.SplineQuads.{same_commands, packed, items_same}
use Rattle.promises.proofs.JoinedWalks.{commands_from, points_in, counts, points_join, commands_join, length_join}
use Rattle.promises.proofs.JoinedSpread.{left, spread_same, spread_join}
use Rattle.promises.proofs.NestTables.{worlds_are, joins, walked_points, xs_are, ys_are, ends_are}

-- ---- lists of jobs
pub all_two : (P Q : Job → Type 0) (jobs : List Job) → All P jobs → All Q jobs → All (λ (a : Job). P a × Q a) jobs
all_two P Q [] p q = tt
all_two P Q (a ∷ rest) p q = ((p.0, q.0), all_two P Q rest p.1 q.1)

all_under : (C : Type 0) (P : Job → Type 0) (jobs : List Job) → (C → All P jobs) → All (λ (a : Job). C → P a) jobs
all_under C P [] f = tt
all_under C P (a ∷ rest) f = ((λ c. (f c).0), all_under C P rest (λ c. (f c).1))

pub settings : (setting : Setting) (lent : ℕ → Lent) (i : ℕ) (ds : List Drawing) → All (λ (a : Job). a.setting ≡ setting) (alones_from setting lent i ds)
unfolding alones_from
settings setting lent i [] = tt
settings setting lent i (d ∷ ds) = (refl, settings setting lent (suc i) ds)

pub all_done : (jobs : List Job) → All Accepted jobs → AllDone (map world_of jobs)
all_done [] h = tt
all_done (a ∷ rest) h = ((passed a h.0).done, all_done rest h.1)

-- what the flattenings give, by what their tables do
flat : {B C : Type 0} (g : Flattening → List C) (h : World → List B) (m : B → C) (jobs : List Job)
    → All (λ (a : Job). g (flattening_of a) ≡ map m (h (world_of a))) jobs → flat_map g (map flattening_of jobs) ≡ map m (flat_map h (map world_of jobs))
unfolding flat_map
flat {C = C} g h m [] z = refl
flat {C = C} g h m (a ∷ rest) z =
    ap₂ (λ (x y : List C). x ++ y) z.0 (flat g h m rest z.1) ∙ sym (map-append m (h (world_of a)) (flat_map h (map world_of rest)))

pub totals : (g : Flattening → ℕ) (h : World → ℕ) (jobs : List Job) → All (λ (a : Job). g (flattening_of a) ≡ h (world_of a)) jobs
    → total g (map flattening_of jobs) ≡ total h (map world_of jobs)
unfolding total
totals g h [] z = refl
totals g h (a ∷ rest) z = ap₂ (λ (x y : ℕ). x + y) z.0 (totals g h rest z.1)

-- ---- the ends are told by the commands
abbrev end_of : PointCommand → ℕ
end_of (Start k) = flag_byte_of false
end_of (Incr size) = flag_byte_of false
end_of (End k flag) = flag_byte_of flag

ends_told : (rows : ℕ → QuadRow) (s : SplineTable) (items : List Item)
    → map (λ (p : Finished). flag_byte_of p.end) (points_of rows s items) ≡ map end_of (map command_of items)
unfolding points_of item_point_of command_point_of
ends_told rows s [] = refl
ends_told rows s (i ∷ items) = ap₂ (λ (e : ℕ) (es : List ℕ). e ∷ es) (one i.command i.step i.quad) (ends_told rows s items)
  where
    one : (command : PointCommand) (p q : ℕ) → flag_byte_of (command_point_of rows s command p q).end ≡ end_of command
    one (Start k) p q = refl
    one (Incr size) p q = refl
    one (End k flag) p q = refl

ends_numbered : (n : ℕ) (commands : List PointCommand) → map end_of (map (numbered_on n) commands) ≡ map end_of commands
ends_numbered n [] = refl
ends_numbered n (Start k ∷ commands) = ap (λ (es : List ℕ). flag_byte_of false ∷ es) (ends_numbered n commands)
ends_numbered n (Incr size ∷ commands) = ap (λ (es : List ℕ). flag_byte_of false ∷ es) (ends_numbered n commands)
ends_numbered n (End k flag ∷ commands) = ap (λ (es : List ℕ). flag_byte_of flag ∷ es) (ends_numbered n commands)

-- ---- what an accepted drawing leaves
module _ (job : Job) (h : Accepted job) where
  pub splines_are : (flattening_of job).result.splines ≡ (world_of job).state.splines
  unfolding walked
  splines_are = ap (λ (f : Flattening). f.result.splines) (passed job h).result

  pub quads_are : (flattening_of job).result.quads ≡ (world_of job).state.quads
  unfolding walked
  quads_are = ap (λ (f : Flattening). f.result.quads) (passed job h).result

  pub points_are : (flattening_of job).result.points ≡ length (items_in job.setting (world_of job))
  unfolding walked
  points_are = ap (λ (f : Flattening). f.result.points) (passed job h).result

  table_is : (flattening_of job).quads ≡ (world_of job).quads
  unfolding walked
  table_is = ap (λ (f : Flattening). f.quads) (passed job h).result

  commands_knife : map command_of (items_in job.setting (world_of job)) ≡ map command_of (items_in Knife (world_of job))
  commands_knife = same_commands job.setting Knife (quad_row_at (world_of job).quads) (world_of job).splines (world_of job).state.splines

  decoded_knife : decoded (words_in (flattening_of job)) ≡ map command_of (items_in Knife (world_of job))
  unfolding walked
  decoded_knife = demand3a job h ∙ ap (λ (f : Flattening). map command_of (walk_in job.setting f)) (passed job h).result ∙ commands_knife

  ends_knife : end_in (flattening_of job) ≡ map end_of (map command_of (items_in Knife (world_of job)))
  ends_knife = ends_are job h ∙ ends_told (quad_row_at (world_of job).quads) (world_of job).splines (items_in job.setting (world_of job)) ∙ ap (map end_of) commands_knife

  -- the walk is the knife's
  knife_items : (job.setting ≡ Screen → Spread (flattening_of job)) → items_in job.setting (world_of job) ≡ items_in Knife (world_of job)
  knife_items spread = go job.setting refl
    where
      w : World
      w = world_of job

      go : (x : Setting) → job.setting ≡ x → items_in x w ≡ items_in Knife w
      go Knife e = refl
      go Screen e =
          sym (items_same Knife (caps_of job) w (job_sound job) 0 job.output
          (spread_same (flattening_of job) (left 0 job.output w) table_is quads_are (spread e)))

  module _ (knife : items_in job.setting (world_of job) ≡ items_in Knife (world_of job)) where
    points_knife : walked_points job ≡ points_in Knife (world_of job)
    points_knife = ap (points_of (quad_row_at (world_of job).quads) (world_of job).splines) knife

-- ---- the words
renumbered : (n : ℕ) (words : List ℕ) → map (λ (word : ℕ). pack_of (numbered_on n (unpack_of word))) words ≡ map pack_of (map (numbered_on n) (decoded words))
renumbered n words =
    sym (map-map pack_of (numbered_on n) (decoded words) ∙ map-map (λ (c : PointCommand). pack_of (numbered_on n c)) unpack_of words)

record Told (a : Job) : Type 0 where
  ends : end_in (flattening_of a) ≡ map end_of (map command_of (items_in Knife (world_of a)))
  decodes : decoded (words_in (flattening_of a)) ≡ map command_of (items_in Knife (world_of a))
  counted : (flattening_of a).result.splines ≡ (world_of a).state.splines

words_from_lem : (n : ℕ) (jobs : List Job) → All Told jobs → words_from n (map flattening_of jobs) ≡ map pack_of (commands_from n (map world_of jobs))
unfolding words_from commands_from
words_from_lem n [] z = refl
words_from_lem n (a ∷ rest) z =
    ap₂ (λ (x y : List ℕ). x ++ y)
    (renumbered n (words_in (flattening_of a)) ∙ ap (λ (l : List PointCommand). map pack_of (map (numbered_on n) l)) z.0.decodes)
    (words_from_lem (n + (flattening_of a).result.splines) rest z.1
    ∙ ap (λ (m : ℕ). map pack_of (commands_from (n + m) (map world_of rest))) z.0.counted)
    ∙ sym (map-append pack_of (map (numbered_on n) (map command_of (items_in Knife (world_of a)))) _)

ends_from : (n : ℕ) (jobs : List Job) → All Told jobs → flat_map end_in (map flattening_of jobs) ≡ map end_of (commands_from n (map world_of jobs))
unfolding flat_map commands_from
ends_from n [] z = refl
ends_from n (a ∷ rest) z =
    let own = map command_of (items_in Knife (world_of a)) in
    ap₂ (λ (x y : List ℕ). x ++ y) (z.0.ends ∙ sym (ends_numbered n own)) (ends_from (n + (world_of a).state.splines) rest z.1)
    ∙ sym (map-append end_of (map (numbered_on n) own) _)

-- ---- a drawing that is accepted, and each of its contours alone
module _ (job : Job) (lent : ℕ → Lent) (h : Accepted job) (each : All Accepted (alones_of job lent)) where
  abbrev alones : List Job
  alones = alones_of job lent

  abbrev whole : World
  whole = world_of job

  same_setting : All (λ (a : Job). a.setting ≡ job.setting) alones
  same_setting = settings job.setting lent 0 (contours_of job.state job.columns)

  stand : StandFrom whole 0 0 (map world_of alones)
  stand =
      subst (StandFrom whole 0 0) (sym (worlds_are job lent))
      (joins job lent (passed job h).drawable (all_both (passed job h).done (subst AllDone (worlds_are job lent) (all_done alones each)))).stand

  -- ---- the condition on sums
  abbrev Spreads : World → Type 0
  Spreads w = Spread (left 0 job.output w)

  spread_to : (jobs : List Job) → All Accepted jobs → All Spreads (map world_of jobs) → All (λ (a : Job). Spread (flattening_of a)) jobs
  spread_to [] a z = tt
  spread_to (x ∷ rest) a z = (
    spread_same (left 0 job.output (world_of x)) (flattening_of x) (sym (table_is x a.0)) (sym (quads_are x a.0)) z.0,
    spread_to rest a.1 z.1,
  )

  spread_from : (jobs : List Job) → All Accepted jobs → All (λ (a : Job). Spread (flattening_of a)) jobs → All Spreads (map world_of jobs)
  spread_from [] a z = tt
  spread_from (x ∷ rest) a z = (
    spread_same (flattening_of x) (left 0 job.output (world_of x)) (table_is x a.0) (quads_are x a.0) z.0,
    spread_from rest a.1 z.1,
  )

  spread_each : Spread (flattening_of job) ↔ All (λ (a : Job). Spread (flattening_of a)) alones
  spread_each =
      let s = spread_join (λ (w : World). 0) (λ (w : World). job.output) 0 job.output whole (map world_of alones) stand in (
        λ z. spread_to alones each (s.0 (spread_same (flattening_of job) (left 0 job.output whole) (table_is job h) (quads_are job h) z)),
        λ z. spread_same (left 0 job.output whole) (flattening_of job) (sym (table_is job h)) (sym (quads_are job h)) (s.1 (spread_from alones each z)),
      )

  -- ---- the words, the ends and the counts
  told : All Told alones
  told = all_map Accepted Told (λ a z. record { ends = ends_knife a z; decodes = decoded_knife a z; counted = splines_are a z }) alones each

  commands_joined : map command_of (items_in job.setting whole) ≡ commands_from 0 (map world_of alones)
  commands_joined = commands_knife job h ∙ commands_join whole (map world_of alones) stand

  words_joined : WordsJoined (flattening_of job) (map flattening_of alones)
  words_joined =
      record {
        words =
            ap words_in (passed job h).result ∙ words_are job ∙ packed (items_in job.setting whole) ∙ ap (map pack_of) commands_joined
            ∙ sym (words_from_lem 0 alones told);
        end = ends_knife job h ∙ ap (map end_of) (sym (commands_knife job h) ∙ commands_joined) ∙ sym (ends_from 0 alones told);
        splines =
            splines_are job h ∙ (counts whole (map world_of alones) stand).1
            ∙ sym (totals (λ (f : Flattening). f.result.splines) (λ (w : World). w.state.splines) alones (all_map Accepted _ splines_are alones each));
        quads =
            quads_are job h ∙ (counts whole (map world_of alones) stand).0
            ∙ sym (totals (λ (f : Flattening). f.result.quads) (λ (w : World). w.state.quads) alones (all_map Accepted _ quads_are alones each));
        points =
            points_are job h ∙ length_join job.setting whole (map world_of alones) stand
            ∙ sym (totals (λ (f : Flattening). f.result.points) (λ (w : World). length (items_in job.setting w)) alones
            (all_map (λ (a : Job). Accepted a × (a.setting ≡ job.setting)) _
            (λ a z. points_are a z.0 ∙ ap (λ (x : Setting). length (items_in x (world_of a))) z.1) alones
            (all_two Accepted (λ (a : Job). a.setting ≡ job.setting) alones each same_setting)));
      }

  -- ---- the points
  module _ (spread : job.setting ≡ Screen → Spread (flattening_of job)) where
    -- each alone is accepted, and its walk is the knife's
    record Good (a : Job) : Type 0 where
      accepted : Accepted a
      knife : items_in a.setting (world_of a) ≡ items_in Knife (world_of a)

    -- it has the whole's setting, and on the screen the condition holds of it
    record Asked (a : Job) : Type 0 where
      same : a.setting ≡ job.setting
      sums : job.setting ≡ Screen → Spread (flattening_of a)

    good : All Good alones
    good =
        all_map (λ (a : Job). Accepted a × Asked a) Good
        (λ a z. record { accepted = z.0; knife = knife_items a z.0 (λ e. z.1.sums (sym z.1.same ∙ e)) })
        alones
        (all_two Accepted Asked alones each
        (all_map (λ (a : Job). (a.setting ≡ job.setting) × (job.setting ≡ Screen → Spread (flattening_of a))) Asked (λ a z. record { same = z.0; sums = z.1 })
        alones
        (all_two (λ (a : Job). a.setting ≡ job.setting) (λ (a : Job). job.setting ≡ Screen → Spread (flattening_of a)) alones same_setting
        (all_under (job.setting ≡ Screen) (λ (a : Job). Spread (flattening_of a)) alones (λ e. spread_each.0 (spread e))))))

    own : items_in job.setting whole ≡ items_in Knife whole
    own = knife_items job h spread

    abbrev px : Finished → Float
    px p = p.point.x

    abbrev py : Finished → Float
    py p = p.point.y

    points_joined : walked_points job ≡ flat_map (points_in Knife) (map world_of alones)
    points_joined = points_knife job h own ∙ points_join whole (map world_of alones) stand

    joined : Joined (flattening_of job) (map flattening_of alones)
    joined =
        record {
          x =
              xs_are job h ∙ ap (map px) points_joined
              ∙ sym (flat x_in (points_in Knife) px alones
              (all_map Good _ (λ a g. xs_are a g.accepted ∙ ap (map px) (points_knife a g.accepted g.knife)) alones good));
          y =
              ys_are job h ∙ ap (map py) points_joined
              ∙ sym (flat y_in (points_in Knife) py alones
              (all_map Good _ (λ a g. ys_are a g.accepted ∙ ap (map py) (points_knife a g.accepted g.knife)) alones good));
          told = words_joined;
        }

pub nests_tell : NestsTell
nests_tell job lent h each = words_joined job lent h each

pub nests_join : NestsJoin
nests_join job lent h each spread = joined job lent h each spread

pub spread_alike : SpreadAlike
spread_alike job lent h each = spread_each job lent h each
