-- What is known of a store in which flattening's test for answer 3 finds no fault. Assumes nothing.
use Prim.Native.Nat.{ℕ, ◌-◌, ◌≤◌, ◌<◌}
use native.Mathlib.Omega.{arith}
use mathlib.Core.Path.{◌≡◌, subst}
use mathlib.Core.Bool.{true, ◌&&◌}
use lib.ListN.{length, get_or, take}
use lib.Seq.{length-take-le, get_or-take}
use lib.Dec.{eqb}
use borrow.Author.Tests.{le-leb, lt-ltb, eqb-true, eq-eqb}
use mathlib.Mathlib.Data.Bool.Basic.{and_elim_left, and_elim_right}
use Rattle.store.specs.declared.StoreState.{StoreState}
use Rattle.store.specs.Columns.{Columns, even_of, usable_of, last_command_of, move_command}
use Rattle.store.specs.Drawing.{every, weight_ok_of}
use Rattle.store.specs.Drawable.{stored_ok_of, known_of, total_uses_of, drawable_of}
use Rattle.store.proofs.Usable.{Counted, usable_counts}
use Rattle.store.proofs.Written.{known_at}

pub record Sound (st : StoreState) (c : Columns) : Type 0 where
  pub counted : Counted st c
  pub known : known_of (take st.commands c.commands) ≡ true
  pub first : get_or c.commands 0 0 ≡ move_command
  pub uses : total_uses_of (take st.commands c.commands) ≡ st.points
  pub weights : every weight_ok_of (take st.points c.weight) ≡ true
  pub xs : every stored_ok_of (take st.points c.x) ≡ true
  pub ys : every stored_ok_of (take st.points c.y) ≡ true

module _ (st : StoreState) (c : Columns) where
  pub sound : drawable_of st c ≡ true → Sound st c
  unfolding drawable_of
  sound e =
      let t₀ = usable_of st c in
      let t₁ = t₀ && known_of (take st.commands c.commands) in
      let t₂ = t₁ && eqb (get_or c.commands 0 0) move_command in
      let t₃ = t₂ && eqb (total_uses_of (take st.commands c.commands)) st.points in
      let t₄ = t₃ && every weight_ok_of (take st.points c.weight) in
      let t₅ = t₄ && every stored_ok_of (take st.points c.x) in
      let e₅ = and_elim_left t₅ _ e in
      let e₄ = and_elim_left t₄ _ e₅ in
      let e₃ = and_elim_left t₃ _ e₄ in
      let e₂ = and_elim_left t₂ _ e₃ in
      let e₁ = and_elim_left t₁ _ e₂ in
      record {
        counted = usable_counts st c (and_elim_left t₀ _ e₁);
        known = and_elim_right t₀ _ e₁;
        first = eqb-true (get_or c.commands 0 0) move_command (and_elim_right t₁ _ e₂);
        uses = eqb-true (total_uses_of (take st.commands c.commands)) st.points (and_elim_right t₂ _ e₃);
        weights = and_elim_right t₃ _ e₄;
        xs = and_elim_right t₄ _ e₅;
        ys = and_elim_right t₅ _ e;
      }

  module _ (g : Sound st c) where
    last_known : last_command_of st c ≤ 3
    unfolding last_command_of
    last_known =
        let k : st.commands ≤ length c.commands = g.counted.commands in
        let b : 1 ≤ st.commands = g.counted.begun in
        let i = st.commands - 1 in
        let h : i < st.commands = omega arith in
        subst (λ (n : ℕ). n ≤ 3) (get_or-take st.commands c.commands i 0 h)
        (known_at (take st.commands c.commands) i (rw (length-take-le st.commands c.commands k) h) g.known)

    is_even : even_of c ≡ true
    unfolding even_of
    is_even = rw (eq-eqb (length c.y) (length c.x) g.counted.y, eq-eqb (length c.weight) (length c.x) g.counted.weight)

    pub sound_usable : usable_of st c ≡ true
    unfolding usable_of
    sound_usable =
        let f = g.counted in
        rw (
          is_even,
          le-leb 1 st.points f.some,
          le-leb st.points (length c.x) f.points,
          le-leb 1 st.commands f.begun,
          le-leb st.commands (length c.commands) f.commands,
          lt-ltb st.opening st.points f.opening,
          le-leb (last_command_of st c) 3 last_known,
        )

    pub sound_drawable : drawable_of st c ≡ true
    unfolding drawable_of
    sound_drawable =
        rw (
          sound_usable,
          g.known,
          eq-eqb (get_or c.commands 0 0) move_command g.first,
          eq-eqb (total_uses_of (take st.commands c.commands)) st.points g.uses,
          g.weights,
          g.xs,
          g.ys,
        )
