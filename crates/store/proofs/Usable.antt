-- What is known of the counts and lengths of a usable store. Assumes nothing.
use Prim.Native.Nat.{◌≤◌, ◌<◌}
use mathlib.Core.Path.{◌≡◌}
use mathlib.Core.Bool.{Bool, true, ◌&&◌}
use lib.Dec.{leb, ltb, eqb}
use lib.ListN.{length}
use borrow.Author.Tests.{leb-true, ltb-true, eqb-true}
use mathlib.Mathlib.Data.Bool.Basic.{and_elim_left, and_elim_right}
use Rattle.store.specs.declared.StoreState.{StoreState}
use Rattle.store.specs.Columns.{Columns, even_of, usable_of, last_command_of}

-- all that is tested but the last command
pub record Counted (st : StoreState) (c : Columns) : Type 0 where
  pub y : length c.y ≡ length c.x
  pub weight : length c.weight ≡ length c.x
  pub some : 1 ≤ st.points
  pub points : st.points ≤ length c.x
  pub begun : 1 ≤ st.commands
  pub commands : st.commands ≤ length c.commands
  pub opening : st.opening < st.points

module _ (st : StoreState) (c : Columns) where
  abbrev pub counted_of : Bool → Bool
  counted_of even =
      even
      && leb 1 st.points && leb st.points (length c.x)
      && leb 1 st.commands && leb st.commands (length c.commands)
      && ltb st.opening st.points

  pub counted : counted_of (even_of c) ≡ true → Counted st c
  unfolding even_of
  counted e =
      let l = length c.x in
      let t₀ = even_of c in
      let t₁ = t₀ && leb 1 st.points in
      let t₂ = t₁ && leb st.points l in
      let t₃ = t₂ && leb 1 st.commands in
      let t₄ = t₃ && leb st.commands (length c.commands) in
      let e₄ = and_elim_left t₄ _ e in
      let e₃ = and_elim_left t₃ _ e₄ in
      let e₂ = and_elim_left t₂ _ e₃ in
      let e₁ = and_elim_left t₁ _ e₂ in
      let e₀ = and_elim_left t₀ _ e₁ in
      record {
        y = eqb-true (length c.y) l (and_elim_left (eqb (length c.y) l) _ e₀);
        weight = eqb-true (length c.weight) l (and_elim_right (eqb (length c.y) l) _ e₀);
        some = leb-true 1 st.points (and_elim_right t₀ _ e₁);
        points = leb-true st.points l (and_elim_right t₁ _ e₂);
        begun = leb-true 1 st.commands (and_elim_right t₂ _ e₃);
        commands = leb-true st.commands (length c.commands) (and_elim_right t₃ _ e₄);
        opening = ltb-true st.opening st.points (and_elim_right t₄ _ e);
      }

  module _ (e : usable_of st c ≡ true) where
    pub usable_counts : Counted st c
    unfolding usable_of
    usable_counts = counted (and_elim_left (counted_of (even_of c)) (leb (last_command_of st c) 3) e)

    pub last_known : last_command_of st c ≤ 3
    unfolding usable_of
    last_known = leb-true (last_command_of st c) 3 (and_elim_right (counted_of (even_of c)) (leb (last_command_of st c) 3) e)
