-- The ways out of what O ang is asked.
use mathlib.Core.Bool.{Bool, true, false, not, ◌&&◌}
use mathlib.Core.List.{List, [], ◌∷◌}
use mathlib.Core.Path.{◌≡◌, sym}
use Prim.Native.Nat.{ℕ, ◌+◌}
use lib.Dec.{eqb}
use borrow.Author.Tests.{eq-eqb, ne_eqb}
use Rattle.base.specs.Lists.{is}
use Rattle.definition.specs.Texts.{Text, at, prev, last_is, o_ang}
use Rattle.definition.specs.Tables.{Rule, Class, Choices, script_thai}
use Rattle.definition.specs.Classes.{script}
use Rattle.definition.specs.Edges.{View}
use Rattle.definition.specs.Rules.{first_rule}
use Rattle.definition.specs.Expansion.{Work, walk_start, o_ang_side, between, silent}
use Rattle.o_ang.specs.Sides.{beside}

module _ (c : Choices) (rs : List Rule) (ks : List Class) (t : Text) (w : Work) (v : View) where
  pub not_in_thai : (eqb (script ks (prev t w.from)) script_thai && eqb (script ks (at t w.to)) script_thai) ≡ false → false ≡ between c rs ks t v w
  unfolding between
  not_in_thai e = sym (rw e)

  module _ (e : (eqb (script ks (prev t w.from)) script_thai && eqb (script ks (at t w.to)) script_thai) ≡ true) where
    pub not_behind : last_is o_ang_side (v.behind (walk_start c t w.from) w.from) ≡ false → false ≡ between c rs ks t v w
    unfolding between
    not_behind f = sym (rw (e, f))

    pub by_next : last_is o_ang_side (v.behind (walk_start c t w.from) w.from) ≡ true → is beside (first_rule rs (at t w.to ∷ [])) ≡ between c rs ks t v w
    unfolding between beside
    by_next f = sym (rw (e, f))

  module _ (o : ℕ) where
    pub no_o_ang : (at t o ≡ o_ang → ⊥) → false ≡ silent c rs ks t v o w
    unfolding silent
    no_o_ang e = sym (rw (ne_eqb (at t o) o_ang e))

    module _ (e : at t o ≡ o_ang) where
      pub not_alone : eqb (w.from + 1) w.to ≡ false → false ≡ silent c rs ks t v o w
      unfolding silent
      not_alone f = sym (rw (eq-eqb (at t o) o_ang e, f))

      pub alone : eqb (w.from + 1) w.to ≡ true → {b : Bool} → between c rs ks t v w ≡ b → not b ≡ silent c rs ks t v o w
      unfolding silent
      alone f g = sym (rw (eq-eqb (at t o) o_ang e, f, g))
