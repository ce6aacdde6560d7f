-- When the capitalizing step acts: one law for each way out.
use Rattle.std.specs.Prelude.{true, false, List, ◌≡◌, ◌+◌}
use Rattle.std.proofs.Math.Bool.{and-false, and-true}
use Rattle.std.proofs.Math.Path.{sym}
use borrow.Author.Tests.{eq-eqb, ne_eqb}
use Rattle.base.specs.Pick.{pick}
use Rattle.base.specs.Lists.{any}
use Rattle.definition.specs.Blocks.{small}
use Rattle.definition.specs.Texts.{Text, at, capital}
use Rattle.definition.specs.Tables.{Class, Choices}
use Rattle.definition.specs.Classes.{class}
use Rattle.definition.specs.Expansion.{Work, work, upper_case, capitalized, capitalizes, capitalize}
use Rattle.rom.specs.Sets.{between}

-- upper case, by a small letter and by a capital
module _ (w : Text) where
  pub some_small : true ≡ any (between 97 122) w → false ≡ upper_case w
  unfolding upper_case between small
  some_small e = simp (sym e, and-false)

  pub no_small : false ≡ any (between 97 122) w → any (between 65 90) w ≡ upper_case w
  unfolding upper_case between small capital
  no_small e = simp (sym e, and-true)

-- whether the step acts
module _ (c : Choices) (ks : List Class) (t : Text) (w : Work) where
  pub not_chosen : (c.capitals ≡ 1 → ⊥) → false ≡ capitalizes c ks t w
  unfolding capitalizes
  not_chosen h = simp (ne_eqb c.capitals 1 h)

  pub not_one : (w.from + 1 ≡ w.to → ⊥) → false ≡ capitalizes c ks t w
  unfolding capitalizes
  not_one h = simp (ne_eqb (w.from + 1) w.to h, and-false)

  pub not_lower : false ≡ (class ks (at t w.to)).lowercase → false ≡ capitalizes c ks t w
  unfolding capitalizes
  not_lower e = simp (sym e, and-false)

  pub before-lower : c.capitals ≡ 1 → w.from + 1 ≡ w.to → true ≡ (class ks (at t w.to)).lowercase
      → upper_case w.rom ≡ capitalizes c ks t w
  unfolding capitalizes
  before-lower h k e = simp (eq-eqb c.capitals 1 h, eq-eqb (w.from + 1) w.to k, sym e, and-true)

  -- and what it makes then
  pub acts : true ≡ capitalizes c ks t w → work (capitalized w.rom) w.from w.to w.note ≡ capitalize c ks t w
  unfolding capitalize pick
  acts e = simp (sym e)

  pub stays : false ≡ capitalizes c ks t w → w ≡ capitalize c ks t w
  unfolding capitalize pick
  stays e = simp (sym e)
