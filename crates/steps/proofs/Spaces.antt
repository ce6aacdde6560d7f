-- Does a space stand in the text, by the line?
use mathlib.Core.Bool.{Bool, false, ◌&&◌}
use mathlib.Core.List.{List}
use mathlib.Core.Path.{◌≡◌, sym, ap, ◌∙◌}
use Prim.Native.Nat.{ℕ, ◌+◌, ◌≤◌, ◌<◌}
use native.Mathlib.Omega.{arith}
use lib.Dec.{eqb}
use lib.ListN.{length, get_or}
use borrow.Author.Tests.{lt-ltb, le-ltb}
use Rattle.base.specs.Bools.{eqb_alike}
use Rattle.definition.specs.Texts.{Text, the_space, at, stands}
use Rattle.words.specs.Given.{World, size, Lined, char_at}

module _ {x : World} {line : List ℕ} (g : Lined x line) (p : ℕ) where
  abbrev t : Text
  t = x.text

  -- does a space stand there?
  pub space_told : p < size x → {c : ℕ} → c ≡ get_or line (p + 1) 0 → eqb c the_space ≡ stands t p the_space
  unfolding stands
  space_told h {c} e =
      eqb_alike c the_space the_space (at t p) (λ k. sym k ∙ e ∙ char_at g p (omega arith)) (λ k. e ∙ char_at g p (omega arith) ∙ sym k)
      ∙ sym (ap (λ (b : Bool). b && eqb the_space (at t p)) (lt-ltb p (length t) (omega arith)))

  pub no_space_past : size x ≤ p → false ≡ stands t p the_space
  unfolding stands
  no_space_past h = sym (ap (λ (b : Bool). b && eqb the_space (at t p)) (le-ltb p (length t) (omega arith)))
