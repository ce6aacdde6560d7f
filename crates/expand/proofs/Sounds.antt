-- How a text ends, by its last bytes, before a small ya.
use mathlib.Core.Bool.{Bool, false, ◌&&◌, and-false}
use mathlib.Core.List.{[], ◌∷◌}
use mathlib.Core.Path.{◌≡◌, refl, sym, ap, ◌∙◌}
use Prim.Native.Nat.{ℕ, ◌-◌, ◌≤◌, ◌<◌}
use native.Mathlib.Omega.{arith}
use lib.Dec.{eqb}
use lib.ListN.{length, get_or}
use borrow.Author.Tests.{eq-eqb, ne_eqb}
use Rattle.base.specs.Lists.{head, tail, is}
use Rattle.definition.specs.Texts.{Text, consonants, letter_i}
use Rattle.rom.proofs.Backwards.{back-all, back_cons}
use Rattle.expand.specs.Sides.{after_consonant}

-- an i after a consonant
pub too_short : (w : Text) → length w < 2 → false ≡ after_consonant w
unfolding head
too_short [] h = refl
too_short (c ∷ []) h = sym (and-false (eqb letter_i c))
too_short (c ∷ d ∷ w) h = absurd (omega arith)

module _ (w : Text) (h : 2 ≤ length w) where
  abbrev last : ℕ
  last = get_or w (length w - 1) 0

  abbrev second : ℕ
  second = get_or w (length w - 2) 0

  by_two : after_consonant w ≡ (eqb letter_i last && consonants second)
  unfolding head
  by_two =
      let n : length w - 1 - 1 ≡ length w - 2 = omega arith in
      ap (λ (u : Text). is (eqb letter_i) (head u) && is consonants (head (tail u)))
      (sym (back-all w) ∙ back_cons w (length w) (omega arith) (omega arith)
      ∙ ap (λ (u : Text). last ∷ u) (back_cons w (length w - 1) (omega arith) (omega arith)))
      ∙ ap (λ (i : ℕ). eqb letter_i last && consonants (get_or w i 0)) n

  pub other_last : (last ≡ letter_i → ⊥) → false ≡ after_consonant w
  other_last e = sym (by_two ∙ ap (λ (b : Bool). b && consonants second) (ne_eqb letter_i last (λ k. e (sym k))))

  pub i_last : last ≡ letter_i → consonants second ≡ after_consonant w
  i_last e = sym (by_two ∙ ap (λ (b : Bool). b && consonants second) (eq-eqb letter_i last (sym e)))
