-- A text that ends in a line end, and one that does not.
use mathlib.Core.Bool.{Bool, true, false, ◌&&◌}
use mathlib.Core.Path.{◌≡◌, refl, sym, ap, ◌∙◌}
use mathlib.Core.List.{List, [], ◌∷◌, reverse, reverse-append, reverse-reverse}
use Prim.Native.Nat.{ℕ, suc, ◌-◌, ◌≤◌, ◌<◌}
use native.Mathlib.Omega.{arith}
use lib.Dec.{eqb}
use lib.ListN.{length, get_or, take}
use lib.Seq.{take_all, take-suc}
use borrow.Author.Tests.{eq-eqb, ne_eqb, le-leb, lt-leb}
use Rattle.base.specs.Pick.{pick}
use Rattle.base.specs.Lists.{head, tail, is, same}
use Rattle.definition.specs.Texts.{chars, last_is}
use Rattle.romanize.specs.Arguments.{without_line_end}

-- A text with no byte; one that ends in a line end; one that does not
pub no_text : (w : List ℕ) → length w ≡ 0 → w ≡ without_line_end w
unfolding without_line_end last_is head pick
no_text [] l = refl
no_text (x ∷ w) l = absurd (omega arith)

module _ (w : List ℕ) (h : 0 < length w) where
  backwards : reverse w ≡ get_or w (length w - 1) 0 ∷ reverse (take (length w - 1) w)
  backwards =
      ap reverse (sym (take_all (suc (length w - 1)) w (omega arith)) ∙ take-suc w (length w - 1) 0 (omega arith))
      ∙ reverse-append (take (length w - 1) w) (get_or w (length w - 1) 0 ∷ [])

  by_end : without_line_end w ≡ pick (eqb 10 (get_or w (length w - 1) 0)) (reverse (reverse (take (length w - 1) w))) w
  unfolding without_line_end last_is head
  by_end = ap (λ (l : List ℕ). pick (is (eqb 10) (head l)) (reverse (tail l)) w) backwards

  pub ended : get_or w (length w - 1) 0 ≡ 10 → take (length w - 1) w ≡ without_line_end w
  unfolding pick
  ended e = sym (by_end ∙ rw (eq-eqb 10 (get_or w (length w - 1) 0) (sym e)) (reverse-reverse (take (length w - 1) w)))

  pub not_ended : (get_or w (length w - 1) 0 ≡ 10 → ⊥) → w ≡ without_line_end w
  unfolding pick
  not_ended k = sym (by_end ∙ rw (ne_eqb 10 (get_or w (length w - 1) 0) (λ e. k (sym e))) refl)
