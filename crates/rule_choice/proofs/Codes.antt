-- Language codes: a rule's row by how many it has, and by whether one is the language's.
use mathlib.Core.Bool.{Bool, true, false, not, ◌||◌, or-true, or-false}
use mathlib.Core.List.{List}
use mathlib.Core.Path.{◌≡◌, refl, sym, ap, ◌∙◌}
use Prim.Native.Nat.{ℕ, ◌+◌, ◌≤◌}
use native.Mathlib.Omega.{arith}
use native.Mathlib.Decide.{ℕ_discrete}
use lib.Dec.{eqb}
use lib.ListN.{length, drop, length-drop}
use lib.Seq.{drop-drop}
use borrow.Author.Tests.{eq-eqb, ne_eqb}
use Rattle.base.specs.Lists.{any, same}
use Rattle.base.specs.Rows.{counted}
use Rattle.definition.specs.Texts.{Text}
use Rattle.definition.specs.RuleRows.{codes_from}
use Rattle.definition.specs.RuleRows.{codes_at, codes_count, target_at, code_of, rule_codes, rule_of}
use Rattle.definition.specs.Rules.{lang}
use Rattle.definition.specs.Places.{Placed}
use Rattle.edge.specs.Asked.{any-over, any_here}

module _ (R : List ℕ) (row : ℕ) where
  abbrev s : List ℕ
  s = drop row R

  -- they end within the table
  pub codes-end : Placed s → row + target_at s ≤ length R
  codes-end p = omega (arith, p.row, p.codes, p.target, p.end_target, p.others, length-drop row R)

  -- as they stand in the table, they are those of the row
  pub codes_stand : (n at : ℕ) → n ≡ codes_count s → at ≡ row + codes_at s + 1 → counted code_of 3 n (drop at R) ≡ rule_codes s
  unfolding codes_from
  codes_stand n at e p =
      ap (λ m. counted code_of 3 m (drop at R)) e
      ∙ ap (counted code_of 3 (codes_count s))
      (ap (λ o. drop o R) {x = at} {y = row + (codes_at s + 1)} (omega arith) ∙ sym (drop-drop (codes_at s + 1) row R))

-- is the language's one of them?
module _ (s : List ℕ) (code : Text) where
  by_codes : (b : Bool) → b ≡ any (same code) (rule_codes s) → lang code (rule_of s) ≡ (not (any (λ c. true) (rule_codes s)) || b)
  unfolding lang rule_of
  by_codes b e = ap (λ (b : Bool). not (any (λ c. true) (rule_codes s)) || b) (sym e)

  pub one-is : true ≡ any (same code) (rule_codes s) → true ≡ lang code (rule_of s)
  one-is e = sym (by_codes true e ∙ or-true (not (any (λ c. true) (rule_codes s))))

  -- where none is, the rule is for any language if it has no codes
  pub none_is : (n : ℕ) → n ≡ codes_count s → false ≡ any (same code) (rule_codes s) → eqb n 0 ≡ lang code (rule_of s)
  unfolding codes_from
  none_is n p e = sym (by_codes false e ∙ or-false (not (any (λ c. true) (rule_codes s))) ∙ go (ℕ_discrete n 0))
    where
      go : Dec (n ≡ 0) → not (any (λ c. true) (rule_codes s)) ≡ eqb n 0
      go (yes h) = ap not (sym (any-over code_of 3 s (codes_count s) (codes_at s + 1) (λ c. true) (sym p ∙ h))) ∙ sym (eq-eqb n 0 h)
      go (no h) = ap not (sym (any_here code_of 3 s (codes_count s) (codes_at s + 1) (λ c. true) (omega arith) refl)) ∙ sym (ne_eqb n 0 h)
