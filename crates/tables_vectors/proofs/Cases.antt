-- What a vector gives, case by case.
use mathlib.Core.Bool.{false}
use mathlib.Core.Path.{◌≡◌, refl, sym, ap, ◌∙◌}
use mathlib.Core.List.{List}
use mathlib.Core.Option.{Option}
use Prim.Native.Nat.{ℕ, ◌+◌, ◌≤◌, ◌<◌}
use lib.ListN.{get_or, take, drop}
use borrow.Author.Tests.{lt-leb, le-leb}
use Rattle.base.specs.Big.{be3}
use Rattle.definition.specs.Refusals.{Refusal}
use Rattle.tables_vectors.specs.Given.{fault_of, is_given, is_right}

-- A vector of a fifth kind, and one of the four
module _ (s : List ℕ) (kind at len : ℕ) where
  pub fifth : 3 < kind → false ≡ is_right s kind at len
  unfolding is_right
  fifth h = sym (rw (lt-leb kind 3 h) refl)

  pub by_answer : kind ≤ 3 → (o : Option Refusal) (f p : ℕ) → o ≡ fault_of kind (take len (drop at s)) → f ≡ get_or s (at + len) 0
      → p ≡ be3 (drop (at + len + 1) s) 0 → is_given o f p ≡ is_right s kind at len
  unfolding is_right
  by_answer h o f p a b e =
      ap (λ x. is_given x f p) a ∙ ap (λ (x : ℕ). is_given (fault_of kind (take len (drop at s))) x p) b
      ∙ ap (is_given (fault_of kind (take len (drop at s))) (get_or s (at + len) 0)) e
      ∙ sym (rw (le-leb kind 3 h) refl)
