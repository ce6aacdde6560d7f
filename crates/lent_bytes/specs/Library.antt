-- What the library's methods answer, in the words of `base`: `==` of two texts, `starts_with`, `any` and `all`.
use Rattle.std.specs.Prelude.{Bool, ◌&&◌, ◌||◌, List, [], ◌∷◌, ℕ, ◌≡◌, refl, eqb, nat_eq, length, take}
use Rattle.std.proofs.Common.{ap}
use Rattle.std.specs.Cmp.Lexicographic.{pointwise}
use Rattle.std.specs.List.{list_any, list_all}
use Rattle.base.specs.Lists.{same, starts, any, all}

pub same_texts : (a b : List ℕ) → pointwise nat_eq a b ≡ same a b
unfolding same
same_texts [] [] = refl
same_texts [] (y ∷ b) = refl
same_texts (x ∷ a) [] = refl
same_texts (x ∷ a) (y ∷ b) = ap (λ (t : Bool). eqb x y && t) (same_texts a b)

module _ {A : Type 0} (f : A → Bool) where
  pub any_is : (l : List A) → list_any f l ≡ any f l
  unfolding any
  any_is [] = refl
  any_is (x ∷ l) = ap (λ (t : Bool). f x || t) (any_is l)

  pub all_is : (l : List A) → list_all f l ≡ all f l
  unfolding all
  all_is [] = refl
  all_is (x ∷ l) = ap (λ (t : Bool). f x && t) (all_is l)

pub starts_is : (w s : List ℕ) → pointwise nat_eq w (take (length w) s) ≡ starts w s
unfolding starts
starts_is [] s = refl
starts_is (x ∷ w) [] = refl
starts_is (x ∷ w) (y ∷ s) = ap (λ (t : Bool). eqb x y && t) (starts_is w s)
