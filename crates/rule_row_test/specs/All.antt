-- What the library's `all` of an iterator answers, in the words of `base`.
use Rattle.std.specs.Prelude.{Bool, ◌&&◌, List, [], ◌∷◌, ◌≡◌, refl}
use Rattle.std.proofs.Common.{ap}
use Rattle.std.specs.List.{list_all}
use Rattle.base.specs.Lists.{all}

module _ {A : Type 0} (f : A → Bool) where
  pub all_is : (l : List A) → list_all f l ≡ all f l
  unfolding all
  all_is [] = refl
  all_is (x ∷ l) = ap (λ (t : Bool). f x && t) (all_is l)
