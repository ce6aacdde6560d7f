-- The first where the test holds, the second where it does not.
use Rattle.std.specs.Prelude.{Bool, true, false, ◌≡◌, refl}

unfoldable pub pick {ℓ} : {A : Type ℓ} → Bool → A → A → A
pick true a b = a
pick false a b = b

-- to show a thing of a choice, show it of both, each with its test
pub pick_ind {ℓ} : {A : Type ℓ} (P : A → Type 0) (t : Bool) (x y : A)
    → (t ≡ true → P x) → (t ≡ false → P y) → P (pick t x y)
unfolding pick
pick_ind P true x y p q = p refl
pick_ind P false x y p q = q refl

-- where the test does not matter
pub pick_all : {A : Type 0} (P : A → Type 0) (t : Bool) {x y : A} → P x → P y → P (pick t x y)
pick_all P t {x} {y} p q = pick_ind P t x y (λ e. p) (λ e. q)
