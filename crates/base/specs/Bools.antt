-- What a test of several tells, and two tests with one answer.
use Rattle.std.specs.Prelude.{Bool, true, false, not, ◌&&◌, ◌||◌, ◌≡◌, refl, List, [], ◌∷◌, ℕ, ◌≤◌, eqb, leb}
use Rattle.std.proofs.Common.{true≢false, sym, ◌∙◌, ap, lt_of_not-le, le-leb, eq-eqb, ne_eqb}
use Rattle.std.proofs.Math.Decide.{dec_le, ℕ_discrete}
use Rattle.std.proofs.lemmas.Bool.{lt-leb}

pub and_left : (x y : Bool) → (x && y) ≡ true → x ≡ true
and_left true y e = refl
and_left false y e = e

pub and_right : (x y : Bool) → (x && y) ≡ true → y ≡ true
and_right true y e = e
and_right false y e = absurd (true≢false (sym e))

-- where neither holds
pub or_left : (x y : Bool) → (x || y) ≡ false → x ≡ false
or_left true y e = e
or_left false y e = refl

pub or_right : (x y : Bool) → (x || y) ≡ false → y ≡ false
or_right true y e = absurd (true≢false e)
or_right false y e = e

-- where the first holds, the second is what `not x || y` asks
pub or_not : (x y : Bool) → x ≡ true → (not x || y) ≡ true → y ≡ true
or_not true y p e = e
or_not false y p e = absurd (true≢false (sym p))

-- the first or the second
pub or_cases : {X : Type 0} (x y : Bool) → (x ≡ true → X) → (y ≡ true → X) → (x || y) ≡ true → X
or_cases true y f g e = f refl
or_cases false y f g e = g e

-- several tests, each after those before it
abbrev pub conj : Bool → List Bool → Bool
conj a [] = a
conj a (b ∷ l) = conj (a && b) l

-- Two comparisons with one answer
pub eqb_alike : (X Y x y : ℕ) → (X ≡ Y → x ≡ y) → (x ≡ y → X ≡ Y) → eqb X Y ≡ eqb x y
eqb_alike X Y x y f g = go (ℕ_discrete x y)
  where
    go : Dec (x ≡ y) → eqb X Y ≡ eqb x y
    go (yes k) = eq-eqb X Y (g k) ∙ sym (eq-eqb x y k)
    go (no k) = ne_eqb X Y (λ e. k (f e)) ∙ sym (ne_eqb x y k)

pub leb_alike : (X Y x y : ℕ) → (X ≤ Y → x ≤ y) → (x ≤ y → X ≤ Y) → leb X Y ≡ leb x y
leb_alike X Y x y f g = go (dec_le x y)
  where
    go : Dec (x ≤ y) → leb X Y ≡ leb x y
    go (yes k) = le-leb X Y (g k) ∙ sym (le-leb x y k)
    go (no k) = lt-leb X Y (lt_of_not-le (λ e. k (f e))) ∙ sym (lt-leb x y (lt_of_not-le k))

-- what counts only where the first test holds
pub and_then : (b c : Bool) {X x : Bool} → (b ≡ true → X ≡ x) → (b && c && X) ≡ (b && c && x)
and_then true c f = ap (λ y. c && y) (f refl)
and_then false c f = refl
