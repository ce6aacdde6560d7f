-- The digits 0 to 9 and a to f, each by its value.
use mathlib.Core.Bool.{Bool, true, false, ◌&&◌}
use mathlib.Core.Path.{◌≡◌, refl, sym, ap, ◌∙◌}
use Prim.Native.Nat.{ℕ, zero, suc, ◌+◌, ◌≤◌, ◌<◌}
use native.Mathlib.Omega.{arith}
use lib.Dec.{eqb}
use borrow.Author.Tests.{eqb-true, eqb-false}
use Rattle.base.specs.Bools.{and_left, and_right}
use Rattle.sample.specs.Hex.{hex_digit}

-- do two functions agree on every number from `low` on, `n` numbers?
abbrev agree : (ℕ → ℕ) → (ℕ → ℕ) → ℕ → ℕ → Bool
agree f g low zero = true
agree f g low (suc n) = eqb (f (low + n)) (g (low + n)) && agree f g low n

agreed : (f g : ℕ → ℕ) (low n : ℕ) → agree f g low n ≡ true → (x : ℕ) → low ≤ x → x < low + n → f x ≡ g x
agreed f g low zero e x h k = absurd (omega arith)
agreed f g low (suc n) e x h k = go (eqb x (low + n)) refl
    (λ w. agreed f g low n (and_right (eqb (f (low + n)) (g (low + n))) (agree f g low n) e) x h w)
  where
    go : (b : Bool) → eqb x (low + n) ≡ b → (x < low + n → f x ≡ g x) → f x ≡ g x
    go true z j =
        let w = eqb-true x (low + n) z in
        ap f w ∙ eqb-true (f (low + n)) (g (low + n)) (and_left (eqb (f (low + n)) (g (low + n))) (agree f g low n) e) ∙ sym (ap g w)
    go false z j = let w = eqb-false x (low + n) z in j (omega arith)

pub decimal : (x : ℕ) → x < 10 → 48 + x ≡ hex_digit x
unfolding hex_digit
decimal x h = agreed (λ y. 48 + y) hex_digit 0 10 refl x (omega arith) (omega arith)

pub letter : (x : ℕ) → 10 ≤ x → x < 16 → 87 + x ≡ hex_digit x
unfolding hex_digit
letter x h k = agreed (λ y. 87 + y) hex_digit 10 6 refl x h (omega arith)
