-- A table as a list of rows: the first row of what is left, and the rest past its size. The law of a walk asks only that each size is above 0.
use Prim.Native.Nat.{ℕ, zero, suc, ◌+◌, ◌-◌, ◌<◌, ◌≤◌}
use Rattle.std.specs.Prelude.{◌≡◌, length, drop}
use Rattle.std.proofs.Math.Path.{refl, ap}
use mathlib.Core.List.{List, [], ◌∷◌}
use native.Mathlib.Omega.{arith}
use Rattle.std.proofs.Math.ListN.{length-drop}
use Rattle.std.proofs.Math.Seq.{drop-drop}

-- every row is as `P` says of what is left there
pub data Each (P : List ℕ → Type 0) (size : List ℕ → ℕ) : List ℕ → Type 0 where
  no_row : {s : List ℕ} → length s ≡ 0 → Each P size s
  row_then : {s : List ℕ} → P s → Each P size (drop (size s) s) → Each P size s

module _ {P : List ℕ → Type 0} {size : List ℕ → ℕ} where
  pub each_here : {s : List ℕ} → Each P size s → 0 < length s → P s
  each_here (no_row e) h = absurd (omega arith)
  each_here (row_then p r) h = p

  pub each_next : {s : List ℕ} → Each P size s → 0 < length s → Each P size (drop (size s) s)
  each_next (no_row e) h = absurd (omega arith)
  each_next (row_then p r) h = r

pub each_map : {P Q : List ℕ → Type 0} {size : List ℕ → ℕ} → ((s : List ℕ) → P s → Q s) → {s : List ℕ} → Each P size s → Each Q size s
each_map f (no_row e) = no_row e
each_map f (row_then {s} p r) = row_then (f s p) (each_map f r)

module _ {A : Type 0} (one : List ℕ → A) (size : List ℕ → ℕ) where
  unfoldable pub rows_by : ℕ → List ℕ → List A
  rows_by zero s = []
  rows_by (suc f) [] = []
  rows_by (suc f) (x ∷ s) = one (x ∷ s) ∷ rows_by f (drop (size (x ∷ s)) (x ∷ s))

  unfoldable pub rows : List ℕ → List A
  rows s = rows_by (length s) s

  pub rows_nil : (s : List ℕ) → length s ≡ 0 → rows s ≡ []
  unfolding rows rows_by
  rows_nil [] h = refl
  rows_nil (x ∷ s) h = absurd (omega arith)

  module _ (moves : (s : List ℕ) → 0 < size s) where
    enough : (f g : ℕ) (s : List ℕ) → length s ≤ f → length s ≤ g → rows_by f s ≡ rows_by g s
    unfolding rows_by
    enough zero zero s p q = refl
    enough zero (suc g) [] p q = refl
    enough zero (suc g) (x ∷ s) p q = absurd (omega arith)
    enough (suc f) zero [] p q = refl
    enough (suc f) zero (x ∷ s) p q = absurd (omega arith)
    enough (suc f) (suc g) [] p q = refl
    enough (suc f) (suc g) (x ∷ s) p q =
        let l = length-drop (size (x ∷ s)) (x ∷ s) in
        let m = moves (x ∷ s) in
        ap (◌∷◌ (one (x ∷ s))) (enough f g (drop (size (x ∷ s)) (x ∷ s)) (omega arith) (omega arith))

    pub rows_cons : (s : List ℕ) → 0 < length s → rows s ≡ one s ∷ rows (drop (size s) s)
    unfolding rows rows_by
    rows_cons [] h = absurd (omega arith)
    rows_cons (x ∷ s) h =
        let l = length-drop (size (x ∷ s)) (x ∷ s) in
        let m = moves (x ∷ s) in
        ap (◌∷◌ (one (x ∷ s))) (enough (length s) (length (drop (size (x ∷ s)) (x ∷ s))) (drop (size (x ∷ s)) (x ∷ s)) (omega arith) (omega arith))

-- As many rows of one size
module _ {A : Type 0} (one : List ℕ → A) (size : ℕ) where
  unfoldable pub counted : ℕ → List ℕ → List A
  counted zero s = []
  counted (suc n) s = one s ∷ counted n (drop size s)

  pub counted_none : (n : ℕ) (s : List ℕ) → n ≡ 0 → counted n s ≡ []
  unfolding counted
  counted_none n s h = rw h

  pub counted_some : (n o : ℕ) (s : List ℕ) → 0 < n → counted n (drop o s) ≡ one (drop o s) ∷ counted (n - 1) (drop (o + size) s)
  unfolding counted
  counted_some zero o s h = absurd (omega arith)
  counted_some (suc n) o s h = let e : suc n - 1 ≡ n = omega arith in rw e (ap (λ (l : List ℕ). one (drop o s) ∷ counted n l) (drop-drop size o s))

  pub counted-length : (n : ℕ) (s : List ℕ) → length (counted n s) ≡ n
  unfolding counted
  counted-length zero s = refl
  counted-length (suc n) s = ap suc (counted-length n (drop size s))

module _ (P : List ℕ → Type 0) (size : ℕ) where
  unfoldable pub AllOf : ℕ → List ℕ → Type 0
  AllOf zero s = Unit
  AllOf (suc n) s = P s × AllOf n (drop size s)

  pub all_some : (n o : ℕ) (s : List ℕ) → 0 < n → AllOf n (drop o s) → P (drop o s) × AllOf (n - 1) (drop (o + size) s)
  unfolding AllOf
  all_some zero o s h a = absurd (omega arith)
  all_some (suc n) o s h a = let e : suc n - 1 ≡ n = omega arith in (a.0, rw e (rw drop-drop at a.1))
