-- Rows of one size: one more of them, and rows that agree.
use Prim.Native.Nat.{ℕ, zero, suc, ◌+◌, ◌-◌, ◌*◌, ◌<◌, ◌≤◌}
use mathlib.Core.List.{List, [], ◌∷◌, ◌++◌}
use Rattle.std.specs.Prelude.{◌≡◌, take, drop}
use Rattle.std.proofs.Math.Path.{refl, ap, subst}
use Rattle.std.proofs.Common.{sym, ◌∙◌, arith, add_comm, zero-mul, suc-mul, drop-drop, take-take}
use Rattle.base.specs.ListLaws.{drop-take}
use Rattle.base.specs.Rows.{counted, AllOf}

-- the next row's start, counted from the front and from the second row
next_row : (size n : ℕ) (s : List ℕ) → drop (n * size) (drop size s) ≡ drop (suc n * size) s
next_row size n s = drop-drop (n * size) size s ∙ ap (λ (k : ℕ). drop k s) (add_comm size (n * size) ∙ sym (suc-mul n size))

-- two lists that agree over some rows agree over the first, and behind it over the rest
module _ (size n : ℕ) (s s' : List ℕ) (e : take (suc n * size) s ≡ take (suc n * size) s') where
  over : take (size + n * size) s ≡ take (size + n * size) s'
  over = subst (λ (k : ℕ). take k s ≡ take k s') {x = suc n * size} {y = size + n * size} (suc-mul n size ∙ add_comm (n * size) size) e

  first_row : take size s ≡ take size s'
  first_row = sym (take-take size (size + n * size) s (omega arith)) ∙ ap (take size) over ∙ take-take size (size + n * size) s' (omega arith)

  other-rows : take (n * size) (drop size s) ≡ take (n * size) (drop size s')
  other-rows = sym (drop-take size (n * size) s) ∙ ap (drop size) over ∙ drop-take size (n * size) s'

module _ (size : ℕ) where
  pub counted_snoc : {A : Type 0} (one : List ℕ → A) (n : ℕ) (s : List ℕ)
      → counted one size (suc n) s ≡ counted one size n s ++ one (drop (n * size) s) ∷ []
  unfolding counted
  counted_snoc one zero s = ap (λ (k : ℕ). one (drop k s) ∷ []) {x = 0} {y = 0 * size} (sym (zero-mul size))
  counted_snoc one (suc n) s = ap (◌∷◌ (one s)) (counted_snoc one n (drop size s)
      ∙ ap (λ (l : List ℕ). counted one size n (drop size s) ++ one l ∷ []) (next_row size n s))

  pub all_snoc : (P : List ℕ → Type 0) (n : ℕ) (s : List ℕ) → AllOf P size n s → P (drop (n * size) s) → AllOf P size (suc n) s
  unfolding AllOf
  all_snoc P zero s a p = (subst (λ (k : ℕ). P (drop k s)) {x = 0 * size} {y = 0} (zero-mul size) p, tt)
  all_snoc P (suc n) s a p = (a.0, all_snoc P n (drop size s) a.1 (subst P (sym (next_row size n s)) p))

  -- so many rows, and those behind them
  counted-behind : {A : Type 0} (one : List ℕ → A) (m n : ℕ) (s : List ℕ)
      → counted one size (m + n) s ≡ counted one size m s ++ counted one size n (drop (m * size) s)
  unfolding counted
  counted-behind {A} one zero n s = ap (λ (k : ℕ). counted one size k s) {x = 0 + n} {y = n} (omega arith)
      ∙ ap (λ (k : ℕ). counted one size n (drop k s)) {x = 0} {y = 0 * size} (sym (zero-mul size))
  counted-behind {A} one (suc m) n s = ap (λ (k : ℕ). counted one size k s) {x = suc m + n} {y = suc (m + n)} (omega arith)
      ∙ ap (◌∷◌ (one s)) (counted-behind one m n (drop size s)
      ∙ ap (λ (l : List ℕ). counted one size m (drop size s) ++ counted one size n l) (next_row size m s))

  pub counted_split : {A : Type 0} (one : List ℕ → A) (m n : ℕ) (s : List ℕ) → m ≤ n
      → counted one size n s ≡ counted one size m s ++ counted one size (n - m) (drop (m * size) s)
  counted_split one m n s h =
      ap (λ (k : ℕ). counted one size k s) {x = n} {y = m + (n - m)} (omega arith) ∙ counted-behind one m (n - m) s

  pub all-behind : (P : List ℕ → Type 0) (m n : ℕ) (s : List ℕ) → AllOf P size (m + n) s → AllOf P size n (drop (m * size) s)
  unfolding AllOf
  all-behind P zero n s a = subst (λ (k : ℕ). AllOf P size n (drop k s)) {x = 0} {y = 0 * size} (sym (zero-mul size))
      (subst (λ (k : ℕ). AllOf P size k s) {x = 0 + n} {y = n} (omega arith) a)
  all-behind P (suc m) n s a = subst (AllOf P size n) (next_row size m s)
      (all-behind P m n (drop size s) (subst (λ (k : ℕ). AllOf P size k s) {x = suc m + n} {y = suc (m + n)} (omega arith) a).1)

  pub all-front : (P : List ℕ → Type 0) (m n : ℕ) (s : List ℕ) → m ≤ n → AllOf P size n s → AllOf P size m s
  unfolding AllOf
  all-front P zero n s h a = tt
  all-front P (suc m) zero s h a = absurd (omega arith)
  all-front P (suc m) (suc n) s h a = (a.0, all-front P m n (drop size s) (omega arith) a.1)

  -- row `i`
  pub all-at : (P : List ℕ → Type 0) (n i : ℕ) (s : List ℕ) → i < n → AllOf P size n s → P (drop (i * size) s)
  unfolding AllOf
  all-at P zero i s h a = absurd (omega arith)
  all-at P (suc n) zero s h a = subst (λ (k : ℕ). P (drop k s)) {x = 0} {y = 0 * size} (sym (zero-mul size)) a.0
  all-at P (suc n) (suc i) s h a = subst P (next_row size i s) (all-at P n i (drop size s) (omega arith) a.1)

  pub all-agree : (P Q : List ℕ → Type 0) → ((s s' : List ℕ) → take size s ≡ take size s' → P s → Q s')
      → (n : ℕ) (s s' : List ℕ) → take (n * size) s ≡ take (n * size) s' → AllOf P size n s → AllOf Q size n s'
  unfolding AllOf
  all-agree P Q f zero s s' e a = tt
  all-agree P Q f (suc n) s s' e a =
      (f s s' (first_row size n s s' e) a.0, all-agree P Q f n (drop size s) (drop size s') (other-rows size n s s' e) a.1)

  pub counted-agree : {A : Type 0} (one two : List ℕ → A) (P : List ℕ → Type 0)
      → ((s s' : List ℕ) → take size s ≡ take size s' → P s → one s ≡ two s')
      → (n : ℕ) (s s' : List ℕ) → take (n * size) s ≡ take (n * size) s' → AllOf P size n s → counted one size n s ≡ counted two size n s'
  unfolding counted AllOf
  counted-agree one two P f zero s s' e a = refl
  counted-agree {A} one two P f (suc n) s s' e a =
      ap (λ (x : A). x ∷ counted one size n (drop size s)) (f s s' (first_row size n s s' e) a.0)
      ∙ ap (◌∷◌ (two s')) (counted-agree one two P f n (drop size s) (drop size s') (other-rows size n s s' e) a.1)
