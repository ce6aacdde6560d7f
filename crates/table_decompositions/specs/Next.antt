-- The next character of a line that stands for others. A line has a number before its text, so the character at a position stands
-- one place further.
use Rattle.std.specs.Prelude.{Bool, List, ◌≡◌, get_or}
use Rattle.std.proofs.Math.Bool.{true, false}
use Rattle.std.proofs.Math.Option.{Option, none, some}
use Rattle.std.proofs.Math.Path.{refl, sym, ap, subst}
use Rattle.std.proofs.Common.{◌∙◌}
use Prim.Native.Nat.{ℕ, zero, suc, ◌+◌, ◌-◌, ◌≤◌, ◌<◌}
use native.Mathlib.Omega.{arith}
use Rattle.std.proofs.Math.Dec.{eqb}
use borrow.Author.Tests.{eqb-true, eqb-false}
use Rattle.base.specs.Pick.{pick}
use Rattle.base.specs.Lists.{has}
use Rattle.definition.specs.Tables.{Decomposition}
use Rattle.definition.specs.Decomposing.{stands_for}

-- does the character at a position stand for others?
abbrev pub stands_at : List Decomposition → List ℕ → ℕ → Bool
stands_at ds line q = has (stands_for ds (get_or line (q + 1) 0))

-- the first of `k` positions from `q` on whose character does, or the position behind them
unfoldable pub next_form : List Decomposition → List ℕ → ℕ → ℕ → ℕ
next_form ds line zero q = q
next_form ds line (suc k) q = pick (stands_at ds line q) q (next_form ds line k (q + 1))

module _ (ds : List Decomposition) (line : List ℕ) where
  -- it lies there
  pub next_least : (k q : ℕ) → q ≤ next_form ds line k q
  unfolding next_form pick
  next_least zero q = omega arith
  next_least (suc k) q = go (stands_at ds line q) (next_least k (q + 1))
    where
      go : (b : Bool) → q + 1 ≤ next_form ds line k (q + 1) → q ≤ pick b q (next_form ds line k (q + 1))
      go true h = omega arith
      go false h = omega arith

  pub next-most : (k q : ℕ) → next_form ds line k q ≤ q + k
  unfolding next_form pick
  next-most zero q = omega arith
  next-most (suc k) q = go (stands_at ds line q) (next-most k (q + 1))
    where
      go : (b : Bool) → next_form ds line k (q + 1) ≤ q + 1 + k → pick b q (next_form ds line k (q + 1)) ≤ q + suc k
      go true h = omega arith
      go false h = omega arith

  unstood : (o : Option (List ℕ)) → has o ≡ false → o ≡ none
  unstood none e = refl
  unstood (some w) e = absurd (let z : ◌≡◌ {A = ℕ} 0 1 = cc in omega arith)

  -- none before it does
  pub next-none : (k q p : ℕ) → q ≤ p → p < next_form ds line k q → stands_for ds (get_or line (p + 1) 0) ≡ none
  unfolding next_form pick
  next-none zero q p l h = absurd (omega arith)
  next-none (suc k) q p l h = go (stands_at ds line q) refl h (next-none k (q + 1) p)
    where
      go : (b : Bool) → stands_at ds line q ≡ b → p < pick b q (next_form ds line k (q + 1))
          → (q + 1 ≤ p → p < next_form ds line k (q + 1) → stands_for ds (get_or line (p + 1) 0) ≡ none) → stands_for ds (get_or line (p + 1) 0) ≡ none
      go true e g later = absurd (omega arith)
      go false e g later = here (eqb p q) refl
        where
          here : (b : Bool) → eqb p q ≡ b → stands_for ds (get_or line (p + 1) 0) ≡ none
          here true y = subst (λ (i : ℕ). stands_for ds (get_or line (i + 1) 0) ≡ none) (sym (eqb-true p q y)) (unstood (stands_for ds (get_or line (q + 1) 0)) e)
          here false y = let n = eqb-false p q y in later (omega (arith, n)) g

  -- a walk of `n - q` positions: a character that gives no edge is passed, one that does is found, and at the end there is none
  pub next_on : (n q : ℕ) → q < n → stands_for ds (get_or line (q + 1) 0) ≡ none → next_form ds line (n - (q + 1)) (q + 1) ≡ next_form ds line (n - q) q
  unfolding next_form pick
  next_on n q l e =
      let k : n - q ≡ suc (n - (q + 1)) = omega arith in
      sym (ap (λ (m : ℕ). next_form ds line m q) k ∙ ap (λ (o : Option (List ℕ)). pick (has o) q (next_form ds line (n - (q + 1)) (q + 1))) e)

  pub next_here : (n q : ℕ) → q < n → stands_at ds line q ≡ true → q ≡ next_form ds line (n - q) q
  unfolding next_form pick
  next_here n q l e =
      let k : n - q ≡ suc (n - (q + 1)) = omega arith in
      sym (ap (λ (m : ℕ). next_form ds line m q) k ∙ ap (λ (b : Bool). pick b q (next_form ds line (n - (q + 1)) (q + 1))) e)

  pub next-over : (n q : ℕ) → q ≡ n → n ≡ next_form ds line (n - q) q
  unfolding next_form
  next-over n q e = let k : n - q ≡ 0 = omega arith in sym (ap (λ (m : ℕ). next_form ds line m q) k ∙ e)
