-- The path inside the stretch is the path of the stretch, moved.
-- (Proved in proofs/Path.)
use Rattle.std.specs.Prelude.{Bool, ◌≡◌, eqb}
use Rattle.std.proofs.Math.Path.{refl}
use Rattle.std.proofs.Common.{sym, ◌∙◌, ap, arith, eqb-true}
use mathlib.Core.List.{List, [], ◌∷◌, map}
use Rattle.std.proofs.Math.Option
use Rattle.std.proofs.Math.Option.{Option, none, some}
use Prim.Native.Nat.{ℕ, zero, suc, ◌+◌, ◌≤◌, ◌<◌}
use Rattle.std.proofs.Math.Decide.{dec_lt, ℕ_discrete}
use Rattle.base.specs.Lists.{keep}
use Rattle.base.specs.Alls.{All, All-map, Opt, All-best, All-kept}
use Rattle.definition.specs.Edges.{Edge, starting, right_best}
use Rattle.definition.specs.Paths.{join, next, path_from}
use Rattle.stretches.specs.Demand.{within, shift}
use Rattle.stretches.specs.Building.{Inside, shift-inside}
use Rattle.stretches.specs.Edges.{left, right, Clear, inside, outside, clear_goes, within-inside, within_outside, Same, right_best-inside}

-- the longest edge that starts at `p` does
right_best-is : (P : Edge → Type 0) (es : List Edge) (p : ℕ) → All P es
    → Opt (λ x. P x × (x.from ≡ p)) (right_best es p)
unfolding right_best starting
right_best-is P es p h =
    let q : Edge → Bool = λ x. eqb x.from p in
    All-best (λ x. P x × (x.from ≡ p)) _ (keep q es)
    (All-map (λ x c. (c.0, eqb-true x.from p c.1)) (keep q es) (All-kept P q es h))

module _ {a n : ℕ} {ES es : List Edge} (h : Same a n ES es) where
  -- Past the stretch nothing of the path is inside, and the stretch's own path has ended
  beyond : (k P : ℕ) → a + n ≤ P → keep (within a n) (path_from k P ES) ≡ []
  unfolding path_from keep
  beyond zero P l = refl
  beyond (suc k) P l = go (right_best ES P) (right_best-is (Clear a n) ES P h.clear) (λ Q m. beyond k Q m)
    where
      go : (o : Option Edge) → Opt (λ x. Clear a n x × (x.from ≡ P)) o
          → ((Q : ℕ) → a + n ≤ Q → keep (within a n) (path_from k Q ES) ≡ [])
          → keep (within a n) (join o (path_from k (next o P) ES)) ≡ []
      go none c f = f (P + 1) (omega arith)
      go (some x) (c, e) f =
          let z = clear_goes c in
          rw (within_outside a n x (right z (omega arith))) (f x.to (omega arith))

  ended : (k p : ℕ) → n ≤ p → path_from k p es ≡ []
  unfolding path_from
  ended zero p l = refl
  ended (suc k) p l = go (right_best es p) (right_best-is (Inside 0 n) es p h.full) (ended k (p + 1) (omega arith))
    where
      go : (o : Option Edge) → Opt (λ x. Inside 0 n x × (x.from ≡ p)) o → path_from k (p + 1) es ≡ []
          → join o (path_from k (next o p) es) ≡ []
      go none c r = r
      go (some x) (c, e) r = absurd (omega arith)

  -- Inside it goes along the path of the stretch
  along : (K k P p : ℕ) → P ≡ a + p → p ≤ n → n ≤ p + k → k ≤ K
      → keep (within a n) (path_from K P ES) ≡ map (shift a) (path_from k p es)
  unfolding path_from keep shift
  along K zero P p i l m o = beyond K P (omega arith)
  along zero (suc k) P p i l m o = absurd (omega arith)
  along (suc K) (suc k) P p i l m o = go (dec_lt p n) (λ Q q j c d. along K k Q q j c d (omega arith))
    where
      Rest : Type 0
      Rest = (Q q : ℕ) → Q ≡ a + q → q ≤ n → n ≤ q + k
          → keep (within a n) (path_from K Q ES) ≡ map (shift a) (path_from k q es)

      step : (o : Option Edge) → Opt (λ x. Inside 0 n x × (x.from ≡ p)) o → Rest → p < n
          → keep (within a n) (join (Option.map (shift a) o) (path_from K (next (Option.map (shift a) o) P) ES))
          ≡ map (shift a) (join o (path_from k (next o p) es))
      step none c f d = f (P + 1) (p + 1) (omega arith) (omega arith) (omega arith)
      step (some x) (c, e) f d =
          rw (within-inside a n (shift a x) (shift-inside a n x c))
          (ap (λ r. shift a x ∷ r) (f (a + x.to) x.to refl (omega arith) (omega arith)))

      go : Dec (p < n) → Rest → keep (within a n) (path_from (suc K) P ES) ≡ map (shift a) (path_from (suc k) p es)
      go (yes d) f = rw (right_best-inside h P p i d)
          (step (right_best es p) (right_best-is (Inside 0 n) es p h.full) f d)
      go (no d) f = beyond (suc K) P (omega arith) ∙ ap (map (shift a)) (sym (ended (suc k) p (omega arith)))

  -- From the text's start it comes to the stretch's start: no edge reaches over that
  pub toward : (K P : ℕ) → P ≤ a → a + n ≤ P + K
      → keep (within a n) (path_from K P ES) ≡ map (shift a) (path_from n 0 es)
  unfolding path_from keep
  toward zero P l m = along zero n P 0 (omega arith) (omega arith) (omega arith) (omega arith)
  toward (suc K) P l m = go (ℕ_discrete P a) (λ Q j q. toward K Q j q)
    where
      Rest : Type 0
      Rest = (Q : ℕ) → Q ≤ a → a + n ≤ Q + K → keep (within a n) (path_from K Q ES) ≡ map (shift a) (path_from n 0 es)

      step : (o : Option Edge) → Opt (λ x. Clear a n x × (x.from ≡ P)) o → Rest → P < a
          → keep (within a n) (join o (path_from K (next o P) ES)) ≡ map (shift a) (path_from n 0 es)
      step none c f d = f (P + 1) (omega arith) (omega arith)
      step (some x) (outside (left c i j), e) f d = rw (within_outside a n x (left c i j)) (f x.to i (omega arith))
      step (some x) (outside (right c i), e) f d = absurd (omega arith)
      step (some x) (inside i, e) f d = absurd (omega arith)

      go : Dec (P ≡ a) → Rest → keep (within a n) (path_from (suc K) P ES) ≡ map (shift a) (path_from n 0 es)
      go (yes e) f = along (suc K) n P 0 (omega arith) (omega arith) (omega arith) (omega arith)
      go (no e) f = step (right_best ES P) (right_best-is (Clear a n) ES P h.clear) f (omega arith)
