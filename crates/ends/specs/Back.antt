-- A text read backwards from a position: the longest run before it, and the parts between positions.
use Prim.Native.Nat.{ℕ, zero, suc, ◌-◌, ◌<◌, ◌≤◌}
use mathlib.Core.List.{List, [], ◌∷◌, ◌++◌, reverse, reverse-append}
use Rattle.std.specs.Prelude.{Bool, ◌≡◌, length, take, drop}
use Rattle.std.proofs.Math.Bool.{true, false}
use Rattle.std.proofs.Math.Path.{refl, sym, ap}
use Rattle.std.proofs.Common.{◌∙◌, take-append-drop, take-suc, take-take, length-take-le, lt-ltb, le-ltb}
use native.Mathlib.Omega.{arith}
use Rattle.std.proofs.Math.Dec.{ltb}
use Rattle.std.proofs.Math.ListN.{get_or}
use Rattle.std.proofs.Math.Seq.{take-nil, slice, slice_empty, slice-cons}
use Rattle.std.proofs.lemmas.List.{drop-append-le}
use Rattle.base.specs.Lists.{head, is, front, after}
use Rattle.rom.proofs.Backwards.{back, back_cons}

-- where the longest run of passing characters that ends before `p` starts
unfoldable pub run : (ℕ → Bool) → List ℕ → ℕ → ℕ
run q s zero = zero
run q s (suc i) = elim (q (get_or s i 0)) [ true ↦ run q s i | false ↦ suc i ]

pub back_suc : (s : List ℕ) (i : ℕ) → i < length s → back s (suc i) ≡ get_or s i 0 ∷ back s i
back_suc s i h =
    let e : suc i - 1 ≡ i = omega arith in
    back_cons s (suc i) (omega arith) (omega arith) ∙ ap (λ (n : ℕ). get_or s n 0 ∷ back s n) e

-- a part as it is lent
pub slice_lent : (f t : ℕ) (s : List ℕ) → take (t - f) (drop f s) ≡ slice f t s
slice_lent zero t s = let e : t - 0 ≡ t = omega arith in ap (λ (n : ℕ). take n s) e
slice_lent (suc f) zero s = let e : 0 - suc f ≡ 0 = omega arith in ap (λ (n : ℕ). take n (drop (suc f) s)) e
slice_lent (suc f) (suc t) [] = take-nil (suc t - suc f)
slice_lent (suc f) (suc t) (x ∷ s) =
    let e : suc t - suc f ≡ t - f = omega arith in
    ap (λ (n : ℕ). take n (drop f s)) e ∙ slice_lent f t s

-- Parts of one text, put together
module _ (s : List ℕ) where
  pub slice_snoc : (f i : ℕ) → f ≤ i → i < length s → slice f i s ++ get_or s i 0 ∷ [] ≡ slice f (suc i) s
  slice_snoc f i g h =
      let l = length-take-le i s (omega arith) in
      sym (ap (drop f) (take-suc s i 0 h) ∙ drop-append-le f (take i s) (get_or s i 0 ∷ []) (omega arith))

  pub slice_split : (f k e : ℕ) → f ≤ k → k ≤ e → e ≤ length s → slice f k s ++ slice k e s ≡ slice f e s
  slice_split f k e g h z =
      let l = length-take-le k s (omega arith) in
      ap (λ (x : List ℕ). drop f x ++ slice k e s) (sym (take-take k e s h))
      ∙ sym (drop-append-le f (take k (take e s)) (slice k e s) (omega (arith, ap length (take-take k e s h))))
      ∙ ap (drop f) (take-append-drop k (take e s))

  pub slice_one : (i : ℕ) → i < length s → get_or s i 0 ∷ [] ≡ slice i (suc i) s
  slice_one i h = sym (slice-cons i (suc i) s 0 (omega arith) h ∙ ap (◌∷◌ (get_or s i 0)) (slice_empty (suc i) s))

  pub slice_two : (i : ℕ) → suc i < length s → get_or s i 0 ∷ get_or s (suc i) 0 ∷ [] ≡ slice i (suc (suc i)) s
  slice_two i h = ap (◌∷◌ (get_or s i 0)) (slice_one (suc i) h) ∙ sym (slice-cons i (suc (suc i)) s 0 (omega arith) h)

module _ (q : ℕ → Bool) (s : List ℕ) where
  pub run_true : (i : ℕ) → q (get_or s i 0) ≡ true → run q s (suc i) ≡ run q s i
  unfolding run
  run_true i e = ap (λ (b : Bool). elim b as (λ _. ℕ) [ true ↦ run q s i | false ↦ suc i ]) e

  -- The ways through a turn of a loop that counts down, and its end
  pub run-next : (p i : ℕ) → p ≡ suc i → q (get_or s i 0) ≡ true → run q s i ≡ run q s p
  run-next p i e h = sym (ap (run q s) e ∙ run_true i h)

  pub run-here : (p i : ℕ) → p ≡ suc i → q (get_or s i 0) ≡ false → p ≡ run q s p
  unfolding run
  run-here p i e h = e ∙ sym (ap (run q s) e ∙ ap (λ (b : Bool). elim b as (λ _. ℕ) [ true ↦ run q s i | false ↦ suc i ]) h)

  pub run_zero : (p : ℕ) → p ≡ 0 → 0 ≡ run q s p
  unfolding run
  run_zero p e = sym (ap (run q s) e)

  pub run_le : (p : ℕ) → run q s p ≤ p
  unfolding run
  run_le zero = omega arith
  run_le (suc i) = go (q (get_or s i 0)) (run_le i)
    where
      go : (b : Bool) → run q s i ≤ i → (elim b [ true ↦ run q s i | false ↦ suc i ]) ≤ suc i
      go true h = omega arith
      go false h = omega arith

  -- what is before the run, and the run
  pub after_run : (p : ℕ) → p ≤ length s → after q (back s p) ≡ back s (run q s p)
  unfolding after run
  after_run zero h = refl
  after_run (suc i) h = ap (after q) (back_suc s i (omega arith)) ∙ go (q (get_or s i 0)) (after_run i (omega arith))
    where
      go : (b : Bool) → after q (back s i) ≡ back s (run q s i)
          → (elim b [ true ↦ after q (back s i) | false ↦ get_or s i 0 ∷ back s i ]) ≡ back s (elim b [ true ↦ run q s i | false ↦ suc i ])
      go true k = k
      go false k = sym (back_suc s i (omega arith))

  pub front-run : (p : ℕ) → p ≤ length s → reverse (front q (back s p)) ≡ slice (run q s p) p s
  unfolding front run
  front-run zero h = refl
  front-run (suc i) h =
      ap (λ (l : List ℕ). reverse (front q l)) (back_suc s i (omega arith)) ∙ go (q (get_or s i 0)) (front-run i (omega arith))
    where
      go : (b : Bool) → reverse (front q (back s i)) ≡ slice (run q s i) i s
          → reverse (elim b [ true ↦ get_or s i 0 ∷ front q (back s i) | false ↦ [] ]) ≡ slice (elim b [ true ↦ run q s i | false ↦ suc i ]) (suc i) s
      go true k =
          reverse-append (get_or s i 0 ∷ []) (front q (back s i))
          ∙ ap (λ (l : List ℕ). l ++ get_or s i 0 ∷ []) k
          ∙ slice_snoc s (run q s i) i (run_le i) (omega arith)
      go false k = sym (slice_empty (suc i) s)

  -- does the run hold a character?
  pub head-run : (p : ℕ) → p ≤ length s → is q (head (back s p)) ≡ ltb (run q s p) p
  unfolding head run
  head-run zero h = refl
  head-run (suc i) h = ap (λ (l : List ℕ). is q (head l)) (back_suc s i (omega arith)) ∙ go (q (get_or s i 0)) (run_le i)
    where
      go : (b : Bool) → run q s i ≤ i → b ≡ ltb (elim b [ true ↦ run q s i | false ↦ suc i ]) (suc i)
      go true z = sym (lt-ltb (run q s i) (suc i) (omega arith))
      go false z = sym (le-ltb (suc i) (suc i) (omega arith))
