-- A list whose second half is written from its first, one place after another.
use Prim.Native.Nat.{ℕ, zero, suc, ◌+◌, ◌<◌, ◌≤◌}
use mathlib.Core.List.{List, [], ◌∷◌, ◌++◌, map}
use mathlib.Core.Path.{◌≡◌, refl, sym, ap, ◌∙◌}
use native.Mathlib.Omega.{arith}
use lib.ListN.{length, get_or, set, take, drop, length-drop, take-append-drop, get_or-append}
use lib.Seq.{length-take-le}
use Rattle.table_classes.proofs.Answers.{written, all-written}

set-behind : (a l : List ℕ) (k i v : ℕ) → k ≡ length a + i → set (a ++ l) k v ≡ a ++ set l i v
set-behind [] l k i v e = ap (λ (j : ℕ). set l j v) {x = k} {y = i} (omega arith)
set-behind (x ∷ a) l zero i v e = absurd (omega arith)
set-behind (x ∷ a) l (suc k) i v e = ap (◌∷◌ x) (set-behind a l k i v (omega arith))

-- `i` places of the second half of `old` are written
abbrev pub Written : (ℕ → ℕ) → List ℕ → ℕ → ℕ → List ℕ → Type 0
Written f old h i now = now ≡ take h old ++ (take i (map f (take h old)) ++ drop i (drop h old))

pub written_none : (f : ℕ → ℕ) (old : List ℕ) (h : ℕ) → Written f old h 0 old
written_none f old h = sym (take-append-drop h old)

module _ (f : ℕ → ℕ) (old : List ℕ) (h : ℕ) (e : h + h ≡ length old) where
  abbrev first : List ℕ
  first = take h old

  abbrev second : List ℕ
  second = drop h old

  long : length first ≡ h
  long = length-take-le h old (omega arith)

  alike : length second ≡ length first
  alike = omega (arith, long, length-drop h old)

  module _ (i : ℕ) (now : List ℕ) (w : Written f old h i now) where
    still_read : i < h → get_or now i 0 ≡ get_or first i 0
    still_read l = ap (λ (r : List ℕ). get_or r i 0) w ∙ get_or-append first (take i (map f first) ++ drop i second) 0 i (omega (arith, long))

    pub written_next : i < h → (v k : ℕ) → v ≡ f (get_or now i 0) → k ≡ h + i → Written f old h (i + 1) (set now k v)
    written_next l v k p q =
        ap (λ (r : List ℕ). set r k v) w ∙ set-behind first (take i (map f first) ++ drop i second) k i v (omega (arith, long))
        ∙ ap (◌++◌ first) (written f first second (take i (map f first) ++ drop i second) i v alike (omega (arith, long)) refl (p ∙ ap f (still_read l)))

    pub written-whole : h ≤ i → now ≡ first ++ map f first
    written-whole l = w ∙ ap (◌++◌ first) (all-written f first second (take i (map f first) ++ drop i second) i alike (omega (arith, long)) refl)
