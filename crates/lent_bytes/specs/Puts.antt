-- Some bytes put at a place of others: what stands there, what stays, and one put after another.
use Rattle.std.specs.Prelude.{ℕ, ◌+◌, ◌≤◌, List, [], ◌++◌, ◌≡◌, refl, take}
use Rattle.std.proofs.Common.{append_assoc, sym, ap, ◌∙◌, arith, add-zero, length-drop, length-append, take-append-drop, drop-drop, take-add, length-take-le}
use Rattle.std.proofs.Math.ListN.{length, drop}
use Rattle.std.proofs.Math.Seq.{take_at, drop_at, drop-append_seam}

unfoldable pub put_at : ℕ → List ℕ → List ℕ → List ℕ
put_at a new s = take a s ++ (new ++ drop (a + length new) s)

module _ (a : ℕ) (new s : List ℕ) (h : a ≤ length s) where
  -- what stands before stays
  pub put-before : take a (put_at a new s) ≡ take a s
  unfolding put_at
  put-before = take_at (take a s) (new ++ drop (a + length new) s) a (length-take-le a s h)

  -- from the place on there is the new, and what stood behind it
  pub put-from : drop a (put_at a new s) ≡ new ++ drop (a + length new) s
  unfolding put_at
  put-from = drop_at (take a s) (new ++ drop (a + length new) s) a (length-take-le a s h)

  pub put-there : take (length new) (drop a (put_at a new s)) ≡ new
  put-there = ap (take (length new)) put-from ∙ take_at new (drop (a + length new) s) (length new) refl

  pub put-behind : drop (a + length new) (put_at a new s) ≡ drop (a + length new) s
  put-behind =
      sym (drop-drop (length new) a (put_at a new s)) ∙ ap (drop (length new)) put-from
      ∙ drop-append_seam new (drop (a + length new) s)

pub put-length : (a : ℕ) (new s : List ℕ) → a + length new ≤ length s → length (put_at a new s) ≡ length s
unfolding put_at
put-length a new s h =
    let k = length-drop (a + length new) s in
    let l = length-take-le a s (omega arith) in
    omega (arith, length-append (take a s) (new ++ drop (a + length new) s), length-append new (drop (a + length new) s))

-- putting nothing changes nothing
pub put-none : (a : ℕ) (s : List ℕ) → put_at a [] s ≡ s
unfolding put_at
put-none a s = ap (λ n. take a s ++ drop n s) (add-zero a) ∙ take-append-drop a s

-- up to the end of what is put there is what stood before, and the new
pub put_until : (a : ℕ) (new s : List ℕ) → a ≤ length s → take (a + length new) (put_at a new s) ≡ take a s ++ new
put_until a new s h =
    take-add a (length new) (put_at a new s) ∙ ap (λ l. l ++ take (length new) (drop a (put_at a new s))) (put-before a new s h)
    ∙ ap (◌++◌ (take a s)) (put-there a new s h)

-- one put right behind another is one put of both
pub put-put : (a : ℕ) (x y s : List ℕ) → a ≤ length s
    → put_at (a + length x) y (put_at a x s) ≡ put_at a (x ++ y) s
unfolding put_at
put-put a x y s h =
    let m = a + length x in
    let t = put_at a x s in
    let rest : drop (m + length y) t ≡ drop (a + length (x ++ y)) s =
    sym (drop-drop (length y) m t) ∙ ap (drop (length y)) (put-behind a x s h) ∙ drop-drop (length y) m s
    ∙ ap (λ n. drop n s) {x = m + length y} {y = a + length (x ++ y)} (omega (arith, length-append x y)) in
    ap (λ l. take m t ++ (y ++ l)) rest
    ∙ ap (λ l. l ++ (y ++ drop (a + length (x ++ y)) s)) (put_until a x s h)
    ∙ append_assoc (take a s) x (y ++ drop (a + length (x ++ y)) s)
    ∙ ap (◌++◌ (take a s)) (sym (append_assoc x y (drop (a + length (x ++ y)) s)))

-- the same, where the place behind the first, and what that left, are known by equations
pub put_next : (a n : ℕ) (x y s t : List ℕ) → n ≡ a + length x → a ≤ length s → t ≡ put_at a x s
    → put_at n y t ≡ put_at a (x ++ y) s
put_next a n x y s t k h e =
    ap (put_at n y) e ∙ ap (λ m. put_at m y (put_at a x s)) k ∙ put-put a x y s h

-- A text copied to the front, known by an equation: it is put there
pub put_front : (w u s t : List ℕ) → t ≡ w ++ drop (length w) s → w ≡ u → t ≡ put_at 0 u s
unfolding put_at
put_front w u s t h e =
    let z : length u ≡ 0 + length u = omega arith in
    h ∙ ap (λ l. l ++ drop (length l) s) e ∙ ap (λ n. u ++ drop n s) z

-- it is read again
pub front_read : (u s t : List ℕ) (n : ℕ) → t ≡ put_at 0 u s → n ≡ length u → take n t ≡ u
front_read u s t n h e =
    let z : take (length u) (put_at 0 u s) ≡ u = put-there 0 u s (omega arith) in
    ap (take n) h ∙ ap (λ m. take m (put_at 0 u s)) e ∙ z

-- and the bytes stay as many
pub front_length : (u s t : List ℕ) → t ≡ put_at 0 u s → length u ≤ length s → length t ≡ length s
front_length u s t h l = ap length h ∙ put-length 0 u s (omega arith)
