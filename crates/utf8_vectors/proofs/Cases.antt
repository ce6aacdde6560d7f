-- What a vector gives, case by case; and the places of the room one by one.
use mathlib.Core.Bool.{Bool, true, false, ◌&&◌}
use mathlib.Core.Path.{◌≡◌, refl, sym, ap, ◌∙◌}
use mathlib.Core.List.{List}
use Prim.Native.Nat.{ℕ, suc, ◌+◌, ◌≤◌, ◌<◌}
use native.Mathlib.Numerals.{add-one}
use lib.ListN.{length, get_or, take, drop, replicate, drop_of_length-le}
use lib.Seq.{drop-cons}
use Rattle.std.specs.Prelude.{Result}
use Rattle.definition.specs.Utf8.{decoded}
use Rattle.utf8.specs.Read.{answered}
use Rattle.utf8.specs.Puts.{puts}
use Rattle.utf8.specs.declared.NotUtf8.{NotUtf8}
use Rattle.utf8_vectors.specs.Given.{empty, is_given, is_place, are_places, is_right}

module _ (s : List ℕ) (at count i : ℕ) where
  module _ (l : List ℕ) where
    -- no place is left; the first one is right; it is not
    pub over : length l ≤ i → true ≡ are_places s at count i (drop i l)
    unfolding are_places
    over h = sym (rw (drop_of_length-le l {i = i} h) refl)

    pub right-place : i < length l → true ≡ is_place s at count i (get_or l i 0)
        → are_places s at count (i + 1) (drop (i + 1) l) ≡ are_places s at count i (drop i l)
    unfolding are_places
    right-place h e = sym (rw (drop-cons l i 0 h, add-one)
        (ap (λ (t : Bool). t && are_places s at count (suc i) (drop (suc i) l)) (sym e)))

    pub wrong-place : i < length l → false ≡ is_place s at count i (get_or l i 0) → false ≡ are_places s at count i (drop i l)
    unfolding are_places
    wrong-place h e = sym (rw (drop-cons l i 0 h)
        (ap (λ (t : Bool). t && are_places s at count (i + 1) (drop (suc i) l)) (sym e)))

-- A vector: its answer is not as given, or it is and its places decide
module _ (s : List ℕ) (at len : ℕ) where
  abbrev text : List ℕ
  text = take len (drop at s)

  pub told : (t : List ℕ) (d : Result ℕ NotUtf8) (k n : ℕ) (b : Bool) → b ≡ is_given d k n → t ≡ text → d ≡ answered t
      → k ≡ get_or s (at + len) 0 → n ≡ get_or s (at + len + 1) 0
      → b ≡ is_given (answered text) (get_or s (at + len) 0) (get_or s (at + len + 1) 0)
  told t d k n b e h a f g =
      e ∙ ap (λ (x : Result ℕ NotUtf8). is_given x k n) (a ∙ ap answered h) ∙ ap (λ (x : ℕ). is_given (answered text) x n) f
      ∙ ap (is_given (answered text) (get_or s (at + len) 0)) g

  pub wrong_answer : false ≡ is_given (answered text) (get_or s (at + len) 0) (get_or s (at + len + 1) 0) → false ≡ is_right s at len
  unfolding is_right
  wrong_answer e = ap (λ (t : Bool). t && rest) e
    where
      rest : Bool
      rest = are_places s (at + len + 3) (get_or s (at + len + 2) 0) 0 (puts 0 (decoded text) (replicate 16 empty))

  pub right_answer : true ≡ is_given (answered text) (get_or s (at + len) 0) (get_or s (at + len + 1) 0)
      → (m : ℕ) (t l : List ℕ) → m ≡ get_or s (at + len + 2) 0 → t ≡ text → l ≡ puts 0 (decoded t) (replicate 16 empty)
      → are_places s (at + len + 3) m 0 l ≡ is_right s at len
  unfolding is_right
  right_answer e m t l f h p =
      ap (λ (x : ℕ). are_places s (at + len + 3) x 0 l) f
      ∙ ap (are_places s (at + len + 3) (get_or s (at + len + 2) 0) 0) (p ∙ ap (λ (x : List ℕ). puts 0 (decoded x) (replicate 16 empty)) h)
      ∙ ap (λ (b : Bool). b && rest) e
    where
      rest : Bool
      rest = are_places s (at + len + 3) (get_or s (at + len + 2) 0) 0 (puts 0 (decoded text) (replicate 16 empty))
