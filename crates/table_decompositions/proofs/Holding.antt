-- The characters that a row holds, one after another: where each stands, and the cases of a turn of the two loops over them.
use Prim.Native.Nat.{ℕ, zero, suc, ◌+◌, ◌*◌, ◌≤◌, ◌<◌}
use mathlib.Core.Bool.{Bool, true, false, not, ◌&&◌, and-false}
use mathlib.Core.List.{List, ◌∷◌}
use mathlib.Core.Path.{◌≡◌, refl, sym, ap, ◌∙◌}
use native.Mathlib.Omega.{arith}
use native.Mathlib.Numerals.{add-one}
use native.Mathlib.Nat.{add-zero}
use lib.ListN.{get_or, drop, drop_of_length-le}
use lib.Seq.{drop-drop, drop-cons, get_or-drop}
use borrow.Author.Tests.{le-leb, lt-leb}
use Rattle.base.specs.Big.{be3}
use Rattle.base.specs.Lists.{any, all}
use Rattle.definition.specs.Limits.{most_into}
use Rattle.definition.specs.Texts.{left_out}
use Rattle.definition.specs.Utf8.{scalar}
use Rattle.definition.specs.DecompositionRows.{decomposition_count, threes, decomposition_into, into_right}
use Rattle.definition.specs.DecompositionLaws.{into-length}

be3-there : (s : List ℕ) (o : ℕ) → be3 (drop o s) 0 ≡ be3 s o
be3-there s o = simp (get_or-drop, add-zero)

threes-at : (n i : ℕ) (s : List ℕ) → i < n → get_or (threes n s) i 0 ≡ be3 (drop (3 * i) s) 0
unfolding threes
threes-at zero i s h = absurd (omega arith)
threes-at (suc n) zero s h = refl
threes-at (suc n) (suc i) s h =
    let e : 3 + 3 * i ≡ 3 * suc i = omega arith in
    threes-at n i (drop 3 s) (omega arith) ∙ ap (λ (l : List ℕ). be3 l 0) (drop-drop (3 * i) 3 s ∙ ap (λ (k : ℕ). drop k s) e)

pub into-there : (s : List ℕ) (i : ℕ) → i < decomposition_count s → be3 s (5 + 3 * i) ≡ get_or (decomposition_into s) i 0
unfolding decomposition_into
into-there s i h =
    sym (threes-at (decomposition_count s) i (drop 5 s) h ∙ ap (λ (l : List ℕ). be3 l 0) (drop-drop (3 * i) 5 s) ∙ be3-there s (5 + 3 * i))

-- a character that a row may hold
abbrev pub held_right : ℕ → Bool
held_right c = scalar c && not (left_out c)

module _ (s : List ℕ) where
  pub hold-none : decomposition_count s < 1 → false ≡ into_right s
  unfolding into_right
  hold-none h = simp (lt-leb 1 (decomposition_count s) h)

  pub hold_many : most_into < decomposition_count s → false ≡ into_right s
  unfolding into_right
  hold_many h = simp (lt-leb (decomposition_count s) most_into h, and-false)

  pub hold-start : 1 ≤ decomposition_count s → decomposition_count s ≤ most_into → all held_right (drop 0 (decomposition_into s)) ≡ into_right s
  unfolding into_right
  hold-start g h = simp (le-leb 1 (decomposition_count s) g, le-leb (decomposition_count s) most_into h)

  module _ (i : ℕ) where
    pub hold-over : decomposition_count s ≤ i → true ≡ all held_right (drop i (decomposition_into s))
    unfolding all
    hold-over h = sym (rw (drop_of_length-le (decomposition_into s) {i = i} (let e = into-length s in omega arith)))

    pub nested_over : (f : ℕ → Bool) → decomposition_count s ≤ i → false ≡ any f (drop i (decomposition_into s))
    unfolding any
    nested_over f h = sym (rw (drop_of_length-le (decomposition_into s) {i = i} (let e = into-length s in omega arith)))

    module _ (h : i < decomposition_count s) (c : ℕ) (e : c ≡ get_or (decomposition_into s) i 0) where
      here : drop i (decomposition_into s) ≡ c ∷ drop (i + 1) (decomposition_into s)
      here = rw (e, add-one) (drop-cons (decomposition_into s) i 0 (let n = into-length s in omega arith))

      pub hold_surrogate : false ≡ scalar c → false ≡ all held_right (drop i (decomposition_into s))
      unfolding all
      hold_surrogate q = sym (rw (here, sym q))

      pub hold-left_out : true ≡ left_out c → false ≡ all held_right (drop i (decomposition_into s))
      unfolding all
      hold-left_out q = sym (rw (here, sym q) (rw and-false))

      pub hold-right : true ≡ scalar c → false ≡ left_out c
          → all held_right (drop (i + 1) (decomposition_into s)) ≡ all held_right (drop i (decomposition_into s))
      unfolding all
      hold-right p q = sym (rw (here, sym p, sym q))

      pub nested_here : (f : ℕ → Bool) → f c ≡ true → true ≡ any f (drop i (decomposition_into s))
      unfolding any
      nested_here f q = sym (rw (here, q))

      pub nested_next : (f : ℕ → Bool) → f c ≡ false → any f (drop (i + 1) (decomposition_into s)) ≡ any f (drop i (decomposition_into s))
      unfolding any
      nested_next f q = sym (rw (here, q))
