-- The alternatives of a row: how many there are, where each begins, and that it lies in the row.
use Rattle.std.specs.Prelude.{◌≡◌, refl, List, [], ℕ, zero, suc, ◌+◌, ◌-◌, ◌≤◌, ◌<◌, length, get_or, drop}
use Rattle.std.proofs.Common.{sym, ◌∙◌, arith, drop-drop}
use Rattle.std.proofs.Math.Path.{ap}
use Rattle.definition.specs.Texts.{Text}
use Rattle.definition.specs.RuleRows.{text_size, text_of, texts_size, texts_of, others_at, others_end, others_of}
use Rattle.definition.specs.Places.{Placed}

abbrev pub others : List ℕ → List Text
others s = others_of (others_at s) s

-- a right row that has alternative `k`
pub record Other (s : List ℕ) (k : ℕ) : Type 0 where
  pub placed : Placed s
  pub there : k < length (others s)

-- where alternative `k` begins
unfoldable pub other_at : List ℕ → ℕ → ℕ
other_at s k = others_at s + 1 + texts_size k (drop (others_at s + 1) s)

pub texts-count : (n : ℕ) (s : List ℕ) → length (texts_of n s) ≡ n
unfolding texts_of
texts-count zero s = refl
texts-count (suc n) s = ap suc (texts-count n (drop (text_size s) s))

-- one text after another
pub texts-step : (n o : ℕ) (s : List ℕ) → 0 < n
    → o + texts_size n (drop o s) ≡ o + text_size (drop o s) + texts_size (n - 1) (drop (o + text_size (drop o s)) s)
unfolding texts_size
texts-step zero o s h = absurd (omega arith)
texts-step (suc n) o s h =
    let e : suc n - 1 ≡ n = omega arith in
    let d = ap (texts_size n) (drop-drop (text_size (drop o s)) o s) in
    rw e (omega (arith, d))

pub texts-none : (n o : ℕ) (s : List ℕ) → n ≡ 0 → o ≡ o + texts_size n (drop o s)
unfolding texts_size
texts-none n o s h = let e : texts_size n (drop o s) ≡ 0 = rw h in omega (arith, e)

-- each lies within as many as there are
text_within : (k n : ℕ) (s : List ℕ) → k < n → texts_size k s + text_size (drop (texts_size k s) s) ≤ texts_size n s
unfolding texts_size
text_within k zero s h = absurd (omega arith)
text_within zero (suc n) s h = omega arith
text_within (suc k) (suc n) s h =
    let r = text_within k n (drop (text_size s) s) (omega arith) in
    let d = ap text_size (drop-drop (texts_size k (drop (text_size s) s)) (text_size s) s) in
    omega (arith, r, d)

text-there : (k n : ℕ) (s : List ℕ) → k < n → text_of (drop (texts_size k s) s) ≡ get_or (texts_of n s) k []
unfolding texts_size texts_of
text-there k zero s h = absurd (omega arith)
text-there zero (suc n) s h = refl
text-there (suc k) (suc n) s h =
    ap text_of (sym (drop-drop (texts_size k (drop (text_size s) s)) (text_size s) s)) ∙ text-there k n (drop (text_size s) s) (omega arith)

-- the count before them
pub others-counted : (s : List ℕ) → get_or s (others_at s) 0 ≡ length (others s)
unfolding others_of
others-counted s = sym (texts-count (get_or s (others_at s) 0) (drop (others_at s + 1) s))

-- Alternative `k` of a row
module _ {s : List ℕ} {k : ℕ} (h : Other s k) where
  pub other_lies : other_at s k + text_size (drop (other_at s k) s) ≤ length s
  unfolding other_at others_end
  other_lies =
      let r = text_within k (get_or s (others_at s) 0) (drop (others_at s + 1) s) (omega (arith, h.there, others-counted s)) in
      let d = ap text_size (drop-drop (texts_size k (drop (others_at s + 1) s)) (others_at s + 1) s) in
      omega (arith, r, d, h.placed.last, h.placed.row)

  pub other-is : text_of (drop (other_at s k) s) ≡ get_or (others s) k []
  unfolding other_at others_of
  other-is =
      ap text_of (sym (drop-drop (texts_size k (drop (others_at s + 1) s)) (others_at s + 1) s))
      ∙ text-there k (get_or s (others_at s) 0) (drop (others_at s + 1) s) (omega (arith, h.there, others-counted s))
