-- What is kept of one position, in one number: what is remembered of a start of word (0 not asked, 1 a start, 2 none) in
-- bits 0 and 1; in bit 2 whether an edge that ends here ends in a letter or mark; in bit 3 whether an edge goes over the
-- one character here; and of the longest edge that ends here in bit 4 whether it ends in a consonant (w and y not
-- counted), in bit 5 whether in one beside which O ang is spoken, in bit 6 whether its text is empty, and from bit 7 on
-- how far back it starts, 0 where no edge ends here.
use Rattle.std.specs.Prelude.{ℕ, ◌+◌, ◌*◌, ◌/◌, ◌%◌, ◌<◌, ◌≤◌, Bool, ◌||◌, ◌≡◌, ltb}
use Rattle.std.proofs.Math.Bool.{true, false, or-true, or-false}
use Rattle.std.proofs.Math.Path.{refl, sym, ap}
use Rattle.std.proofs.Common.{◌∙◌}
use native.Mathlib.Omega.{arith}
use Rattle.std.proofs.Math.Dec.{eqb}
use borrow.Author.Tests.{eq-eqb, lt-ltb, le-ltb}
use Rattle.base.specs.Pick.{pick}
use Rattle.base.specs.Bits.{bit, is_set}
use Rattle.edge_places.specs.declared.Ending.{Ending}

abbrev pub start_in : ℕ → ℕ
start_in x = x % 4

abbrev pub letter_in : ℕ → Bool
letter_in x = eqb (x / 4 % 2) 1

abbrev pub over_in : ℕ → Bool
over_in x = eqb (x / 8 % 2) 1

abbrev pub closed_in : ℕ → Bool
closed_in x = eqb (x / 16 % 2) 1

abbrev pub side_in : ℕ → Bool
side_in x = eqb (x / 32 % 2) 1

abbrev pub empty_in : ℕ → Bool
empty_in x = eqb (x / 64 % 2) 1

abbrev pub back_in : ℕ → ℕ
back_in x = x / 128

-- how far back an edge can start at most: a number of two bytes, as in slots
abbrev pub back_limit : ℕ
back_limit = 65536

-- all of it but the remembered start: what the edges tell
abbrev pub told_in : ℕ → ℕ
told_in x = x / 4

-- each part by what the edges tell
pub told-letter : (x y : ℕ) → told_in x ≡ told_in y → letter_in x ≡ letter_in y
told-letter x y e = ap (λ (k : ℕ). eqb k 1) {x = x / 4 % 2} {y = y / 4 % 2} (omega arith)

pub told_over : (x y : ℕ) → told_in x ≡ told_in y → over_in x ≡ over_in y
told_over x y e = ap (λ (k : ℕ). eqb k 1) {x = x / 8 % 2} {y = y / 8 % 2} (omega arith)

-- A part anew: the remembered start; a letter; an edge over the one character; the longest edge
unfoldable pub with_start : ℕ → ℕ → ℕ
with_start x v = x / 4 * 4 + v

unfoldable pub with_letter : ℕ → ℕ
with_letter x = x / 8 * 8 + 4 + x % 4

unfoldable pub with_over : ℕ → ℕ
with_over x = x / 16 * 16 + 8 + x % 8

unfoldable pub with_longest : ℕ → ℕ → Ending → ℕ
with_longest x back e = x % 16 + bit e.closed * 16 + bit e.side * 32 + bit e.empty * 64 + back * 128

-- an edge that ends here and starts `back` before it
unfoldable pub lettered : ℕ → Bool → ℕ
lettered x b = pick b (with_letter x) x

unfoldable pub lengthened : ℕ → ℕ → Ending → ℕ
lengthened x back e = pick (ltb (back_in x) back) (with_longest x back e) x

abbrev pub noted : ℕ → ℕ → Ending → ℕ
noted x back e = lengthened (lettered x e.letter) back e

bit-small : (b : Bool) → bit b < 2
bit-small true = omega arith
bit-small false = omega arith

-- What they leave and what they change
module _ (x v : ℕ) (h : v < 4) where
  pub start_is : start_in (with_start x v) ≡ v
  unfolding with_start
  start_is = omega arith

  pub start_keeps : told_in (with_start x v) ≡ told_in x
  unfolding with_start
  start_keeps = omega arith

module _ (x : ℕ) where
  pub over-is : over_in (with_over x) ≡ true
  unfolding with_over
  over-is = eq-eqb ((x / 16 * 16 + 8 + x % 8) / 8 % 2) 1 (omega arith)

  pub over-start : start_in (with_over x) ≡ start_in x
  unfolding with_over
  over-start = omega arith

  pub over-letter : letter_in (with_over x) ≡ letter_in x
  unfolding with_over
  over-letter = ap (λ (k : ℕ). eqb k 1) {x = (x / 16 * 16 + 8 + x % 8) / 4 % 2} {y = x / 4 % 2} (omega arith)

  pub over-rest : with_over x / 16 ≡ x / 16
  unfolding with_over
  over-rest = omega arith

  letter-set : letter_in (with_letter x) ≡ true
  unfolding with_letter
  letter-set = eq-eqb ((x / 8 * 8 + 4 + x % 4) / 4 % 2) 1 (omega arith)

  letter_keeps_start : start_in (with_letter x) ≡ start_in x
  unfolding with_letter
  letter_keeps_start = omega arith

  letter-rest : with_letter x / 8 ≡ x / 8
  unfolding with_letter
  letter-rest = omega arith

-- what stands below bit 4 tells of letters and of an edge over the one character
pub low-letter : (x y : ℕ) → x % 16 ≡ y % 16 → letter_in x ≡ letter_in y
low-letter x y e = ap (λ (k : ℕ). eqb k 1) {x = x / 4 % 2} {y = y / 4 % 2} (omega arith)

pub low-over : (x y : ℕ) → x % 16 ≡ y % 16 → over_in x ≡ over_in y
low-over x y e = ap (λ (k : ℕ). eqb k 1) {x = x / 8 % 2} {y = y / 8 % 2} (omega arith)

low-start : (x y : ℕ) → x % 16 ≡ y % 16 → start_in x ≡ start_in y
low-start x y e = omega arith

pub rest_over : (x y : ℕ) → x / 8 ≡ y / 8 → over_in x ≡ over_in y
rest_over x y e = ap (λ (k : ℕ). eqb (k % 2) 1) e

-- what stands from bit 4 on tells of the longest edge
module _ (x y : ℕ) (e : x / 16 ≡ y / 16) where
  pub rest-closed : closed_in x ≡ closed_in y
  rest-closed = ap (λ (k : ℕ). eqb (k % 2) 1) e

  pub rest_side : side_in x ≡ side_in y
  rest_side = ap (λ (k : ℕ). eqb k 1) {x = x / 32 % 2} {y = y / 32 % 2} (omega arith)

  pub rest-empty : empty_in x ≡ empty_in y
  rest-empty = ap (λ (k : ℕ). eqb k 1) {x = x / 64 % 2} {y = y / 64 % 2} (omega arith)

  pub rest_back : back_in x ≡ back_in y
  rest_back = omega arith

module _ (x : ℕ) where
  pub lettered-letter : (b : Bool) → letter_in (lettered x b) ≡ (letter_in x || b)
  unfolding lettered pick
  lettered-letter true = letter-set x ∙ sym (or-true (letter_in x))
  lettered-letter false = sym (or-false (letter_in x))

  lettered-start : (b : Bool) → start_in (lettered x b) ≡ start_in x
  unfolding lettered pick
  lettered-start true = letter_keeps_start x
  lettered-start false = refl

  pub lettered-rest : (b : Bool) → lettered x b / 8 ≡ x / 8
  unfolding lettered pick
  lettered-rest true = letter-rest x
  lettered-rest false = refl

module _ (x back : ℕ) (e : Ending) where
  longest-low : with_longest x back e % 16 ≡ x % 16
  unfolding with_longest
  longest-low = omega (arith, bit-small e.closed, bit-small e.side, bit-small e.empty)

  longest-back : back_in (with_longest x back e) ≡ back
  unfolding with_longest
  longest-back = omega (arith, bit-small e.closed, bit-small e.side, bit-small e.empty)

  longest-closed : closed_in (with_longest x back e) ≡ e.closed
  unfolding with_longest
  longest-closed =
      ap (λ (k : ℕ). eqb k 1) {x = with_longest x back e / 16 % 2} {y = bit e.closed}
      (omega (arith, bit-small e.closed, bit-small e.side, bit-small e.empty))
      ∙ is_set e.closed

  longest_side : side_in (with_longest x back e) ≡ e.side
  unfolding with_longest
  longest_side =
      ap (λ (k : ℕ). eqb k 1) {x = with_longest x back e / 32 % 2} {y = bit e.side}
      (omega (arith, bit-small e.closed, bit-small e.side, bit-small e.empty))
      ∙ is_set e.side

  longest-empty : empty_in (with_longest x back e) ≡ e.empty
  unfolding with_longest
  longest-empty =
      ap (λ (k : ℕ). eqb k 1) {x = with_longest x back e / 64 % 2} {y = bit e.empty}
      (omega (arith, bit-small e.closed, bit-small e.side, bit-small e.empty))
      ∙ is_set e.empty

  low-length : (b : Bool) → pick b (with_longest x back e) x % 16 ≡ x % 16
  unfolding pick
  low-length true = longest-low
  low-length false = refl

  pub lengthened-low : lengthened x back e % 16 ≡ x % 16
  unfolding lengthened
  lengthened-low = low-length (ltb (back_in x) back)

  -- a longer edge is noted, another is not
  pub record Longer (y : ℕ) : Type 0 where
    pub far : back_in y ≡ back
    pub closed : closed_in y ≡ e.closed
    pub side : side_in y ≡ e.side
    pub empty : empty_in y ≡ e.empty

  pub longer-noted : back_in x < back → Longer (lengthened x back e)
  unfolding lengthened pick
  longer-noted h = rw (lt-ltb (back_in x) back h) record {
    far = longest-back;
    closed = longest-closed;
    side = longest_side;
    empty = longest-empty;
  }

  pub longer-is : back_in x < back → with_longest x back e ≡ lengthened x back e
  unfolding lengthened pick
  longer-is h = sym (ap (λ (b : Bool). pick b (with_longest x back e) x) (lt-ltb (back_in x) back h))

  pub shorter_left : back ≤ back_in x → lengthened x back e ≡ x
  unfolding lengthened pick
  shorter_left h = rw (le-ltb (back_in x) back h)

-- an edge that is noted leaves what is remembered
pub noted-start : (x back : ℕ) (e : Ending) → start_in (noted x back e) ≡ start_in x
noted-start x back e =
    low-start (noted x back e) (lettered x e.letter) (lengthened-low (lettered x e.letter) back e) ∙ lettered-start x e.letter
