-- The letters at the ends of a romanization.
use mathlib.Core.Bool.{Bool, true, false, ◌&&◌, and-false, true≢false}
use mathlib.Core.List.{List, [], ◌∷◌, reverse}
use mathlib.Core.Path.{◌≡◌, refl, sym, ap, ◌∙◌}
use Prim.Native.Nat.{ℕ, zero, suc, ◌+◌, ◌-◌, ◌≤◌, ◌<◌}
use native.Mathlib.Omega.{arith}
use lib.Dec.{eqb}
use lib.ListN.{length, take, drop, get_or, length-reverse}
use lib.Seq.{slice, take-take, length-take-le}
use borrow.Author.Tests.{eq-eqb, ne_eqb}
use Rattle.base.specs.Pick.{pick, pick_all}
use Rattle.base.specs.Bools.{and_right}
use Rattle.base.specs.Lists.{head, tail, is, starts}
use Rattle.base.specs.ListLaws.{tail-length}
use Rattle.definition.specs.Texts.{Text, chars, among, addak, long_mark, vowels, consonants, the_space, last_is, without_last}
use Rattle.definition.specs.Expansion.{doubling, doubled}
use Rattle.rom.proofs.Backwards.{back_cons, front_less}
use Rattle.rom.specs.Rom.{held, Clean, text-length, bytes-length}
use Rattle.rom.specs.Sets.{member, vowels_set, in_vowels, last_as}
use Rattle.std.specs.Prelude.{Some, None, slice_get}
use Rattle.steps.specs.Works.{first_of, last_of, letter_of, kana, long_by, front_of, back_of}

-- the first bytes of an array that holds a romanization, as a slice
module _ (b : List ℕ) (n : ℕ) (h : Clean (held b n)) where
  pub held_within : n ≤ length b
  held_within = let f = h.fits in omega (arith, f, bytes-length h)

  pub held_long : n ≡ length (take n b)
  held_long = sym (text-length h)

-- the last of the first `n` bytes
pub last-at : (b : List ℕ) (n : ℕ) → 0 < n → n ≤ length b → get_or b (n - 1) 0 ≡ last_of (take n b)
last-at b n h l = sym (ap (λ (w : List ℕ). get_or w 0 0) (back_cons b n h l))

-- and the first of them
pub first-at : (b : List ℕ) (n : ℕ) → 0 < n → first_of (take n b) ≡ get_or b 0 0
first-at [] zero h = refl
first-at [] (suc n) h = refl
first-at (x ∷ b) zero h = absurd (omega arith)
first-at (x ∷ b) (suc n) h = refl

-- a text with a last letter is not empty
pub not_empty : (q : ℕ → Bool) (w : Text) → is q (head (reverse w)) ≡ true → 0 < length w
unfolding head
not_empty q [] e = absurd (true≢false (sym e))
not_empty q (c ∷ w) e = omega arith

-- a text that starts with a space is not empty, nor is one that ends with it
pub some_first : (w : Text) → first_of w ≡ the_space → 0 < length w
some_first [] e = absurd (omega arith)
some_first (c ∷ w) e = omega arith

pub some_last : (w : Text) → last_of w ≡ the_space → 0 < length w
some_last w e = omega (arith, some_first (reverse w) e, length-reverse w)

-- the first `n` bytes without the first of them, and without the last
behind-first : (w : Text) → drop 1 w ≡ tail w
behind-first [] = refl
behind-first (c ∷ w) = refl

pub all_but_first : (b : List ℕ) (n : ℕ) → slice 1 n (take n b) ≡ tail (take n b)
all_but_first b n = ap (drop 1) (take-take n n b (omega arith)) ∙ behind-first (take n b)

module _ (b : List ℕ) (n : ℕ) (h : 0 < n) (l : n ≤ length b) where
  pub all_but_last : slice 0 (n - 1) (take n b) ≡ without_last (take n b)
  all_but_last = take-take (n - 1) n b (omega arith) ∙ sym (front_less b n h l)

  pub one_less : length (without_last (take n b)) + 1 ≡ n
  one_less = omega (arith, ap length (front_less b n h l), length-take-le (n - 1) b (omega arith))

-- a test that 0 fails
module _ (q : ℕ → Bool) (z : q 0 ≡ false) where
  pub first_passes : (w : Text) → q (first_of w) ≡ is q (head w)
  unfolding head
  first_passes [] = z
  first_passes (c ∷ w) = refl

pub one-there : (q : ℕ → Bool) (w : Text) → is q (head w) ≡ true → take 1 w ≡ first_of w ∷ []
unfolding head
one-there q [] e = absurd (true≢false (sym e))
one-there q (c ∷ w) e = refl

pub last-there : (q : ℕ → Bool) (w : Text) → last_is q w ≡ true → take 1 (reverse w) ≡ last_of w ∷ []
unfolding last_is
last-there q w e = one-there q (reverse w) e

-- all are consonants
pub no_consonant : consonants 0 ≡ false
unfolding consonants among
no_consonant = refl

-- Doubling: by a letter, if the text has a first one
module _ (c : ℕ) where
  module _ (w : Text) (e : starts (chars "ch") w ≡ true) where
    pub ch_by-c : c ≡ addak → letter_of (Some 99) ≡ doubled c w
    unfolding doubled letter_of pick
    ch_by-c k = sym (rw (e, eq-eqb c addak k))

    pub ch_by-t : (c ≡ addak → ⊥) → letter_of (Some 116) ≡ doubled c w
    unfolding doubled letter_of pick
    ch_by-t k = sym (rw (e, ne_eqb c addak k))

  pub first-doubled : (w : Text) (b : ℕ) → starts (chars "ch") w ≡ false → Some b ≡ slice_get w 0 → doubling b ≡ true
      → letter_of (Some b) ≡ doubled c w
  unfolding doubled letter_of pick head
  first-doubled [] b e g d = cc
  first-doubled (x ∷ w) b e g d =
      let k : b ≡ x = cc in
      let f : doubling x ≡ true = ap doubling (sym k) ∙ d in
      ap (λ (y : ℕ). y ∷ []) k ∙ sym (rw (e, f))

  pub none-doubled : (w : Text) (b : ℕ) → starts (chars "ch") w ≡ false → Some b ≡ slice_get w 0 → doubling b ≡ false
      → letter_of None ≡ doubled c w
  unfolding doubled letter_of pick head
  none-doubled [] b e g d = cc
  none-doubled (x ∷ w) b e g d =
      let k : b ≡ x = cc in
      let f : doubling x ≡ false = ap doubling (sym k) ∙ d in
      sym (rw (e, f))

  pub nothing-doubled : (w : Text) → starts (chars "ch") w ≡ false → None ≡ slice_get w 0 → letter_of None ≡ doubled c w
  unfolding doubled letter_of pick head
  nothing-doubled [] e g = sym (rw e)
  nothing-doubled (x ∷ w) e g = cc

-- Trimming
pub front-short : (c : ℕ) (w : Text) → length (front_of c w) ≤ length w
unfolding front_of
front-short c w = pick_all (λ (u : Text). length u ≤ length w) (is (eqb the_space) (head w) && eqb c the_space) {x = tail w} {y = w}
    (omega (arith, tail-length w)) (omega arith)

pub back-short : (b : Bool) (w : Text) → length (back_of b w) ≤ length w
unfolding back_of
back-short b w = pick_all (λ (u : Text). length u ≤ length w) (last_is (eqb the_space) w && b) {x = without_last w} {y = w}
    (omega (arith, length-reverse (tail (reverse w)), tail-length (reverse w), length-reverse w)) (omega arith)

-- is a space first? The last is the first of the text turned round
space_first : (w : Text) → first_of w ≡ the_space → is (eqb the_space) (head w) ≡ true
space_first w e = sym (first_passes (eqb the_space) refl w) ∙ eq-eqb the_space (first_of w) (sym e)

letter-first : (w : Text) → (first_of w ≡ the_space → ⊥) → is (eqb the_space) (head w) ≡ false
letter-first w e = sym (first_passes (eqb the_space) refl w) ∙ ne_eqb the_space (first_of w) (λ k. e (sym k))

module _ (c : ℕ) (w : Text) where
  pub front_space : first_of w ≡ the_space → c ≡ the_space → tail w ≡ front_of c w
  unfolding front_of pick
  front_space e f = sym (rw (space_first w e, eq-eqb c the_space f))

  pub front-text : (c ≡ the_space → ⊥) → w ≡ front_of c w
  unfolding front_of pick
  front-text f = sym (rw (ne_eqb c the_space f, and-false (is (eqb the_space) (head w))))

  pub front-letter : (first_of w ≡ the_space → ⊥) → w ≡ front_of c w
  unfolding front_of pick
  front-letter e = sym (rw (letter-first w e))

module _ (b : Bool) (w : Text) where
  pub back_space : last_of w ≡ the_space → b ≡ true → without_last w ≡ back_of b w
  unfolding back_of last_is pick
  back_space e f = sym (rw (space_first (reverse w) e, f))

  pub back-text : b ≡ false → w ≡ back_of b w
  unfolding back_of pick
  back-text f = sym (rw (f, and-false (last_is (eqb the_space) w)))

  pub back-letter : (last_of w ≡ the_space → ⊥) → w ≡ back_of b w
  unfolding back_of last_is pick
  back-letter e = sym (rw (letter-first (reverse w) e))

-- the vowels are a set
pub vowel_last : (w : Text) → last_is (member vowels_set) w ≡ last_is vowels w
vowel_last w = last_as vowels_set vowels in_vowels w

module _ (c k : ℕ) (w : Text) where
  pub long-vowel : long_by c k w ≡ true → last_is vowels w ≡ true
  unfolding long_by
  long-vowel e = and_right (eqb c long_mark && kana k) (last_is vowels w) e
