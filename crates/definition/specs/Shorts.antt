-- Texts of few bytes: ASCII characters, each its own byte.
use Rattle.std.specs.Prelude.{Bool, ◌≡◌, refl, List, [], ◌∷◌, ◌++◌, reverse, ℕ, ◌+◌, ◌-◌, ◌≤◌, ◌<◌, ltb, length, take}
use Rattle.std.proofs.Common.{ap, arith, length-append, lt-ltb}
use Rattle.std.proofs.lemmas.List.{length-reverse}
use Rattle.base.specs.Pick.{pick, pick_all}
use Rattle.base.specs.Lists.{tail, front}
use Rattle.base.specs.ListLaws.{take-most, tail-length, front_length}
use Rattle.base.specs.Alls.{All, All-append, All-reverse, All-tail, All-one, All-front}
use Rattle.definition.specs.Texts.{Text, without_last}
use Rattle.definition.specs.Utf8.{encode, encoded}

abbrev pub Low : ℕ → Type 0
Low c = c < 128

-- A text of `n` bytes at most
pub record Short (n : ℕ) (w : Text) : Type 0 where
  pub long : length w ≤ n
  pub low : All Low w

pub short_none : (n : ℕ) → Short n []
short_none n = record { long = omega arith; low = tt }

pub short-wide : (m : ℕ) {n : ℕ} {w : Text} → m ≤ n → Short m w → Short n w
short-wide m l s = record { long = let p = s.long in omega arith; low = s.low }

pub short-append : (m n : ℕ) {w u : Text} → Short m w → Short n u → Short (m + n) (w ++ u)
short-append m n {w} {u} s r = record {
  long = let p = s.long in let q = r.long in omega (arith, length-append w u);
  low = All-append Low w u s.low r.low;
}

pub short-letter : (n c : ℕ) → 1 ≤ n → Low c → Short n (c ∷ [])
short-letter n c k l = record { long = omega arith; low = (l, tt) }

pub short-reverse : {n : ℕ} {w : Text} → Short n w → Short n (reverse w)
short-reverse {n} {w} s = record {
  long = let p = s.long in omega (arith, length-reverse w);
  low = All-reverse Low w s.low;
}

pub short-tail : (n : ℕ) {w : Text} → Short n w → Short (n - 1) (tail w)
short-tail n {w} s = record { long = let p = s.long in omega (arith, tail-length w); low = All-tail Low w s.low }

pub short-without_last : (n : ℕ) {w : Text} → Short n w → Short (n - 1) (without_last w)
short-without_last n s = short-reverse (short-tail n (short-reverse s))

pub short-one : {n : ℕ} {w : Text} → Short n w → Short 1 (take 1 w)
short-one {n} {w} s = record { long = take-most 1 w; low = All-one Low w s.low }

pub short-front : (q : ℕ → Bool) {n : ℕ} {w : Text} → Short n w → Short n (front q w)
short-front q {n} {w} s = record {
  long = let p = s.long in omega (arith, front_length q w);
  low = All-front Low q w s.low;
}

-- An ASCII text is its own bytes; a character has 4 at most
pub encoded-low : (w : Text) → All Low w → encoded w ≡ w
unfolding encoded encode pick
encoded-low [] h = refl
encoded-low (c ∷ w) h = rw (lt-ltb c 128 h.0) (ap (λ l. c ∷ l) (encoded-low w h.1))

pub encode-length : (c : ℕ) → length (encode c) ≤ 4
unfolding encode
encode-length c =
    let P : List ℕ → Type 0 = λ l. length l ≤ 4 in
    pick_all P (ltb c 0x80) (omega arith)
    (pick_all P (ltb c 0x800) (omega arith)
    (pick_all P (ltb c 0x10000) (omega arith) (omega arith)))
