-- UTF-8 there and back: the characters of a text's bytes are the text, and no sequence is bad.
-- (Proved in proofs/Roundtrip.)
use Rattle.std.specs.Prelude.{Bool, true, false, ◌&&◌, ◌||◌, ◌≡◌, refl, List, [], ◌∷◌, ◌++◌, ℕ, ◌+◌, ◌-◌, ◌*◌, ◌/◌, ◌%◌, ◌≤◌, ◌<◌, leb, ltb, get_or}
use Rattle.std.proofs.Common.{sym, ◌∙◌, ap, append_assoc, arith, le-leb, lt-ltb, le-ltb, ltb-true, leb-true}
use Rattle.std.proofs.lemmas.Bool.{lt-leb}
use Rattle.base.specs.Pick.{pick}
use Rattle.base.specs.Bools.{and_right}
use Rattle.definition.specs.Texts.{Text}
use Rattle.definition.specs.Utf8.{char, six, checked, sequence, read, scalar, encode, encoded}

pub six_of : (m : ℕ) → m < 64 → six (128 + m) ≡ m
unfolding six pick
six_of m l = let e : 128 + m - 128 ≡ m = omega arith in rw (le-leb 128 (128 + m) (omega arith), lt-ltb (128 + m) 192 (omega arith)) e

pub checked-own : (low n v : ℕ) → low ≤ v → scalar v ≡ true → checked low n v ≡ char v n
unfolding checked pick
checked-own low n v l e = rw (le-leb low v l, e)

sequence-two : (q m y z : ℕ) → q < 32 → m < 64 → sequence (192 + q) m y z ≡ checked 0x80 2 (q * 64 + m)
unfolding sequence pick
sequence-two q m y z l k = let e : 192 + q - 192 ≡ q = omega arith in
    rw (le-ltb (192 + q) 128 (omega arith), le-ltb (192 + q) 192 (omega arith), lt-leb 64 m k, lt-ltb (192 + q) 224 (omega arith), e)

pub sequence-three : (q m n z : ℕ) → q < 16 → m < 64 → n < 64 → sequence (224 + q) m n z ≡ checked 0x800 3 (q * 4096 + m * 64 + n)
unfolding sequence pick
sequence-three q m n z l k j = let e : 224 + q - 224 ≡ q = omega arith in
    rw (le-ltb (224 + q) 128 (omega arith), le-ltb (224 + q) 192 (omega arith), lt-leb 64 m k, le-ltb (224 + q) 224 (omega arith), lt-leb 64 n j, lt-ltb (224 + q) 240 (omega arith), e)

sequence-four : (q m n o : ℕ) → q < 8 → m < 64 → n < 64 → o < 64 → sequence (240 + q) m n o ≡ checked 0x10000 4 (q * 262144 + m * 4096 + n * 64 + o)
unfolding sequence pick
sequence-four q m n o l k j i = let e : 240 + q - 240 ≡ q = omega arith in
    rw (
      le-ltb (240 + q) 128 (omega arith),
      le-ltb (240 + q) 192 (omega arith),
      lt-leb 64 m k,
      le-ltb (240 + q) 224 (omega arith),
      lt-leb 64 n j,
      le-ltb (240 + q) 240 (omega arith),
      lt-leb 64 o i,
      lt-leb 248 (240 + q) (omega arith),
      e,
    )

scalar_top : (c : ℕ) → scalar c ≡ true → c < 0x110000
unfolding scalar
scalar_top c e = go (ltb c 0xD800) refl e
  where
    go : (b : Bool) → ltb c 0xD800 ≡ b → (b || (leb 0xE000 c && leb c 0x10FFFF)) ≡ true → c < 0x110000
    go true p q = let z = ltb-true c 0xD800 p in omega arith
    go false p q = let z = leb-true c 0x10FFFF (and_right (leb 0xE000 c) _ q) in omega arith

pub read-two : (c : ℕ) (r : List ℕ) → scalar c ≡ true → 0x80 ≤ c → c < 0x800 → read ((192 + c / 64) ∷ (128 + c % 64) ∷ r) ≡ char c 2
unfolding read
read-two c r e l k =
    let v : c / 64 * 64 + c % 64 ≡ c = omega arith in
    ap (λ x. sequence (192 + c / 64) x (six (get_or r 0 0)) (six (get_or r 1 0))) (six_of (c % 64) (omega arith))
    ∙ sequence-two (c / 64) (c % 64) (six (get_or r 0 0)) (six (get_or r 1 0)) (omega arith) (omega arith)
    ∙ ap (checked 0x80 2) v ∙ checked-own 0x80 2 c l e

pub read-four : (c : ℕ) (r : List ℕ) → scalar c ≡ true → 0x10000 ≤ c → read ((240 + c / 262144) ∷ (128 + c / 4096 % 64) ∷ (128 + c / 64 % 64) ∷ (128 + c % 64) ∷ r) ≡ char c 4
unfolding read
read-four c r e l =
    let t = scalar_top c e in
    let v : c / 262144 * 262144 + c / 4096 % 64 * 4096 + c / 64 % 64 * 64 + c % 64 ≡ c = omega arith in
    ap (λ x. sequence (240 + c / 262144) x (six (128 + c / 64 % 64)) (six (128 + c % 64))) (six_of (c / 4096 % 64) (omega arith))
    ∙ ap (λ x. sequence (240 + c / 262144) (c / 4096 % 64) x (six (128 + c % 64))) (six_of (c / 64 % 64) (omega arith))
    ∙ ap (λ x. sequence (240 + c / 262144) (c / 4096 % 64) (c / 64 % 64) x) (six_of (c % 64) (omega arith))
    ∙ sequence-four (c / 262144) (c / 4096 % 64) (c / 64 % 64) (c % 64) (omega arith) (omega arith) (omega arith) (omega arith)
    ∙ ap (checked 0x10000 4) v ∙ checked-own 0x10000 4 c l e

pub read_one : (c : ℕ) (r : List ℕ) → c < 0x80 → read (c ∷ r) ≡ char c 1
unfolding read sequence pick
read_one c r l = rw (lt-ltb c 128 l)

-- The bytes of two texts, one behind the other
pub encoded-append : (u w : Text) → encoded (u ++ w) ≡ encoded u ++ encoded w
unfolding encoded
encoded-append [] w = refl
encoded-append (d ∷ u) w = ap (λ l. encode d ++ l) (encoded-append u w) ∙ sym (append_assoc (encode d) (encoded u) (encoded w))
