-- UTF-8 back again: where no sequence is bad, the bytes are those of the characters.
-- (Proved in proofs/Rewritten.)
use Rattle.std.specs.Prelude.{◌&&◌, ◌≡◌, refl, List, [], ◌∷◌, ◌++◌, ℕ, zero, suc, ◌+◌, ◌-◌, ◌*◌, ◌/◌, ◌%◌, ◌≤◌, ◌<◌, leb, ltb, get_or, drop}
use Rattle.std.proofs.Common.{sym, ◌∙◌, arith}
use Rattle.std.proofs.Math.Path.{ap}
use borrow.Author.Tests.{lt-ltb, le-ltb, ltb-true, ltb-false, leb-true, leb-false}
use Rattle.base.specs.Pick.{pick, pick_ind}
use Rattle.base.specs.Bools.{and_left, or_left, or_right}
use Rattle.definition.specs.Utf8.{Read, char, bad, six, checked, sequence, read, scalar, encode}

-- Six bits are only a continuation byte's, and tell it
six-back : (b : ℕ) → six b < 64 → b ≡ 128 + six b
unfolding six
six-back b = pick_ind (λ m. m < 64 → b ≡ 128 + m) (leb 128 b && ltb b 192) (b - 128) 64
    (λ e l. let z = leb-true 128 b (and_left (leb 128 b) _ e) in omega arith) (λ e l. absurd (omega arith))

-- past the end stands 0, which is none: so the byte is there
next : (n : ℕ) (t : List ℕ) → six (get_or t n 0) < 64 → drop n t ≡ (128 + six (get_or t n 0)) ∷ drop (suc n) t
next zero [] l = absurd (let z = six-back 0 l in omega arith)
next zero (b ∷ t) l = ap (λ x. x ∷ t) (six-back b l)
next (suc n) [] l = absurd (let z = six-back 0 l in omega arith)
next (suc n) (b ∷ t) l = next n t l

-- The bytes of a character, by the bits that were put together: the low bound that `checked` asks for
-- excludes the shorter forms, so the form is the one of as many bytes
encode_one : (c : ℕ) → c < 0x80 → encode c ≡ c ∷ []
unfolding encode pick
encode_one c l = rw (lt-ltb c 0x80 l)

encode-two : (b x v : ℕ) → v ≡ (b - 192) * 64 + x → 192 ≤ b → b < 224 → x < 64 → 0x80 ≤ v → encode v ≡ b ∷ (128 + x) ∷ []
unfolding encode pick
encode-two b x v e l k i o =
    let p : 192 + v / 64 ≡ b = omega arith in
    let q : v % 64 ≡ x = omega arith in
    rw (le-ltb v 0x80 o, lt-ltb v 0x800 (omega arith), p, q)

encode-three : (b x y v : ℕ) → v ≡ (b - 224) * 4096 + x * 64 + y → 224 ≤ b → b < 240 → x < 64 → y < 64 → 0x800 ≤ v
    → encode v ≡ b ∷ (128 + x) ∷ (128 + y) ∷ []
unfolding encode pick
encode-three b x y v e l k i j o =
    let p : 224 + v / 4096 ≡ b = omega arith in
    let q : v / 64 % 64 ≡ x = omega arith in
    let r : v % 64 ≡ y = omega arith in
    rw (le-ltb v 0x80 (omega arith), le-ltb v 0x800 o, lt-ltb v 0x10000 (omega arith), p, q, r)

encode-four : (b x y z v : ℕ) → v ≡ (b - 240) * 262144 + x * 4096 + y * 64 + z → 240 ≤ b → x < 64 → y < 64 → z < 64 → 0x10000 ≤ v
    → encode v ≡ b ∷ (128 + x) ∷ (128 + y) ∷ (128 + z) ∷ []
unfolding encode pick
encode-four b x y z v e l i j h o =
    let p : 240 + v / 262144 ≡ b = omega arith in
    let q : v / 4096 % 64 ≡ x = omega arith in
    let r : v / 64 % 64 ≡ y = omega arith in
    let t : v % 64 ≡ z = omega arith in
    rw (le-ltb v 0x80 (omega arith), le-ltb v 0x800 (omega arith), le-ltb v 0x10000 o, p, q, r, t)

-- Bytes that read as a character begin with its bytes, if there is one at all: no bytes read as the character 0
abbrev pub Own : List ℕ → Read → Type 0
Own s (char c n) = encode c ++ drop n s ≡ s
Own s bad = Unit {0}

checked-back : (s : List ℕ) (low n v : ℕ) → (low ≤ v → encode v ++ drop n s ≡ s) → Own s (checked low n v)
unfolding checked
checked-back s low n v f = pick_ind (Own s) (leb low v && scalar v) (char v n) bad (λ e. f (leb-true low v (and_left (leb low v) _ e))) (λ e. tt)

module _ (b : ℕ) (t : List ℕ) where
  -- the bits of the three bytes after the first
  abbrev X : ℕ
  X = six (get_or t 0 0)

  abbrev Y : ℕ
  Y = six (get_or t 1 0)

  abbrev Z : ℕ
  Z = six (get_or t 2 0)

  two_back : 192 ≤ b → b < 224 → X < 64 → Own (b ∷ t) (checked 0x80 2 ((b - 192) * 64 + X))
  two_back l k i = checked-back (b ∷ t) 0x80 2 ((b - 192) * 64 + X) (λ o.
      ap (λ w. w ++ drop 1 t) (encode-two b X ((b - 192) * 64 + X) refl l k i o) ∙ ap (λ w. b ∷ w) (sym (next 0 t i)))

  three_back : 224 ≤ b → b < 240 → X < 64 → Y < 64 → Own (b ∷ t) (checked 0x800 3 ((b - 224) * 4096 + X * 64 + Y))
  three_back l k i j = checked-back (b ∷ t) 0x800 3 ((b - 224) * 4096 + X * 64 + Y) (λ o.
      ap (λ w. w ++ drop 2 t) (encode-three b X Y ((b - 224) * 4096 + X * 64 + Y) refl l k i j o)
      ∙ ap (λ w. b ∷ (128 + X) ∷ w) (sym (next 1 t j)) ∙ ap (λ w. b ∷ w) (sym (next 0 t i)))

  four-back : 240 ≤ b → X < 64 → Y < 64 → Z < 64 → Own (b ∷ t) (checked 0x10000 4 ((b - 240) * 262144 + X * 4096 + Y * 64 + Z))
  four-back l i j h = checked-back (b ∷ t) 0x10000 4 ((b - 240) * 262144 + X * 4096 + Y * 64 + Z) (λ o.
      ap (λ w. w ++ drop 3 t) (encode-four b X Y Z ((b - 240) * 262144 + X * 4096 + Y * 64 + Z) refl l i j h o)
      ∙ ap (λ w. b ∷ (128 + X) ∷ (128 + Y) ∷ w) (sym (next 2 t h))
      ∙ ap (λ w. b ∷ (128 + X) ∷ w) (sym (next 1 t j)) ∙ ap (λ w. b ∷ w) (sym (next 0 t i)))

  pub read_back : Own (b ∷ t) (read (b ∷ t))
  unfolding read sequence
  read_back =
      pick_ind (Own (b ∷ t)) _ _ _ (λ e. ap (λ w. w ++ t) (encode_one b (ltb-true b 128 e))) (λ e.
      pick_ind (Own (b ∷ t)) _ _ _ (λ d. tt) (λ d.
      let l = ltb-false b 192 (or_left (ltb b 192) (leb 64 X) d) in
      let i = leb-false 64 X (or_right (ltb b 192) (leb 64 X) d) in
      pick_ind (Own (b ∷ t)) _ _ _ (λ e. two_back l (ltb-true b 224 e) i) (λ e.
      let m = ltb-false b 224 e in
      pick_ind (Own (b ∷ t)) _ _ _ (λ d. tt) (λ d.
      let j = leb-false 64 Y d in
      pick_ind (Own (b ∷ t)) _ _ _ (λ e. three_back m (ltb-true b 240 e) i j) (λ e.
      pick_ind (Own (b ∷ t)) _ _ _ (λ d. tt) (λ d.
      four-back (ltb-false b 240 e) i j (leb-false 64 Z (or_left (leb 64 Z) (leb 248 b) d))))))))
