-- The characters of a text's bytes are the text, and no sequence of them is bad.
use Rattle.std.specs.Prelude.{Bool, true, false, ◌≡◌, refl, List, [], ◌∷◌, ◌++◌, ℕ, ◌+◌, ◌*◌, ◌/◌, ◌%◌, ◌≤◌, ◌<◌, ltb, length, get_or}
use Rattle.std.proofs.Common.{◌∙◌, ap, arith, length-append, ltb-true, ltb-false}
use Rattle.std.proofs.Math.Option.{none}
use Rattle.std.proofs.Math.Seq.{drop-append_seam}
use Rattle.base.specs.Pick.{pick}
use Rattle.base.specs.Alls.{All}
use Rattle.definition.specs.Texts.{Text}
use Rattle.definition.specs.Utf8.{char, six, checked, sequence, read, scalar, bad_sequence, decoded, encode, encoded}
use Rattle.definition.specs.Utf8Turns.{bad_at, bad_sequence-is, bad-none, bad-next, decoded-none, decoded-next, char-bytes}
use Rattle.definition.specs.Roundtrip.{checked-own, read-four, read-two, read_one, sequence-three, six_of}

read-three : (c : ℕ) (r : List ℕ) → scalar c ≡ true → 0x800 ≤ c → c < 0x10000 → read ((224 + c / 4096) ∷ (128 + c / 64 % 64) ∷ (128 + c % 64) ∷ r) ≡ char c 3
unfolding read
read-three c r e l k =
    let v : c / 4096 * 4096 + c / 64 % 64 * 64 + c % 64 ≡ c = omega arith in
    ap (λ x. sequence (224 + c / 4096) x (six (128 + c % 64)) (six (get_or r 0 0))) (six_of (c / 64 % 64) (omega arith))
    ∙ ap (λ x. sequence (224 + c / 4096) (c / 64 % 64) x (six (get_or r 0 0))) (six_of (c % 64) (omega arith))
    ∙ sequence-three (c / 4096) (c / 64 % 64) (c % 64) (six (get_or r 0 0)) (omega arith) (omega arith) (omega arith)
    ∙ ap (checked 0x800 3) v ∙ checked-own 0x800 3 c l e

-- a character's bytes are read as the character
pub read-encode : (c : ℕ) (r : List ℕ) → scalar c ≡ true → read (encode c ++ r) ≡ char c (length (encode c))
unfolding encode pick
read-encode c r e = go (ltb c 0x80) (ltb c 0x800) (ltb c 0x10000) refl refl refl
  where
    go : (a b d : Bool) → ltb c 0x80 ≡ a → ltb c 0x800 ≡ b → ltb c 0x10000 ≡ d
        → (let w = pick a (c ∷ []) (pick b ((192 + c / 64) ∷ (128 + c % 64) ∷ [])
        (pick d ((224 + c / 4096) ∷ (128 + c / 64 % 64) ∷ (128 + c % 64) ∷ [])
        ((240 + c / 262144) ∷ (128 + c / 4096 % 64) ∷ (128 + c / 64 % 64) ∷ (128 + c % 64) ∷ []))) in read (w ++ r) ≡ char c (length w))
    go true b d x y z = read_one c r (ltb-true c 0x80 x)
    go false true d x y z = read-two c r e (ltb-false c 0x80 x) (ltb-true c 0x800 y)
    go false false true x y z = read-three c r e (ltb-false c 0x800 y) (ltb-true c 0x10000 z)
    go false false false x y z = read-four c r e (ltb-false c 0x10000 z)

-- and so is a text
long : (c : ℕ) (r : List ℕ) → scalar c ≡ true → 0 < length (encode c ++ r)
long c r e = let m = char-bytes (encode c ++ r) c (length (encode c)) (read-encode c r e) in omega (arith, length-append (encode c) r)

pub decoded-encoded : (w : Text) → All (λ c. scalar c ≡ true) w → decoded (encoded w) ≡ w
unfolding encoded
decoded-encoded [] h = decoded-none [] refl
decoded-encoded (c ∷ w) h =
    decoded-next (encode c ++ encoded w) c (length (encode c)) (long c (encoded w) h.0) (read-encode c (encoded w) h.0)
    ∙ ap (λ s. c ∷ decoded s) (drop-append_seam (encode c) (encoded w)) ∙ ap (λ l. c ∷ l) (decoded-encoded w h.1)

bad-encoded : (o : ℕ) (w : Text) → All (λ c. scalar c ≡ true) w → bad_at o (encoded w) ≡ none
unfolding encoded
bad-encoded o [] h = bad-none o [] refl
bad-encoded o (c ∷ w) h =
    bad-next o (encode c ++ encoded w) c (length (encode c)) (long c (encoded w) h.0) (read-encode c (encoded w) h.0)
    ∙ ap (bad_at (o + length (encode c))) (drop-append_seam (encode c) (encoded w)) ∙ bad-encoded (o + length (encode c)) w h.1

pub encoded-right : (w : Text) → All (λ c. scalar c ≡ true) w → bad_sequence (encoded w) ≡ none
encoded-right w h = bad_sequence-is (encoded w) ∙ bad-encoded 0 w h
