-- What the answers of this crate's functions say, in the definition's terms.
use Rattle.std.specs.Prelude.{Bool, true, false, List, ◌≡◌, refl, ℕ, ◌≤◌, length, Option as Maybe, Some, None, Result, Ok, Err}
use Rattle.std.proofs.Common.{sym, ap, ◌∙◌, arith, ltb-false}
use Rattle.std.proofs.Math.Option.{Option, none, some}
use Rattle.base.specs.Pick.{pick}
use Rattle.base.specs.Lists.{or_else, first_of}
use Rattle.definition.specs.Limits.{most_characters}
use Rattle.definition.specs.Utf8.{Read, char, bad, bad_sequence, decoded}
use Rattle.definition.specs.Refusals.{Refusal, refuse, when, placed, refused_utf8, refused_too_long, refused_left_out}
use Rattle.definition.specs.Utf8Turns.{decoded_few}
use Rattle.definition.specs.Call.{text_refusal}
use Rattle.utf8.specs.declared.Char.{Char}
use Rattle.utf8.specs.declared.NotUtf8.{NotUtf8}
use Rattle.utf8.specs.declared.TextFault.{TextFault}
use Rattle.utf8.specs.declared.TextFault.TheVariants.{NotUtf8 as BadSequence, TooLong, LeftOut}

-- a sequence
unfoldable pub char_means : Maybe Char → Read
char_means (Some c) = char c.value c.size
char_means None = bad

-- a place
unfoldable pub found_means : Maybe ℕ → Option ℕ
found_means (Some p) = some p
found_means None = none

-- the answer for a text: the offset of its first bad sequence, or how many characters it has
unfoldable pub answer : Option ℕ → ℕ → Result ℕ NotUtf8
answer none n = Ok n
answer (some p) n = Err (record { at = p })

unfoldable pub answered : List ℕ → Result ℕ NotUtf8
answered s = answer (bad_sequence s) (length (decoded s))

-- and what an answer tells of the text
bad-answer : (o : Option ℕ) (m : ℕ) (e : NotUtf8) → answer o m ≡ Err e → o ≡ some e.at
unfolding answer
bad-answer none m f e = cc
bad-answer (some q) m f e = cc

good_answer : (o : Option ℕ) (m n : ℕ) → answer o m ≡ Ok n → (o ≡ none) × (n ≡ m)
unfolding answer
good_answer none m n e = (refl, cc)
good_answer (some q) m n e = (cc, cc)

pub answered-bad : (s : List ℕ) (e : NotUtf8) → answered s ≡ Err e → bad_sequence s ≡ some e.at
unfolding answered
answered-bad s e h = bad-answer (bad_sequence s) (length (decoded s)) e h

pub answered_good : (s : List ℕ) (n : ℕ) → answered s ≡ Ok n
    → (bad_sequence s ≡ none) × (n ≡ length (decoded s))
unfolding answered
answered_good s n e = good_answer (bad_sequence s) (length (decoded s)) n e

-- So many places are enough for a text's characters, unless these are too many
abbrev pub Roomy : List ℕ → ℕ → Type 0
Roomy s places = length (decoded s) ≤ most_characters → length (decoded s) ≤ places

-- as many as the most characters are, and as many as the text has bytes
pub roomy_most : (s : List ℕ) (places : ℕ) → most_characters ≤ places → Roomy s places
roomy_most s places l h = omega arith

pub roomy_bytes : (s : List ℕ) (places : ℕ) → length s ≤ places → Roomy s places
roomy_bytes s places l h = omega (arith, decoded_few s)

-- the refusal of a text
unfoldable pub text_means : Result ℕ TextFault → Option Refusal
text_means (Ok n) = none
text_means (Err (BadSequence p)) = some (refuse refused_utf8 p)
text_means (Err TooLong) = some (refuse refused_too_long most_characters)
text_means (Err (LeftOut p)) = some (refuse refused_left_out p)

-- a text that is not refused is not too long
few_by : (o q : Option Refusal) (b : Bool) (n k : ℕ) → or_else o (or_else (when b n k) q) ≡ none → b ≡ false
unfolding when pick
few_by none q true n k e = absurd (let z : ◌≡◌ {A = ℕ} 0 1 = cc in omega arith)
few_by none q false n k e = refl
few_by (some x) q b n k e = absurd (let z : ◌≡◌ {A = ℕ} 0 1 = cc in omega arith)

pub few_characters : (s : List ℕ) → text_refusal s ≡ none → length (decoded s) ≤ most_characters
unfolding text_refusal first_of
few_characters s e =
    let h = ltb-false most_characters (length (decoded s)) (few_by (placed refused_utf8 (bad_sequence s)) _ _ _ _ e) in omega arith

pub few_read : (s : List ℕ) (r : Result ℕ TextFault) (n : ℕ) → r ≡ Ok n → text_means r ≡ text_refusal s → length (decoded s) ≤ most_characters
unfolding text_means
few_read s r n e q = few_characters s (sym q ∙ ap text_means e)
