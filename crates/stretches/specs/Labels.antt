-- What a driver sees, applied: a label of four words, one of them empty; one with a character that stands for others; and
-- two lines that show that both premises are needed, where all else that the theorem asks is given.
-- (proofs/Labels: the theorem applied.)
use Rattle.std.specs.Prelude.{◌≡◌, refl, List, [], ◌∷◌, map, ℕ}
use Rattle.std.proofs.Common.{arith}
use Prim.Native.String.{String}
use Rattle.definition.specs.Texts.{chars}
use Rattle.definition.specs.Utf8.{encoded}
use Rattle.definition.specs.Listing.{block}
use Rattle.definition.specs.Call.{Inputs, called}
use Rattle.definition.specs.Compute.{compute}
use Rattle.definition.specs.Sample.{as_port, sample}
use Rattle.stretches.specs.Demand.{spaceless, spaceless_if, spaceless_rule}
use Rattle.stretches.specs.Driver.{spaced, line_of, WordCall, Line, Spaceless, Firsts, wrote}
use Rattle.stretches.specs.Applied.{first_by, halves}

-- A call with other bytes as its text, lent as much
pub word_call : (i : Inputs) (b : List ℕ) → WordCall i (record {
  mode = i.mode;
  choices = i.choices;
  rules = i.rules;
  classes = i.classes;
  vowels = i.vowels;
  decompositions = i.decompositions;
  code = i.code;
  text = b;
  slots = i.slots;
  room = i.room;
  out = i.out;
})
word_call i b = record {
  mode = refl;
  choices = refl;
  rules = refl;
  classes = refl;
  vowels = refl;
  decompositions = refl;
  code = refl;
  slots = omega arith;
  room = omega arith;
  out = omega arith;
}

-- Calls in mode 0 with document 01's sample tables
abbrev call : String → Inputs
call w = sample 0 "" w

-- A label in Devanagari and Thai, U+0E2D first in its word, and two spaces in a row
abbrev pub label : Inputs
label = call "कत  อก क्त"

abbrev pub words : List Inputs
words = call "कत" ∷ call "" ∷ call "อก" ∷ call "क्त" ∷ []

label-bytes : label.text ≡
    0xE0 ∷ 0xA4 ∷ 0x95 ∷ 0xE0 ∷ 0xA4 ∷ 0xA4 ∷ 0x20 ∷ 0x20 ∷ 0xE0 ∷ 0xB8 ∷ 0xAD ∷ 0xE0 ∷ 0xB8 ∷ 0x81
    ∷ 0x20 ∷ 0xE0 ∷ 0xA4 ∷ 0x95 ∷ 0xE0 ∷ 0xA5 ∷ 0x8D ∷ 0xE0 ∷ 0xA4 ∷ 0xA4 ∷ []
unfolding compute
label-bytes = refl

pub label-line : Line label words
unfolding compute spaced line_of
label-line =
    let c : (w : String) → WordCall label (call w) = λ w. word_call label (encoded (chars w)) in
    record { mode = refl; done = refl; text = refl; calls = (c "कत", (c "", (c "อก", (c "क्त", tt)))) }

pub label_spaceless : Spaceless label
unfolding compute spaceless spaceless_if spaceless_rule
label_spaceless = refl

pub label_firsts : Firsts label words
unfolding compute
label_firsts = (
  λ z. first_by (chars "कत") refl,
  (λ z. first_by [] refl, (λ z. first_by (chars "อก") refl, (λ z. first_by (chars "क्त") refl, tt))),
)

-- What the words give, computed
pub word_outputs : map (λ j. wrote (called j)) words ≡ chars "kat" ∷ [] ∷ chars "k" ∷ chars "kta" ∷ []
unfolding compute wrote
word_outputs = refl

-- ½ for 1, the fraction slash and 2: in each word it is parted from the numbers beside it
abbrev pub half_label : Inputs
half_label = halves 0 "1½ 1 ½"

abbrev pub half_words : List Inputs
half_words = halves 0 "1½" ∷ halves 0 "1" ∷ halves 0 "½" ∷ []

pub half_label-line : Line half_label half_words
unfolding compute spaced line_of
half_label-line =
    let c : (w : String) → WordCall half_label (halves 0 w) = λ w. word_call half_label (encoded (chars w)) in
    record { mode = refl; done = refl; text = refl; calls = (c "1½", (c "1", (c "½", tt))) }

pub half_label_spaceless : Spaceless half_label
unfolding compute spaceless spaceless_if spaceless_rule
half_label_spaceless = refl

pub half_label_firsts : Firsts half_label half_words
unfolding compute
half_label_firsts =
    (λ z. first_by (chars "1½") refl, (λ z. first_by (chars "1") refl, (λ z. first_by (chars "½") refl, tt)))

pub half_outputs : map (λ j. wrote (called j)) half_words ≡ chars "1 1/2" ∷ chars "1" ∷ chars "1/2" ∷ []
unfolding compute wrote
half_outputs = refl

-- With U+0E2D past its word's first character, and the choice of O ang 0: what document 01 has run. In the line the
-- second word gives "ok", alone "k"
abbrev pub thai : Inputs
thai = call "ก ่อก"

abbrev pub thai_words : List Inputs
thai_words = call "ก" ∷ call "่อก" ∷ []

pub thai_line : Line thai thai_words
unfolding compute spaced line_of
thai_line =
    let c : (w : String) → WordCall thai (call w) = λ w. word_call thai (encoded (chars w)) in
    record { mode = refl; done = refl; text = refl; calls = (c "ก", (c "่อก", tt)) }

pub thai_spaceless : Spaceless thai
unfolding compute spaceless spaceless_if spaceless_rule
thai_spaceless = refl

pub thai-output : wrote (called thai) ≡ chars "k ok"
unfolding compute wrote
thai-output = refl

pub thai_outputs : line_of (map (λ j. wrote (called j)) thai_words) ≡ chars "k k"
unfolding compute wrote line_of spaced
thai_outputs = refl

-- With a space in a rule's source: "a b" reads "x", while its words read "a" and "b". The rule table has that one row,
-- of 17 bytes; the other tables have none
abbrev pub knit : String → Inputs
knit w = record {
  mode = 0;
  choices = as_port;
  rules = block (0 ∷ 17 ∷ 32 ∷ 0 ∷ 0 ∷ 3 ∷ 0 ∷ 0 ∷ 0x61 ∷ 0 ∷ 0 ∷ 0x20 ∷ 0 ∷ 0 ∷ 0x62 ∷ 0 ∷ 1 ∷ 0x78 ∷ 0 ∷ []);
  classes = block [];
  vowels = block [];
  decompositions = block [];
  code = [];
  text = chars w;
  slots = 120;
  room = 10;
  out = 10;
}

abbrev pub knit_words : List Inputs
knit_words = knit "a" ∷ knit "b" ∷ []

pub knit-line : Line (knit "a b") knit_words
unfolding compute spaced line_of
knit-line =
    let c : (w : String) → WordCall (knit "a b") (knit w) = λ w. word_call (knit "a b") (chars w) in
    record { mode = refl; done = refl; text = refl; calls = (c "a", (c "b", tt)) }

pub knit_firsts : Firsts (knit "a b") knit_words
unfolding compute
knit_firsts = (λ z. first_by (chars "a") refl, (λ z. first_by (chars "b") refl, tt))

pub knit-output : wrote (called (knit "a b")) ≡ chars "x"
unfolding compute wrote
knit-output = refl

pub knit_outputs : line_of (map (λ j. wrote (called j)) knit_words) ≡ chars "a b"
unfolding compute wrote line_of spaced
knit_outputs = refl
