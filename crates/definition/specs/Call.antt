-- The whole call: its refusals in their order, and what it returns.
use Rattle.std.specs.Prelude.{Bool, not, ◌&&◌, ◌||◌, List, [], ◌∷◌, ◌++◌, ℕ, ◌+◌, ◌-◌, ◌/◌, eqb, ltb, length, drop, replicate}
use Rattle.std.proofs.Math.Option.{Option, none, some}
use Rattle.base.specs.Pick.{pick}
use Rattle.base.specs.Lists.{all, or_else, first_of, same}
use Rattle.definition.specs.Limits.{most_mode, most_choice, code_letters, most_characters, most_listed, slot_bytes}
use Rattle.definition.specs.Refusals.{Refusal, refuse, when, placed, refused_mode, refused_capitals, refused_o_ang, refused_readings, refused_classes, refused_vowels, refused_decompositions, refused_code}
use Rattle.definition.specs.Refusals.{refused_utf8, refused_too_long, refused_left_out, refused_listing, refused_output}
use Rattle.definition.specs.Texts.{Text, left_out}
use Rattle.definition.specs.Tables.{Decomposition, Choices, Tables}
use Rattle.definition.specs.Blocks.{head_bytes, small}
use Rattle.definition.specs.RuleRows.{rules_of}
use Rattle.definition.specs.RuleFaults.{rule_fault}
use Rattle.definition.specs.ClassRows.{class_fault, classes_of}
use Rattle.definition.specs.VowelRows.{vowel_fault, vowels_of}
use Rattle.definition.specs.DecompositionRows.{decomposition_fault, decompositions_of}
use Rattle.definition.specs.Utf8.{bad_sequence, decoded}
use Rattle.definition.specs.Edges.{State}
use Rattle.definition.specs.Decomposing.{lattice}
use Rattle.definition.specs.Listing.{shown}
use Rattle.definition.specs.Capacity.{overflow}

-- What a call is given: tables, code and text are bytes; slots, text room and output are their lengths in bytes
pub record Inputs : Type 0 where
  pub mode : ℕ
  pub choices : Choices
  pub rules : List ℕ
  pub classes : List ℕ
  pub vowels : List ℕ
  pub decompositions : List ℕ
  pub code : List ℕ
  pub text : List ℕ
  pub slots : ℕ
  pub room : ℕ
  pub out : ℕ

-- What it returns, and the whole output slice
pub record Called : Type 0 where
  pub number : ℕ
  pub place : ℕ
  pub length : ℕ
  pub edges : ℕ
  pub output : List ℕ

-- What the choices, the tables' bytes and the code stand for, the characters that stand for others, and the text's
unfoldable pub tables_of : Choices → List ℕ → List ℕ → List ℕ → List ℕ → Tables
tables_of choices rules classes vowels code = record {
  choices = choices;
  rules = rules_of rules;
  classes = classes_of classes;
  vowels = vowels_of vowels;
  code = code;
}

unfoldable pub tables : Inputs → Tables
tables i = tables_of i.choices i.rules i.classes i.vowels i.code

unfoldable pub decompositions : Inputs → List Decomposition
decompositions i = decompositions_of i.decompositions

unfoldable pub characters : Inputs → Text
characters i = decoded i.text

-- a language code: empty, or three letters a-z
unfoldable pub code_right : Text → Bool
code_right c = same c [] || (eqb (length c) code_letters && all small c)

-- the position of the first character that is left out
unfoldable pub first_left_out : ℕ → Text → Option ℕ
first_left_out p [] = none
first_left_out p (c ∷ t) = pick (left_out c) (some p) (first_left_out (p + 1) t)

-- What is refused before any edge is built: the first of these, in this order. Of mode, choices, tables and code
unfoldable pub before_text : ℕ → Choices → List ℕ → List ℕ → List ℕ → List ℕ → List ℕ → Option Refusal
before_text mode choices rules classes vowels decompositions code = first_of
    (when (ltb most_mode mode) refused_mode 0
    ∷ when (ltb most_choice choices.capitals) refused_capitals 0
    ∷ when (ltb most_choice choices.o_ang) refused_o_ang 0
    ∷ when (ltb most_choice choices.readings) refused_readings 0
    ∷ rule_fault rules
    ∷ placed refused_classes (class_fault classes)
    ∷ placed refused_vowels (vowel_fault vowels)
    ∷ placed refused_decompositions (decomposition_fault decompositions)
    ∷ when (not (code_right code)) refused_code 0
    ∷ [])

-- and then of the text
unfoldable pub text_refusal : List ℕ → Option Refusal
text_refusal text = first_of
    (placed refused_utf8 (bad_sequence text)
    ∷ when (ltb most_characters (length (decoded text))) refused_too_long most_characters
    ∷ placed refused_left_out (first_left_out 0 (decoded text))
    ∷ [])

unfoldable pub refusal : Inputs → Option Refusal
refusal i = or_else
    (before_text i.mode i.choices i.rules i.classes i.vowels i.decompositions i.code)
    (text_refusal i.text)

-- after a refusal length and count are 0, and the output is zero
unfoldable pub refused : Inputs → Refusal → Called
refused i r = record { number = r.number; place = r.place; length = 0; edges = 0; output = replicate i.out 0 }

-- Of what a mode shows: are a listing's rows more bytes than the length before them can tell? Mode 0 lists nothing
unfoldable pub uncounted : ℕ → List ℕ → Bool
uncounted mode w = not (eqb mode 0) && ltb most_listed (length (drop head_bytes w))

-- the listing can't be told, the output is too short, or the call is done: the bytes, and zeros after them
unfoldable pub written : Inputs → ℕ → List ℕ → Called
written i n w =
    pick (uncounted i.mode w) (refused i (refuse refused_listing 0))
    (pick (ltb i.out (length w)) (refused i (refuse refused_output (length w)))
    (record { number = 0; place = 0; length = length w; edges = n; output = w ++ replicate (i.out - length w) 0 }))

-- the slots and the room that the lattice's edges take
unfoldable pub within_room : Inputs → Tables → Text → State → Option Refusal → Called
within_room i D t st none = written i (length st.0) (shown D t i.mode st)
within_room i D t st (some r) = refused i r

unfoldable pub with_lattice : Inputs → Tables → Text → State → Called
with_lattice i D t st = within_room i D t st (overflow D (decompositions i) t (i.slots / slot_bytes) i.room st.0)

unfoldable pub accepted : Inputs → Tables → Text → Called
accepted i D t = with_lattice i D t (lattice D (decompositions i) t)

unfoldable pub unless_refused : Inputs → Option Refusal → Called
unless_refused i none = accepted i (tables i) (characters i)
unless_refused i (some r) = refused i r

unfoldable pub called : Inputs → Called
called i = unless_refused i (refusal i)
