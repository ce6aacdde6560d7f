-- What the three tables, the language code and the choices say, with no bytes: the records that the engine reads.
use Rattle.std.specs.Prelude.{Bool, List, ℕ}
use Rattle.std.proofs.Math.Option.{Option}
use Rattle.definition.specs.Texts.{Text}

-- A rule (`RomRule`)
pub record Rule : Type 0 where
  -- 1 to 16 characters in an accepted table (Ranges)
  pub source : Text
  -- bit 0: only at a start of word
  pub start_only : Bool
  -- bit 1: not at a start of word
  pub not_start : Bool
  -- bit 2: only at an end of word
  pub end_only : Bool
  -- bit 3: not at an end of word
  pub not_end : Bool
  -- bit 4: only for a whole word
  pub whole_word : Bool
  -- restriction count
  pub count : ℕ
  -- language codes; none means any
  pub codes : List Text
  -- where bit 5 is set
  pub target : Option Text
  -- end-of-syllable target, where bit 6 is set
  pub end_target : Option Text
  -- alternatives
  pub others : List Text

-- A character's class
pub record Class : Type 0 where
  pub char : ℕ
  pub category : ℕ
  pub script : ℕ
  -- bit 0: vowel sign
  pub sign : Bool
  -- bit 1: medial consonant sign
  pub medial : Bool
  -- bit 2: subjoined letter
  pub subjoined : Bool
  -- bit 3
  pub virama : Bool
  -- bit 4
  pub vocalic : Bool
  -- bit 5: tone mark
  pub tone : Bool
  -- bit 6: written before its consonant
  pub pre : Bool
  -- bit 7
  pub lowercase : Bool

-- Categories
abbrev pub category_other : ℕ
category_other = 0

abbrev pub category_letter : ℕ
category_letter = 1

-- a nonspacing mark, and any other mark
abbrev pub category_Mn : ℕ
category_Mn = 2

abbrev pub category_mark : ℕ
category_mark = 3

abbrev pub category_number : ℕ
category_number = 4

abbrev pub category_Cf : ℕ
category_Cf = 5

abbrev pub category_Co : ℕ
category_Co = 6

abbrev pub category_Zs : ℕ
category_Zs = 7

-- Scripts that rules speak of
abbrev pub script_none : ℕ
script_none = 0

abbrev pub script_thai : ℕ
script_thai = 1

abbrev pub script_coptic : ℕ
script_coptic = 2

abbrev pub script_hiragana : ℕ
script_hiragana = 3

abbrev pub script_katakana : ℕ
script_katakana = 4

abbrev pub script_devanagari : ℕ
script_devanagari = 5

-- The inherent vowel of a script, of type AO or A
pub record Vowel : Type 0 where
  -- 1 to 127 in an accepted table, so a character of script 0 has none (Ranges)
  pub script : ℕ
  pub ao : Bool
  pub letters : Text

-- A character that stands for others
pub record Decomposition : Type 0 where
  pub char : ℕ
  pub tag : ℕ
  -- 1 to 18 characters in an accepted table
  pub into : Text

-- The tag that gives an edge; 0 to 4 are none, super, sub, noBreak and compat
abbrev pub tag_other : ℕ
tag_other = 5

-- What a caller may choose beside the port's behaviour, each 0 or 1 in an accepted call
pub record Choices : Type 0 where
  -- capitals as the Python has them
  pub capitals : ℕ
  -- the walk back behind O ang ends at a space
  pub o_ang : ℕ
  -- end-of-syllable readings among the alternatives
  pub readings : ℕ

-- What the choice of a rule depends on
pub record Lexicon : Type 0 where
  pub rules : List Rule
  pub classes : List Class
  pub code : Text

-- All that a romanization is given besides its text
pub record Tables : Type 0 where
  pub choices : Choices
  pub rules : List Rule
  pub classes : List Class
  pub vowels : List Vowel
  pub code : Text

abbrev pub lexicon : Tables → Lexicon
lexicon D = record { rules = D.rules; classes = D.classes; code = D.code }
