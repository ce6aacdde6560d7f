-- The numbers that a call returns besides 0, each named here and nowhere else. Call says in which order they are tested.
use Rattle.std.specs.Prelude.{Bool, List, [], ◌∷◌, ◌++◌, ℕ}
use Rattle.std.proofs.Math.Option.{Option, none, some}
use Rattle.base.specs.Pick.{pick}
use Rattle.base.specs.Lists.{bind}

-- the mode
abbrev pub refused_mode : ℕ
refused_mode = 1

-- the choice of capitals
abbrev pub refused_capitals : ℕ
refused_capitals = 12

-- the choice of where the walk back behind O ang ends
abbrev pub refused_o_ang : ℕ
refused_o_ang = 15

-- the choice of end-of-syllable readings among the alternatives
abbrev pub refused_readings : ℕ
refused_readings = 17

-- the rule table: its header or a length; a flag or count out of its range; a character of a source or a language code;
-- a byte of a target; the order of its rows; too many rows. (2 stood for all of these and is not returned)
abbrev pub refused_length : ℕ
refused_length = 20

abbrev pub refused_range : ℕ
refused_range = 21

abbrev pub refused_letter : ℕ
refused_letter = 22

abbrev pub refused_byte : ℕ
refused_byte = 23

abbrev pub refused_order : ℕ
refused_order = 24

abbrev pub refused_rows : ℕ
refused_rows = 25

-- the class table, the vowel table, the decomposition table, the language code
abbrev pub refused_classes : ℕ
refused_classes = 3

abbrev pub refused_vowels : ℕ
refused_vowels = 4

abbrev pub refused_decompositions : ℕ
refused_decompositions = 13

abbrev pub refused_code : ℕ
refused_code = 5

-- the text: its bytes are not UTF-8, it has too many characters, or one that is left out
abbrev pub refused_utf8 : ℕ
refused_utf8 = 6

abbrev pub refused_too_long : ℕ
refused_too_long = 7

abbrev pub refused_left_out : ℕ
refused_left_out = 8

-- an edge's text that would be too long: that of a character which stands for others
abbrev pub refused_edge_text : ℕ
refused_edge_text = 14

-- a listing whose rows are more bytes than the length before them can tell
abbrev pub refused_listing : ℕ
refused_listing = 19

-- what was lent: slots, text room, output
abbrev pub refused_slots : ℕ
refused_slots = 9

abbrev pub refused_room : ℕ
refused_room = 10

abbrev pub refused_output : ℕ
refused_output = 11

-- those that come before anything is shown, and all of them
abbrev pub early_numbers : List ℕ
early_numbers =
    refused_mode ∷ refused_capitals ∷ refused_o_ang ∷ refused_readings
    ∷ refused_length ∷ refused_range ∷ refused_letter ∷ refused_byte ∷ refused_order ∷ refused_rows
    ∷ refused_classes ∷ refused_vowels ∷ refused_decompositions ∷ refused_code
    ∷ refused_utf8 ∷ refused_too_long ∷ refused_left_out ∷ refused_slots ∷ refused_room ∷ refused_edge_text ∷ []

abbrev pub numbers : List ℕ
numbers = early_numbers ++ (refused_listing ∷ refused_output ∷ [])

-- A refusal is one of these numbers, and its place
pub record Refusal : Type 0 where
  pub number : ℕ
  pub place : ℕ

abbrev pub refuse : ℕ → ℕ → Refusal
refuse n p = record { number = n; place = p }

-- a refusal where a test holds, or at a place where there is one
unfoldable pub when : Bool → ℕ → ℕ → Option Refusal
when b n p = pick b (some (refuse n p)) none

unfoldable pub placed : ℕ → Option ℕ → Option Refusal
placed n o = bind o (λ p. some (refuse n p))
