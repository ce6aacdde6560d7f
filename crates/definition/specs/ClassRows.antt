-- Class rows, 6 bytes: character 3, category, script, flags.
use Rattle.std.specs.Prelude.{Bool, not, ◌&&◌, ◌||◌, List, ℕ, ◌+◌, eqb, leb, get_or, drop}
use Rattle.std.proofs.Math.Option.{Option}
use Rattle.base.specs.Big.{be3}
use Rattle.base.specs.Bits.{flagged}
use Rattle.base.specs.Lists.{holds}
use Rattle.base.specs.Rows.{rows}
use Rattle.definition.specs.Limits.{most_rows, most_script}
use Rattle.definition.specs.Texts.{latin, the_space}
use Rattle.definition.specs.Utf8.{scalar}
use Rattle.definition.specs.Tables.{Class, category_letter, category_Zs, script_none}
use Rattle.definition.specs.Blocks.{head_bytes, faulty_row}

-- Bits of the flags
abbrev pub sign_bit : ℕ
sign_bit = 0

abbrev pub medial_bit : ℕ
medial_bit = 1

abbrev pub subjoined_bit : ℕ
subjoined_bit = 2

abbrev pub virama_bit : ℕ
virama_bit = 3

abbrev pub vocalic_bit : ℕ
vocalic_bit = 4

abbrev pub tone_bit : ℕ
tone_bit = 5

abbrev pub pre_bit : ℕ
pre_bit = 6

abbrev pub lowercase_bit : ℕ
lowercase_bit = 7

-- The parts of a row
unfoldable pub class_size : List ℕ → ℕ
class_size s = 6

abbrev pub class_char : List ℕ → ℕ
class_char s = be3 s 0

abbrev pub class_category : List ℕ → ℕ
class_category s = get_or s 3 0

abbrev pub class_script : List ℕ → ℕ
class_script s = get_or s 4 0

abbrev pub class_flags : List ℕ → ℕ
class_flags s = get_or s 5 0

-- The class of a character with category, script and flags, and the one that a row stands for
unfoldable pub class_by : ℕ → ℕ → ℕ → ℕ → Class
class_by c k n f = record {
  char = c;
  category = k;
  script = n;
  sign = flagged f sign_bit;
  medial = flagged f medial_bit;
  subjoined = flagged f subjoined_bit;
  virama = flagged f virama_bit;
  vocalic = flagged f vocalic_bit;
  tone = flagged f tone_bit;
  pre = flagged f pre_bit;
  lowercase = flagged f lowercase_bit;
}

unfoldable pub class_of : List ℕ → Class
class_of s = class_by (class_char s) (class_category s) (class_script s) (class_flags s)

-- the least character that the next row may have
unfoldable pub class_next : List ℕ → ℕ
class_next s = class_char s + 1

-- A right row: scalar values rise, category and script are known, and every bit of the flags is; one for U+0020 is
-- plain, and one for A-Z or a-z says that it is a letter
unfoldable pub class_fits : ℕ → List ℕ → Bool
class_fits low s =
    holds 6 s && scalar (class_char s) && leb low (class_char s)
    && leb (class_category s) category_Zs && leb (class_script s) most_script

unfoldable pub space_right : List ℕ → Bool
space_right s =
    not (eqb (class_char s) the_space)
    || (eqb (class_category s) category_Zs && eqb (class_script s) script_none && eqb (class_flags s) 0)

unfoldable pub latin_right : List ℕ → Bool
latin_right s = not (latin (class_char s)) || eqb (class_category s) category_letter

unfoldable pub class_right : ℕ → List ℕ → Bool
class_right low s = class_fits low s && space_right s && latin_right s

-- The table: its first faulty row, and its classes
unfoldable pub class_fault : List ℕ → Option ℕ
class_fault b = faulty_row class_size class_next class_right most_rows 0 b

unfoldable pub classes_of : List ℕ → List Class
classes_of b = rows class_of class_size (drop head_bytes b)
