-- Rule rows: length of the rest 2, flags 1, restriction count 2, source, codes, targets, alternatives.
-- Each part is found from the sizes of those before it.
use Rattle.std.specs.Prelude.{Bool, true, false, not, ◌&&◌, ◌||◌, List, [], ◌∷◌, ℕ, zero, suc, ◌+◌, ◌*◌, eqb, leb, ltb, get_or, take, drop}
use Rattle.std.proofs.Math.Option.{Option, none, some}
use Rattle.base.specs.Pick.{pick}
use Rattle.base.specs.Big.{be2, be3}
use Rattle.base.specs.Bits.{flagged}
use Rattle.base.specs.Lists.{all, holds}
use Rattle.base.specs.Rows.{rows, counted}
use Rattle.definition.specs.Limits.{most_source, most_codes, most_alternatives, most_target}
use Rattle.definition.specs.Texts.{Text}
use Rattle.definition.specs.Utf8.{scalar}
use Rattle.definition.specs.Tables.{Rule}
use Rattle.definition.specs.Blocks.{head_bytes, small}

-- Target texts: a length byte 0 to 200 and that many bytes 0x20 to 0x7E
unfoldable pub printable : ℕ → Bool
printable c = leb 0x20 c && leb c 0x7E

unfoldable pub text_size : List ℕ → ℕ
text_size s = 1 + get_or s 0 0

unfoldable pub text_of : List ℕ → Text
text_of s = take (get_or s 0 0) (drop 1 s)

unfoldable pub text_right : List ℕ → Bool
text_right s = leb (get_or s 0 0) most_target && all printable (text_of s)

-- as many one after another
unfoldable pub texts_of : ℕ → List ℕ → List Text
texts_of zero s = []
texts_of (suc n) s = text_of s ∷ texts_of n (drop (text_size s) s)

unfoldable pub texts_size : ℕ → List ℕ → ℕ
texts_size zero s = 0
texts_size (suc n) s = text_size s + texts_size n (drop (text_size s) s)

unfoldable pub texts_right : ℕ → List ℕ → Bool
texts_right zero s = true
texts_right (suc n) s = text_right s && texts_right n (drop (text_size s) s)

-- Bits of the flags
abbrev pub start_only_bit : ℕ
start_only_bit = 0

abbrev pub not_start_bit : ℕ
not_start_bit = 1

abbrev pub end_only_bit : ℕ
end_only_bit = 2

abbrev pub not_end_bit : ℕ
not_end_bit = 3

abbrev pub whole_word_bit : ℕ
whole_word_bit = 4

abbrev pub target_bit : ℕ
target_bit = 5

abbrev pub end_target_bit : ℕ
end_target_bit = 6

abbrev pub zero_bit : ℕ
zero_bit = 7

-- The parts of a row: its size, flags, counts, and where each part begins
unfoldable pub rule_size : List ℕ → ℕ
rule_size s = 2 + be2 s 0

unfoldable pub rule_flag : List ℕ → ℕ → Bool
rule_flag s k = flagged (get_or s 2 0) k

unfoldable pub rule_count : List ℕ → ℕ
rule_count s = be2 s 3

unfoldable pub source_count : List ℕ → ℕ
source_count s = get_or s 5 0

-- where the language codes begin, behind the source
unfoldable pub codes_at : List ℕ → ℕ
codes_at s = 6 + 3 * source_count s

-- past the text at `o`, where the row has one
unfoldable pub past_text : Bool → ℕ → List ℕ → ℕ
past_text true o s = o + text_size (drop o s)
past_text false o s = o

-- what follows in a row whose codes begin at `c`
unfoldable pub codes_count_from : ℕ → List ℕ → ℕ
codes_count_from c s = get_or s c 0

unfoldable pub target_from : ℕ → List ℕ → ℕ
target_from c s = c + 1 + 3 * codes_count_from c s

unfoldable pub end_target_from : ℕ → List ℕ → ℕ
end_target_from c s = past_text (rule_flag s target_bit) (target_from c s) s

unfoldable pub others_from : ℕ → List ℕ → ℕ
others_from c s = past_text (rule_flag s end_target_bit) (end_target_from c s) s

-- and in one that has its source
abbrev pub codes_count : List ℕ → ℕ
codes_count s = codes_count_from (codes_at s) s

abbrev pub target_at : List ℕ → ℕ
target_at s = target_from (codes_at s) s

abbrev pub end_target_at : List ℕ → ℕ
end_target_at s = end_target_from (codes_at s) s

abbrev pub others_at : List ℕ → ℕ
others_at s = others_from (codes_at s) s

-- the alternatives from `o` on, a count and as many texts: where they end, what they are, and whether they are right
unfoldable pub others_end : ℕ → List ℕ → ℕ
others_end o s = o + 1 + texts_size (get_or s o 0) (drop (o + 1) s)

unfoldable pub others_of : ℕ → List ℕ → List Text
others_of o s = texts_of (get_or s o 0) (drop (o + 1) s)

unfoldable pub others_right : ℕ → List ℕ → Bool
others_right o s = leb (get_or s o 0) most_alternatives && texts_right (get_or s o 0) (drop (o + 1) s)

-- characters and codes, of 3 bytes each
unfoldable pub three_at : List ℕ → ℕ
three_at s = be3 s 0

unfoldable pub code_of : List ℕ → Text
code_of s = take 3 s

unfoldable pub rule_source : List ℕ → Text
rule_source s = counted three_at 3 (source_count s) (drop 6 s)

unfoldable pub codes_from : ℕ → List ℕ → List Text
codes_from c s = counted code_of 3 (codes_count_from c s) (drop (c + 1) s)

abbrev pub rule_codes : List ℕ → List Text
rule_codes s = codes_from (codes_at s) s

-- a text where the flag says that there is one
unfoldable pub text_where : Bool → List ℕ → Option Text
text_where b s = pick b (some (text_of s)) none

-- The rule that a row stands for, with a source that is given and codes that begin at `c`; and with its own
abbrev pub rule_from : Text → ℕ → List ℕ → Rule
rule_from source c s = record {
  source = source;
  start_only = rule_flag s start_only_bit;
  not_start = rule_flag s not_start_bit;
  end_only = rule_flag s end_only_bit;
  not_end = rule_flag s not_end_bit;
  whole_word = rule_flag s whole_word_bit;
  count = rule_count s;
  codes = codes_from c s;
  target = text_where (rule_flag s target_bit) (drop (target_from c s) s);
  end_target = text_where (rule_flag s end_target_bit) (drop (end_target_from c s) s);
  others = others_of (others_from c s) s;
}

unfoldable pub rule_of : List ℕ → Rule
rule_of s = rule_from (rule_source s) (codes_at s) s

-- sources rise, character by character, a prefix first; equal ones may repeat
unfoldable pub rises : Text → Text → Bool
rises [] b = true
rises (x ∷ a) [] = false
rises (x ∷ a) (y ∷ b) = ltb x y || (eqb x y && rises a b)

-- A right row lies in the block, its parts fill it, and none breaks a limit: here those from the codes on, which begin at `c`
unfoldable pub fits_from : ℕ → List ℕ → Bool
fits_from c s =
    holds (rule_size s) s && eqb (others_end (others_from c s) s) (rule_size s) && not (rule_flag s zero_bit)

unfoldable pub codes_right_from : ℕ → List ℕ → Bool
codes_right_from c s = leb (codes_count_from c s) most_codes && all (all small) (codes_from c s)

unfoldable pub target_right_from : ℕ → List ℕ → Bool
target_right_from c s = not (rule_flag s target_bit) || text_right (drop (target_from c s) s)

unfoldable pub end_target_right_from : ℕ → List ℕ → Bool
end_target_right_from c s = not (rule_flag s end_target_bit) || text_right (drop (end_target_from c s) s)

abbrev pub rule_fits : List ℕ → Bool
rule_fits s = fits_from (codes_at s) s

abbrev pub codes_right : List ℕ → Bool
codes_right s = codes_right_from (codes_at s) s

abbrev pub target_right : List ℕ → Bool
target_right s = target_right_from (codes_at s) s

abbrev pub end_target_right : List ℕ → Bool
end_target_right s = end_target_right_from (codes_at s) s

-- and the source, which is asked to rise after `old`, the source before
unfoldable pub source_right : Text → List ℕ → Bool
source_right old s =
    leb 1 (source_count s) && leb (source_count s) most_source
    && all scalar (rule_source s) && rises old (rule_source s)

unfoldable pub rule_right : Text → List ℕ → Bool
rule_right old s =
    rule_fits s && source_right old s && codes_right s && target_right s && end_target_right s
    && others_right (others_at s) s

-- The rules of a table
unfoldable pub rules_of : List ℕ → List Rule
rules_of b = rows rule_of rule_size (drop head_bytes b)
