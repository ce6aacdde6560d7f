-- A rule row read field by field: where the next field begins, or the first field that is faulty.
use Rattle.std.specs.Prelude.{Bool, true, not, ◌&&◌, List, ℕ, zero, suc, ◌+◌, leb, get_or, drop}
use Rattle.base.specs.Pick.{pick}
use Rattle.base.specs.Lists.{all, holds}
use Rattle.definition.specs.Limits.{most_source, most_codes, most_alternatives, most_target}
use Rattle.definition.specs.Refusals.{refused_length, refused_range, refused_letter, refused_byte}
use Rattle.definition.specs.Utf8.{scalar}
use Rattle.definition.specs.Blocks.{small}
use Rattle.definition.specs.RuleRows.{printable, three_at, code_of, rule_size, rule_flag, zero_bit, target_bit, end_target_bit}

-- Where the next field begins; or the number that refuses the first faulty field, and that field's offset in the row
pub data Cursor : Type 0 where
  next : ℕ → Cursor
  wrong : ℕ → ℕ → Cursor

-- one part after another
unfoldable pub and_then : Cursor → (ℕ → Cursor) → Cursor
and_then (next o) f = f o
and_then (wrong k o) f = wrong k o

-- A field of `n` bytes at `o` of a row of size `z`: past the row's end its length is at fault, else number `k` where it is not right
unfoldable pub field : ℕ → ℕ → ℕ → ℕ → Bool → Cursor
field z o n k right = pick (leb (o + n) z) (pick right (next (o + n)) (wrong k o)) (wrong refused_length o)

-- `n` fields one after another, each of `size` bytes that pass a test
unfoldable pub fields : (List ℕ → Bool) → ℕ → ℕ → ℕ → List ℕ → ℕ → ℕ → Cursor
fields right size k z s zero o = next o
fields right size k z s (suc n) o = and_then (field z o size k (right (drop o s))) (fields right size k z s n)

-- what is asked of a source's character, of a language code and of a target's byte
unfoldable pub character_right : List ℕ → Bool
character_right s = scalar (three_at s)

unfoldable pub code_small : List ℕ → Bool
code_small s = all small (code_of s)

unfoldable pub byte_right : List ℕ → Bool
byte_right s = printable (get_or s 0 0)

-- a text: its length byte, then its bytes; and as many texts
unfoldable pub read_text : ℕ → List ℕ → ℕ → Cursor
read_text z s o =
    and_then (field z o 1 refused_range (leb (get_or s o 0) most_target))
    (fields byte_right 1 refused_byte z s (get_or s o 0))

unfoldable pub read_texts : ℕ → List ℕ → ℕ → ℕ → Cursor
read_texts z s zero o = next o
read_texts z s (suc n) o = and_then (read_text z s o) (read_texts z s n)

unfoldable pub read_text_if : Bool → ℕ → List ℕ → ℕ → Cursor
read_text_if there z s o = pick there (read_text z s o) (next o)

-- The parts of a row, which begins with its length: flags and restriction count, of which any is right
unfoldable pub read_flags : ℕ → List ℕ → Cursor
read_flags z s =
    and_then (field z 2 1 refused_range (not (rule_flag s zero_bit))) (λ o. field z o 2 refused_range true)

-- the source, the language codes and the alternatives: a count, and as many
unfoldable pub read_source : ℕ → List ℕ → ℕ → Cursor
read_source z s o =
    and_then (field z o 1 refused_range (leb 1 (get_or s o 0) && leb (get_or s o 0) most_source))
    (fields character_right 3 refused_letter z s (get_or s o 0))

unfoldable pub read_codes : ℕ → List ℕ → ℕ → Cursor
read_codes z s o =
    and_then (field z o 1 refused_range (leb (get_or s o 0) most_codes))
    (fields code_small 3 refused_letter z s (get_or s o 0))

unfoldable pub read_others : ℕ → List ℕ → ℕ → Cursor
read_others z s o =
    and_then (field z o 1 refused_range (leb (get_or s o 0) most_alternatives)) (read_texts z s (get_or s o 0))

-- bytes that are left over are a fault of length at the first of them
unfoldable pub read_end : ℕ → ℕ → Cursor
read_end z o = pick (leb z o) (next o) (wrong refused_length o)

-- what follows the codes, and all of it
unfoldable pub read_tail : ℕ → List ℕ → ℕ → Cursor
read_tail z s o =
    and_then (read_text_if (rule_flag s target_bit) z s o) (λ o.
    and_then (read_text_if (rule_flag s end_target_bit) z s o) (λ o.
    and_then (read_others z s o) (read_end z)))

unfoldable pub read_parts : ℕ → List ℕ → Cursor
read_parts z s =
    and_then (read_flags z s) (λ o.
    and_then (read_source z s o) (λ o.
    and_then (read_codes z s o) (read_tail z s)))

-- The row that `s` begins with. One that runs past the block's end is a fault of length at its start
unfoldable pub read_row : List ℕ → Cursor
read_row s = pick (holds (rule_size s) s) (read_parts (rule_size s) s) (wrong refused_length 0)
