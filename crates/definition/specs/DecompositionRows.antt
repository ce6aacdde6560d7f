-- Decomposition rows: character 3, tag, count 1 to 18, and as many characters, 3 bytes each.
use Rattle.std.specs.Prelude.{Bool, not, ◌&&◌, List, [], ◌∷◌, ℕ, zero, suc, ◌+◌, ◌*◌, eqb, leb, get_or, take, drop}
use Rattle.std.proofs.Math.Option.{Option}
use Rattle.base.specs.Big.{be3}
use Rattle.base.specs.Lists.{any, all, holds, maybe, or_else}
use Rattle.base.specs.Rows.{rows}
use Rattle.definition.specs.Limits.{most_rows, most_into}
use Rattle.definition.specs.Texts.{Text, the_space, left_out}
use Rattle.definition.specs.Utf8.{scalar}
use Rattle.definition.specs.Tables.{Decomposition, tag_other}
use Rattle.definition.specs.Blocks.{head_bytes, offset_where, faulty_row, begin, fault_from}

-- The parts of a row
abbrev pub decomposition_char : List ℕ → ℕ
decomposition_char s = be3 s 0

abbrev pub decomposition_tag : List ℕ → ℕ
decomposition_tag s = get_or s 3 0

abbrev pub decomposition_count : List ℕ → ℕ
decomposition_count s = get_or s 4 0

unfoldable pub decomposition_size : List ℕ → ℕ
decomposition_size s = 5 + 3 * decomposition_count s

-- as many characters
unfoldable pub threes : ℕ → List ℕ → Text
threes zero s = []
threes (suc n) s = be3 s 0 ∷ threes n (drop 3 s)

unfoldable pub decomposition_into : List ℕ → Text
decomposition_into s = threes (decomposition_count s) (drop 5 s)

-- What a row stands for
unfoldable pub decomposition_of : List ℕ → Decomposition
decomposition_of s = record { char = decomposition_char s; tag = decomposition_tag s; into = decomposition_into s }

-- the least character that the next row may have
unfoldable pub decomposition_next : List ℕ → ℕ
decomposition_next s = decomposition_char s + 1

-- A row that is right by itself: its character is a scalar value, rises, and is no space
unfoldable pub decomposition_fits : ℕ → List ℕ → Bool
decomposition_fits low s =
    holds (decomposition_size s) s && scalar (decomposition_char s) && leb low (decomposition_char s)
    && not (eqb (decomposition_char s) the_space) && leb (decomposition_tag s) tag_other

-- and it holds 1 to 18 scalar values, none of them left out of every text
unfoldable pub into_right : List ℕ → Bool
into_right s =
    leb 1 (decomposition_count s) && leb (decomposition_count s) most_into
    && all (λ c. scalar c && not (left_out c)) (decomposition_into s)

unfoldable pub decomposition_right : ℕ → List ℕ → Bool
decomposition_right low s = decomposition_fits low s && into_right s

-- The rows of a table
unfoldable pub decompositions_of : List ℕ → List Decomposition
decompositions_of b = rows decomposition_of decomposition_size (drop head_bytes b)

-- has a character a row, whatever its tag?
unfoldable pub has_row : List Decomposition → ℕ → Bool
has_row ds c = any (λ d. eqb d.char c) ds

-- no character of a row has one
unfoldable pub into_final : List Decomposition → List ℕ → Bool
into_final ds s = not (any (has_row ds) (decomposition_into s))

-- The first row that is not right by itself, or one too many; the table up to it
unfoldable pub own_fault : List ℕ → Option ℕ
own_fault b = faulty_row decomposition_size decomposition_next decomposition_right most_rows 0 b

unfoldable pub right_part : List ℕ → List ℕ
right_part b = maybe (own_fault b) b (λ o. take o b)

-- the first row of these that holds a character with a row
unfoldable pub nested_fault : List ℕ → Option ℕ
nested_fault b =
    fault_from decomposition_size decomposition_next (offset_where (λ low s. into_final (decompositions_of b) s))
    (begin decomposition_size decomposition_next most_rows 0 b)

-- The table's first faulty row
unfoldable pub decomposition_fault : List ℕ → Option ℕ
decomposition_fault b = or_else (nested_fault (right_part b)) (own_fault b)
