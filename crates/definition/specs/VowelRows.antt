-- Vowel rows: script, type (0 A, 1 AO), length 1 to 4, letters a-z.
use Rattle.std.specs.Prelude.{Bool, ◌&&◌, List, ℕ, ◌+◌, eqb, leb, get_or, take, drop}
use Rattle.std.proofs.Math.Option.{Option}
use Rattle.base.specs.Lists.{all, holds}
use Rattle.base.specs.Rows.{rows}
use Rattle.definition.specs.Limits.{most_vowel, most_script}
use Rattle.definition.specs.Texts.{Text}
use Rattle.definition.specs.Tables.{Vowel}
use Rattle.definition.specs.Blocks.{head_bytes, faulty_row, small}

-- The parts of a row
abbrev pub vowel_script : List ℕ → ℕ
vowel_script s = get_or s 0 0

abbrev pub vowel_type : List ℕ → ℕ
vowel_type s = get_or s 1 0

abbrev pub vowel_length : List ℕ → ℕ
vowel_length s = get_or s 2 0

unfoldable pub vowel_size : List ℕ → ℕ
vowel_size s = 3 + vowel_length s

unfoldable pub vowel_letters : List ℕ → Text
vowel_letters s = take (vowel_length s) (drop 3 s)

-- The vowel that a row stands for
unfoldable pub vowel_of : List ℕ → Vowel
vowel_of s = record { script = vowel_script s; ao = eqb (vowel_type s) 1; letters = vowel_letters s }

-- the least script that the next row may have
unfoldable pub vowel_next : List ℕ → ℕ
vowel_next s = vowel_script s + 1

-- A right row. Scripts strictly rise from 1 to 127, so no more rows than scripts can come
unfoldable pub vowel_fits : ℕ → List ℕ → Bool
vowel_fits low s =
    holds (vowel_size s) s && leb low (vowel_script s) && leb (vowel_script s) most_script && leb (vowel_type s) 1

unfoldable pub letters_right : List ℕ → Bool
letters_right s = leb 1 (vowel_length s) && leb (vowel_length s) most_vowel && all small (vowel_letters s)

unfoldable pub vowel_right : ℕ → List ℕ → Bool
vowel_right low s = vowel_fits low s && letters_right s

-- The table: its first faulty row, and its vowels
unfoldable pub vowel_fault : List ℕ → Option ℕ
vowel_fault b = faulty_row vowel_size vowel_next vowel_right most_script 1 b

unfoldable pub vowels_of : List ℕ → List Vowel
vowels_of b = rows vowel_of vowel_size (drop head_bytes b)
