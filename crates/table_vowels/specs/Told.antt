-- What the answers of this crate's functions say, in the definition's terms.
use Rattle.std.specs.Prelude.{ℕ, ◌+◌, ◌-◌, ◌≤◌, List, ◌≡◌, length, take, drop, Option as Maybe, Some, None}
use Rattle.std.proofs.Math.Option.{Option, none, some}
use Rattle.definition.specs.Tables.{Vowel}
use Rattle.definition.specs.VowelRows.{vowel_fault}
use Rattle.table_vowels.specs.declared.VowelRow.{VowelRow}

-- A vowel table that was checked
abbrev pub FineVowels : List ℕ → Type 0
FineVowels b = vowel_fault b ≡ none

-- a script's vowel by its row in the table
unfoldable pub vowel_means : List ℕ → ℕ → Maybe VowelRow → Option Vowel
vowel_means b k (Some r) = some (record { script = k; ao = r.ao; letters = take (r.to - r.from) (drop r.from b) })
vowel_means b k None = none

-- its letters stand in the table, four at most
unfoldable pub Lettered : List ℕ → Maybe VowelRow → Type 0
Lettered b (Some r) = (r.from ≤ r.to) × (r.to ≤ r.from + 4) × (r.to ≤ length b)
Lettered b None = Unit {0}
