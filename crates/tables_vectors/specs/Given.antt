-- What a vector gives, and whether it is what the check of its table answered.
use Rattle.std.specs.Prelude.{Bool, ◌&&◌, List, ℕ, ◌+◌, eqb, leb, get_or, take, drop, Result, Ok, Err}
use Rattle.std.proofs.Math.Option.{Option, none, some}
use Rattle.base.specs.Pick.{pick}
use Rattle.base.specs.Big.{be3}
use Rattle.definition.specs.Refusals.{Refusal, refuse, placed, refused_classes, refused_vowels, refused_decompositions}
use Rattle.definition.specs.RuleFaults.{rule_fault}
use Rattle.definition.specs.ClassRows.{class_fault}
use Rattle.definition.specs.VowelRows.{vowel_fault}
use Rattle.definition.specs.DecompositionRows.{decomposition_fault}
use Rattle.tables_vectors.specs.declared.Refused.{Refused}

-- a refusal, or none
abbrev pub judged_means : Result (Unit {0}) Refused → Option Refusal
judged_means (Ok u) = none
judged_means (Err r) = some (refuse r.number r.at)

-- what refuses a table: kind 0 rules, 1 classes, 2 vowels, else decompositions
unfoldable pub fault_of : ℕ → List ℕ → Option Refusal
fault_of kind table =
    pick (eqb kind 0) (rule_fault table)
    (pick (eqb kind 1) (placed refused_classes (class_fault table))
    (pick (eqb kind 2) (placed refused_vowels (vowel_fault table)) (placed refused_decompositions (decomposition_fault table))))

-- an answer: 0 and no place, or the number that refuses and its place
unfoldable pub is_given : Option Refusal → ℕ → ℕ → Bool
is_given none number place = eqb number 0 && eqb place 0
is_given (some r) number place = eqb r.number number && eqb r.place place

-- The vector whose table stands at `at`, `len` bytes long: the number and its place, three bytes, follow. A fifth kind is
-- never right
unfoldable pub is_right : List ℕ → ℕ → ℕ → ℕ → Bool
is_right s kind at len =
    leb kind 3
    && is_given (fault_of kind (take len (drop at s))) (get_or s (at + len) 0) (be3 (drop (at + len + 1) s) 0)
