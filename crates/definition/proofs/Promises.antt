-- What document 01 says of every accepted call: at most 4,096 characters, at most 17 edges for each, and each edge forward,
-- within the text, with a text of 606 bytes at most.
use Rattle.std.specs.Prelude.{◌≡◌, List, ℕ, ◌*◌, ◌/◌, ◌≤◌, length}
use Rattle.std.proofs.Math.Option.{none}
use Rattle.base.specs.Alls.{All}
use Rattle.definition.specs.Limits.{most_characters, most_vowel, most_edges, slot_bytes}
use Rattle.definition.specs.RuleFaults.{rule_fault}
use Rattle.definition.specs.ClassRows.{class_fault}
use Rattle.definition.specs.VowelRows.{vowel_fault}
use Rattle.definition.specs.Decomposing.{edges, edge_count}
use Rattle.definition.specs.Tables.{Choices}
use Rattle.definition.specs.Call.{Inputs, tables_of, tables, decompositions, characters, refusal}
use Rattle.definition.specs.Accepted.{Accepted, accepted_of, vowels-all}
use Rattle.definition.proofs.Accepted.{rules-all}
use Rattle.definition.proofs.Blank.{blank}
use Rattle.definition.specs.Shorts.{Short}
use Rattle.definition.specs.ExpandBounds.{Spoken}
use Rattle.definition.specs.Bounds.{Bounded, Formed, Sound}
use Rattle.definition.proofs.Decomposed.{lattice_few, lattice_formed, lattice_sound}
use Rattle.definition.specs.Promises.{Held, rule_spoken, vowel-short}

-- Tables without fault
pub tables-bounded : (choices : Choices) (rules classes vowels code : List ℕ) → rule_fault rules ≡ none → class_fault classes ≡ none → vowel_fault vowels ≡ none
    → Bounded (tables_of choices rules classes vowels code)
unfolding tables_of
tables-bounded choices rules classes vowels code a b c = record {
  rules = rules-all Spoken rule_spoken rules a;
  vowels = vowels-all (λ y. Short most_vowel y.letters) vowel-short vowels c;
  virama = (blank classes b).virama;
}

pub bounded : (i : Inputs) → Accepted i → Bounded (tables i)
unfolding tables
bounded i a = tables-bounded i.choices i.rules i.classes i.vowels i.code a.rules a.classes a.vowels

-- Of a call that is not refused for its mode, tables, code or text
pub few_characters : (i : Inputs) → refusal i ≡ none → length (characters i) ≤ most_characters
few_characters i e = (accepted_of i e).size

pub few_edges : (i : Inputs) → edge_count (tables i) (decompositions i) (characters i) ≤ most_edges * length (characters i)
unfolding edge_count edges
few_edges i = lattice_few (tables i) (decompositions i) (characters i)

pub formed_edges : (i : Inputs) → refusal i ≡ none → All (Formed (length (characters i))) (edges (tables i) (decompositions i) (characters i))
unfolding edges
formed_edges i e = lattice_formed (tables i) (decompositions i) (characters i) (bounded i (accepted_of i e))

pub sound_edges : (i : Inputs) → refusal i ≡ none → Held i → All (Sound (length (characters i))) (edges (tables i) (decompositions i) (characters i))
unfolding edges
sound_edges i e h = lattice_sound (tables i) (decompositions i) (characters i) (bounded i (accepted_of i e)) (i.slots / slot_bytes) i.room h
