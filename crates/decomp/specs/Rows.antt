-- What reading a row needs of what it is lent, and what it tells.
use Rattle.std.specs.Prelude.{Result, Ok, Err, List, [], ◌≡◌, ℕ, ◌+◌, ◌/◌, ◌≤◌, replicate}
use Rattle.std.proofs.Math.Option.{Option, none, some}
use Rattle.definition.specs.Limits.{slot_bytes, most_into}
use Rattle.definition.specs.Texts.{Text}
use Rattle.definition.specs.Tables.{Choices, Tables}
use Rattle.definition.specs.ClassRows.{classes_of}
use Rattle.definition.specs.Paths.{joined, path_of}
use Rattle.definition.specs.Building.{rule_lattice}
use Rattle.definition.specs.Refusals.{Refusal, refuse, refused_slots, refused_room}
use Rattle.definition.specs.Capacity.{misfit}
use Rattle.definition.specs.Call.{tables_of}
use Rattle.table_classes.specs.Told.{Fine, alphas_of}
use Rattle.table_vowels.specs.Told.{FineVowels}
use Rattle.table_decompositions.specs.Index.{Ready}
use Rattle.words.specs.Given.{World, size_in, letters_in, forms_in, Told, Lined}
use Rattle.words.specs.declared.given.Dicts.{Dicts}
use Rattle.lattice.specs.Lattice.{Buildable}
use Rattle.edge.specs.declared.Full.{Full}
use Rattle.edge.specs.declared.Full.TheVariants.{Slots, Room}
use Rattle.decomp_text.specs.declared.Beside.{Beside}
use Rattle.decomp_text.specs.declared.Spelling.{Spelling}
use Rattle.decomp_text.specs.Spelling.{Spells, Held}
use Rattle.decomp_text.specs.Reading.{read_as}

-- The tables are as they were checked, and what was made ready is theirs
pub record Formable (dicts : Dicts) : Type 0 where
  pub inherent : FineVowels dicts.vowels.now
  pub kinds : Fine dicts.classes.now
  pub letters : letters_in dicts.ready.now ≡ alphas_of dicts.classes.now
  pub forms : Ready dicts.decompositions.now (forms_in dicts.ready.now)

-- A text in an array: the string of the lattice of its characters, with no language code, in slots and room of these lengths
module _ (rules : List ℕ) (choices : Choices) (classes vowels : List ℕ) (into : Text) (b : Beside) (slots room : ℕ) (bytes : List ℕ) where
  abbrev D : Tables
  D = tables_of choices rules classes vowels []

  abbrev string : Text
  string = joined (path_of D into (rule_lattice D into))

  abbrev lost : Option Refusal
  lost = misfit (slots / slot_bytes) room (rule_lattice D into).0

  abbrev pub RowRead : Result Spelling Full → Type 0
  RowRead (Ok s) = Spells (classes_of classes) bytes s (read_as b string) × Held bytes s × (lost ≡ none)
  RowRead (Err (Slots q)) = lost ≡ some (refuse refused_slots q)
  RowRead (Err (Room q)) = lost ≡ some (refuse refused_room q)

-- What reading a line needs: a lattice can be built of it, by entries that are all zeros, and it has no more characters than a row
abbrev pub LineReady : Dicts → List ℕ → List ℕ → List ℕ → List ℕ → List ℕ → Type 0
LineReady dicts text line slots room starts =
    Buildable dicts.rules.now dicts.ready.now dicts.vowels.now text line slots room (replicate (size_in line + 1) 0) starts × (size_in line ≤ most_into)

-- What is read of it: the text of every world that stands there
abbrev pub LineRead : Dicts → List ℕ → Beside → ℕ → ℕ → List ℕ → Result Spelling Full → Type 0
LineRead dicts line b slots room bytes r =
    (w : World) → Told w dicts.ready.now → Lined w line → RowRead dicts.rules.now w.choices w.classes dicts.vowels.now w.text b slots room bytes r
