-- What the steps of a call are lent, and what they promise: of every world that the line and what was made ready stand for.
use Rattle.std.specs.Prelude.{ℕ, Result, Ok, Err, ◌+◌, ◌-◌, ◌*◌, ◌≤◌, List, [], ◌++◌, ◌≡◌, length, take, drop, set, replicate}
use Rattle.std.proofs.Math.Option.{none, some}
use Rattle.definition.specs.Limits.{most_mode, most_characters, most_edges, most_bytes, ascii_characters}
use Rattle.definition.specs.Texts.{Text}
use Rattle.definition.specs.Building.{each}
use Rattle.definition.specs.Decomposing.{start}
use Rattle.definition.specs.DecompositionRows.{decompositions_of}
use Rattle.definition.specs.Listing.{shown}
use Rattle.definition.specs.Utf8.{decoded}
use Rattle.definition.specs.ClassRows.{class_fault}
use Rattle.definition.specs.RuleFaults.{rule_fault}
use Rattle.definition.specs.Call.{Inputs, Called, tables_of, written, accepted, text_refusal, refusal}
use Rattle.utf8.specs.Lines.{line_spaces, spaced}
use Rattle.table_classes.specs.Told.{Fine, kinds_of, alphas_of}
use Rattle.table_vowels.specs.Told.{FineVowels}
use Rattle.table_decompositions.specs.Index.{Ready, index_of}
use Rattle.rule_memo.specs.Kept.{all_places, Kept}
use Rattle.edge.specs.declared.Filled.{Filled}
use Rattle.edge.specs.Answers.{fits}
use Rattle.edge.specs.Slots.{edges_of}
use Rattle.edge_places.specs.Shows.{memory}
use Rattle.words.specs.Given.{World, kinds, size, size_in, letters_in, choices_in, mode_in, form_entries, forms_from, forms_in, index_from, all_ready, ready_in, line_in}
use Rattle.words.specs.Given.{Prepared, Told, Lined, Lent}
use Rattle.words.specs.declared.given.Dicts.{Dicts}
use Rattle.passes.specs.Starts.{Began}
use Rattle.second_pass.specs.Fallback.{Own, chars_in}
use Rattle.decomp.specs.Answers.{Grew}
use Rattle.decomp.specs.Grown.{GrewTo}
use Rattle.output.specs.declared.Built.{Built}
use Rattle.jettyfig.specs.declared.Refusal.{Refusal as Refused}
use Rattle.jettyfig.specs.Verdicts.{refusal_means, given}
use Rattle.definition.specs.Tables.{Choices}

-- characters of a short text, at most
abbrev pub few_characters : ℕ
few_characters = 512

-- a text between spaces, and behind it the classes
unfoldable pub with_kinds : List ℕ → Text → List ℕ
with_kinds classes t = spaced t ++ kinds_of classes (spaced t)

-- so many numbers are enough for that, unless the characters are too many; for the spaces in any case
abbrev pub LineRoom : List ℕ → ℕ → Type 0
LineRoom text n = (2 * line_spaces ≤ n) × (length (decoded text) ≤ most_characters → 2 * (length (decoded text) + line_spaces) ≤ n)

-- What was asked, written into what is prepared
abbrev pub asking : ℕ → Choices → List ℕ → List ℕ
asking mode a l =
    set (set (set (set l ascii_characters a.capitals) (ascii_characters + 1) a.o_ang) (ascii_characters + 2) a.readings) (ascii_characters + 3)
    mode

-- What is prepared before the tables are checked: nothing behind what was asked, and room for the text
pub record Fresh (text prepared : List ℕ) : Type 0 where
  pub long : all_ready ≤ length prepared
  pub zeros : take (form_entries + all_places) (drop forms_from prepared) ≡ replicate (form_entries + all_places) 0
  pub room : LineRoom text (length prepared - all_ready)

-- What is prepared while the text is read: the mode, the choices and the index of the decomposition table stand in it, and
-- there is room for the index of the rule table with what is kept of characters
pub record Blank (decompositions prepared : List ℕ) : Type 0 where
  pub long : all_ready ≤ length prepared
  pub zeros : take all_places (drop index_from prepared) ≡ replicate all_places 0
  pub forms : forms_in prepared ≡ index_of decompositions

-- the tables have passed, and the line has room for the text
pub record TextReady (rules classes text prepared : List ℕ) : Type 0 where
  pub ruled : rule_fault rules ≡ none
  pub classed : class_fault classes ≡ none
  pub decompositions : List ℕ
  pub blank : Blank decompositions prepared
  pub room : LineRoom text (length prepared - all_ready)

-- What was made ready of it
pub record MadeReady (rules classes before after : List ℕ) : Type 0 where
  pub letters : letters_in after ≡ alphas_of classes
  pub choices : choices_in after ≡ choices_in before
  pub mode : mode_in after ≡ mode_in before
  pub forms : forms_in after ≡ forms_in before
  pub index : Kept rules (take all_places (drop index_from after))
  pub line : line_in after ≡ line_in before
  pub long : length after ≡ length before

-- and of a text, whose line stands there
pub record TextMade (rules classes text before prepared : List ℕ) : Type 0 where
  pub letters : letters_in prepared ≡ alphas_of classes
  pub choices : choices_in prepared ≡ choices_in before
  pub mode : mode_in prepared ≡ mode_in before
  pub forms : forms_in prepared ≡ forms_in before
  pub index : Kept rules (take all_places (drop index_from prepared))
  pub line : line_in prepared ≡ with_kinds classes (decoded text)
  pub long : all_ready ≤ length prepared

-- so much of what is prepared is used for a text of `n` characters
abbrev pub used_for : ℕ → ℕ
used_for n = all_ready + 2 * (n + line_spaces)

-- a text that is not refused is set up; or there is its refusal
abbrev pub TextSet : List ℕ → List ℕ → List ℕ → List ℕ → List ℕ → Result ℕ Refused → Type 0
TextSet rules classes text before after (Ok n) =
    (text_refusal text ≡ none) × (n ≤ most_characters) × (used_for n ≤ length after) × TextMade rules classes text before (take (used_for n) after)
TextSet rules classes text before after (Err r) = text_refusal text ≡ some (refusal_means r)

-- The first pass has answered in a world over what was lent, with some vowel and decomposition table: the state that it leads to
-- from no edges is kept, and nothing has overflowed; or there is its refusal
pub record FirstPassed (rules ready line vowels decompositions code slots room places : List ℕ) (r : Grew) (w : World) : Type 0 where
  pub told : Told w ready
  pub lined : Lined w line
  pub fine : FineVowels vowels
  pub grew : GrewTo (tables_of w.choices rules w.classes vowels code) (decompositions_of decompositions) w.text (kinds w) (size w)
      slots room slots room places (size_in line * (most_edges * most_bytes))
      (each (start (tables_of w.choices rules w.classes vowels code) (decompositions_of decompositions) w.text) (size w) 0 ([], replicate (size w) 0))
      r

-- with all edges that it has
pub record FirstDone (rules ready line vowels decompositions code slots room places : List ℕ) (filled : Filled) (w : World) : Type 0 where
  pub done : FirstPassed rules ready line vowels decompositions code slots room places (Ok record { count = filled.count; used = filled.used }) w

-- All is ready for the second pass: the text's bytes are its own, the mode is one that there is, starts tell how many edges each
-- found, and there is such a world
pub record FinishReady (dicts : Dicts) (line text slots room places starts : List ℕ) (filled : Filled) : Type 0 where
  pub own : Own text (chars_in line)
  pub mode : mode_in dicts.ready.now ≤ most_mode
  pub began : Began slots room (size_in line) starts (fits filled.count filled.used)
  pub vowels : List ℕ
  pub decompositions : List ℕ
  pub world : World
  pub first : FirstDone dicts.rules.now dicts.ready.now line vowels decompositions dicts.code.now slots room places filled world

-- All is ready: the tables are as they were checked and what was made ready is theirs, the text's bytes are its own, and there is
-- a world
pub record RomanizeReady (rules prepared classes vowels decompositions text : List ℕ) : Type 0 where
  pub long : all_ready ≤ length prepared
  pub table : Prepared rules (ready_in prepared)
  pub inherent : FineVowels vowels
  pub kinds : Fine classes
  pub letters : letters_in (ready_in prepared) ≡ alphas_of classes
  pub forms : Ready decompositions (forms_in (ready_in prepared))
  pub own : Own text (chars_in (line_in prepared))
  pub mode : mode_in (ready_in prepared) ≤ most_mode
  pub world : World
  pub same : world.classes ≡ classes
  pub told : Told world (ready_in prepared)
  pub lined : Lined world (line_in prepared)

-- what is shown is written, or its refusal
abbrev pub Writes : Inputs → List ℕ → List ℕ → List ℕ → List ℕ → List ℕ → List ℕ → List ℕ → Built → Called → Type 0
Writes i rules ready code line slots room places built r =
    (vowels : List ℕ) (w : World) → Told w ready → Lent w line places → edges_of room built.count slots ≡ w.edges
    → r ≡ written i built.count (shown (tables_of w.choices rules w.classes vowels code) w.text built.mode (w.edges, memory (size w) places))

-- what is left of an accepted call after its first pass, whatever tables and world that was done in
abbrev pub Finishes : Dicts → List ℕ → List ℕ → List ℕ → List ℕ → List ℕ → Filled → ℕ → Called → Type 0
Finishes dicts line text slots room places filled out r =
    (vowels decompositions : List ℕ) (w : World)
    → FirstDone dicts.rules.now dicts.ready.now line vowels decompositions dicts.code.now slots room places filled w
    → r ≡ accepted (given (mode_in dicts.ready.now) w.choices dicts.rules.now w.classes vowels decompositions dicts.code.now text
    (length slots) (length room) out) (tables_of w.choices dicts.rules.now w.classes vowels dicts.code.now) w.text

-- and the whole of an accepted call
abbrev pub Romanizes : List ℕ → List ℕ → List ℕ → List ℕ → List ℕ → List ℕ → List ℕ → ℕ → ℕ → ℕ → Called → Type 0
Romanizes rules prepared classes vowels decompositions code text slots room out r =
    (w : World) → w.classes ≡ classes → Told w (ready_in prepared) → Lined w (line_in prepared)
    → r ≡ accepted (given (mode_in (ready_in prepared)) w.choices rules w.classes vowels decompositions code text slots room out)
    (tables_of w.choices rules w.classes vowels code) w.text

-- the world of a call before there are edges: its class table, choices and text
abbrev pub world_of : Inputs → World
world_of i = record { classes = i.classes; choices = i.choices; text = decoded i.text; edges = [] }

-- A call that is not refused before any edge is built, and all that building them needs
pub record Accepting (i : Inputs) (prepared : List ℕ) : Type 0 where
  pub accepted : refusal i ≡ none
  pub ready : RomanizeReady i.rules prepared i.classes i.vowels i.decompositions i.text
  pub mode : mode_in (ready_in prepared) ≡ i.mode
  pub told : Told (world_of i) (ready_in prepared)
  pub lined : Lined (world_of i) (line_in prepared)

-- or its refusal
abbrev pub SetsUp : Inputs → List ℕ → Result ℕ Refused → Type 0
SetsUp i after (Ok n) = (n ≤ most_characters) × (used_for n ≤ length after) × Accepting i (take (used_for n) after)
SetsUp i after (Err r) = refusal i ≡ some (refusal_means r)
