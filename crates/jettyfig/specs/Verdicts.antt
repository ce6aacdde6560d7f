-- What the call's own answers say in the definition's terms.
use Rattle.std.specs.Prelude.{ℕ, Result, Ok, Err, IsErrAnd, ◌-◌, ◌≤◌, ◌<◌, true, false, not, ◌&&◌, ◌||◌, ◌≡◌, eqb, ltb, take, drop}
use mathlib.Core.List.{List, [], ◌∷◌, ◌++◌}
use Rattle.std.proofs.Math.Option.{Option, none, some}
use Rattle.std.proofs.Math.Path.{refl, sym, ap}
use Rattle.std.proofs.Common.{◌∙◌, arith, take_all}
use Rattle.std.proofs.Math.ListN.{length}
use borrow.Author.Tests.{eq-eqb, ne_eqb, lt-ltb, le-ltb}
use Rattle.base.specs.Pick.{pick}
use Rattle.base.specs.Lists.{all, same, or_else, first_of}
use Rattle.base.specs.ListLaws.{same_some, first_past, first-here, first_only}
use Rattle.definition.specs.Blocks.{small}
use Rattle.definition.specs.DecompositionRows.{right_part, decomposition_fault}
use Rattle.definition.specs.Limits.{most_mode, most_choice, most_characters}
use Rattle.definition.specs.Refusals.{Refusal, refuse, when, placed, refused_mode, refused_capitals, refused_o_ang, refused_readings}
use Rattle.definition.specs.Refusals.{refused_classes, refused_vowels, refused_decompositions, refused_code, refused_utf8, refused_too_long, refused_left_out}
use Rattle.definition.specs.Refusals.{refused_slots, refused_room, refused_edge_text, refused_listing, refused_output}
use Rattle.definition.specs.RuleFaults.{rule_fault}
use Rattle.definition.specs.ClassRows.{class_fault}
use Rattle.definition.specs.VowelRows.{vowel_fault}
use Rattle.definition.specs.Utf8.{bad_sequence, bad_from, decoded, decode_by}
use Rattle.definition.specs.Call.{Inputs, Called, code_right, first_left_out, before_text, text_refusal, refusal}
use Rattle.definition.specs.Accepted as accepted
use Rattle.definition.specs.Tables.{Choices}
use Rattle.table_decompositions.specs.Index.{index_of}
use Rattle.table_decompositions.specs.Told.{checked_ready}
use Rattle.rule_row_faults.specs.Kinds.{fault_number}
use Rattle.utf8.specs.declared.TextFault.{TextFault}
use Rattle.edge.specs.declared.Full.{Full}
use Rattle.decomp.specs.declared.Unfit.{Unfit}
use Rattle.jettyfig.specs.declared.Answer.{Answer}
use Rattle.jettyfig.specs.declared.Asked.{Asked}
use Rattle.jettyfig.specs.declared.Mode.{Mode}
use Rattle.jettyfig.specs.declared.Capitals.{Capitals}
use Rattle.jettyfig.specs.declared.OAng.{OAng}
use Rattle.jettyfig.specs.declared.Readings.{Readings}
use Rattle.jettyfig.specs.declared.Table.{Table}
use Rattle.jettyfig.specs.declared.Refusal.{Refusal as Refused}
use Rattle.jettyfig.specs.declared.Refusal.TheVariants as refused
use Rattle.jettyfig.specs.declared.Romanized.{Romanized}

-- the number of a faulty table
abbrev pub table_number : Table → ℕ
table_number Table.Classes = refused_classes
table_number Table.Vowels = refused_vowels
table_number Table.Decompositions = refused_decompositions

-- what a refusal is, and where
abbrev pub refusal_means : Refused → Refusal
refusal_means refused.Mode = refuse refused_mode 0
refusal_means refused.Capitals = refuse refused_capitals 0
refusal_means refused.OAng = refuse refused_o_ang 0
refusal_means refused.Readings = refuse refused_readings 0
refusal_means (refused.Rules kind at) = refuse (fault_number kind) at
refusal_means (refused.Table table at) = refuse (table_number table) at
refusal_means refused.Code = refuse refused_code 0
refusal_means (refused.NotUtf8 at) = refuse refused_utf8 at
refusal_means refused.TooLong = refuse refused_too_long most_characters
refusal_means (refused.LeftOut at) = refuse refused_left_out at
refusal_means (refused.NoSlot at) = refuse refused_slots at
refusal_means (refused.NoRoom at) = refuse refused_room at
refusal_means (refused.EdgeText at) = refuse refused_edge_text at
refusal_means refused.Listing = refuse refused_listing 0
refusal_means (refused.Output needed) = refuse refused_output needed

-- the refusals of a text, and of an edge that does not fit
abbrev pub of_text : TextFault → Refused
of_text (TextFault.NotUtf8 at) = refused.NotUtf8 at
of_text TextFault.TooLong = refused.TooLong
of_text (TextFault.LeftOut at) = refused.LeftOut at

abbrev pub of_full : Full → Refused
of_full (Full.Slots at) = refused.NoSlot at
of_full (Full.Room at) = refused.NoRoom at

abbrev pub of_unfit : Unfit → Refused
of_unfit (Unfit.Slots at) = refused.NoSlot at
of_unfit (Unfit.Room at) = refused.NoRoom at
of_unfit (Unfit.TooLong at) = refused.EdgeText at

-- a refusal, or none
abbrev pub verdict_means : {A : Type 0} → Result A Refused → Option Refusal
verdict_means (Ok x) = none
verdict_means (Err r) = some (refusal_means r)

-- the answer of a call by what it has done, or is refused for
abbrev pub done : ℕ → ℕ → Answer
done length edges = record { number = 0; place = 0; length = length; edges = edges }

abbrev pub refusing : ℕ → ℕ → Answer
refusing n p = record { number = n; place = p; length = 0; edges = 0 }

abbrev pub answered : Result Romanized Refused → Answer
answered (Ok r) = done r.length r.edges
answered (Err r) = refusing (refusal_means r).number (refusal_means r).place

-- where nothing is refused, the decomposition table is right and its index was filled
abbrev pub Indexed : {A : Type 0} → List ℕ → List ℕ → Result A Refused → Type 0
Indexed decompositions index (Ok x) = (decomposition_fault decompositions ≡ none) × (index ≡ index_of decompositions)
Indexed decompositions index (Err r) = Unit {0}

pub indexed_so : {A : Type 0} → (decompositions index : List ℕ) → decomposition_fault decompositions ≡ none → index ≡ index_of (right_part decompositions)
    → (v : Result A Refused) → Indexed decompositions index v
indexed_so b x e f (Ok y) = (e, f ∙ ap index_of (checked_ready b e).0)
indexed_so b x e f (Err r) = tt

-- the choices of a call
abbrev pub choose : ℕ → ℕ → ℕ → Choices
choose capitals o_ang readings = record { capitals = capitals; o_ang = o_ang; readings = readings }

-- the number of a mode, and of each choice
abbrev pub mode_number : Mode → ℕ
mode_number Mode.String = 0
mode_number Mode.Path = 1
mode_number Mode.Alternatives = 2
mode_number Mode.AllEdges = 3

abbrev pub capitals_number : Capitals → ℕ
capitals_number Capitals.Stay = 0
capitals_number Capitals.FirstStays = 1

abbrev pub o_ang_number : OAng → ℕ
o_ang_number OAng.ToStart = 0
o_ang_number OAng.ToSpace = 1

abbrev pub readings_number : Readings → ℕ
readings_number Readings.Unlisted = 0
readings_number Readings.Listed = 1

abbrev pub chosen : Asked → Choices
chosen a = choose (capitals_number a.capitals) (o_ang_number a.o_ang) (readings_number a.readings)

-- what a call was given, and what it returned with the whole output
abbrev pub given : ℕ → Choices → List ℕ → List ℕ → List ℕ → List ℕ → List ℕ → List ℕ → ℕ → ℕ → ℕ → Inputs
given mode choices rules classes vowels decompositions code text slots room out = record {
  mode = mode;
  choices = choices;
  rules = rules;
  classes = classes;
  vowels = vowels;
  decompositions = decompositions;
  code = code;
  text = text;
  slots = slots;
  room = room;
  out = out;
}

abbrev pub returned : Answer → List ℕ → Called
returned a out = record { number = a.number; place = a.place; length = a.length; edges = a.edges; output = out }

-- the refusal of mode and choices
unfoldable pub by_asked : ℕ → Choices → Option Refusal
by_asked mode choices = first_of
    (when (ltb most_mode mode) refused_mode 0
    ∷ when (ltb most_choice choices.capitals) refused_capitals 0
    ∷ when (ltb most_choice choices.o_ang) refused_o_ang 0
    ∷ when (ltb most_choice choices.readings) refused_readings 0
    ∷ [])

-- the refusal of tables and language code
unfoldable pub by_tables : List ℕ → List ℕ → List ℕ → List ℕ → List ℕ → Option Refusal
by_tables rules classes vowels decompositions code = first_of
    (rule_fault rules
    ∷ placed refused_classes (class_fault classes)
    ∷ placed refused_vowels (vowel_fault vowels)
    ∷ placed refused_decompositions (decomposition_fault decompositions)
    ∷ when (not (code_right code)) refused_code 0
    ∷ [])

-- the refusal of a language code
abbrev pub by_code : List ℕ → Option Refusal
by_code code = when (not (code_right code)) refused_code 0

-- The code, by its length and its letters
module _ (c : List ℕ) where
  pub no_code : length c ≡ 0 → none ≡ by_code c
  unfolding code_right when same pick
  no_code h = go c h
    where
      go : (c : List ℕ) → length c ≡ 0 → none ≡ pick (not (same c [] || (eqb (length c) 3 && all small c))) (some (refuse refused_code 0)) none
      go [] h = refl
      go (x ∷ c) h = absurd (omega arith)

  by-letters : length c ≡ 3 → by_code c ≡ when (not (all small c)) refused_code 0
  unfolding code_right
  by-letters h = rw (same_some c (omega (arith, h)), eq-eqb (length c) 3 h)

  whole : length c ≡ 3 → take (3 - 0) (drop 0 c) ≡ c
  whole h = take_all (3 - 0) c (omega (arith, h))

  pub lettered-code : length c ≡ 3 → all small (take (3 - 0) (drop 0 c)) ≡ true → none ≡ by_code c
  unfolding when pick
  lettered-code h e = sym (by-letters h ∙ ap (λ b. when (not b) refused_code 0) (sym (ap (all small) (whole h)) ∙ e))

  pub other-letters : length c ≡ 3 → all small (take (3 - 0) (drop 0 c)) ≡ false → some (refuse refused_code 0) ≡ by_code c
  unfolding when pick
  other-letters h e = sym (by-letters h ∙ ap (λ b. when (not b) refused_code 0) (sym (ap (all small) (whole h)) ∙ e))

  pub other_length : (length c ≡ 0 → ⊥) → (length c ≡ 3 → ⊥) → some (refuse refused_code 0) ≡ by_code c
  unfolding code_right when pick
  other_length h k = sym (rw (same_some c (omega arith), ne_eqb (length c) 3 k))

-- a table that is not refused has no fault
placed-none : (n : ℕ) (o : Option ℕ) → placed n o ≡ none → o ≡ none
unfolding placed
placed-none n none e = refl
placed-none n (some p) e = absurd (let w : ◌≡◌ {A = ℕ} 0 1 = cc in omega arith)

-- The refusal of the first table that is faulty, or else of the code
module _ (rules classes vowels decompositions code : List ℕ) where
  abbrev tables : Option Refusal
  tables = by_tables rules classes vowels decompositions code

  pub at_rules : (r : Refusal) → some r ≡ rule_fault rules → some r ≡ tables
  unfolding by_tables first_of
  at_rules r e = sym (rw (sym e))

  module _ (ruled : none ≡ rule_fault rules) where
    pub at_classes : (r : Refusal) → some r ≡ placed refused_classes (class_fault classes) → some r ≡ tables
    unfolding by_tables first_of
    at_classes r e = sym (rw (sym ruled, sym e))

    module _ (classed : none ≡ placed refused_classes (class_fault classes)) where
      pub at_vowels : (r : Refusal) → some r ≡ placed refused_vowels (vowel_fault vowels) → some r ≡ tables
      unfolding by_tables first_of
      at_vowels r e = sym (rw (sym ruled, sym classed, sym e))

      module _ (voiced : none ≡ placed refused_vowels (vowel_fault vowels)) where
        pub at_decompositions : (r : Refusal) → some r ≡ placed refused_decompositions (decomposition_fault decompositions) → some r ≡ tables
        unfolding by_tables first_of
        at_decompositions r e = sym (rw (sym ruled, sym classed, sym voiced, sym e))

        module _ (formed : none ≡ placed refused_decompositions (decomposition_fault decompositions)) where
          pub at_code : by_code code ≡ tables
          unfolding by_tables first_of
          at_code = sym (rw (sym ruled, sym classed, sym voiced, sym formed) (first_only (by_code code)))

          pub formed-right : decomposition_fault decompositions ≡ none
          formed-right = placed-none refused_decompositions (decomposition_fault decompositions) (sym formed)

-- a refusal that is passed on, and what the call then answers
pub answered_err : (v : Result Romanized Refused) (r : Refused) → IsErrAnd v (λ e. e ≡ r)
    → answered v ≡ refusing (refusal_means r).number (refusal_means r).place
answered_err (Ok x) r h = absurd h
answered_err (Err e) r h = ap (λ (q : Refused). refusing (refusal_means q).number (refusal_means q).place) h

pub passed_on : {A : Type 0} → (v : Result A Refused) (r : Refused) → IsErrAnd v (λ e. e ≡ r) → verdict_means v ≡ some (refusal_means r)
passed_on (Ok x) r h = absurd h
passed_on (Err e) r h = ap (λ (q : Refused). some (refusal_means q)) h

-- What a verdict says of the tests that it begins: they go on past one that accepts, and end with one that refuses
module _ {A : Type 0} (v : Result A Refused) (o : Option Refusal) (l : List (Option Refusal)) (told : verdict_means v ≡ o) where
  pub goes_on : (x : A) → v ≡ Ok x → first_of l ≡ first_of (o ∷ l)
  goes_on x e = sym (first_past o l (sym told ∙ ap verdict_means e))

  pub ends_here : (r : Refused) → v ≡ Err r → verdict_means v ≡ first_of (o ∷ l)
  ends_here r e = let q = ap verdict_means e in q ∙ sym (first-here o l (refusal_means r) (sym told ∙ q))

-- a number that is above the highest, by which the call is refused, or not: the mode, or a choice
module _ (most n number : ℕ) (l : List (Option Refusal)) where
  pub above : most < n → some (refuse number 0) ≡ first_of (when (ltb most n) number 0 ∷ l)
  unfolding when pick
  above h = sym (first-here (when (ltb most n) number 0) l (refuse number 0) (rw (lt-ltb most n h)))

  pub not_above : n ≤ most → first_of l ≡ first_of (when (ltb most n) number 0 ∷ l)
  unfolding when pick
  not_above h = sym (first_past (when (ltb most n) number 0) l (rw (le-ltb most n h)))

-- what is refused of mode and choices goes before the other tests
first_firsts : (k l : List (Option Refusal)) → first_of (first_of k ∷ l) ≡ first_of (k ++ l)
unfolding first_of
first_firsts [] l = refl
first_firsts (none ∷ k) l = first_firsts k l
first_firsts (some r ∷ k) l = refl

pub asked-first : (mode : ℕ) (choices : Choices) (l : List (Option Refusal)) → first_of (by_asked mode choices ∷ l)
    ≡ first_of (when (ltb most_mode mode) refused_mode 0 ∷ when (ltb most_choice choices.capitals) refused_capitals 0
    ∷ when (ltb most_choice choices.o_ang) refused_o_ang 0 ∷ when (ltb most_choice choices.readings) refused_readings 0 ∷ l)
unfolding by_asked
asked-first mode choices l =
    first_firsts (when (ltb most_mode mode) refused_mode 0 ∷ when (ltb most_choice choices.capitals) refused_capitals 0
    ∷ when (ltb most_choice choices.o_ang) refused_o_ang 0 ∷ when (ltb most_choice choices.readings) refused_readings 0 ∷ []) l

-- and before those of tables and code
first_then : (o : Option Refusal) (l : List (Option Refusal)) → or_else o (first_of l) ≡ first_of (o ∷ l)
unfolding first_of
first_then none l = refl
first_then (some r) l = refl

pub asked-then : (mode : ℕ) (choices : Choices) (rules classes vowels decompositions code : List ℕ)
    → or_else (by_asked mode choices) (by_tables rules classes vowels decompositions code)
    ≡ before_text mode choices rules classes vowels decompositions code
unfolding by_tables before_text
asked-then mode choices rules classes vowels decompositions code =
    let l = rule_fault rules ∷ placed refused_classes (class_fault classes) ∷ placed refused_vowels (vowel_fault vowels)
    ∷ placed refused_decompositions (decomposition_fault decompositions) ∷ when (not (code_right code)) refused_code 0 ∷ [] in
    first_then (by_asked mode choices) l ∙ asked-first mode choices l

-- so they are refused by the first, or else by the rest
pub asked-refused : (mode : ℕ) (choices : Choices) (rules classes vowels decompositions code : List ℕ) (r : Refusal)
    → by_asked mode choices ≡ some r → before_text mode choices rules classes vowels decompositions code ≡ some r
asked-refused mode choices rules classes vowels decompositions code r e =
    sym (asked-then mode choices rules classes vowels decompositions code)
    ∙ ap (λ (o : Option Refusal). or_else o (by_tables rules classes vowels decompositions code)) e

pub asked-passed : (mode : ℕ) (choices : Choices) (rules classes vowels decompositions code : List ℕ)
    → by_asked mode choices ≡ none → by_tables rules classes vowels decompositions code ≡ before_text mode choices rules classes vowels decompositions code
asked-passed mode choices rules classes vowels decompositions code e =
    sym (ap (λ (o : Option Refusal). or_else o (by_tables rules classes vowels decompositions code)) e)
    ∙ asked-then mode choices rules classes vowels decompositions code

-- nothing refused of either is nothing refused
pub nothing-refused : (i : Inputs) → before_text i.mode i.choices i.rules i.classes i.vowels i.decompositions i.code ≡ none → text_refusal i.text ≡ none → refusal i ≡ none
unfolding refusal
nothing-refused i e f = ap (λ o. or_else o (text_refusal i.text)) e ∙ f

-- What a call has passed of which these refuse nothing: all that the empty text's call has
empty-text : text_refusal [] ≡ none
unfolding text_refusal first_of placed when bad_sequence bad_from decoded decode_by first_left_out pick
empty-text = refl

pub passed : (mode : ℕ) (choices : Choices) (rules classes vowels decompositions code : List ℕ)
    → before_text mode choices rules classes vowels decompositions code ≡ none
    → accepted.Accepted (given mode choices rules classes vowels decompositions code [] 0 0 0)
passed mode choices rules classes vowels decompositions code e =
    let i = given mode choices rules classes vowels decompositions code [] 0 0 0 in
    accepted.accepted_of i (nothing-refused i e empty-text)
