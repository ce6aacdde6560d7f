-- A table without rows, or with tags 0 to 4 only: all is as it was before there was the table.
-- (Proved in proofs/FormsOff.)
use Rattle.std.specs.Prelude.{◌≡◌, not, List, [], ◌∷◌, ℕ, ◌/◌, ◌<◌, eqb, ltb}
use Rattle.std.proofs.Math.Path.{refl}
use Rattle.std.proofs.Common.{arith, ne_eqb}
use Rattle.std.proofs.Math.Option.{Option, none, some}
use Rattle.base.specs.Pick.{pick, pick_all}
use Rattle.base.specs.Lists.{maybe, or_else, first_of}
use Rattle.base.specs.Alls.{All, Opt, maybe-all}
use Rattle.definition.specs.Limits.{most_mode, most_choice, slot_bytes}
use Rattle.definition.specs.Refusals.{Refusal, when, placed, refused_mode, refused_capitals, refused_o_ang, refused_readings, refused_classes, refused_vowels, refused_code}
use Rattle.definition.specs.Texts.{Text}
use Rattle.definition.specs.Tables.{Decomposition, Tables, tag_other}
use Rattle.definition.specs.RuleFaults.{rule_fault}
use Rattle.definition.specs.ClassRows.{class_fault}
use Rattle.definition.specs.VowelRows.{vowel_fault}
use Rattle.definition.specs.DecompositionRows.{decompositions_of, decomposition_fault}
use Rattle.definition.specs.Building.{rule_lattice}
use Rattle.definition.specs.Decomposing.{row_of, stands_for}
use Rattle.definition.specs.Capacity.{misfit}
use Rattle.definition.specs.Call.{Inputs, Called, tables, characters, code_right, before_text, text_refusal, refusal, refused, within_room}
use Rattle.definition.specs.Compute.{compute}
use Rattle.definition.specs.Sample.{no_decompositions}

-- What every row has, a character's row has; and what every row's characters have, those have that one stands for
pub row_all : (P : Decomposition → Type 0) (ds : List Decomposition) (c : ℕ) → All P ds → Opt P (row_of ds c)
unfolding row_of
row_all P [] c h = tt
row_all P (d ∷ ds) c h = pick_all (Opt P) (eqb d.char c) {x = some d} {y = row_of ds c} h.0 (row_all P ds c h.1)

pub stands-all : (P : Text → Type 0) (ds : List Decomposition) (c : ℕ) → All (λ d. P d.into) ds → Opt P (stands_for ds c)
unfolding stands_for
stands-all P ds c h =
    let Q : Decomposition → Type 0 = λ d. P d.into in
    maybe-all (Opt P) Q (row_of ds c) (row_all Q ds c h) tt
    (λ d q. pick_all (Opt P) (eqb d.tag tag_other) {x = some d.into} {y = none} q tt)

-- No row gives an edge
abbrev pub Silent : List Decomposition → Type 0
Silent ds = All (λ d. d.tag < tag_other) ds

pub stands_off : (ds : List Decomposition) → Silent ds → (c : ℕ) → stands_for ds c ≡ none
unfolding stands_for
stands_off ds h c =
    let Q : Decomposition → Type 0 = λ d. d.tag < tag_other in
    maybe-all (λ o. o ≡ none) Q (row_of ds c) (row_all Q ds c h) refl
    (λ d l. unfold pick in (rw (ne_eqb d.tag tag_other (λ e. omega arith))))

-- The answer where no character stands for others: edges of rules and fallbacks, their slots, and their room
unfoldable pub by_rules_alone : Inputs → Tables → Text → Called
by_rules_alone i D t = let st = rule_lattice D t in within_room i D t st (misfit (i.slots / slot_bytes) i.room st.0)

-- The call as it was before there was the table: neither is it refused, nor does it read
unfoldable pub former_refusal : Inputs → Option Refusal
former_refusal i = or_else
    (first_of
    (when (ltb most_mode i.mode) refused_mode 0
    ∷ when (ltb most_choice i.choices.capitals) refused_capitals 0
    ∷ when (ltb most_choice i.choices.o_ang) refused_o_ang 0
    ∷ when (ltb most_choice i.choices.readings) refused_readings 0
    ∷ rule_fault i.rules
    ∷ placed refused_classes (class_fault i.classes)
    ∷ placed refused_vowels (vowel_fault i.vowels)
    ∷ when (not (code_right i.code)) refused_code 0
    ∷ []))
    (text_refusal i.text)

unfoldable pub former : Inputs → Called
former i = maybe (former_refusal i) (by_rules_alone i (tables i) (characters i)) (refused i)

-- A table without fault changes no refusal
pub refusal-former : (i : Inputs) → decomposition_fault i.decompositions ≡ none → refusal i ≡ former_refusal i
unfolding refusal former_refusal before_text first_of placed
refusal-former i e = rw e

-- A table without rows is such
pub empty_right : decomposition_fault no_decompositions ≡ none
unfolding compute
empty_right = refl

pub empty-silent : decompositions_of no_decompositions ≡ []
unfolding compute
empty-silent = refl
