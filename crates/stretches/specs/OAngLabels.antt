-- What a driver sees, applied where the choice of O ang is 1: labels in which U+0E2D stands past a word's first
-- character, behind a word that ends in a consonant. (With the choice 0 the theorem does not speak of them: proofs/Labels,
-- `firsts_needed`. proofs/OAngLabels: the theorem applied.)
use Rattle.std.specs.Prelude.{◌≡◌, refl, List, [], ◌∷◌, map}
use Prim.Native.String.{String}
use Rattle.definition.specs.Texts.{chars}
use Rattle.definition.specs.Utf8.{encoded}
use Rattle.definition.specs.Call.{Inputs, called}
use Rattle.definition.specs.Compute.{compute}
use Rattle.definition.specs.Sample.{sample_rules, sample_classes, o_ang_by, sample_with}
use Rattle.stretches.specs.Demand.{spaceless, spaceless_if, spaceless_rule}
use Rattle.stretches.specs.Driver.{spaced, line_of, WordCall, Line, Spaceless, wrote}
use Rattle.stretches.specs.Labels.{word_call}

-- Calls in mode 0 with document 01's sample tables and the choice 1
abbrev call : String → Inputs
call w = sample_with 0 (o_ang_by 1) sample_rules sample_classes "" w

pub spaceless-call : (w : String) → Spaceless (call w)
unfolding compute spaceless spaceless_if spaceless_rule
spaceless-call w = refl

-- Two words, for which the promise fails with the choice 0
abbrev pub o_ang_label : Inputs
o_ang_label = call "ก ่อก"

abbrev pub o_ang_words : List Inputs
o_ang_words = call "ก" ∷ call "่อก" ∷ []

pub o_ang_label-line : Line o_ang_label o_ang_words
unfolding compute spaced line_of
o_ang_label-line =
    let c : (w : String) → WordCall o_ang_label (call w) = λ w. word_call o_ang_label (encoded (chars w)) in
    record { mode = refl; done = refl; text = refl; calls = (c "ก", (c "่อก", tt)) }

pub o_ang_outputs : map (λ j. wrote (called j)) o_ang_words ≡ chars "k" ∷ chars "k" ∷ []
unfolding compute wrote
o_ang_outputs = refl

-- Three words, two of them such
abbrev pub long_label : Inputs
long_label = call "ก ่อก ่อก"

abbrev pub long_words : List Inputs
long_words = call "ก" ∷ call "่อก" ∷ call "่อก" ∷ []

pub long-line : Line long_label long_words
unfolding compute spaced line_of
long-line =
    let c : (w : String) → WordCall long_label (call w) = λ w. word_call long_label (encoded (chars w)) in
    record { mode = refl; done = refl; text = refl; calls = (c "ก", (c "่อก", (c "่อก", tt))) }

pub long_outputs : map (λ j. wrote (called j)) long_words ≡ chars "k" ∷ chars "k" ∷ chars "k" ∷ []
unfolding compute wrote
long_outputs = refl
