-- What a driver sees, applied: the bytes that the labels of specs/Labels give, and that both premises are needed.
use Rattle.std.specs.Prelude.{◌≡◌, List, [], ◌∷◌, ℕ, length}
use Rattle.std.proofs.Common.{sym, ◌∙◌, ap, arith}
use Rattle.definition.specs.Texts.{chars}
use Rattle.definition.specs.Call.{Inputs, called}
use Rattle.stretches.specs.Driver.{spaced, line_of, Line, Spaceless, Firsts, wrote, Reads}
use Rattle.stretches.proofs.Driven.{driven}
use Rattle.stretches.specs.Labels.{half_label, half_label-line, half_label_firsts, half_label_spaceless, half_outputs, half_words, knit, knit-line, knit-output, knit_firsts, knit_outputs, knit_words, label, label-line, label_firsts, label_spaceless, thai, thai-output, thai_line, thai_outputs, thai_spaceless, thai_words, word_outputs, words}

pub label-reads : Reads label words
label-reads = driven label words label-line label_spaceless label_firsts

pub label-output : wrote (called label) ≡
    0x6B ∷ 0x61 ∷ 0x74 ∷ 0x20 ∷ 0x20 ∷ 0x6B ∷ 0x20 ∷ 0x6B ∷ 0x74 ∷ 0x61 ∷ []
unfolding line_of spaced
label-output = label-reads.output ∙ ap line_of word_outputs

pub half_label-output : wrote (called half_label) ≡ chars "1 1/2 1 1/2"
unfolding line_of spaced
half_label-output = (driven half_label half_words half_label-line half_label_spaceless half_label_firsts).output
    ∙ ap line_of half_outputs

pub firsts_needed : ((i : Inputs) (words : List Inputs) → Line i words → Spaceless i → Reads i words) → ⊥
firsts_needed every =
    let r = every thai thai_words thai_line thai_spaceless in
    let n : ◌≡◌ {A = ℕ} 4 3 = ap length (sym thai-output ∙ r.output ∙ thai_outputs) in
    omega arith

pub spaceless_needed : ((i : Inputs) (words : List Inputs) → Line i words → Firsts i words → Reads i words) → ⊥
spaceless_needed every =
    let r = every (knit "a b") knit_words knit-line knit_firsts in
    let n : ◌≡◌ {A = ℕ} 1 3 = ap length (sym knit-output ∙ r.output ∙ knit_outputs) in
    omega arith
