-- `words::brings_letter`: by its two flags, and then by its target.
use mathlib.Core.Path.{sym, ap, ◌∙◌}
use lib.ListN.{drop}
use Rattle.base.specs.Lists.{any}
use Rattle.definition.specs.ClassRows.{classes_of}
use Rattle.words.specs.Goes.{letter_byte}
use Rattle.words.proofs.Ends.{target-low, letters-told, brings-at-start, brings-nothing, brings-target}
use Rattle.words.proofs.brings_letter.Goals as goal
use Rattle.words.proofs.brings_letter.Goals.{then-not-flag, else-not-flag}

pub returns-then-flag : goal.returns-then-flag
returns-then-flag c =
    let s = drop c.args.row c.args.dicts.now.rules.now in
    λ classes e. elim c.if-not-flag.branch [
      | then-not-flag w ↦
          let f = sym w.flag-then-not-flag.ensures ∙ sym w.value-is ∙ c.if-flag.true in
          c.has_letter.ensures ∙ ap (any (letter_byte c.args.dicts.now.ready.now)) c.target_text.ensures
          ∙ letters-told classes c.args.dicts.now.ready.now e _ (target-low s c.requires.spoken f)
          ∙ brings-target s (classes_of classes) (sym c.flag.ensures ∙ w.if-not-flag.true) f
      | else-not-flag w ↦ let x = w.value-is in let y = w.if-not-flag.false in let z = c.if-flag.true in cc
    ]

pub returns-else-flag : goal.returns-else-flag
returns-else-flag c =
    let s = drop c.args.row c.args.dicts.now.rules.now in
    λ classes e. elim c.if-not-flag.branch [
      | then-not-flag w ↦ c.if-flag.false ∙ brings-nothing s (classes_of classes) (sym w.flag-then-not-flag.ensures ∙ sym w.value-is ∙ c.if-flag.false)
      | else-not-flag w ↦ c.if-flag.false ∙ brings-at-start s (classes_of classes) (sym c.flag.ensures ∙ w.if-not-flag.false)
    ]
