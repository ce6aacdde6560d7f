-- `rule_row_faults::code_letters`: each return is a case of three letters, which the table has.
use mathlib.Core.Path.{sym, ap, ◌∙◌}
use lib.ListN.{drop}
use Rattle.definition.specs.Blocks.{small}
use Rattle.rule_row_faults.proofs.Tests.{not_first, not_second, by_third}
use Rattle.rule_row_faults.proofs.code_letters.Goals as goal
use Rattle.rule_row_faults.proofs.code_letters.Goals.{then-small, else-small}

pub returns-then-small-2 : goal.returns-then-small-2
returns-then-small-2 c =
    let s = drop c.args.row c.args.rules.now in
    elim c.if-small.branch [
      | then-small w ↦
          c.small-then-small-2.ensures
          ∙ ap small c.at_there-then-small-2.ensures.0
          ∙ by_third s c.args.o c.requires.1
          (sym (c.small.ensures ∙ ap small c.at_there.ensures.0) ∙ w.if-small.true)
          (sym (w.small-then-small.ensures ∙ ap small w.at_there-then-small.ensures.0) ∙ sym w.value-is ∙ c.if-small-2.true)
      | else-small w ↦ cc
    ]

pub returns-else-small-2 : goal.returns-else-small-2
returns-else-small-2 c =
    let s = drop c.args.row c.args.rules.now in
    elim c.if-small.branch [
      | then-small w ↦
          c.if-small-2.false
          ∙ not_second s c.args.o c.requires.1
          (sym (c.small.ensures ∙ ap small c.at_there.ensures.0) ∙ w.if-small.true)
          (sym (w.small-then-small.ensures ∙ ap small w.at_there-then-small.ensures.0) ∙ sym w.value-is ∙ c.if-small-2.false)
      | else-small w ↦
          c.if-small-2.false
          ∙ not_first s c.args.o c.requires.1 (sym (c.small.ensures ∙ ap small c.at_there.ensures.0) ∙ w.if-small.false)
    ]
