-- `jettyfig::check`: each table and the code, in the definition's order; the decomposition table's index is filled where that table
-- is checked.
use mathlib.Core.Path.{ap, ◌∙◌}
use Rattle.definition.specs.Refusals.{placed, refused_classes, refused_vowels, refused_decompositions}
use Rattle.jettyfig.specs.Verdicts.{indexed_so, passed_on, at_rules, at_classes, at_vowels, at_decompositions, at_code, formed-right}
use Rattle.jettyfig.proofs.check.Goals as goal

pub returns-in_err-check_rules-clause-verdict : goal.returns-in_err-check_rules-clause-verdict
returns-in_err-check_rules-clause-verdict c =
    passed_on _ _ c.from_residual.ensures.1
    ∙ at_rules _ _ _ _ _ _ c.in_err-check_rules.ensures

pub returns-in_err-of_table-clause-verdict : goal.returns-in_err-of_table-clause-verdict
returns-in_err-of_table-clause-verdict c =
    passed_on _ _ c.from_residual-in_err-of_table.ensures.1
    ∙ at_classes _ _ _ _ _ c.in_ok-check_rules.ensures
    _ (c.in_err-of_table.ensures ∙ ap (placed refused_classes) c.check_classes-classes.ensures)

pub returns-in_err-of_table-2-clause-verdict : goal.returns-in_err-of_table-2-clause-verdict
returns-in_err-of_table-2-clause-verdict c =
    passed_on _ _ c.from_residual-in_err-of_table-2.ensures.1
    ∙ at_vowels _ _ _ _ _ c.in_ok-check_rules.ensures
    (c.in_ok-of_table.ensures ∙ ap (placed refused_classes) c.check_classes-classes.ensures)
    _ (c.in_err-of_table-2.ensures ∙ ap (placed refused_vowels) c.check_vowels-vowels.ensures)

pub returns-in_err-of_table-3-clause-verdict : goal.returns-in_err-of_table-3-clause-verdict
returns-in_err-of_table-3-clause-verdict c =
    passed_on _ _ c.from_residual-in_err-of_table-3.ensures.1
    ∙ at_decompositions _ _ _ _ _ c.in_ok-check_rules.ensures
    (c.in_ok-of_table.ensures ∙ ap (placed refused_classes) c.check_classes-classes.ensures)
    (c.in_ok-of_table-2.ensures ∙ ap (placed refused_vowels) c.check_vowels-vowels.ensures)
    _ (c.in_err-of_table-3.ensures ∙ ap (placed refused_decompositions) c.check_decompositions-decompositions.ensures.answer)

pub returns-clause-verdict : goal.returns-clause-verdict
returns-clause-verdict c =
    c.check_code.ensures
    ∙ at_code _ _ _ _ _ c.in_ok-check_rules.ensures
    (c.in_ok-of_table.ensures ∙ ap (placed refused_classes) c.check_classes-classes.ensures)
    (c.in_ok-of_table-2.ensures ∙ ap (placed refused_vowels) c.check_vowels-vowels.ensures)
    (c.in_ok-of_table-3.ensures ∙ ap (placed refused_decompositions) c.check_decompositions-decompositions.ensures.answer)

pub returns-clause-index : goal.returns-clause-index
returns-clause-index c =
    indexed_so c.args.tables.now.decompositions.now c.check_decompositions-decompositions.new.index
    (formed-right c.args.tables.now.rules.now c.args.tables.now.classes.now c.args.tables.now.vowels.now c.args.tables.now.decompositions.now c.args.tables.now.code.now c.in_ok-check_rules.ensures
    (c.in_ok-of_table.ensures ∙ ap (placed refused_classes) c.check_classes-classes.ensures)
    (c.in_ok-of_table-2.ensures ∙ ap (placed refused_vowels) c.check_vowels-vowels.ensures)
    (c.in_ok-of_table-3.ensures ∙ ap (placed refused_decompositions) c.check_decompositions-decompositions.ensures.answer))
    c.check_decompositions-decompositions.ensures.index c.check_code.result
