-- `rule_choice::romanization_by_first_rule`: the first of the rows that are found, if any is.
use mathlib.Core.Path.{◌∙◌}
use native.Mathlib.Omega.{arith}
use Rattle.rule_choice.proofs.Targets.{first-none, first_row, first-target}
use Rattle.rule_choice.proofs.romanization_by_first_rule.Goals as goal

pub returns-then-found-eq0 : goal.returns-then-found-eq0
returns-then-found-eq0 c =
    let f = c.look_up-found.ensures in
    (first-none c.args.dicts.now.rules.now c.args.source.now c.args.dicts.now.prepared.table.accepted _ _ f.first f.count (omega arith), tt)

pub target_of-requires : goal.target_of-requires
target_of-requires c =
    let f = c.look_up-found.ensures in
    first_row c.args.dicts.now.rules.now c.args.source.now c.args.dicts.now.prepared.table.accepted _ _ f.first f.count (omega arith)

pub returns : goal.returns
returns c =
    let f = c.look_up-found.ensures in
    (c.target_of.ensures.0 ∙ first-target c.args.dicts.now.rules.now c.args.source.now c.args.dicts.now.prepared.table.accepted _ _ f.first f.count (omega arith), c.target_of.ensures.1)
