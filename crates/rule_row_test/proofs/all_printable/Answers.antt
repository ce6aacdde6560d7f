-- `rule_row_test::all_printable`: each byte of the part is asked.
use Rattle.std.proofs.Common.{◌-◌, take, drop, rules, tests, ◌∙◌}
use Rattle.std.proofs.lemmas.Iterator.{YieldsList-from_slice}
use Rattle.std.proofs.lemmas.Iterator.Search.{all_from_yields_List}
use Rattle.rule_row_test.specs.All.{all_is}
use Rattle.definition.specs.RuleRows.{printable}
use Rattle.rule_row_test.proofs.all_printable.Goals as goal

pub returns : goal.returns
returns c =
    let part = take (c.args.to - c.args.from) (drop c.args.from c.args.s.now) in
    all_from_yields_List (λ x. printable x) _ _ _ c.all.ensures.ran (YieldsList-from_slice part cc) (λ x b q k. search (rules, tests))
    ∙ all_is _ part
