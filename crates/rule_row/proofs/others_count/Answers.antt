-- `rule_row::others_count`
use mathlib.Core.Path.{ap, ◌∙◌}
use lib.ListN.{get_or, drop}
use Rattle.rule_row.specs.Others.{others-counted}
use Rattle.rule_row.proofs.others_count.Goals as goal

pub returns : goal.returns
returns c =
    let a = c.args in
    let s = drop a.row a.rules.now in
    (c.at.ensures.0 ∙ ap (λ o. get_or s o 0) c.others_at.ensures.0 ∙ others-counted s, c.at.ensures.1)
