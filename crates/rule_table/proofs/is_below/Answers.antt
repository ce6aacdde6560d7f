-- `rule_table::is_below`: as the library asks it of the order.
use Rattle.std.proofs.Common.{ap, ◌∙◌}
use Rattle.rule_table.specs.Seek.{is_below, order_at, lt_is}
use Rattle.rule_table.proofs.is_below.Goals as goal

pub returns : goal.returns
unfolding order_at
returns c = c.is_lt.ensures ∙ lt_is _ ∙ ap is_below c.compare_source.ensures
