-- `rule_table::is_equal`: as the library asks it of the order.
use Rattle.std.proofs.Common.{ap, ◌∙◌}
use Rattle.rule_table.specs.Seek.{is_equal, order_at, eq_is}
use Rattle.rule_table.proofs.is_equal.Goals as goal

pub returns : goal.returns
unfolding order_at
returns c = c.is_eq.ensures ∙ eq_is _ ∙ ap is_equal c.compare_source.ensures
