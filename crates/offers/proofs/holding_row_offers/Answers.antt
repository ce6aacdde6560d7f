-- `offers::holding_row_offers`: what a row offers is fewer than are asked.
use mathlib.Core.Bool.{Bool, ◌&&◌}
use mathlib.Core.Path.{sym, ap, ◌∙◌}
use lib.ListN.{drop}
use lib.Seq.{take_all}
use Rattle.base.specs.Lists.{any, same}
use Rattle.definition.specs.RuleRows.{rule_of}
use Rattle.definition.specs.Offers.{offers}
use Rattle.edge.specs.Slots.{edge_by}
use Rattle.offers.specs.Texts.{texts, most_offers}
use Rattle.offers.proofs.holding_row_offers.Goals as goal

pub returns-then-holds : goal.returns-then-holds
returns-then-holds c =
    let l = texts (offers c.args.asked.readings (edge_by c.args.e c.args.text.now) (rule_of (drop c.args.row c.args.rules.now))) in
    let n = any (same c.args.w.now) in
    c.row_offers.ensures.0 ∙ ap n (take_all most_offers l c.row_offers.ensures.1)
    ∙ sym (ap (λ (y : Bool). y && n l) (sym c.holds.ensures ∙ c.if-holds.true))
