-- `offers::row_offers`: the texts still to come have it where all have.
use mathlib.Core.Path.{◌≡◌}
use lib.ListN.{take, drop}
use Rattle.base.specs.Lists.{any, same}
use Rattle.definition.specs.RuleRows.{rule_of}
use Rattle.definition.specs.Offers.{offers}
use Rattle.edge.specs.Slots.{edge_by}
use Rattle.offers.specs.Texts.{texts}
use Rattle.offers.proofs.row_offers.Given as goal

abbrev pub invariant-loop-k : goal.invariant-loop-k
invariant-loop-k l =
    let asked = take l.most (texts (offers l.readings (edge_by l.e l.text) (rule_of (drop l.row l.rules)))) in
    any (same l.w) (drop l.k asked) ≡ any (same l.w) asked
