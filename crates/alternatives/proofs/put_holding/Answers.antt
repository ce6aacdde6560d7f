-- `alternatives::put_holding`: what the row offers where its rule holds, or nothing.
use mathlib.Core.Bool.{true}
use mathlib.Core.List.{[], ◌∷◌}
use mathlib.Core.Path.{◌≡◌, sym, ap, ◌∙◌}
use native.Mathlib.Omega.{arith}
use lib.ListN.{drop}
use Rattle.base.specs.Lists.{put}
use Rattle.definition.specs.Offers.{all_offers}
use Rattle.definition.specs.RuleRows.{rule_of}
use Rattle.definition.specs.Rules.{holds_at}
use Rattle.edge.specs.Slots.{edge_by}
use Rattle.listing.specs.Items.{put_items}
use Rattle.offers.specs.Texts.{offers-none}
use Rattle.alternatives.specs.News.{offered}
use Rattle.alternatives.proofs.Turns.{one_holds, marked_holds, none-holds, none-offered, none-new, none_marked}
use Rattle.alternatives.proofs.put_holding.Goals as goal
use Rattle.alternatives.proofs.put_holding.Goals.{else-may_offer-via-then-may_offer+else-holds, else-may_offer-via-else-may_offer}

pub returns-then-holds : goal.returns-then-holds
returns-then-holds c =
    let x = edge_by c.args.e c.args.text.now in
    let r = rule_of (drop c.args.row c.args.dicts.now.rules.now) in
    let hold = holds_at c.args.dicts.now.code.now c.args.asked.start c.args.asked.end r in
    let ws = offered x c.args.dicts.now.code.now c.args.asked c.args.dicts.now.rules.now c.args.before in
    let h = sym c.holds.ensures ∙ c.if-holds.true in (
      c.put_offers.ensures.0 ∙ ap (λ l. put_items true l (c.args.at, c.args.out.now)) (one_holds c.args.asked.readings x r (x.text ∷ ws) hold h),
      c.put_offers.ensures.1,
      marked_holds c.args.asked.readings x r ws hold _ h c.put_offers.ensures.2,
    )

pub returns-else-may_offer : goal.returns-else-may_offer
unfolding put_items
returns-else-may_offer c =
    let x = edge_by c.args.e c.args.text.now in
    let r = rule_of (drop c.args.row c.args.dicts.now.rules.now) in
    let y = c.args.asked.readings in
    let hold = holds_at c.args.dicts.now.code.now c.args.asked.start c.args.asked.end r in
    let ws = offered x c.args.dicts.now.code.now c.args.asked c.args.dicts.now.rules.now c.args.before in
    let none : all_offers y x (put hold r []) ≡ [] = elim c.else-may_offer.branch [
      | else-may_offer-via-then-may_offer+else-holds w ↦ none-holds y x r ws hold (sym w.holds.ensures ∙ w.if-holds.false)
      | else-may_offer-via-else-may_offer w ↦ none-offered y x r ws hold (offers-none y x r (sym c.may_offer.ensures ∙ w.if-may_offer.false))
    ] in (
      ap (λ l. put_items true l (c.args.at, c.args.out.now)) (none-new y x r (x.text ∷ ws) hold none),
      omega arith,
      none_marked y x r ws hold none c.args.cells.now c.requires.4,
    )
