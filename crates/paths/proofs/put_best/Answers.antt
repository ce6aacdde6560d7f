-- `paths::put_best`: a list of that one edge, or of none.
use mathlib.Core.Path.{sym, ap, ◌∙◌, subst}
use native.Mathlib.Omega.{arith}
use Rattle.edge.specs.Best.{Found, found-slot}
use Rattle.listing.specs.Items.{put_items}
use Rattle.paths.specs.Steps.{best_list}
use Rattle.paths.proofs.put_best.Goals as goal

pub put_item-requires : goal.put_item-requires
put_item-requires c =
    (found-slot c.args.slots.now c.args.room.now c.args.count c.in-Some.slot c.requires.0 (subst (Found c.args.count) c.in-Some.is c.requires.1), c.requires.2)

pub returns-in-Some : goal.returns-in-Some
unfolding put_items
returns-in-Some c =
    (c.put_item.ensures.0 ∙ ap (λ b. put_items c.args.rows (best_list c.args.room.now c.args.slots.now b) (c.args.at, c.args.out.now)) (sym c.in-Some.is), c.put_item.ensures.1)

pub returns-in-None : goal.returns-in-None
unfolding put_items
returns-in-None c =
    (ap (λ b. put_items c.args.rows (best_list c.args.room.now c.args.slots.now b) (c.args.at, c.args.out.now)) (sym c.in-None.is), omega arith)
