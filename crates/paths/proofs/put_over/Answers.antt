-- `paths::put_over`: start, then end; the list of one edge keeps it where both are those of the span.
use mathlib.Core.Bool.{true}
use mathlib.Core.Path.{sym, ap, ◌∙◌}
use native.Mathlib.Omega.{arith}
use lib.ListN.{drop}
use borrow.Author.Tests.{eq-eqb, ne_eqb}
use Rattle.edge.specs.Slots.{from_of, to_of, edge_by, numbers_of, edge_of}
use Rattle.listing.specs.Items.{put_items}
use Rattle.paths.specs.Orders.{over-from, over-to, over-one}
use Rattle.paths.proofs.put_over.Goals as goal

pub returns-then-two-p : goal.returns-then-two-p
unfolding put_items edge_by numbers_of
returns-then-two-p c =
    let s = drop c.args.slot c.args.slots.now in
    let f = ne_eqb (from_of s) c.args.p (λ e. omega (arith, e)) in
    (sym (ap (λ l. put_items true l (c.args.at, c.args.out.now)) (over-from (edge_of c.args.room.now s) c.args.p c.args.e f)), omega arith)

pub returns-then-two-e : goal.returns-then-two-e
unfolding put_items edge_by numbers_of
returns-then-two-e c =
    let s = drop c.args.slot c.args.slots.now in
    let f = eq-eqb (from_of s) c.args.p (omega arith) in
    let t = ne_eqb (to_of s) c.args.e (λ e. omega (arith, e)) in
    (sym (ap (λ l. put_items true l (c.args.at, c.args.out.now)) (over-to (edge_of c.args.room.now s) c.args.p c.args.e f t)), omega arith)

pub returns : goal.returns
unfolding put_items edge_by numbers_of
returns c =
    let s = drop c.args.slot c.args.slots.now in
    let f = eq-eqb (from_of s) c.args.p (omega arith) in
    let t = eq-eqb (to_of s) c.args.e (omega arith) in
    (c.put_item.ensures.0 ∙ sym (ap (λ l. put_items true l (c.args.at, c.args.out.now)) (over-one (edge_of c.args.room.now s) c.args.p c.args.e f t)), c.put_item.ensures.1)
