-- `paths::put_span`: what was written and the slots still to come leave what all slots leave.
use mathlib.Core.Bool.{true}
use Prim.Native.Nat.{◌+◌, ◌-◌, ◌*◌}
use mathlib.Core.Path.{◌≡◌, sym, ap, ◌∙◌}
use native.Mathlib.Omega.{arith}
use lib.ListN.{length, drop}
use Rattle.base.specs.Lists.{keep}
use Rattle.base.specs.Rows.{all_some, counted_none}
use Rattle.definition.specs.Limits.{slot_bytes}
use Rattle.definition.specs.Edges.{starting}
use Rattle.edge.specs.Slots.{edge_of}
use Rattle.edge.specs.Stored.{Slot}
use Rattle.edge.specs.Asked.{readable_slots}
use Rattle.listing.specs.Items.{put_items}
use Rattle.paths.specs.Orders.{over}
use Rattle.paths.proofs.Turns.{span_on}
use Rattle.paths.proofs.put_span.Goals as goal

pub overflow_mul-number : goal.overflow_mul-number
overflow_mul-number c = omega (arith, readable_slots c.args.slots.now c.args.room.now c.args.count c.requires.0)

pub put_over-end-requires : goal.put_over-end-requires
put_over-end-requires c =
    let l = c.loop-number in (
      (all_some (Slot c.args.room.now (length c.args.room.now)) slot_bytes (c.args.count - l.number) (l.number * slot_bytes) c.args.slots.now (omega arith) l.invariant.1).0,
      omega (arith, c.requires.1, c.requires.2, l.invariant.2),
    )

pub loop-number-preserved : goal.loop-number-preserved
loop-number-preserved c =
    let room = c.args.room.now in
    let slots = c.args.slots.now in
    let l = c.loop-number in
    let n = c.args.count - l.number in
    let left : c.args.count - (l.number + 1) ≡ n - 1 = omega arith in
    let slot : (l.number + 1) * slot_bytes ≡ l.number * slot_bytes + slot_bytes = omega arith in (
      rw (left, slot) (span_on room slots n (l.number * slot_bytes) c.args.p c.args.e (c.put_over-end.result, c.put_over-end.new.out) (l.end, l.out) (omega arith) c.put_over-end.ensures.0 ∙ l.invariant.0),
      rw (left, slot) (all_some (Slot room (length room)) slot_bytes n (l.number * slot_bytes) slots (omega arith) l.invariant.1).1,
      omega (arith, l.invariant.2, c.put_over-end.ensures.1),
      omega arith,
    )

pub returns : goal.returns
unfolding put_items over starting keep
returns c =
    let l = c.loop-number in
    let s = drop (l.number * slot_bytes) c.args.slots.now in (
      sym (ap (λ es. put_items true (over es c.args.p c.args.e) (l.end, l.out)) (counted_none (edge_of c.args.room.now) slot_bytes (c.args.count - l.number) s (omega arith))) ∙ l.invariant.0,
      omega (arith, l.invariant.2),
    )
