-- `paths::put_all_edges`: what was written and the starts still to come leave what all starts leave.
use Prim.Native.Nat.{◌-◌}
use mathlib.Core.Bool.{true}
use mathlib.Core.List.{[]}
use mathlib.Core.Path.{◌≡◌, sym, ap, ◌∙◌}
use native.Mathlib.Omega.{arith}
use Rattle.definition.specs.Paths.{sorted}
use Rattle.edge.specs.Slots.{edges_of}
use Rattle.listing.specs.Items.{put_items}
use Rattle.standing.specs.Starts.{end_of}
use Rattle.paths.proofs.Turns.{sorted_on}
use Rattle.paths.proofs.put_all_edges.Goals as goal

pub overflow_sub-n : goal.overflow_sub-n
overflow_sub-n c = omega (arith, (c.requires.0.stands.fallen []).size)

pub loop-p-preserved : goal.loop-p-preserved
loop-p-preserved c =
    let es = edges_of c.args.room.now c.args.count c.args.slots.now in (
      sorted_on es c.loop-p.p (c.put_start-end.result, c.put_start-end.new.out) (c.loop-p.end, c.loop-p.out) (end_of c.args.starts.now) (omega arith) c.put_start-end.ensures.0 ∙ c.loop-p.invariant.0,
      omega (arith, c.loop-p.invariant.1, c.put_start-end.ensures.1),
      omega arith,
    )

pub returns : goal.returns
unfolding put_items sorted
returns c =
    let es = edges_of c.args.room.now c.args.count c.args.slots.now in
    let k : end_of c.args.starts.now - c.loop-p.p ≡ 0 = omega arith in
    sym (ap (λ m. put_items true (sorted es m c.loop-p.p) (c.loop-p.end, c.loop-p.out)) k) ∙ c.loop-p.invariant.0
