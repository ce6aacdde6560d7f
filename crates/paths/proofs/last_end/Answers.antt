-- `paths::last_end`: the last end so far, and those still to come, have the last end of all.
use mathlib.Core.Bool.{true, false}
use Prim.Native.Nat.{◌+◌, ◌-◌, ◌*◌}
use mathlib.Core.Path.{◌≡◌, sym, ap, ◌∙◌}
use native.Mathlib.Omega.{arith}
use lib.ListN.{drop}
use Rattle.base.specs.Pick.{pick}
use Rattle.base.specs.Rows.{counted_none}
use Rattle.definition.specs.Limits.{slot_bytes}
use Rattle.edge.specs.Slots.{edge_by, numbers_of, edge_of}
use Rattle.paths.specs.Orders.{last_end}
use Rattle.paths.proofs.Turns.{last_on}
use Rattle.paths.proofs.last_end.Goals as goal
use Rattle.paths.proofs.last_end.Goals.{then-is_farther, else-is_farther}

pub loop-number-preserved : goal.loop-number-preserved
unfolding pick edge_by numbers_of
loop-number-preserved c =
    let s = c.args.slots.now in
    let l = c.loop-number in
    let n = c.args.count - l.number in
    let left : c.args.count - (l.number + 1) ≡ n - 1 = omega arith in
    let slot : (l.number + 1) * slot_bytes ≡ l.number * slot_bytes + slot_bytes = omega arith in
    λ room. rw (left, slot) (elim c.if-is_farther.branch [
      | then-is_farther w ↦ last_on room s n (l.number * slot_bytes) c.args.p c.args.bound l.best c.if-is_farther.best (omega arith) true
          (sym (c.is_farther.ensures room) ∙ w.if-is_farther.true) (w.best-is ∙ w.two-best.ensures.0)
          ∙ l.invariant room
      | else-is_farther w ↦ last_on room s n (l.number * slot_bytes) c.args.p c.args.bound l.best c.if-is_farther.best (omega arith) false
          (sym (c.is_farther.ensures room) ∙ w.if-is_farther.false) w.best-is
          ∙ l.invariant room
    ])

pub returns : goal.returns
unfolding last_end
returns c =
    let l = c.loop-number in
    λ room.
    sym (ap (last_end c.args.p c.args.bound l.best) (counted_none (edge_of room) slot_bytes (c.args.count - l.number) (drop (l.number * slot_bytes) c.args.slots.now) (omega arith)))
    ∙ l.invariant room
