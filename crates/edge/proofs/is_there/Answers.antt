-- `edge::is_there`: the first have none like it; those still to come have one where all have.
use mathlib.Core.Path.{◌≡◌, sym, ◌∙◌, subst}
use mathlib.Core.List.{List}
use Prim.Native.Nat.{ℕ, ◌-◌, ◌*◌, ◌<◌, ◌+◌}
use native.Mathlib.Omega.{arith}
use lib.ListN.{length, drop}
use Rattle.base.specs.Rows.{all_some}
use Rattle.definition.specs.Limits.{slot_bytes}
use Rattle.edge.specs.Slots.{edge_of}
use Rattle.edge.specs.Counted.{all-behind}
use Rattle.edge.specs.Stored.{Slot}
use Rattle.edge.specs.Asked.{Readable, readable_slots, any-over, any_here, any_next}
use Rattle.edge.proofs.Alikes.{like, there-behind}
use Rattle.edge.proofs.is_there.Goals as goal

pub loop-number-init : goal.loop-number-init
loop-number-init c =
    let S = c.args.slots.now in
    let R = c.args.room.now in
    let f = c.args.filled in (
      there-behind R S f.since f.count c.args.e c.args.text.now c.requires.2 c.requires.3,
      all-behind slot_bytes (Slot R (length R)) f.since (f.count - f.since) S
          (subst (Readable S R) {x = f.count} {y = f.since + (f.count - f.since)} (omega (arith, c.requires.2)) c.requires.0),
    )

-- what stands at the slot, and behind it
here : (S R : List ℕ) (left slot : ℕ) → Readable (drop slot S) R left → 0 < left
    → Slot R (length R) (drop slot S) × Readable (drop (slot + slot_bytes) S) R (left - 1)
here S R left slot r h = all_some (Slot R (length R)) slot_bytes left slot S h r

pub overflow_mul-number : goal.overflow_mul-number
overflow_mul-number c =
    let n = c.loop-number.number in
    omega (arith, readable_slots c.args.slots.now c.args.room.now c.args.filled.count c.requires.0)

pub is_alike-requires : goal.is_alike-requires
is_alike-requires c =
    let n = c.loop-number.number in
    ((here c.args.slots.now c.args.room.now (c.args.filled.count - n) (n * slot_bytes) c.loop-number.invariant.1 (omega arith)).0, c.requires.1)

pub returns-then-is_alike : goal.returns-then-is_alike
returns-then-is_alike c =
    let n = c.loop-number.number in
    any_here (edge_of c.args.room.now) slot_bytes c.args.slots.now (c.args.filled.count - n) (n * slot_bytes) (like c.args.e c.args.text.now)
    (omega arith) (sym c.is_alike.ensures ∙ c.if-is_alike.true)
    ∙ c.loop-number.invariant.0

pub loop-number-preserved : goal.loop-number-preserved
loop-number-preserved c =
    let n = c.loop-number.number in
    let count = c.args.filled.count in
    let left : count - (n + 1) ≡ count - n - 1 = omega arith in
    let slot : (n + 1) * slot_bytes ≡ n * slot_bytes + slot_bytes = omega arith in (
      rw (left, slot) (any_next (edge_of c.args.room.now) slot_bytes c.args.slots.now (count - n) (n * slot_bytes) (like c.args.e c.args.text.now)
          (omega arith) (sym c.is_alike.ensures ∙ c.if-is_alike.false)
          ∙ c.loop-number.invariant.0),
      rw (left, slot) (here c.args.slots.now c.args.room.now (count - n) (n * slot_bytes) c.loop-number.invariant.1 (omega arith)).1,
    )

pub returns : goal.returns
returns c =
    let n = c.loop-number.number in
    any-over (edge_of c.args.room.now) slot_bytes c.args.slots.now (c.args.filled.count - n) (n * slot_bytes) (like c.args.e c.args.text.now) (omega arith)
    ∙ c.loop-number.invariant.0
