-- `paths::put_longer`: ends that no edge has are passed over, and so each turn writes the next longest edges.
use Prim.Native.Nat.{◌+◌, ◌-◌}
use mathlib.Core.Bool.{true}
use mathlib.Core.Path.{◌≡◌, refl, sym, ap, ◌∙◌}
use native.Mathlib.Omega.{arith}
use Rattle.definition.specs.Paths.{longer}
use Rattle.edge.specs.Slots.{edges_of}
use Rattle.edge.specs.Asked.{readable_slots}
use Rattle.listing.specs.Items.{Written, put_items}
use Rattle.paths.specs.Orders.{last-from, last-before, longer-last}
use Rattle.paths.proofs.Turns.{longer_on}
use Rattle.paths.proofs.put_longer.Goals as goal

pub last_end-e-requires : goal.last_end-e-requires
last_end-e-requires c =
    readable_slots c.args.slots.now c.args.room.now c.args.count c.requires.0

pub loop-e-init : goal.loop-e-init
loop-e-init c =
    let es = edges_of c.args.room.now c.args.count c.args.slots.now in
    let e = c.last_end-e.ensures c.args.room.now in
    let o : Written = (c.args.at, c.args.out.now) in
    let k : c.args.n + 1 - 1 - c.args.p ≡ c.args.n - c.args.p = omega arith in (
      ap (λ m. put_items true (longer es c.args.p (m - c.args.p)) o) e
          ∙ ap (λ l. put_items true l o) (sym (longer-last es c.args.p (c.args.n + 1) (omega (arith, c.requires.3))) ∙ ap (longer es c.args.p) k),
      omega (arith, e, last-from c.args.p (c.args.n + 1) c.args.p es),
      omega (arith, e, last-before c.args.p (c.args.n + 1) c.args.p es (omega (arith, c.requires.3))),
      omega arith,
      refl,
    )

pub last_end-e-requires-in-loop-e : goal.last_end-e-requires-in-loop-e
last_end-e-requires-in-loop-e c =
    readable_slots c.args.slots.now c.args.room.now c.args.count c.requires.0

pub loop-e-smaller : goal.loop-e-smaller
loop-e-smaller c =
    let es = edges_of c.args.room.now c.args.count c.args.slots.now in
    omega (arith, c.last_end-e-in-loop-e.ensures c.args.room.now, last-before c.args.p c.loop-e.e c.args.p es (omega arith))

pub loop-e-preserved : goal.loop-e-preserved
loop-e-preserved c =
    let es = edges_of c.args.room.now c.args.count c.args.slots.now in
    let e = c.last_end-e-in-loop-e.ensures c.args.room.now in
    let f = last-from c.args.p c.loop-e.e c.args.p es in
    let b = last-before c.args.p c.loop-e.e c.args.p es (omega arith) in (
      ap (λ m. put_items true (longer es c.args.p (m - c.args.p)) (c.put_span-end.result, c.put_span-end.new.out)) e
          ∙ longer_on es c.args.p (c.put_span-end.result, c.put_span-end.new.out) (c.loop-e.end, c.loop-e.out) c.loop-e.e (omega arith) c.put_span-end.ensures.0 ∙ c.loop-e.invariant.0,
      omega (arith, e, f),
      omega (arith, e, b, c.loop-e.invariant.2),
      omega (arith, e, b, c.loop-e.invariant.2, c.loop-e.invariant.3, c.put_span-end.ensures.1, c.requires.1),
      omega arith,
    )

pub returns : goal.returns
unfolding put_items longer
returns c =
    let es = edges_of c.args.room.now c.args.count c.args.slots.now in
    let k : c.loop-e.e - c.args.p ≡ 0 = omega arith in (
      sym (ap (λ m. put_items true (longer es c.args.p m) (c.loop-e.end, c.loop-e.out)) k) ∙ c.loop-e.invariant.0,
      omega (arith, c.loop-e.invariant.3, c.requires.2),
    )
