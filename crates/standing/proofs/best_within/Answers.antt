-- `standing::best_within`: the best so far and those still to come have the best of the stretch.
use mathlib.Core.Path.{◌≡◌, refl, sym, ap, ◌∙◌, subst}
use mathlib.Core.List.{[]}
use Prim.Native.Nat.{◌+◌, ◌-◌, ◌*◌}
use native.Mathlib.Omega.{arith}
use lib.ListN.{drop}
use Rattle.definition.specs.Limits.{slot_bytes}
use Rattle.definition.specs.Edges.{starting}
use Rattle.edge.specs.Slots.{edge_of, edges_of}
use Rattle.edge.specs.Asked.{best_after, best-over}
use Rattle.edge.specs.Best.{best_means, Found}
use Rattle.standing.specs.Right.{longer, here, best_turn, improved-found}
use Rattle.standing.proofs.best_within.Goals as goal

pub loop-number-init : goal.loop-number-init
unfolding best_after
loop-number-init c = (λ room. refl, tt)

pub loop-number-preserved : goal.loop-number-preserved
loop-number-preserved c =
    let s = c.args.slots.now in
    let e = c.args.within.end in
    let i = c.loop-number.number in
    let o = i * slot_bytes in
    let b = c.better-best.ensures in
    let left : e - (i + 1) ≡ e - i - 1 = omega arith in
    let slot : (i + 1) * slot_bytes ≡ o + slot_bytes = omega arith in (
      λ room. rw (left, slot) (ap (λ b. best_after longer (best_means room s b) (starting (edges_of room (e - i - 1) (drop (o + slot_bytes) s)) c.args.p)) (b room)
          ∙ best_turn c.args.p room s o c.loop-number.best (e - i) (omega arith) ∙ c.loop-number.invariant.0 room),
      subst (Found e) (sym (b [])) (improved-found c.args.p [] s o c.loop-number.best e i (omega arith) refl c.loop-number.invariant.1),
    )

pub returns : goal.returns
unfolding starting
returns c =
    let s = c.args.slots.now in
    let i = c.loop-number.number in (
      λ room. best-over (edge_of room) slot_bytes s (c.args.within.end - i) (i * slot_bytes) (here c.args.p) longer (best_means room s c.loop-number.best) (omega arith)
          ∙ c.loop-number.invariant.0 room,
      c.loop-number.invariant.1,
    )
