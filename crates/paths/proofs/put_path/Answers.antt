-- `paths::put_path`: what was written and what is left of the path leave what the whole path leaves.
use Prim.Native.Nat.{ℕ, ◌-◌, suc}
use mathlib.Core.List.{List, []}
use mathlib.Core.Path.{◌≡◌, sym, ap, ◌∙◌}
use native.Mathlib.Omega.{arith}
use Rattle.definition.specs.Edges.{Edge}
use Rattle.definition.specs.Paths.{path_from}
use Rattle.edge.specs.Slots.{edges_of}
use Rattle.edge.specs.Best.{best_means}
use Rattle.listing.specs.Items.{put_items}
use Rattle.standing.specs.Starts.{end_of}
use Rattle.paths.specs.Steps.{path_on}
use Rattle.paths.specs.Ahead.{step_ahead, path-same}
use Rattle.paths.proofs.put_path.Goals as goal

pub overflow_sub-n : goal.overflow_sub-n
overflow_sub-n c = omega (arith, (c.requires.0.stands.fallen []).size)

pub put_best-end-requires : goal.put_best-end-requires
put_best-end-requires c =
    let found = (c.best_right_neighbor_edge-best.ensures c.args.count c.requires.0.stands).1 in
    (c.requires.0.read, found, omega (arith, c.requires.0.short, c.requires.1, c.loop-p.invariant.1, c.loop-p.invariant.2))

pub loop-p-smaller : goal.loop-p-smaller
loop-p-smaller c =
    let room = c.args.room.now in
    let es = edges_of room c.args.count c.args.slots.now in
    let best = c.best_right_neighbor_edge-best.ensures c.args.count c.requires.0.stands in
    let f = step_ahead (end_of c.args.starts.now) es (c.requires.0.stands.ahead room) c.loop-p.p c.next_from-p.result (best_means room c.args.slots.now c.best_right_neighbor_edge-best.result)
    (best.0 room) (c.next_from-p.ensures.0 room) (omega arith) in
    omega (arith, f.0, f.1)

pub loop-p-preserved : goal.loop-p-preserved
loop-p-preserved c =
    let best = c.best_right_neighbor_edge-best.ensures c.args.count c.requires.0.stands in
    let slots = c.args.slots.now in
    let room = c.args.room.now in
    let n = end_of c.args.starts.now in
    let es = edges_of room c.args.count slots in
    let f = step_ahead n es (c.requires.0.stands.ahead room) c.loop-p.p c.next_from-p.result (best_means room slots c.best_right_neighbor_edge-best.result)
    (best.0 room) (c.next_from-p.ensures.0 room) (omega arith) in (
      ap (λ (r : List Edge). put_items c.args.rows r (c.put_best-end.result, c.put_best-end.new.out))
          (path-same n es (c.requires.0.stands.ahead room) (n - c.next_from-p.result) (n - c.loop-p.p - 1) c.next_from-p.result (omega arith) (omega (arith, f.0)))
          ∙ path_on c.args.rows es (best_means room slots c.best_right_neighbor_edge-best.result) (n - c.loop-p.p - 1) c.loop-p.p c.next_from-p.result (c.put_best-end.result, c.put_best-end.new.out) (c.loop-p.end, c.loop-p.out)
          (best.0 room) (c.next_from-p.ensures.0 room) c.put_best-end.ensures.0
          ∙ ap (λ (k : ℕ). put_items c.args.rows (path_from k c.loop-p.p es) (c.loop-p.end, c.loop-p.out)) {x = suc (n - c.loop-p.p - 1)} {y = n - c.loop-p.p} (omega arith) ∙ c.loop-p.invariant.0,
      f.1,
      omega (arith, c.loop-p.invariant.2, c.put_best-end.ensures.1, f.0),
      omega arith,
    )

pub returns : goal.returns
unfolding put_items path_from
returns c =
    let n = end_of c.args.starts.now in
    let es = edges_of c.args.room.now c.args.count c.args.slots.now in
    let e : n - c.loop-p.p ≡ 0 = omega arith in
    (sym (ap (λ k. put_items c.args.rows (path_from k c.loop-p.p es) (c.loop-p.end, c.loop-p.out)) e) ∙ c.loop-p.invariant.0, omega (arith, c.loop-p.invariant.1, c.loop-p.invariant.2))
