-- `decomp_text::put_path`: what was spelled and what is left of the path spell the whole path.
use Prim.Native.Nat.{ℕ, suc, ◌-◌, ◌≤◌, ◌<◌}
use mathlib.Core.List.{List, ◌++◌}
use mathlib.Core.Path.{subst}
use native.Mathlib.Omega.{arith}
use Rattle.definition.specs.Edges.{Edge}
use Rattle.definition.specs.Paths.{joined, path_from}
use Rattle.edge.specs.Slots.{edges_of}
use Rattle.edge.specs.Best.{best_means}
use Rattle.standing.specs.Starts.{end_of}
use Rattle.standing.specs.Stands.{Stands}
use Rattle.words.specs.Given.{kinds}
use Rattle.paths.specs.Ahead.{step_ahead, path-same}
use Rattle.decomp_text.specs.Spelling.{shaped}
use Rattle.decomp_text.specs.Walking.{Walked, walked-over, walked_on}
use Rattle.decomp_text.proofs.Walks.{best-read, best-ruled}
use Rattle.decomp_text.proofs.put_path.Goals as goal

pub put_best-made-requires : goal.put_best-made-requires
put_best-made-requires c =
    let b = c.best_right_neighbor_edge-best.ensures c.requires.1.count c.requires.1.laid.stands in (
      c.loop-p.invariant.1,
      best-read c.args.line.now c.args.slots.now c.args.room.now c.requires.1.count c.loop-p.p c.requires.1.laid.read (omega (arith, c.requires.1.sized))
          c.best_right_neighbor_edge-best.result b.1 (b.0 c.args.room.now),
    )

pub loop-p-smaller : goal.loop-p-smaller
loop-p-smaller c =
    let room = c.args.room.now in
    let best = c.best_right_neighbor_edge-best.ensures c.requires.1.count c.requires.1.laid.stands in
    let f = step_ahead (end_of c.args.starts.now) (edges_of room c.requires.1.count c.args.slots.now) (c.requires.1.laid.stands.ahead room) c.loop-p.p c.next_from-p.result
    (best_means room c.args.slots.now c.best_right_neighbor_edge-best.result) (best.0 room) (c.next_from-p.ensures.0 room) (omega arith) in
    omega (arith, f.0, f.1)

pub loop-p-preserved : goal.loop-p-preserved
loop-p-preserved c =
    let slots = c.args.slots.now in
    let room = c.args.room.now in
    let n = end_of c.args.starts.now in
    let bytes = c.put_best-made.new.bytes in
    let inside = c.loop-p-test.true in
    let goes : (count : ℕ) → Stands slots c.args.starts.now count → (c.loop-p.p < c.next_from-p.result) × (c.next_from-p.result ≤ n) = λ count s.
    let best = c.best_right_neighbor_edge-best.ensures count s in
    step_ahead n (edges_of room count slots) (s.ahead room) c.loop-p.p c.next_from-p.result (best_means room slots c.best_right_neighbor_edge-best.result) (best.0 room) (c.next_from-p.ensures.0 room) (omega (arith, inside)) in (
      λ w t count told g h s r.
          let es = edges_of room count slots in
          let best = c.best_right_neighbor_edge-best.ensures count s in
          let f = goes count s in
          let o = best_means room slots c.best_right_neighbor_edge-best.result in
          subst (λ (rest : List Edge). Walked (kinds w) c.args.number bytes c.put_best-made.result rest (t ++ shaped c.args.number (joined (path_from n 0 es))))
          (path-same n es (s.ahead room) (n - c.loop-p.p - 1) (n - c.next_from-p.result) c.next_from-p.result (omega (arith, f.0)) (omega arith))
          (walked_on es o (n - c.loop-p.p - 1) c.loop-p.p c.next_from-p.result
          (subst (λ (k : ℕ). Walked (kinds w) c.args.number c.loop-p.bytes c.loop-p.made (path_from k c.loop-p.p es) (t ++ shaped c.args.number (joined (path_from n 0 es)))) {x = n - c.loop-p.p} {y = suc (n - c.loop-p.p - 1)}
          (omega arith) (c.loop-p.invariant.0 w t count told g h s r))
          (best.0 room) (c.next_from-p.ensures.0 room) bytes c.put_best-made.result (λ v k. c.put_best-made.ensures.0 w v told g k (best-ruled w.text es c.loop-p.p o r (best.0 room)))),
      c.put_best-made.ensures.1,
      (goes c.requires.1.count c.requires.1.laid.stands).1,
    )

pub returns : goal.returns
unfolding path_from
returns c =
    let n = end_of c.args.starts.now in (
      λ w t count told g h s r.
          walked-over (subst (λ (k : ℕ). Walked (kinds w) c.args.number c.loop-p.bytes c.loop-p.made (path_from k c.loop-p.p (edges_of c.args.room.now count c.args.slots.now))
          (t ++ shaped c.args.number (joined (path_from n 0 (edges_of c.args.room.now count c.args.slots.now))))) {x = n - c.loop-p.p} {y = 0} (omega arith)
          (c.loop-p.invariant.0 w t count told g h s r)),
      c.loop-p.invariant.1,
    )
