-- `standing::best_right_neighbor_edge`: of the stretch, or else the fallback.
use mathlib.Core.List.{List}
use mathlib.Core.Option.{Option}
use mathlib.Core.Path.{◌≡◌, refl, ap, ◌∙◌, subst}
use Prim.Native.Nat.{ℕ, ◌+◌, ◌-◌, ◌*◌, ◌<◌}
use native.Mathlib.Omega.{arith}
use lib.ListN.{length, drop}
use Rattle.std.specs.Prelude.{Some, None}
use Rattle.std.specs.Option.{option_or}
use Rattle.base.specs.Lists.{best}
use Rattle.definition.specs.Limits.{slot_bytes}
use Rattle.definition.specs.Edges.{Edge, starting}
use Rattle.edge.specs.Slots.{edges_of}
use Rattle.edge.specs.Best.{BestEdge, best_means, Found}
use Rattle.standing.specs.declared.Stretch.{Stretch}
use Rattle.standing.specs.Starts.{stretch_of, fallback_of}
use Rattle.standing.specs.Stands.{Stands, stretch-within}
use Rattle.standing.specs.Right.{longer, RightBest, found-wide, fallback_found, right-single, right_near}
use Rattle.standing.proofs.best_right_neighbor_edge.Goals as goal

-- the best of a stretch
abbrev best-in : List ℕ → List ℕ → ℕ → Stretch → Option Edge
best-in room slots p s = best longer (starting (edges_of room (s.end - s.first) (drop (s.first * slot_bytes) slots)) p)

pub best_within-requires : goal.best_within-requires
best_within-requires c =
    let stands = c.requires.0.1 in
    let w = stretch-within c.args.slots.now c.args.starts.now c.requires.0.0 stands c.args.p c.requires.1 in
    let e = ap (λ (s : Stretch). s.end) c.stretch_at.ensures in
    omega (arith, w.1, stands.slot, e)

module _ (S T : List ℕ) (p : ℕ) (l : p + 1 < length T) (count : ℕ) (stands : Stands S T count) where
  -- what was found in the stretch, or else the fallback
  of-both : (b : BestEdge) → ((room : List ℕ) → best_means room S b ≡ best-in room S p (stretch_of T p)) → Found (stretch_of T p).end b
      → RightBest S count p (option_or b (fallback_of T p))
  of-both None e f = (λ room. right-single S T count stands p l room None (e room) refl, fallback_found S T count stands p l)
  of-both (Some o) e f = (
    λ room. right_near S T count stands p l room (Some o) (e room) o refl,
    found-wide (stretch_of T p).end count (stretch-within S T count stands p l).1 (Some o) f,
  )

pub returns : goal.returns
returns c =
    let S = c.args.slots.now in
    let T = c.args.starts.now in
    let s = c.stretch_at.ensures in
    let b = c.best_within.result in
    λ count stands. rw (c.or.ensures, c.fallback.ensures)
    (of-both S T c.args.p c.requires.1 count stands b (λ room. c.best_within.ensures.0 room ∙ ap (best-in room S c.args.p) s)
    (subst (λ (x : Stretch). Found x.end b) s c.best_within.ensures.1))
