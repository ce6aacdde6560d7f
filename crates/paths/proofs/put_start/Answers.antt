-- `paths::put_start`: the stretch's edges, then the fallback, are all that start there.
use mathlib.Core.Path.{sym, ap, subst}
use native.Mathlib.Omega.{arith}
use Rattle.edge.specs.Best.{Found}
use Rattle.standing.specs.declared.Stretch.{Stretch}
use Rattle.standing.specs.Starts.{end_of}
use Rattle.standing.specs.Stands.{stretch_on, stretch-within}
use Rattle.standing.specs.Right.{fallback_found}
use Rattle.paths.specs.Nearby.{readable_near}
use Rattle.paths.proofs.Turns.{start_on}
use Rattle.paths.proofs.put_start.Goals as goal

pub slots_from-near-requires : goal.slots_from-near-requires
slots_from-near-requires c =
    let w = stretch-within c.args.slots.now c.args.starts.now c.args.count c.requires.0.stands c.args.p c.requires.2 in
    let e = ap (λ (s : Stretch). s.first) c.stretch_at-within.ensures in
    omega (arith, w.0, c.requires.0.stands.slot, e)

pub overflow_sub-within : goal.overflow_sub-within
overflow_sub-within c =
    let o = stretch_on c.args.slots.now c.args.starts.now c.args.count c.requires.0.stands c.args.p c.requires.2 in
    let e = ap (λ (s : Stretch). s.first) c.stretch_at-within.ensures in
    let f = ap (λ (s : Stretch). s.end) c.stretch_at-within.ensures in
    omega (arith, o, e, f)

pub put_longer-end-requires : goal.put_longer-end-requires
put_longer-end-requires c =
    let S = c.args.slots.now in
    let T = c.args.starts.now in
    let o = stretch_on S T c.args.count c.requires.0.stands c.args.p c.requires.2 in
    let w = stretch-within S T c.args.count c.requires.0.stands c.args.p c.requires.2 in
    let x = c.stretch_at-within.result in
    let e = ap (λ (s : Stretch). s.first) c.stretch_at-within.ensures in
    let f = ap (λ (s : Stretch). s.end) c.stretch_at-within.ensures in (
      readable_near S c.args.room.now _ c.args.count x.first x.end c.slots_from-near.ensures (omega (arith, o, e, f)) (omega (arith, w.1, f)) c.requires.0.read,
      omega (arith, w.1, f, c.requires.1),
      omega (arith, c.requires.0.short),
      omega (arith, c.requires.2),
      omega (arith, c.requires.3),
    )

pub put_best-requires : goal.put_best-requires
put_best-requires c =
    let f = fallback_found c.args.slots.now c.args.starts.now c.args.count c.requires.0.stands c.args.p c.requires.2 in
    (c.requires.0.read, subst (Found c.args.count) (sym c.fallback-single.ensures) f, omega (arith, c.put_longer-end.ensures.1, c.requires.3))

pub returns : goal.returns
returns c = (
  start_on c.args.slots.now c.args.starts.now c.args.count c.requires.0.stands c.args.p c.requires.2 c.args.room.now (end_of c.args.starts.now) (omega (arith, c.requires.2))
      _ c.stretch_at-within.result c.stretch_at-within.ensures c.slots_from-near.ensures _ c.fallback-single.ensures
      (c.args.at, c.args.out.now) (c.put_longer-end.result, c.put_longer-end.new.out) _ c.put_longer-end.ensures.0 c.put_best.ensures.0,
  omega (arith, c.put_best.ensures.1, c.put_longer-end.ensures.1),
)
