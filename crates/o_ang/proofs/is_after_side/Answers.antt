-- `o_ang::is_after_side`: the walk goes on from where it has come to as from its start, and ends where the definition's does.
use mathlib.Core.Path.{sym, ap, ◌∙◌, subst}
use Prim.Native.Nat.{ℕ, ◌-◌, ◌≤◌}
use native.Mathlib.Omega.{arith}
use borrow.Author.Tests.{ltb-true, ltb-false}
use Rattle.definition.specs.Expansion.{walk_start}
use Rattle.edge_places.specs.Entry.{side_in}
use Rattle.edge_places.specs.Behind.{spoken_in, step_in, step_some, Walked, walked_on, walked_stops, walked_start}
use Rattle.words.specs.Given.{line-size}
use Rattle.words.specs.Choosing.{choices_of}
use Rattle.definition.proofs.OAng.{walk_same}
use Rattle.o_ang.proofs.is_after_side.Goals as goal

pub returns-then-ends_between : goal.returns-then-ends_between
returns-then-ends_between c =
    let k = choices_of c.args.choices in
    λ x h.
    let z = line-size h.text in
    let i = c.loop-at.invariant.0 x h in
    let e = ltb-true (c.loop-at.at - 1) (walk_start k x.text c.loop-at.clear) (sym (c.ends_between.ensures x h.text) ∙ c.if-ends_between.true) in
    walked_start h.edges (omega (arith, c.loop-at.invariant.1, c.loop-at.invariant.2, c.requires)) i.0 (omega (arith, e, i.1))

pub returns-then-is_spoken : goal.returns-then-is_spoken
returns-then-is_spoken c =
    let e = c.entry-x.ensures in
    let k = choices_of c.args.choices in
    λ x h.
    let z = line-size h.text in
    let i = c.loop-at.invariant.0 x h in
    let f = ltb-false (c.loop-at.at - 1) (walk_start k x.text c.loop-at.clear) (sym (c.ends_between.ensures x h.text) ∙ c.if-ends_between.false) in
    c.is_side.ensures ∙ ap side_in e ∙ walked_stops h.edges (omega (arith, c.loop-at.invariant.1, c.loop-at.invariant.2, c.requires)) i.0 (omega (arith, f, i.1))
    (sym (ap spoken_in e) ∙ sym c.is_spoken.ensures ∙ c.if-is_spoken.true)

pub loop-at-smaller : goal.loop-at-smaller
loop-at-smaller c = omega (arith, c.step_back-at.ensures, step_some c.entry-x.result)

pub loop-at-preserved : goal.loop-at-preserved
loop-at-preserved c =
    let at = c.loop-at.at in
    let e = c.entry-x.ensures in
    let k = choices_of c.args.choices in (
      (λ x h.
          let z = line-size h.text in
          let i = c.loop-at.invariant.0 x h in
          let f = ltb-false (c.loop-at.at - 1) (walk_start k x.text c.loop-at.clear) (sym (c.ends_between.ensures x h.text) ∙ c.if-ends_between.false) in
          let n : at - 1 ≤ c.args.p = omega (arith, c.loop-at.invariant.1, c.loop-at.invariant.2) in (
            subst (Walked x.edges (walk_start k x.text c.args.p) c.args.p) (sym (c.step_back-at.ensures ∙ ap (λ (y : ℕ). at - step_in y) e))
                (walked_on h.edges (omega (arith, c.loop-at.invariant.1, c.loop-at.invariant.2, c.requires)) i.0 (omega (arith, f, i.1))
                (sym (ap spoken_in e) ∙ sym c.is_spoken.ensures ∙ c.if-is_spoken.false)),
            walk_same k x.text (at - 1) c.args.p n (omega (arith, f, i.1)),
          )),
      omega (arith, c.step_back-at.ensures, step_some c.entry-x.result),
      omega (arith, c.loop-at.invariant.1, c.loop-at.invariant.2),
    )

pub returns : goal.returns
returns c =
    λ x h. walked_start h.edges (omega arith) (c.loop-at.invariant.0 x h).0 (omega arith)
