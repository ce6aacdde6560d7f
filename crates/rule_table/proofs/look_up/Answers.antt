-- `rule_table::look_up`: those counted and those still to come are all that are equal, and nothing longer was passed.
use mathlib.Core.Path.{sym, ap, ◌∙◌}
use Prim.Native.Nat.{◌+◌}
use native.Mathlib.Omega.{arith}
use lib.ListN.{drop}
use Rattle.definition.specs.RuleTurns.{rule_moves}
use Rattle.rule_table.specs.Index.{offsets_from}
use Rattle.rule_table.specs.Seek.{run, equal_rows, run-over, run_on, run_ends}
use Rattle.rule_table.specs.Longer.{passed_first, passed-next, passed_here, passed_over}
use Rattle.rule_table.proofs.look_up.Goals as goal

pub loop-at-init : goal.loop-at-init
unfolding equal_rows
loop-at-init c =
    let k = c in
    let a = k.args in
    let e = ap (λ f. run a.rules.now a.w.now (offsets_from a.rules.now f)) c.seek-first.ensures in
    (omega (arith, e), omega arith, passed_first a.rules.now a.w.now k.requires.accepted _ c.seek-first.ensures)

pub loop-at-smaller : goal.loop-at-smaller
loop-at-smaller c = let l = c in omega (arith, rule_moves (drop l.loop-at.at ((l.args.rules.now))))

pub loop-at-preserved : goal.loop-at-preserved
loop-at-preserved c =
    let l = c in
    let e = ap (λ z. run ((l.args.rules.now)) ((l.args.w.now)) (offsets_from ((l.args.rules.now)) (l.loop-at.at + z))) c.size-at.ensures.0 in
    let r = run_on ((l.args.rules.now)) ((l.args.w.now)) l.loop-at.at (omega arith) (sym c.is_equal.ensures ∙ c.if-not-is_equal.false) in (
      omega (arith, e, r, l.loop-at.invariant.0),
      omega (arith, rule_moves (drop l.loop-at.at ((l.args.rules.now))), l.loop-at.invariant.1),
      passed-next ((l.args.rules.now)) ((l.args.w.now)) l.loop-at.at l.loop-at.invariant.2 (omega arith) (sym c.is_equal.ensures ∙ c.if-not-is_equal.false) _ c.size-at.ensures.0,
    )

pub returns-then-not-is_equal : goal.returns-then-not-is_equal
returns-then-not-is_equal c =
    let l = c in
    let i = sym c.is_equal.ensures ∙ c.if-not-is_equal.true in
    let r = run_ends ((l.args.rules.now)) ((l.args.w.now)) l.loop-at.at (omega arith) i in (
      l.seek-first.ensures,
      omega (arith, r, l.loop-at.invariant.0),
      c.starts_with-more.ensures ∙ passed_here ((l.args.rules.now)) ((l.args.w.now)) l.loop-at.at l.loop-at.invariant.2 (omega arith) i,
    )

pub returns : goal.returns
returns c =
    let l = c in
    let r = run-over ((l.args.rules.now)) ((l.args.w.now)) l.loop-at.at (omega arith) in
    (l.seek-first.ensures, omega (arith, r, l.loop-at.invariant.0), passed_over ((l.args.rules.now)) ((l.args.w.now)) l.loop-at.at l.loop-at.invariant.2 (omega arith))
