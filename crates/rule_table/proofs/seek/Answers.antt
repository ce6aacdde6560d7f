-- `rule_table::seek`: from each row on the search ends where the whole ends.
use mathlib.Core.Path.{sym, ap, ◌∙◌}
use Prim.Native.Nat.{◌+◌}
use native.Mathlib.Omega.{arith}
use lib.ListN.{drop}
use Rattle.definition.specs.RuleTurns.{rule_moves}
use Rattle.rule_table.specs.Index.{offsets_from}
use Rattle.rule_table.specs.Seek.{seek, seek-over, seek-past, seek-here}
use Rattle.rule_table.proofs.seek.Goals as goal

pub loop-at-smaller : goal.loop-at-smaller
loop-at-smaller c = let l = c in omega (arith, rule_moves (drop l.loop-at.at ((((l)).args.rules.now))))

pub loop-at-preserved : goal.loop-at-preserved
loop-at-preserved c = let l = c in
    ap (λ z. seek ((((l)).args.rules.now)) ((((l)).args.w.now)) (offsets_from ((((l)).args.rules.now)) (l.loop-at.at + z))) c.size-at.ensures.0
    ∙ seek-past ((((l)).args.rules.now)) ((((l)).args.w.now)) l.loop-at.at (omega arith) (sym c.is_below.ensures ∙ c.if-not-is_below.false) ∙ l.loop-at.invariant

pub returns-then-not-is_below : goal.returns-then-not-is_below
returns-then-not-is_below c = let l = c in
    seek-here ((((l)).args.rules.now)) ((((l)).args.w.now)) l.loop-at.at (omega arith) (sym c.is_below.ensures ∙ c.if-not-is_below.true) ∙ l.loop-at.invariant

pub returns : goal.returns
returns c = let l = c in
    seek-over ((((l)).args.rules.now)) ((((l)).args.w.now)) l.loop-at.at (omega arith) ∙ l.loop-at.invariant
