-- `rule_table::past_lower`: from each row on the search ends where it ended from the first.
use mathlib.Core.Path.{refl, sym, ap, ◌∙◌}
use Prim.Native.Nat.{◌+◌}
use native.Mathlib.Omega.{arith}
use lib.ListN.{drop}
use Rattle.definition.specs.RuleTurns.{rule_moves}
use Rattle.rule_table.specs.Index.{offsets_from}
use Rattle.rule_table.specs.Order.{first-lower}
use Rattle.rule_table.specs.Seek.{is_below, order_at, seek, seek-past}
use Rattle.rule_table.proofs.past_lower.Goals as goal

pub loop-at-smaller : goal.loop-at-smaller
loop-at-smaller c =
    let l = c in
    let a = l.args in
    omega (arith, rule_moves (drop l.loop-at.at a.rules.now))

pub loop-at-preserved : goal.loop-at-preserved
unfolding is_below order_at
loop-at-preserved c =
    let l = c in
    let a = c.args in
    let b = a.rules.now in
    let row = drop l.loop-at.at b in
    let e = ap is_below (sym (first-lower row a.w.now _ _ c.in-Some.ensures (omega arith) refl (omega arith))) in
    ap (λ z. seek b a.w.now (offsets_from b (l.loop-at.at + z))) c.size-at.ensures.0
    ∙ seek-past b a.w.now l.loop-at.at (omega arith) e ∙ l.loop-at.invariant
