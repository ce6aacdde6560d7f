-- `rule_table::is_entry_below`: a first character that differs settles it; else they are compared one by one.
use mathlib.Core.Path.{refl, ap, ◌∙◌}
use native.Mathlib.Omega.{arith}
use lib.ListN.{get_or, drop}
use Rattle.rule_table.specs.Order.{first-lower, first-higher}
use Rattle.rule_table.specs.Seek.{is_below, order_at}
use Rattle.rule_table.specs.Entries.{entry_none, entry_some}
use Rattle.rule_table.proofs.is_entry_below.Goals as goal

pub returns-then-at-eq0 : goal.returns-then-at-eq0
returns-then-at-eq0 c =
    let a = c.args in
    entry_none a.rules.now a.w.now (get_or a.index.now a.k 0) (omega arith)

pub returns-then-first-sought : goal.returns-then-first-sought
unfolding is_below order_at
returns-then-first-sought c =
    let a = c.args in
    let at = get_or a.index.now a.k 0 in
    ap is_below (first-lower (drop at a.rules.now) a.w.now _ _ c.in-Some.ensures (omega arith) refl (omega arith))
    ∙ entry_some a.rules.now a.w.now at (λ e. omega arith)

pub returns-then-sought-first : goal.returns-then-sought-first
unfolding is_below order_at
returns-then-sought-first c =
    let a = c.args in
    let at = get_or a.index.now a.k 0 in
    ap is_below (first-higher (drop at a.rules.now) a.w.now _ _ c.in-Some.ensures (omega arith) refl (omega arith))
    ∙ entry_some a.rules.now a.w.now at (λ e. omega arith)

pub returns : goal.returns
returns c =
    let a = c.args in
    c.is_below.ensures ∙ entry_some a.rules.now a.w.now (get_or a.index.now a.k 0) (λ e. omega arith)
