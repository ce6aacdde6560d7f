-- `rule_table::starts_with`: what is left of both answers as the whole does.
use mathlib.Core.Path.{◌≡◌, refl, ap, ◌∙◌}
use mathlib.Core.List.{List}
use Prim.Native.Nat.{ℕ, ◌+◌, ◌-◌, ◌*◌}
use native.Mathlib.Omega.{arith}
use lib.ListN.{drop}
use Rattle.base.specs.Lists.{starts}
use Rattle.base.specs.Rows.{counted}
use Rattle.definition.specs.RuleRows.{three_at, source_count, rule_source}
use Rattle.definition.specs.There.{three-there}
use Rattle.rule_table.specs.Starts.{text-over, source-over, another, same_letter}
use Rattle.rule_table.proofs.starts_with.Goals as goal

-- the same left, from the same place
at_place : (s w : List ℕ) (n m o p : ℕ) → n ≡ m → o ≡ p
    → starts w (counted three_at 3 n (drop o s)) ≡ starts w (counted three_at 3 m (drop p s))
at_place s w n m o p e f = ap (λ i. starts w (counted three_at 3 i (drop o s))) e ∙ ap (λ i. starts w (counted three_at 3 m (drop i s))) f

pub loop-i-init : goal.loop-i-init
unfolding rule_source
loop-i-init c =
    let s = drop c.args.row c.args.rules.now in
    at_place s c.args.w.now (c.source_len-count.result - 0) (source_count s) (6 + 3 * 0) 6 (omega (arith, c.source_len-count.ensures.0)) (omega arith)

pub returns-then-count-i : goal.returns-then-count-i
returns-then-count-i c =
    let s = drop c.args.row c.args.rules.now in
    let i = c.loop-i.i in
    source-over s c.args.w.now (c.source_len-count.result - i) (6 + 3 * i) i (omega arith) (omega arith) ∙ c.loop-i.invariant

pub returns-then-three-w : goal.returns-then-three-w
returns-then-three-w c =
    let s = drop c.args.row c.args.rules.now in
    let i = c.loop-i.i in
    another s c.args.w.now (c.source_len-count.result - i) (6 + 3 * i) i (omega arith) (omega arith) _ _
    (c.three.ensures.0 ∙ three-there s (6 + 3 * i)) refl (λ e. omega arith) ∙ c.loop-i.invariant

pub loop-i-preserved : goal.loop-i-preserved
loop-i-preserved c =
    let s = drop c.args.row c.args.rules.now in
    let i = c.loop-i.i in
    let left = c.source_len-count.result - i in
    at_place s (drop (i + 1) c.args.w.now) _ (left - 1) _ (6 + 3 * i + 3) (omega arith) (omega arith)
    ∙ same_letter s c.args.w.now left (6 + 3 * i) i (omega arith) (omega arith) _ _
    (c.three.ensures.0 ∙ three-there s (6 + 3 * i)) refl (omega arith) ∙ c.loop-i.invariant

pub returns : goal.returns
returns c =
    let s = drop c.args.row c.args.rules.now in
    let i = c.loop-i.i in
    text-over s c.args.w.now (c.source_len-count.result - i) (6 + 3 * i) i (omega arith) ∙ c.loop-i.invariant
