-- `rule_table::compare_source`: what is left of both stands as the whole does.
use mathlib.Core.Path.{◌≡◌, refl, ap, ◌∙◌}
use mathlib.Core.List.{List}
use Prim.Native.Nat.{ℕ, ◌+◌, ◌-◌, ◌*◌}
use native.Mathlib.Omega.{arith}
use lib.ListN.{drop}
use Rattle.base.specs.Rows.{counted}
use Rattle.definition.specs.RuleRows.{three_at, source_count, rule_source}
use Rattle.definition.specs.There.{three-there}
use Rattle.rule_table.specs.Order.{compared, source-longer, text-longer, both_end, lower, higher, same_character}
use Rattle.rule_table.proofs.compare_source.Goals as goal

-- the same left, from the same place
at_place : (s w : List ℕ) (n m o p : ℕ) → n ≡ m → o ≡ p
    → compared (counted three_at 3 n (drop o s)) w ≡ compared (counted three_at 3 m (drop p s)) w
at_place s w n m o p e f = ap (λ i. compared (counted three_at 3 i (drop o s)) w) e ∙ ap (λ i. compared (counted three_at 3 m (drop i s)) w) f

pub loop-i-init : goal.loop-i-init
unfolding rule_source
loop-i-init c =
    let s = drop c.args.row c.args.rules.now in
    at_place s c.args.w.now (c.source_len-count.result - 0) (source_count s) (6 + 3 * 0) 6 (omega (arith, c.source_len-count.ensures.0)) (omega arith)

pub returns-then-w-i : goal.returns-then-w-i
returns-then-w-i c =
    let s = drop c.args.row c.args.rules.now in
    let i = c.loop-i.i in
    let left = c.source_len-count.result - i in
    source-longer s c.args.w.now left (6 + 3 * i) i (omega arith) (omega arith) ∙ c.loop-i.invariant

pub returns-then-c-d : goal.returns-then-c-d
returns-then-c-d c =
    let s = drop c.args.row c.args.rules.now in
    let i = c.loop-i.i in
    let left = c.source_len-count.result - i in
    lower s c.args.w.now left (6 + 3 * i) i (omega arith) (omega arith)
    _ _ (c.three-c.ensures.0 ∙ three-there s (6 + 3 * i)) refl (omega arith) ∙ c.loop-i.invariant

pub returns-then-d-c : goal.returns-then-d-c
returns-then-d-c c =
    let s = drop c.args.row c.args.rules.now in
    let i = c.loop-i.i in
    let left = c.source_len-count.result - i in
    higher s c.args.w.now left (6 + 3 * i) i (omega arith) (omega arith)
    _ _ (c.three-c.ensures.0 ∙ three-there s (6 + 3 * i)) refl (omega arith) ∙ c.loop-i.invariant

pub loop-i-preserved : goal.loop-i-preserved
loop-i-preserved c =
    let s = drop c.args.row c.args.rules.now in
    let i = c.loop-i.i in
    let left = c.source_len-count.result - i in
    at_place s (drop (i + 1) c.args.w.now) _ (left - 1) _ (6 + 3 * i + 3) (omega arith) (omega arith)
    ∙ same_character s c.args.w.now left (6 + 3 * i) i (omega arith) (omega arith)
    _ _ (c.three-c.ensures.0 ∙ three-there s (6 + 3 * i)) refl (omega arith, omega arith) ∙ c.loop-i.invariant

pub returns-then-count-w : goal.returns-then-count-w
returns-then-count-w c =
    let s = drop c.args.row c.args.rules.now in
    let i = c.loop-i.i in
    let left = c.source_len-count.result - i in
    text-longer s c.args.w.now left (6 + 3 * i) i (omega arith) (omega arith) ∙ c.loop-i.invariant

pub returns-else-count-w : goal.returns-else-count-w
returns-else-count-w c =
    let s = drop c.args.row c.args.rules.now in
    let i = c.loop-i.i in
    let left = c.source_len-count.result - i in
    both_end s c.args.w.now left (6 + 3 * i) i (omega arith) (omega arith) ∙ c.loop-i.invariant
