-- `rule_row_faults::walk_row`: a row that the table holds, or not.
use native.Mathlib.Omega.{arith}
use lib.ListN.{drop, length-drop}
use Rattle.definition.specs.RuleRows.{rule_size}
use Rattle.rule_row_faults.proofs.Chains.{row_past, row_read}
use Rattle.rule_row_faults.proofs.walk_row.Goals as goal

pub returns-then-rules-row : goal.returns-then-rules-row
returns-then-rules-row c =
    let a = c in
    let s = drop a.args.row a.args.rules.now in
    let l = length-drop a.args.row a.args.rules.now in
    row_past s _ c.size-z.ensures.0 (omega arith)

pub read_parts-requires : goal.read_parts-requires
unfolding rule_size
read_parts-requires c =
    let a = c.args in
    let l = length-drop a.row a.rules.now in
    (omega arith, omega arith, omega arith)

pub returns : goal.returns
returns c =
    let i = c in
    let a = i.args in
    let l = length-drop a.row a.rules.now in
    row_read (drop a.row a.rules.now) _ i.size-z.ensures.0 (omega arith) _ c.read_parts.ensures
