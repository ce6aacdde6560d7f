-- `rule_row::text`: within the table, since the row has it.
use native.Mathlib.Omega.{arith}
use Rattle.rule_row.proofs.Texts.{reach, part}
use Rattle.rule_row.proofs.text.Goals as goal

pub overflow_add-from-2 : goal.overflow_add-from-2
overflow_add-from-2 c =
    let h = reach c.args.rules.now c.args.row c.args.o _ c.at-n.ensures.0 c.requires in
    omega arith

pub overflow_add-to : goal.overflow_add-to
overflow_add-to c =
    let h = reach c.args.rules.now c.args.row c.args.o _ c.at-n.ensures.0 c.requires in
    omega arith

pub slice_bounds-result-end : goal.slice_bounds-result-end
slice_bounds-result-end c =
    let h = reach c.args.rules.now c.args.row c.args.o _ c.at-n.ensures.0 c.requires in
    omega arith

pub returns : goal.returns
returns c = part c.args.rules.now c.args.row c.args.o _ c.at-n.ensures.0
