-- `romanize::say_rules`: a table has no more right rows than it may have, so that the row behind them is counted.
use native.Mathlib.Omega.{arith}
use Rattle.rule_reader.specs.Laws.{few_rows}
use Rattle.romanize.proofs.say_rules.Goals as goal

pub say_fault-requires : goal.say_fault-requires
say_fault-requires g c =
    let n = c.walk_rules-walked.ensures.1 in
    omega (arith, few_rows c.args.rules.now, n)
