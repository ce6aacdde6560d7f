-- `rule_row_test::asked_from`: the first character is known to be right, or not.
use native.Mathlib.Omega.{arith}
use lib.ListN.{drop}
use Rattle.rule_row_test.specs.Fields.{from_second}
use Rattle.rule_row_test.proofs.asked_from.Goals as goal

pub returns-then-three_there-lt55296 : goal.returns-then-three_there-lt55296
returns-then-three_there-lt55296 c =
    let a = c.args in
    from_second (drop a.row a.s.now) a.row _ c.three_there.ensures.0 (omega arith)
