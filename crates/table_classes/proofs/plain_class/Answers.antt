-- `table_classes::plain_class`: where each test passes.
use native.Mathlib.Omega.{arith}
use lib.ListN.{drop, length-drop}
use Rattle.table_classes.specs.Plain.{told}
use Rattle.table_classes.proofs.plain_class.Goals as goal

pub returns : goal.returns
returns c =
    let h = c in
    let e = h.three-c.ensures.0 in
    let a = h.args in
    told (drop a.row a.classes.now) a.low (omega (arith, length-drop a.row a.classes.now))
    (omega (arith, e)) (omega (arith, e)) (omega (arith, e))
    (omega (arith, c.at.ensures.0)) (omega (arith, c.at-else-at-gt7.ensures.0)) h.three-c.result e
