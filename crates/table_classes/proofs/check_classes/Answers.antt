-- `table_classes::check_classes`: the first fault from the row at `at` on is the table's.
use mathlib.Core.Path.{sym, ◌∙◌, ◌≡◌, refl}
use mathlib.Core.Bool.{true}
use native.Mathlib.Omega.{arith}
use lib.ListN.{length-drop, drop}
use Rattle.definition.specs.Accepted.{class_moves}
use Rattle.definition.specs.Checked.{class-checked}
use Rattle.definition.specs.Limits.{most_rows}
use Rattle.definition.specs.ClassRows.{class_size, class_next, class_right, class_fault}
use Rattle.table_blocks.specs.Faults.{table_means}
use Rattle.definition.specs.Checking.{started, no_header, over, next, spent, wrong}
use Rattle.table_classes.proofs.check_classes.Goals as goal
use Rattle.table_classes.proofs.check_classes.Goals.{then-left-eq0-via-then-left-eq0, then-left-eq0-via-else-left-eq0+then-not-class_right}

pub returns-then-not-headed : goal.returns-then-not-headed
unfolding table_means class_fault
returns-then-not-headed c =
    no_header class_size class_next class_right most_rows 0 c.args.classes.now
    (sym c.if-not-headed.true ∙ c.headed.ensures)

pub loop-walk-init : goal.loop-walk-init
unfolding class_fault
loop-walk-init c =
    started class_size class_next class_right most_rows 0 c.args.classes.now
    (sym c.if-not-headed.false ∙ c.headed.ensures)

pub returns-then-left-eq0 : goal.returns-then-left-eq0
unfolding table_means
returns-then-left-eq0 c =
    let w = c.loop-walk.walk in
    let b = c.args.classes.now in
    elim c.then-left-eq0.branch [
      | then-left-eq0-via-then-left-eq0 x ↦
          spent class_size class_next class_right class_moves b w.at w.left w.low (omega arith) (omega arith) ∙ c.loop-walk.invariant
      | then-left-eq0-via-else-left-eq0+then-not-class_right x ↦
          wrong class_size class_next class_right class_moves b w.at w.left w.low (omega arith)
          (sym x.if-not-class_right.true ∙ x.class_right.ensures) ∙ c.loop-walk.invariant
    ]

pub plain_classes-walk-requires : goal.plain_classes-walk-requires
plain_classes-walk-requires c =
    let w = c.loop-walk.walk in
    let b = c.args.classes.now in
    let e : class_right w.low (drop w.at b) ≡ true = sym c.class_right.ensures ∙ c.if-not-class_right.false in
    omega (arith, (class-checked w.low (drop w.at b) e).inside, length-drop w.at b)

pub loop-walk-preserved : goal.loop-walk-preserved
unfolding class_size class_next
loop-walk-preserved c =
    let w = c.loop-walk.walk in
    c.plain_classes-walk.ensures.0
    ∙ next class_size class_next class_right class_moves c.args.classes.now w.at w.left w.low
    (omega arith) (omega arith)
    (sym c.if-not-class_right.false ∙ c.class_right.ensures) _ _ _ refl refl (omega (arith, c.three.ensures.0))
    ∙ c.loop-walk.invariant

pub returns : goal.returns
unfolding table_means
returns c =
    let w = c.loop-walk.walk in
    over class_size class_next class_right class_moves c.args.classes.now w.at w.left w.low (omega arith)
    ∙ c.loop-walk.invariant
