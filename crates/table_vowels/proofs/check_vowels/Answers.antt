-- `table_vowels::check_vowels`: the first fault from the row at `at` on is the table's.
use Prim.Native.Nat.{◌+◌, ◌-◌}
use mathlib.Core.Path.{sym, ◌∙◌, refl}
use native.Mathlib.Omega.{arith}
use Rattle.definition.specs.VowelRows.{vowel_size, vowel_next, vowel_right, vowel_fault}
use Rattle.definition.specs.Accepted.{vowel_moves}
use Rattle.table_blocks.specs.Faults.{table_means}
use Rattle.definition.specs.Checking.{started, no_header, over, next, spent, wrong}
use Rattle.table_vowels.proofs.check_vowels.Goals as goal
use Rattle.table_vowels.proofs.check_vowels.Goals.{then-left-eq0-via-then-left-eq0, then-left-eq0-via-else-left-eq0+then-not-vowel_right}

pub returns-then-not-headed : goal.returns-then-not-headed
unfolding table_means vowel_fault
returns-then-not-headed c =
    no_header vowel_size vowel_next vowel_right 127 1 c.args.vowels.now
    (sym c.if-not-headed.true ∙ c.headed.ensures)

pub loop-at-init : goal.loop-at-init
unfolding vowel_fault
loop-at-init c =
    started vowel_size vowel_next vowel_right 127 1 c.args.vowels.now
    (sym c.if-not-headed.false ∙ c.headed.ensures)

pub returns-then-left-eq0 : goal.returns-then-left-eq0
unfolding table_means
returns-then-left-eq0 c =
    let l = c.loop-at in
    let b = c.args.vowels.now in
    elim c.then-left-eq0.branch [
      | then-left-eq0-via-then-left-eq0 w ↦
          spent vowel_size vowel_next vowel_right vowel_moves b l.at l.left l.low (omega arith) (omega arith) ∙ l.invariant
      | then-left-eq0-via-else-left-eq0+then-not-vowel_right w ↦
          wrong vowel_size vowel_next vowel_right vowel_moves b l.at l.left l.low (omega arith)
          (sym w.if-not-vowel_right.true ∙ w.vowel_right.ensures) ∙ l.invariant
    ]

pub loop-at-preserved : goal.loop-at-preserved
unfolding vowel_size vowel_next
loop-at-preserved c =
    let l = c.loop-at in
    next vowel_size vowel_next vowel_right vowel_moves c.args.vowels.now l.at l.left l.low
    (omega arith) (omega arith)
    (sym c.if-not-vowel_right.false ∙ c.vowel_right.ensures)
    (l.at + (3 + c.at.result)) (l.left - 1) (c.at-low.result + 1)
    (omega arith) refl (omega arith) ∙ l.invariant

pub returns : goal.returns
unfolding table_means
returns c =
    let l = c.loop-at in
    over vowel_size vowel_next vowel_right vowel_moves c.args.vowels.now l.at l.left l.low (omega arith)
    ∙ l.invariant
