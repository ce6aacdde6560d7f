-- `rule_row_test::all_codes`: what is left from `at` on says what the whole does.
use mathlib.Core.Path.{sym, ◌∙◌}
use native.Mathlib.Omega.{arith}
use Rattle.base.specs.Lists.{all}
use Rattle.definition.specs.Blocks.{small}
use Rattle.definition.specs.RuleRows.{code_of}
use Rattle.definition.specs.RuleFields.{code_small}
use Rattle.rule_row_test.specs.Threes.{threes-over, threes-other, threes-next}
use Rattle.rule_row_test.proofs.all_codes.Goals as goal

pub loop-at-preserved : goal.loop-at-preserved
unfolding code_small
loop-at-preserved c =
    let l = c in
    let a = l.args in (
      omega arith,
      threes-next code_of (all small) ((l.args.s.now)) l.loop-at.at a.to (omega arith) l.loop-at.invariant.0 (sym c.if-not-code_letters.false ∙ c.code_letters.ensures)
          ∙ l.loop-at.invariant.1,
    )

pub returns-then-not-code_letters : goal.returns-then-not-code_letters
unfolding code_small
returns-then-not-code_letters c =
    let l = c in
    let a = l.args in
    threes-other code_of (all small) ((l.args.s.now)) l.loop-at.at a.to (omega arith) l.loop-at.invariant.0 (sym c.if-not-code_letters.true ∙ c.code_letters.ensures)
    ∙ l.loop-at.invariant.1

pub returns : goal.returns
returns c =
    let l = c in
    threes-over code_of (all small) ((l.args.s.now)) l.loop-at.at l.args.to (omega arith) ∙ l.loop-at.invariant.1
