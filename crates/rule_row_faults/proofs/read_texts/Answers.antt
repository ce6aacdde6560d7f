-- `rule_row_faults::read_texts`: reading what is left leads where the whole leads (`Left`), and each turn keeps that.
use mathlib.Core.Path.{◌∙◌}
use native.Mathlib.Omega.{arith}
use Rattle.rule_row_faults.proofs.Chains.{begun, no_more, text_faulty, text-passed}
use Rattle.rule_row_faults.proofs.Inside.{passed_on}
use Rattle.rule_row_faults.proofs.read_texts.Goals as goal

pub loop-turn-init : goal.loop-turn-init
loop-turn-init c = begun c.requires.1

pub returns-in_err-at : goal.returns-in_err-at
returns-in_err-at c = passed_on _ _ c.from_residual.ensures.1 ∙ text_faulty c.loop-turn.invariant (omega arith) c.in_err-at.ensures

pub loop-turn-preserved : goal.loop-turn-preserved
loop-turn-preserved c = text-passed c.loop-turn.invariant (omega arith) c.in_ok-at.ensures

pub returns : goal.returns
returns c = no_more c.loop-turn.invariant (omega arith)
