-- `rule_row_faults::read_texts`: reading what is left leads where the whole leads (`Left`), and each turn keeps that.
use lib.ListN.{drop}
use Rattle.rule_row_faults.proofs.Chains.{Left}
use Rattle.rule_row_faults.proofs.read_texts.Given as goal

abbrev pub invariant-loop-turn : goal.invariant-loop-turn
invariant-loop-turn l = Left l.z (drop l.row l.rules) l.n l.o l._turn l.at
