-- `rule_row_faults::read_fields`: reading what is left leads where the whole leads (`Left`), and each turn keeps that.
use lib.ListN.{drop}
use Rattle.rule_row_faults.specs.Kinds.{kind_size, kind_right, kind_number}
use Rattle.rule_row_faults.proofs.Fields.{Left}
use Rattle.rule_row_faults.proofs.read_fields.Given as goal

abbrev pub invariant-loop-turn : goal.invariant-loop-turn
invariant-loop-turn l =
    Left (kind_right l.kind) (kind_size l.kind) (kind_number l.kind) l.z (drop l.row l.rules) l.n l.o l._turn l.at
