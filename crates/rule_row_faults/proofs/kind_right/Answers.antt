-- `rule_row_faults::kind_right`: what is asked of a field, kind by kind.
use mathlib.Core.Path.{sym, ap, ◌∙◌}
use lib.ListN.{drop}
use Rattle.rule_row_faults.specs.Kinds.{kind_right}
use Rattle.rule_row_faults.proofs.Tests.{is_character, is_byte}
use Rattle.rule_row_faults.proofs.kind_right.Goals as goal

pub returns-in-Character : goal.returns-in-Character
returns-in-Character c =
    let n = c in
    let t = n in
    is_character ((drop t.args.row t.args.rules.now)) t.args.o _ _ c.scalar.ensures n.three_there.ensures.0
    ∙ sym (ap (λ k. kind_right k (drop t.args.o ((drop t.args.row t.args.rules.now)))) c.in-Character.is)

pub returns-in-TextByte : goal.returns-in-TextByte
returns-in-TextByte c =
    let n = c in
    let t = n in
    is_byte ((drop t.args.row t.args.rules.now)) t.args.o _ _ c.printable.ensures n.at_there.ensures.0
    ∙ sym (ap (λ k. kind_right k (drop t.args.o ((drop t.args.row t.args.rules.now)))) c.in-TextByte.is)
