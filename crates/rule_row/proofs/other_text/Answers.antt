-- `rule_row::other_text`
use mathlib.Core.Path.{◌∙◌, ap}
use lib.ListN.{drop}
use Rattle.definition.specs.RuleRows.{text_of}
use Rattle.rule_row.specs.Others.{other_lies, other-is}
use Rattle.rule_row.proofs.other_text.Goals as goal

pub text-requires : goal.text-requires
text-requires c = rw c.other_at.ensures (other_lies c.requires)

pub returns : goal.returns
returns c =
    let t = c in
    c.text.ensures
    ∙ ap (λ i. text_of (drop i (drop t.args.row t.args.rules.now))) c.other_at.ensures
    ∙ other-is t.requires
