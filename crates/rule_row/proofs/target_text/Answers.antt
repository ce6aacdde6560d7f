-- `rule_row::target_text`: the text where the target begins.
use Rattle.rule_row.proofs.Texts.{target_lies}
use Rattle.rule_row.proofs.target_text.Goals as goal

pub text-requires : goal.text-requires
text-requires c =
    let t = c in
    rw c.target_at.ensures.0 (target_lies _ t.requires.0 t.requires.1)
