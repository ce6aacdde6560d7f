-- `rule_row::end_target_text`: the text where the target for the end of a syllable begins.
use Rattle.rule_row.proofs.Texts.{end_target_lies}
use Rattle.rule_row.proofs.end_target_text.Goals as goal

pub text-requires : goal.text-requires
text-requires c =
    let t = c in
    rw c.end_target_at.ensures.0 (end_target_lies _ t.requires.0 t.requires.1)
