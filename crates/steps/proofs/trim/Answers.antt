-- `steps::trim`: trimmed in front, then behind.
use native.Mathlib.Omega.{arith}
use mathlib.Core.Path.{◌∙◌}
use Rattle.steps.proofs.Outcomes.{front_clean, trimmed_clean, trimmed_short, trimmed}
use Rattle.words.specs.Given.{line-size, char_before}
use Rattle.steps.proofs.trim.Goals as goal

pub trim_back-len-requires : goal.trim_back-len-requires
trim_back-len-requires c =
    front_clean c.requires.0 _ c.trim_front-front.ensures

pub returns : goal.returns
returns c =
    let p = c.trim_front-front.ensures in
    let q = c.trim_back-len.ensures in (
      (λ u h. trimmed c.requires.0 _ p _ q u.text c.args.g.from c.args.g.to c.args.g.note
          (c.number_at.ensures ∙ char_before h c.args.g.from (omega (arith, c.requires, line-size h))) (c.is_space_at.ensures u h)),
      trimmed_clean c.requires.0 _ p _ q,
      trimmed_short c.requires.0 _ p _ q,
    )
