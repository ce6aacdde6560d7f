-- `second_pass::search_note`: one law for each answer.
use mathlib.Core.Path.{sym, ◌∙◌}
use Rattle.rule_choice.specs.Chosen.{chosen_means, has-chosen}
use Rattle.second_pass.specs.Fallback.{told-note, untold_note}
use Rattle.second_pass.proofs.search_note.Goals as goal

pub returns-then-is_some : goal.returns-then-is_some
returns-then-is_some c = λ rules. told-note (chosen_means rules c.args.chosen) (sym (c.is_some.ensures ∙ has-chosen rules c.args.chosen) ∙ c.if-is_some.true)

pub returns : goal.returns
returns c = λ rules. untold_note (chosen_means rules c.args.chosen) (sym (c.is_some.ensures ∙ has-chosen rules c.args.chosen) ∙ c.if-is_some.false)
