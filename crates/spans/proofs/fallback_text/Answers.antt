-- `spans::fallback_text`: by whether a search answered a text.
use mathlib.Core.Path.{sym, ◌∙◌}
use lib.ListN.{take, drop}
use Rattle.rule_choice.specs.Chosen.{chosen_means, has-chosen}
use Rattle.spans.proofs.Tails.{by_rule, by_itself}
use Rattle.spans.proofs.fallback_text.Goals as goal

pub returns-then-is_some : goal.returns-then-is_some
returns-then-is_some c =
    let R = c.args.rules.now in
    c.plus_dropped.ensures
    ∙ by_rule (chosen_means R c.args.chosen) (take c.args.len (drop c.args.at c.args.text.now)) c.chosen_text.result.now
    (sym (has-chosen R c.args.chosen) ∙ sym c.is_some.ensures ∙ c.if-is_some.true) c.chosen_text.ensures

pub returns : goal.returns
returns c =
    let R = c.args.rules.now in
    c.part.ensures
    ∙ by_itself (chosen_means R c.args.chosen) (take c.args.len (drop c.args.at c.args.text.now))
    (sym (has-chosen R c.args.chosen) ∙ sym c.is_some.ensures ∙ c.if-is_some.false)
