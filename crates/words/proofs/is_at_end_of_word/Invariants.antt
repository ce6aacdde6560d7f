-- `words::is_at_end_of_word`: what a source that ends at `end` or later brings is what any brings.
use mathlib.Core.Path.{◌≡◌}
use Rattle.base.specs.Lists.{any}
use Rattle.definition.specs.RuleRows.{rules_of}
use Rattle.definition.specs.Boundaries.{goes_on}
use Rattle.words.specs.Given.{World, kinds, Told, Lined}
use Rattle.words.specs.Goes.{goes_from}
use Rattle.words.proofs.is_at_end_of_word.Given as goal

abbrev pub invariant-loop-end : goal.invariant-loop-end
invariant-loop-end l =
    (w : World) → Told w l.dicts.ready.now → Lined w l.line
    → goes_from (kinds w) w.text l.p (rules_of l.dicts.rules.now) l.end ≡ any (goes_on (kinds w) w.text l.p) (rules_of l.dicts.rules.now)
