-- `rule_choice::top_rule`: what is left of the rows, from the best so far on, leads where the definition does.
use mathlib.Core.List.{List}
use mathlib.Core.Path.{◌≡◌}
use Prim.Native.Nat.{ℕ, ◌-◌}
use lib.ListN.{length}
use Rattle.std.specs.Prelude as rust
use Rattle.definition.specs.Rules.{choose}
use Rattle.edge_places.specs.Shows.{memory, told}
use Rattle.words.specs.Given.{World, seen, size, Told, Lent}
use Rattle.words.specs.Found.{Rows, rules_in}
use Rattle.rule_choice.specs.Lent.{lexicon_of}
use Rattle.rule_choice.specs.Fold.{choose_from}
use Rattle.rule_choice.specs.Chosen.{choice_means, Rowed}
use Rattle.rule_choice.proofs.top_rule.Given as goal

-- what is left of the rows leads where all do, and places tell of the edges what they told
pub record Led (rules code : List ℕ) (w : World) (s e : ℕ) (places₀ places : List ℕ) (row left : ℕ) (best : rust.Option ℕ) : Type 0 where
  pub same : choose_from (lexicon_of rules w code) w.text (seen w) s e (rules_in rules row left) (choice_means rules best) (memory (size w) places)
      ≡ choose (lexicon_of rules w code) w.text (seen w) s e (memory (size w) places₀)
  pub kept : told places ≡ told places₀

abbrev pub invariant-loop-turn : goal.invariant-loop-turn
invariant-loop-turn l =
    ((w : World) → Told w l.dicts.ready.now → Lent w l.line l.initial.places → Led l.dicts.rules.now l.dicts.code.now w l.look.span.from l.look.span.to l.initial.places l.places l.row (l.look.found.count - l._turn) l.best)
    × Rows l.dicts.rules.now l.row (l.look.found.count - l._turn) × Rowed l.dicts.rules.now l.best × (length l.places ≡ length l.initial.places)
