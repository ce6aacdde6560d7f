-- `words::rows_bring_letter`: the rows still to come have a rule that brings one where all of them have.
use mathlib.Core.List.{List}
use mathlib.Core.Path.{◌≡◌}
use Prim.Native.Nat.{ℕ, ◌-◌}
use Rattle.base.specs.Lists.{any}
use Rattle.definition.specs.ClassRows.{classes_of}
use Rattle.table_classes.specs.Told.{alphas_of}
use Rattle.words.specs.Given.{letters_in}
use Rattle.words.specs.Found.{Rows, rules_in}
use Rattle.words.specs.Goes.{brings}
use Rattle.words.proofs.rows_bring_letter.Given as goal

abbrev pub invariant-loop-turn : goal.invariant-loop-turn
invariant-loop-turn l =
    ((classes : List ℕ) → letters_in l.dicts.ready.now ≡ alphas_of classes
    → any (brings (classes_of classes)) (rules_in l.dicts.rules.now l.row (l.count - l._turn)) ≡ any (brings (classes_of classes)) (rules_in l.dicts.rules.now l.first l.count))
    × Rows l.dicts.rules.now l.row (l.count - l._turn)
