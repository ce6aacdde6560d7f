-- Rows of an accepted table rise: of rules, of classes and of vowels.
use Rattle.std.specs.Prelude.{true, ◌≡◌, List, ℕ, ◌≤◌, ◌<◌}
use Rattle.std.proofs.Common.{arith}
use Rattle.std.proofs.Math.Option.{none}
use Rattle.base.specs.Alls.{All, Ordered}
use Rattle.definition.specs.RuleRows.{rises, rule_size, rule_source, rule_right, rule_of, rules_of}
use Rattle.definition.specs.RuleFaults.{rule_fault}
use Rattle.definition.specs.ClassRows.{class_size, class_next, class_right, class_by, class_of, class_fault, classes_of}
use Rattle.definition.specs.VowelRows.{vowel_fault, vowels_of}
use Rattle.definition.specs.BlockTurns.{chain_ordered}
use Rattle.definition.specs.Checked.{rule-checked, class-checked}
use Rattle.definition.specs.Accepted.{class_moves, classes-chain}
use Rattle.definition.proofs.Accepted.{rules-chain}
use Rattle.definition.specs.RuleTurns.{rule_moves}
use Rattle.definition.specs.Risen.{rises_trans, vowels-after}

-- Rules
pub rules-rise : (b : List ℕ) → rule_fault b ≡ none
    → Ordered (λ x y. rises x.source y.source ≡ true) (rules_of b)
unfolding rules_of rule_of
rules-rise b e = (chain_ordered rule_size rule_source rule_right rule_moves rule_of
    (λ k y. rises k y.source ≡ true) (λ x y. rises x.source y.source ≡ true)
    (λ k s p. (rule-checked k s p).risen)
    (λ k s y p q. rises_trans k (rule_source s) y.source (rule-checked k s p).risen q)
    (λ s y q. q) (rules-chain b e)).1

-- Classes
pub classes-rise : (b : List ℕ) → class_fault b ≡ none → Ordered (λ x y. x.char < y.char) (classes_of b)
unfolding classes_of class_next class_of class_by
classes-rise b e = (chain_ordered class_size class_next class_right class_moves class_of
    (λ k y. k ≤ y.char) (λ x y. x.char < y.char)
    (λ k s p. (class-checked k s p).risen)
    (λ k s y p q. let l = (class-checked k s p).risen in omega arith)
    (λ s y q. omega arith) (classes-chain b e)).1

pub vowels-rise : (b : List ℕ) → vowel_fault b ≡ none → Ordered (λ x y. x.script < y.script) (vowels_of b)
vowels-rise b e = (vowels-after b e).1

pub vowels_scripted : (b : List ℕ) → vowel_fault b ≡ none → All (λ y. 1 ≤ y.script) (vowels_of b)
vowels_scripted b e = (vowels-after b e).0
