-- Of a call's tables without fault: the rows of a rule table, one right after the other, and where the rows of a rule table and
-- of a class table lie.
use Rattle.std.specs.Prelude.{true, ◌≡◌, List, [], ℕ, ◌≤◌, length, drop}
use Rattle.std.proofs.Math.Option.{none}
use Rattle.base.specs.Rows.{Each, each_map}
use Rattle.base.specs.Alls.{All, rows_all}
use Rattle.definition.specs.Limits.{most_rows}
use Rattle.definition.specs.Texts.{Text}
use Rattle.definition.specs.Tables.{Rule}
use Rattle.definition.specs.Blocks.{head_bytes}
use Rattle.definition.specs.RuleRows.{rule_size, rule_source, rule_right, rule_of, rules_of}
use Rattle.definition.specs.RuleFaults.{row_fault, rule_fault}
use Rattle.definition.specs.ClassRows.{class_fault, class_size, class_next, class_right}
use Rattle.definition.specs.Refusals.{refuse, refused_length}
use Rattle.definition.specs.BlockTurns.{Chain, fault-none, chain-each, chain_few}
use Rattle.definition.specs.Checked.{class-checked}
use Rattle.definition.specs.Places.{Placed, rule_placed}
use Rattle.definition.specs.RuleTurns.{rule_moves}
use Rattle.definition.proofs.RuleTurns.{row_tells}
use Rattle.definition.specs.Accepted.{classes-chain}

-- A table without fault: each row right after the one before it
pub rules-chain : (b : List ℕ) → rule_fault b ≡ none → Chain rule_size rule_source rule_right most_rows [] (drop head_bytes b)
unfolding rule_fault
rules-chain b e = fault-none rule_size rule_source rule_right rule_moves row_fault row_tells (refuse refused_length 0) most_rows [] b e

-- no more rows than allowed
pub rules_few : (b : List ℕ) → rule_fault b ≡ none → length (rules_of b) ≤ most_rows
unfolding rules_of
rules_few b e = chain_few rule_size rule_source rule_right rule_moves rule_of (rules-chain b e)

-- each record has what a right row has
pub rules-all : (Q : Rule → Type 0) → ((k : Text) (s : List ℕ) → rule_right k s ≡ true → Q (rule_of s))
    → (b : List ℕ) → rule_fault b ≡ none → All Q (rules_of b)
unfolding rules_of
rules-all Q f b e = rows_all rule_of Q rule_moves (λ s q. f q.0 s q.1)
    (chain-each rule_size rule_source rule_right (rules-chain b e))

-- and each row lies within its table
pub rules-placed : (b : List ℕ) → rule_fault b ≡ none → Each Placed rule_size (drop head_bytes b)
rules-placed b e =
    each_map (λ s q. rule_placed q.0 s q.1) (chain-each rule_size rule_source rule_right (rules-chain b e))

pub classes-placed : (b : List ℕ) → class_fault b ≡ none → Each (λ s. class_size s ≤ length s) class_size (drop head_bytes b)
unfolding class_size
classes-placed b e =
    each_map (λ s q. (class-checked q.0 s q.1).inside) (chain-each class_size class_next class_right (classes-chain b e))
