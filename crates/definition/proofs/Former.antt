-- Rule tables that the limit accepts that there is now, and those that the former limit accepts.
use Rattle.std.specs.Prelude.{◌≡◌, List, []}
use Rattle.std.proofs.Common.{sym, ◌∙◌, arith}
use Rattle.std.proofs.Math.Option.{none}
use Prim.Native.Nat.{ℕ}
use Rattle.definition.specs.Limits.{most_rows, most_target}
use Rattle.definition.specs.Refusals.{refuse, refused_length}
use Rattle.definition.specs.RuleRows.{rule_right, rule_size, rule_source}
use Rattle.definition.specs.RuleFaults.{row_fault, rule_fault}
use Rattle.definition.specs.BlockTurns.{fault_sound, fault-headed}
use Rattle.definition.specs.RuleTurns.{rule_moves}
use Rattle.definition.proofs.RuleTurns.{row_tells}
use Rattle.definition.proofs.Accepted.{rules-chain}
use Rattle.definition.specs.Former.{Accepted_within, chain_wider, former_target, row_now, row_wider, rule_within}

-- Accepted with the limit that there is now is accepted
pub within_now : (b : List ℕ) → Accepted_within most_target b → rule_fault b ≡ none
unfolding rule_fault
within_now b a = fault_sound rule_size rule_source rule_right rule_moves row_fault row_tells (refuse refused_length 0) most_rows [] b a.header
    (chain_wider (rule_within most_target) rule_right (λ k s p. sym (row_now k s) ∙ p) a.rows)

pub now_within : (b : List ℕ) → rule_fault b ≡ none → Accepted_within most_target b
unfolding rule_fault
now_within b e = record {
  header = fault-headed rule_size rule_source rule_right rule_moves row_fault row_tells (refuse refused_length 0) most_rows [] b e;
  rows = chain_wider rule_right (rule_within most_target) (λ k s p. row_now k s ∙ p) (rules-chain b e);
}

-- and what the former limit accepts is accepted
pub old_tables : (b : List ℕ) → Accepted_within former_target b → rule_fault b ≡ none
old_tables b a = within_now b (record {
  header = a.header;
  rows = chain_wider (rule_within former_target) (rule_within most_target) (row_wider former_target most_target (omega arith)) a.rows;
})
