-- The rows of an accepted rule table from an offset on: each is right and the next one's source is no lower.
use Rattle.std.specs.Prelude.{true, ◌≡◌, refl, List, [], ◌∷◌, ℕ, ◌+◌, ◌≤◌, ◌<◌, length, drop}
use Rattle.std.proofs.Common.{ap, ◌∙◌, subst, arith, length-drop, drop-drop}
use Rattle.std.proofs.Math.Option.{none}
use Rattle.base.specs.Rows.{rows, rows_nil, rows_cons}
use Rattle.base.specs.Alls.{All}
use Rattle.definition.specs.Limits.{most_rows}
use Rattle.definition.specs.Texts.{Text}
use Rattle.definition.specs.Tables.{Rule}
use Rattle.definition.specs.Blocks.{head_bytes}
use Rattle.definition.specs.RuleRows.{rises, rule_size, rule_source, rule_right, rule_of, rules_of}
use Rattle.definition.specs.RuleFaults.{rule_fault}
use Rattle.definition.specs.BlockTurns.{Chain, ended, linked, chain_ordered}
use Rattle.definition.specs.Checked.{rule-checked}
use Rattle.definition.proofs.Accepted.{rules-chain}
use Rattle.definition.specs.RuleTurns.{rule_moves}
use Rattle.definition.specs.Places.{Placed, rule_placed}
use Rattle.definition.specs.Risen.{rises_trans}

-- the rules from an offset on
unfoldable pub rules_from : List ℕ → ℕ → List Rule
rules_from b at = rows rule_of rule_size (drop at b)

pub record Sorted (b : List ℕ) (at : ℕ) : Type 0 where
  pub most : ℕ
  pub mark : Text
  pub rows : Chain rule_size rule_source rule_right most mark (drop at b)

pub sorted-start : (b : List ℕ) → rule_fault b ≡ none → Sorted b head_bytes
sorted-start b e = record { most = most_rows; mark = []; rows = rules-chain b e }

pub rules_from-start : (b : List ℕ) → rules_from b head_bytes ≡ rules_of b
unfolding rules_from rules_of
rules_from-start b = refl

-- past the end there is none
pub rules-over : (b : List ℕ) (at : ℕ) → length b ≤ at → rules_from b at ≡ []
unfolding rules_from
rules-over b at l = rows_nil rule_of rule_size (drop at b) (omega (arith, length-drop at b))

pub rules-next : (b : List ℕ) (at : ℕ) → at < length b
    → rules_from b at ≡ rule_of (drop at b) ∷ rules_from b (at + rule_size (drop at b))
unfolding rules_from
rules-next b at l =
    rows_cons rule_of rule_size rule_moves (drop at b) (omega (arith, length-drop at b))
    ∙ ap (λ s. rule_of (drop at b) ∷ rows rule_of rule_size s) (drop-drop (rule_size (drop at b)) at b)

-- what a chain that goes on begins with
record First (s : List ℕ) : Type 0 where
  most : ℕ
  mark : Text
  right : rule_right mark s ≡ true
  rest : Chain rule_size rule_source rule_right most (rule_source s) (drop (rule_size s) s)

chain_first : {n : ℕ} {k : Text} {s : List ℕ} → 0 < length s → Chain rule_size rule_source rule_right n k s → First s
chain_first l (ended e) = absurd (omega arith)
chain_first l (linked {n} {k} p c) = record { most = n; mark = k; right = p; rest = c }

module _ {b : List ℕ} {at : ℕ} (l : at < length b) (s : Sorted b at) where
  first : First (drop at b)
  first = chain_first (omega (arith, length-drop at b)) s.rows

  -- the row is right after some source
  pub sorted-right : (k : Text) × (rule_right k (drop at b) ≡ true)
  unfolding first
  sorted-right = (first.mark, first.right)

  -- its parts lie in it, and it in the table
  pub sorted-placed : Placed (drop at b)
  unfolding first
  sorted-placed = rule_placed first.mark (drop at b) first.right

  pub sorted-next : Sorted b (at + rule_size (drop at b))
  sorted-next = record {
    most = first.most;
    mark = rule_source (drop at b);
    rows = subst (Chain rule_size rule_source rule_right first.most (rule_source (drop at b)))
        (drop-drop (rule_size (drop at b)) at b) first.rest;
  }

  -- and every later source is no lower
  pub sorted-later : All (λ y. rises (rule_source (drop at b)) y.source ≡ true) (rules_from b (at + rule_size (drop at b)))
  unfolding rules_from rule_of sorted-next
  sorted-later = (chain_ordered rule_size rule_source rule_right rule_moves rule_of
      (λ k y. rises k y.source ≡ true) (λ x y. rises x.source y.source ≡ true)
      (λ k s p. (rule-checked k s p).risen)
      (λ k s y p q. rises_trans k (rule_source s) y.source (rule-checked k s p).risen q)
      (λ s y q. q) sorted-next.rows).0

  -- the next row's among them
  pub sorted_risen : at + rule_size (drop at b) < length b
      → rises (rule_source (drop at b)) (rule_source (drop (at + rule_size (drop at b)) b)) ≡ true
  unfolding rule_of
  sorted_risen k = (subst (All (λ y. rises (rule_source (drop at b)) y.source ≡ true))
      (rules-next b (at + rule_size (drop at b)) k) sorted-later).0
