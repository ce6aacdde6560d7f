-- What a rule table's fault says: the tables without one are those of which all of document 01's tests hold, and a fault lies in
-- the first row that breaks one.
-- (Proved in proofs/FaultLaws.)
use Rattle.std.specs.Prelude.{◌≡◌, ℕ, ◌+◌, ◌≤◌, drop}
use mathlib.Core.List.{List, []}
use Rattle.std.proofs.Math.Option.{Option, some}
use Rattle.std.proofs.Math.ListN.{length}
use Rattle.definition.specs.Limits.{most_rows}
use Rattle.definition.specs.Refusals.{Refusal}
use Rattle.definition.specs.Texts.{Text}
use Rattle.definition.specs.Blocks.{Walk, begin, fault_from, offset_where, faulty_row}
use Rattle.definition.specs.RuleRows.{rule_size, rule_source, rule_right}

-- The first row that is not right after the one before it, or is one too many: its offset, 0 for the header
abbrev pub first_row : List ℕ → Option ℕ
first_row b = faulty_row rule_size rule_source rule_right most_rows [] b

-- What is found of a row lies in it: not before its start, and not past the table's end
pub record Near (x : Walk Text) (f : Refusal) : Type 0 where
  pub behind : x.at ≤ f.place
  pub inside : f.place ≤ x.at + length x.rest

pub same : {A : Type 0} {x y : A} → some x ≡ some y → x ≡ y
same e = cc

-- A fault lies in the first faulty row, and in the table or at its end
module _ (b : List ℕ) (f : Refusal) where
  abbrev pub Placed : Type 0
  Placed = (at : ℕ) × (first_row b ≡ some at) × (at ≤ f.place) × (f.place ≤ length b)

  abbrev offsets : Walk Text → Option ℕ
  offsets = fault_from rule_size rule_source (offset_where rule_right)

  abbrev pub start : Walk Text
  start = begin rule_size rule_source most_rows [] b

  -- where the walk over both stands
  pub record Both (x : Walk Text) : Type 0 where
    pub rest : x.rest ≡ drop x.at b
    pub leads : offsets x ≡ offsets start
