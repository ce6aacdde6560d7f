-- The target of a row, by its flag; of the rule that won, and of the first row with a source.
use mathlib.Core.Bool.{Bool, true, false}
use mathlib.Core.List.{List}
use mathlib.Core.Option.{Option, none, some}
use mathlib.Core.Path.{◌≡◌, refl, sym, ap, ◌∙◌}
use Prim.Native.Nat.{ℕ, ◌<◌}
use lib.ListN.{drop}
use Rattle.base.specs.Pick.{pick}
use Rattle.base.specs.Lists.{head, has, bind}
use Rattle.definition.specs.Texts.{Text}
use Rattle.definition.specs.Tables.{Rule, Lexicon}
use Rattle.definition.specs.Edges.{View, Mem, ret, ◌>>=◌}
use Rattle.definition.specs.RuleRows.{rule_flag, target_bit, target_at, text_of, text_where, rule_of, rules_of}
use Rattle.definition.specs.RuleFaults.{rule_fault}
use Rattle.definition.specs.Rules.{targeted, first_rule, choose, simple}
use Rattle.rule_table.specs.Doors.{with_source}
use Rattle.rule_table.specs.Seek.{first_at, equal_rows}
use Rattle.words.specs.Did.{Did}
use Rattle.words.specs.Found.{Row, none_in, one_in, row_read, found_at}

module _ (s : List ℕ) where
  pub has_target : targeted (rule_of s) ≡ rule_flag s target_bit
  unfolding targeted rule_of text_where pick
  has_target = by (rule_flag s target_bit) (text_of (drop (target_at s) s))
    where
      by : (b : Bool) (w : Text) → has (pick b (some w) none) ≡ b
      by true w = refl
      by false w = refl

-- simple search, by the ends that were looked up
pub simply : (L : Lexicon) (t : Text) (v : View) (a b s e : ℕ) → a ≡ s → b ≡ e → (m n : Mem) (o : Option Rule) → Did (choose L t v a b m) o n
    → (z : Option Text) → z ≡ bind o (λ x. x.target) → Did (simple L t v s e m) z n
unfolding simple ret ◌>>=◌
simply L t v a b s e i j m n o d z h =
    let k = ap (λ (x : ℕ). choose L t v x b m) i ∙ ap (λ (x : ℕ). choose L t v s x m) j in record {
      value = h ∙ ap (λ (o : Option Rule). bind o (λ x. x.target)) (d.value ∙ ap (λ (y : Option Rule × Mem). y.0) k);
      memory = d.memory ∙ ap (λ (y : Option Rule × Mem). y.1) k;
    }

-- the first row with a source
module _ (b : List ℕ) (w : Text) (e : rule_fault b ≡ none) (at n : ℕ) (p : at ≡ first_at b w) (q : n ≡ equal_rows b w) where
  first_of : (l : List Rule) → with_source w (rules_of b) ≡ l → bind (head l) (λ x. x.target) ≡ first_rule (rules_of b) w
  unfolding first_rule with_source
  first_of l f = ap (λ l. bind (head l) (λ (x : Rule). x.target)) (sym f)

  pub first-none : n ≡ 0 → none ≡ first_rule (rules_of b) w
  unfolding head
  first-none h = first_of _ (sym (found_at b w e at n p q).0 ∙ none_in b at n h)

  module _ (h : 0 < n) where
    pub first_row : Row (drop at b)
    first_row = row_read b at n h (found_at b w e at n p q).1

    pub first-target : (rule_of (drop at b)).target ≡ first_rule (rules_of b) w
    unfolding head
    first-target = first_of _ (sym (found_at b w e at n p q).0 ∙ one_in b at n h (found_at b w e at n p q).1)
