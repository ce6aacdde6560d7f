-- A rule table checked row by row: what is found of a row, case by case, and that nothing is found just where it is right.
use Rattle.std.specs.Prelude.{Bool, ◌&&◌, ◌≡◌, ℕ, zero, suc, ◌+◌, ◌-◌, ◌≤◌, ◌<◌, length, drop}
use Rattle.std.proofs.Math.Bool.{true, false}
use Rattle.std.proofs.Common.{true≢false, sym, ap, ◌∙◌, arith}
use Rattle.std.proofs.Math.Path.{refl, subst}
use mathlib.Core.List.{List, []}
use Rattle.std.proofs.Math.Option.{none, some}
use borrow.Author.Tests.{eq-eqb, ne_eqb, lt-ltb, ltb-true}
use Rattle.base.specs.Pick.{pick}
use Rattle.base.specs.Bools.{and_left}
use Rattle.base.specs.Lists.{first_of}
use Rattle.definition.specs.Limits.{most_rows}
use Rattle.definition.specs.Refusals.{Refusal, refuse, when, refused_length, refused_order, refused_rows}
use Rattle.definition.specs.Texts.{Text}
use Rattle.definition.specs.Blocks.{Walk, version_1, headed, head_bytes}
use Rattle.definition.specs.RuleRows.{rule_size, rule_source, rule_right, rises}
use Rattle.definition.specs.RuleFields.{Cursor, next, wrong, read_row}
use Rattle.definition.specs.RuleFaults.{field_fault, row_fault, rule_fault}
use Rattle.definition.specs.BlockTurns.{fine, Tells}
use Rattle.definition.specs.Checking.{walk_at, begun, unheaded, done, onward, halted}
use Rattle.definition.specs.FieldsRight.{rightly}
use Rattle.definition.proofs.FieldsRight.{row_rightly}
use Rattle.definition.specs.RuleTurns.{rule_moves, rules_from}

-- What is found of a row: one too many, a faulty field, or what its order says
module _ (x : Walk Text) where
  pub too_many : x.left ≡ 0 → row_fault x ≡ some (refuse refused_rows x.at)
  unfolding row_fault first_of when pick
  too_many e = rw (eq-eqb x.left 0 e)

  module _ (h : 0 < x.left) where
    pub field-wrong : (k o : ℕ) → read_row x.rest ≡ wrong k o → row_fault x ≡ some (refuse k (x.at + o))
    unfolding row_fault field_fault first_of when pick
    field-wrong k o e = rw (ne_eqb x.left 0 (λ z. omega arith), e)

    pub by_order : (o : ℕ) → read_row x.rest ≡ next o → (b : Bool) → rises x.mark (rule_source x.rest) ≡ b
        → row_fault x ≡ pick b none (some (refuse refused_order x.at))
    unfolding row_fault field_fault first_of when pick
    by_order o e true r = rw (ne_eqb x.left 0 (λ z. omega arith), e, r)
    by_order o e false r = rw (ne_eqb x.left 0 (λ z. omega arith), e, r)

  -- so what holds of a row too many, of each faulty field and of the order holds of whatever is found
  pub found_ind : (P : Refusal → Type 0) → P (refuse refused_rows x.at)
      → ((k o : ℕ) → read_row x.rest ≡ wrong k o → P (refuse k (x.at + o))) → P (refuse refused_order x.at)
      → (f : Refusal) → row_fault x ≡ some f → P f
  unfolding pick
  found_ind P rows fields order f e = go x.left refl
    where
      is : (g : Refusal) → row_fault x ≡ some g → P g → P f
      is g h p = subst P (let i : g ≡ f = cc in i) p

      by_rise : 0 < x.left → (o : ℕ) → read_row x.rest ≡ next o → (b : Bool) → rises x.mark (rule_source x.rest) ≡ b → P f
      by_rise h o p true r = absurd (let n = by_order h o p true r in let w : ◌≡◌ {A = ℕ} 0 1 = cc in omega arith)
      by_rise h o p false r = is _ (by_order h o p false r) order

      by_fields : 0 < x.left → (c : Cursor) → read_row x.rest ≡ c → P f
      by_fields h (next o) p = by_rise h o p (rises x.mark (rule_source x.rest)) refl
      by_fields h (wrong k o) p = is _ (field-wrong h k o p) (fields k o p)

      go : (n : ℕ) → x.left ≡ n → P f
      go zero p = is _ (too_many p) rows
      go (suc n) p = by_fields (omega arith) (read_row x.rest) refl

  -- whether it is right, by its fields and its order
  pub fine-by : (c : Cursor) → read_row x.rest ≡ c → 0 < x.left
      → fine rule_right x ≡ (rightly c && rises x.mark (rule_source x.rest))
  fine-by c e h = rw (lt-ltb 0 x.left h) (row_rightly x.mark x.rest ∙ ap (λ d. rightly d && rises x.mark (rule_source x.rest)) e)

  right-nothing : fine rule_right x ≡ true → row_fault x ≡ none
  unfolding pick
  right-nothing e = go (read_row x.rest) refl
    where
      h : 0 < x.left
      h = ltb-true 0 x.left (and_left _ _ e)

      go : (c : Cursor) → read_row x.rest ≡ c → row_fault x ≡ none
      go (next o) p = by_order h o p true (unfold rightly in (sym (fine-by (next o) p h) ∙ e))
      go (wrong k o) p = absurd (true≢false (sym e ∙ (unfold rightly in fine-by (wrong k o) p h)))

  wrong_something : fine rule_right x ≡ false → (f : Refusal) × (row_fault x ≡ some f)
  unfolding pick
  wrong_something e = go x.left refl
    where
      by_fields : 0 < x.left → (c : Cursor) → read_row x.rest ≡ c → (f : Refusal) × (row_fault x ≡ some f)
      by_fields h (next o) p = (
        refuse refused_order x.at,
        by_order h o p false (unfold rightly in (sym (fine-by (next o) p h) ∙ e)),
      )
      by_fields h (wrong k o) p = (refuse k (x.at + o), field-wrong h k o p)

      go : (n : ℕ) → x.left ≡ n → (f : Refusal) × (row_fault x ≡ some f)
      go zero p = (refuse refused_rows x.at, too_many p)
      go (suc n) p = by_fields (omega arith) (read_row x.rest) refl

-- Nothing is found just where the row may come and is right
pub row_tells : Tells rule_right row_fault
row_tells = record { nothing = right-nothing; something = wrong_something }

module _ (b : List ℕ) where
  pub rules-begun : true ≡ headed version_1 b → rules_from head_bytes most_rows [] b ≡ rule_fault b
  unfolding rule_fault
  rules-begun h = begun rule_size rule_source row_fault (refuse refused_length 0) most_rows [] b h

  pub rules_unheaded : false ≡ headed version_1 b → some (refuse refused_length 0) ≡ rule_fault b
  unfolding rule_fault
  rules_unheaded h = unheaded rule_size rule_source row_fault (refuse refused_length 0) most_rows [] b h

  module _ (at left : ℕ) (old : Text) where
    pub rules-done : length b ≤ at → none ≡ rules_from at left old b
    rules-done h = done rule_size rule_source row_fault rule_moves b at left old h

    module _ (h : at < length b) where
      pub rules-onward : 0 < left → true ≡ rule_right old (drop at b)
          → (at' left' : ℕ) (old' : Text) → at' ≡ at + rule_size (drop at b) → left' ≡ left - 1 → old' ≡ rule_source (drop at b)
          → rules_from at' left' old' b ≡ rules_from at left old b
      rules-onward k e = onward rule_size rule_source row_fault rule_moves b at left old h
          (row_tells.nothing (walk_at at left old b) (rw (lt-ltb 0 left k) (sym e)))

      -- what is found of a row that is not right, or of one too many, is found of the table
      pub rules_halted : fine rule_right (walk_at at left old b) ≡ false → row_fault (walk_at at left old b) ≡ rules_from at left old b
      rules_halted e =
          let s = row_tells.something (walk_at at left old b) e in
          s.1 ∙ halted rule_size rule_source row_fault rule_moves b at left old h s.0 s.1
