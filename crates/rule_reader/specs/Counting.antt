-- The rows that are right one after another, counted beside the check: a turn of the walk, case by case.
use Rattle.std.specs.Prelude.{Bool, ◌≡◌, List, [], ltb, length, drop}
use Rattle.std.proofs.Math.Bool.{true, false}
use Rattle.std.proofs.Math.Path.{refl, ap}
use Rattle.std.proofs.Common.{sym, ◌∙◌, length-drop, drop-drop, ltb-true, lt-ltb}
use Rattle.std.proofs.Math.Option.{Option, none, some}
use Prim.Native.Nat.{ℕ, zero, suc, ◌+◌, ◌-◌, ◌≤◌, ◌<◌}
use native.Mathlib.Omega.{arith}
use Rattle.base.specs.Pick.{pick}
use Rattle.base.specs.Bools.{and_left, and_right}
use Rattle.definition.specs.Limits.{most_rows}
use Rattle.definition.specs.Refusals.{Refusal, refuse, refused_length}
use Rattle.definition.specs.Texts.{Text}
use Rattle.definition.specs.Blocks.{version_1, headed, head_bytes}
use Rattle.definition.specs.BlockTurns.{fine}
use Rattle.definition.specs.RuleRows.{rule_size, rule_source, rule_right}
use Rattle.definition.specs.RuleFaults.{row_fault, rule_fault}
use Rattle.definition.specs.Checking.{walk_at, halted}
use Rattle.definition.specs.Checked.{rule-checked}
use Rattle.definition.specs.RuleTurns.{rule_moves, rules_from}
use Rattle.definition.proofs.RuleTurns.{row_tells, rules-begun, rules_unheaded, rules-done, rules-onward}
use Rattle.rule_reader.specs.Rows.{next_row, past_rows, rights, right_rows}
use Rattle.rule_reader.specs.Here.{right-next, right-inside}

-- The count, by its first row
module _ (old : Text) (s : List ℕ) where
  -- with the answer whether that is right
  abbrev pub counts : ℕ → Bool → ℕ
  counts left b = elim b as (λ _. ℕ) [ true ↦ 1 + rights left (rule_source s) (drop (rule_size s) s) | false ↦ 0 ]

  pub by_first : (left : ℕ) (b : Bool) → rule_right old s ≡ b → rights (suc left) old s ≡ counts left b
  unfolding rights
  by_first left b e = ap (counts left) e

  pub rights-none : (left : ℕ) → left ≡ 0 → rights left old s ≡ 0
  unfolding rights
  rights-none left h = rw h refl

  pub rights-wrong : (left : ℕ) → rule_right old s ≡ false → rights left old s ≡ 0
  unfolding rights
  rights-wrong zero e = refl
  rights-wrong (suc left) e = by_first left false e

  rights-right : (left : ℕ) → 0 < left → rule_right old s ≡ true
      → rights left old s ≡ 1 + rights (left - 1) (rule_source s) (drop (rule_size s) s)
  unfolding rights
  rights-right zero h e = absurd (omega arith)
  rights-right (suc left) h e = let i : suc left - 1 ≡ left = omega arith in by_first left true e ∙ rw i refl

  -- a right row has bytes
  pub right_some : rule_right old s ≡ true → 0 < length s
  right_some e = let i = (rule-checked old s e).inside in let m = rule_moves s in omega arith

  pub rights-over : (left : ℕ) → length s ≡ 0 → rights left old s ≡ 0
  rights-over left h = go (rule_right old s) refl
    where
      go : (b : Bool) → rule_right old s ≡ b → rights left old s ≡ 0
      go true e = absurd (let l = right_some e in omega arith)
      go false e = rights-wrong left e

-- What is found of a row tells whether it is right and may come, and so whether it is counted
module _ (t : List ℕ) (at left : ℕ) (old : Text) where
  abbrev pub found_at : Option Refusal
  found_at = row_fault (walk_at at left old t)

  pub nothing_right : found_at ≡ none → (0 < left) × (rule_right old (drop at t) ≡ true)
  nothing_right e = go (fine rule_right (walk_at at left old t)) refl
    where
      go : (b : Bool) → fine rule_right (walk_at at left old t) ≡ b → (0 < left) × (rule_right old (drop at t) ≡ true)
      go true p = (ltb-true 0 left (and_left _ _ p), and_right (ltb 0 left) _ p)
      go false p = absurd (let z = (row_tells.something (walk_at at left old t) p).1 in let w : ◌≡◌ {A = ℕ} 0 1 = cc in omega arith)

  pub something_none : (f : Refusal) → found_at ≡ some f → rights left old (drop at t) ≡ 0
  something_none f e = go left refl (rule_right old (drop at t)) refl
    where
      go : (n : ℕ) → left ≡ n → (b : Bool) → rule_right old (drop at t) ≡ b → rights left old (drop at t) ≡ 0
      go zero l b r = rights-none old (drop at t) left l
      go (suc n) l false r = rights-wrong old (drop at t) left r
      go (suc n) l true r = absurd (
          let z = row_tells.nothing (walk_at at left old t) (rw (lt-ltb 0 left (omega arith)) r) in
          let w : ◌≡◌ {A = ℕ} 0 1 = cc in
          omega arith)

-- One row more
past_one : (t : List ℕ) (at n : ℕ) → past_rows t at (n + 1) ≡ next_row t (past_rows t at n)
unfolding past_rows
past_one t at zero = refl
past_one t at (suc n) = let e : suc n + 1 ≡ suc (n + 1) = omega arith in rw e (past_one t (next_row t at) n)

-- A walk that has come past `n` right rows to `at`: the check and the count from there on lead where the whole leads
pub record Gone (t : List ℕ) (at n : ℕ) (old : Text) : Type 0 where
  pub check : rules_from at (most_rows - n) old t ≡ rule_fault t
  pub count : n + rights (most_rows - n) old (drop at t) ≡ right_rows t
  pub stands : at ≡ past_rows t head_bytes n
  pub few : n ≤ most_rows

-- Where it ends: the answer, how many rows were right, and where the row behind them stands
abbrev pub Ends : List ℕ → Option Refusal → ℕ → ℕ → Type 0
Ends t f n at = (f ≡ rule_fault t) × (n ≡ right_rows t) × (at ≡ past_rows t head_bytes (right_rows t))

module _ (t : List ℕ) where
  pub gone_start : true ≡ headed version_1 t → Gone t head_bytes 0 []
  gone_start h = record {
    check = rules-begun t h;
    count = let c : rights most_rows [] (drop head_bytes t) ≡ right_rows t = unfold right_rows pick in rw (← h) refl in omega arith;
    stands = unfold past_rows in refl;
    few = omega arith;
  }

  none_right : false ≡ headed version_1 t → 0 ≡ right_rows t
  unfolding right_rows pick
  none_right h = rw (← h) refl

  pub no_table : false ≡ headed version_1 t → Ends t (some (refuse refused_length 0)) 0 head_bytes
  unfolding past_rows
  no_table h = (rules_unheaded t h, none_right h, ap (past_rows t head_bytes) (none_right h))

module _ {t : List ℕ} {at n : ℕ} {old : Text} (g : Gone t at n old) where
  counted : (m : ℕ) → rights (most_rows - n) old (drop at t) ≡ m → n + m ≡ right_rows t
  counted m e = ap (λ i. n + i) (sym e) ∙ g.count

  stopped : (f : Option Refusal) → f ≡ rules_from at (most_rows - n) old t → rights (most_rows - n) old (drop at t) ≡ 0 → Ends t f n at
  stopped f r e =
      let c = counted 0 e in
      let m : n ≡ right_rows t = omega arith in
      (r ∙ g.check, m, g.stands ∙ ap (past_rows t head_bytes) m)

  pub gone_over : length t ≤ at → Ends t none n at
  gone_over l =
      stopped none (rules-done t at (most_rows - n) old l) (rights-over old (drop at t) (most_rows - n) (omega (arith, length-drop at t)))

  -- something is found of the row there
  pub gone_wrong : at < length t → (o : Option Refusal) → o ≡ found_at t at (most_rows - n) old → (f : Refusal) → o ≡ some f → Ends t o n at
  gone_wrong l o e f q =
      let s : found_at t at (most_rows - n) old ≡ some f = sym e ∙ q in
      stopped o (q ∙ halted rule_size rule_source row_fault rule_moves t at (most_rows - n) old l f s)
      (something_none t at (most_rows - n) old f s)

  -- nothing is found of it, and the next stands at `p`
  module _ (o : Option Refusal) (e : o ≡ found_at t at (most_rows - n) old) (v : o ≡ none) (p : ℕ) (q : p ≡ next_row t at) where
    nothing : found_at t at (most_rows - n) old ≡ none
    nothing = sym e ∙ v

    right : rule_right old (drop at t) ≡ true
    right = (nothing_right t at (most_rows - n) old nothing).1

    pub gone_next : Gone t p (n + 1) (rule_source (drop at t))
    gone_next =
        let h = (nothing_right t at (most_rows - n) old nothing).0 in
        let i : p ≡ at + rule_size (drop at t) = q ∙ right-next t at old right in
        let j : most_rows - (n + 1) ≡ most_rows - n - 1 = omega arith in
        let c = counted _ (rights-right old (drop at t) (most_rows - n) h right) in
        record {
          check =
              rules-onward t at (most_rows - n) old (right-inside t at old right).0 h (sym right)
              p (most_rows - (n + 1)) (rule_source (drop at t)) i j refl
              ∙ g.check;
          count = rw (j, i, ← drop-drop (rule_size (drop at t)) at t) (let d = c in omega arith);
          stands = q ∙ ap (next_row t) g.stands ∙ sym (past_one t head_bytes n);
          few = omega arith;
        }

    -- the walk comes nearer to the end
    pub gone_nearer : length t - p < length t - at
    gone_nearer =
        let l = (right-inside t at old right).0 in
        let m = rule_moves (drop at t) in
        let j = right-next t at old right in
        omega arith
