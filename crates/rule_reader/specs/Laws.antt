-- What the count of right rows says of a table: all of its rows, or how far its first fault is; and that it is no large number.
use Rattle.std.specs.Prelude.{Bool, length}
use Rattle.std.proofs.Math.Bool.{true, false}
use Rattle.std.proofs.Math.Path.{◌≡◌, refl, sym, ap}
use Rattle.std.proofs.Common.{◌∙◌, lt_of_not-le}
use mathlib.Core.List.{List, []}
use Rattle.std.proofs.Math.Option.{Option, none, some}
use Prim.Native.Nat.{ℕ, zero, suc, ◌+◌, ◌≤◌, ◌<◌}
use native.Mathlib.Omega.{arith}
use Rattle.std.proofs.Math.Decide.{dec_le}
use Rattle.std.proofs.Math.ListN.{drop}
use Rattle.std.proofs.Math.Seq.{drop-drop}
use Rattle.base.specs.Pick.{pick, pick_all}
use Rattle.base.specs.Rows.{rows, rows_nil, rows_cons}
use Rattle.definition.specs.Limits.{most_rows}
use Rattle.definition.specs.Refusals.{Refusal}
use Rattle.definition.specs.Texts.{Text}
use Rattle.definition.specs.Blocks.{version_1, headed, head_bytes}
use Rattle.definition.specs.BlockTurns.{Chain, ended, linked}
use Rattle.definition.specs.RuleRows.{rule_size, rule_source, rule_right, rule_of, rules_of}
use Rattle.definition.specs.RuleFaults.{rule_fault}
use Rattle.definition.specs.Checking.{from, started, over, next, spent, wrong}
use Rattle.definition.proofs.Accepted.{rules-chain}
use Rattle.definition.specs.RuleTurns.{rule_moves}
use Rattle.definition.specs.FaultLaws.{first_row}
use Rattle.definition.proofs.FaultLaws.{fault_placed}
use Rattle.rule_reader.specs.Rows.{next_row, past_rows, rights, right_rows}
use Rattle.rule_reader.specs.Here.{right-next, right-inside}
use Rattle.rule_reader.specs.Counting.{by_first, rights-none, rights-wrong, rights-over, right_some, no_table}

-- Rows that follow one another rightly are all counted
chain-rights : {n : ℕ} {k : Text} {s : List ℕ} → Chain rule_size rule_source rule_right n k s
    → rights n k s ≡ length (rows rule_of rule_size s)
chain-rights (ended {n} {k} {s} e) = rights-over k s n e ∙ sym (ap length (rows_nil rule_of rule_size s e))
chain-rights (linked {n} {k} {s} p c) =
    let a = by_first k s n true p in
    let b = chain-rights c in
    let d : length (rows rule_of rule_size s) ≡ suc (length (rows rule_of rule_size (drop (rule_size s) s))) =
    ap length (rows_cons rule_of rule_size rule_moves s (right_some k s p)) in
    omega arith

-- A table without fault: all its rows are right
pub all_right : (t : List ℕ) → rule_fault t ≡ none → right_rows t ≡ length (rules_of t)
unfolding right_rows rules_of pick
all_right t e = go (headed version_1 t) refl
  where
    go : (b : Bool) → headed version_1 t ≡ b → right_rows t ≡ length (rules_of t)
    go true h = ap (λ b. pick b (rights most_rows [] (drop head_bytes t)) 0) h ∙ chain-rights (rules-chain t e)
    go false h = absurd (let f = (no_table t (sym h)).0 in let w : ◌≡◌ {A = ℕ} 0 1 = cc in omega arith)

-- The check for the first row that is not right, from the row at `at` on
abbrev check_from : ℕ → ℕ → Text → List ℕ → Option ℕ
check_from at left old t = from rule_size rule_source rule_right at left old t

module _ (t : List ℕ) (p : ℕ) where
  -- the walk stops here
  here : (left at : ℕ) (old : Text) → check_from at left old t ≡ some p
      → (at < length t → some at ≡ check_from at left old t) → rights left old (drop at t) ≡ 0
      → p ≡ past_rows t at (rights left old (drop at t))
  unfolding past_rows
  here left at old e f z = go (dec_le (length t) at)
    where
      go : Dec (length t ≤ at) → p ≡ past_rows t at (rights left old (drop at t))
      go (yes l) =
          let w = over rule_size rule_source rule_right rule_moves t at left old l in
          absurd (let v : ◌≡◌ {A = ℕ} 0 1 = cc in omega arith)
      go (no l) = rw z (let w = f (lt_of_not-le l) in cc)

  behind : (left at : ℕ) (old : Text) → check_from at left old t ≡ some p
      → p ≡ past_rows t at (rights left old (drop at t))
  unfolding past_rows
  behind zero at old e =
      here zero at old e (λ l. spent rule_size rule_source rule_right rule_moves t at zero old l refl)
      (rights-none old (drop at t) zero refl)
  behind (suc left) at old e = go (rule_right old (drop at t)) refl (behind left (next_row t at) (rule_source (drop at t)))
    where
      go : (b : Bool) → rule_right old (drop at t) ≡ b
          → (check_from (next_row t at) left (rule_source (drop at t)) t ≡ some p
          → p ≡ past_rows t (next_row t at) (rights left (rule_source (drop at t)) (drop (next_row t at) t)))
          → p ≡ past_rows t at (rights (suc left) old (drop at t))
      go true r ih =
          let i = right-next t at old r in
          let n = next rule_size rule_source rule_right rule_moves t at (suc left) old (right-inside t at old r).0
          (omega arith) (sym r) (next_row t at) left (rule_source (drop at t)) i (omega arith) refl in
          let m = rights left (rule_source (drop at t)) (drop (next_row t at) t) in
          let d : drop (rule_size (drop at t)) (drop at t) ≡ drop (next_row t at) t =
          drop-drop (rule_size (drop at t)) at t ∙ ap (λ o. drop o t) (sym i) in
          let w = by_first old (drop at t) left true r ∙ ap (λ s. 1 + rights left (rule_source (drop at t)) s) d in
          let c : rights (suc left) old (drop at t) ≡ suc m = omega arith in
          ih (n ∙ e) ∙ sym (ap (past_rows t at) c)
      go false r ih =
          here (suc left) at old e (λ l. wrong rule_size rule_source rule_right rule_moves t at (suc left) old l (sym r))
          (rights-wrong old (drop at t) (suc left) r)

  -- The first row that is not right is that behind the right ones
  pub fault-behind : headed version_1 t ≡ true → first_row t ≡ some p → p ≡ past_rows t head_bytes (right_rows t)
  unfolding right_rows pick
  fault-behind h e =
      behind most_rows head_bytes [] (started rule_size rule_source rule_right most_rows [] t (sym h) ∙ e)
      ∙ ap (λ b. past_rows t head_bytes (pick b (rights most_rows [] (drop head_bytes t)) 0)) (sym h)

-- and a fault's place is not before it
pub fault_not_before : (t : List ℕ) (f : Refusal) → headed version_1 t ≡ true → rule_fault t ≡ some f
    → past_rows t head_bytes (right_rows t) ≤ f.place
fault_not_before t f h e =
    let p = fault_placed t f e in
    let l = p.2 in
    let b = fault-behind t p.0 h p.1 in
    omega arith

-- No more rows are counted than a table may have
rights_few : (left : ℕ) (old : Text) (s : List ℕ) → rights left old s ≤ left
unfolding rights
rights_few zero old s = omega arith
rights_few (suc left) old s = go (rule_right old s) refl (rights_few left (rule_source s) (drop (rule_size s) s))
  where
    go : (b : Bool) → rule_right old s ≡ b → rights left (rule_source s) (drop (rule_size s) s) ≤ left → rights (suc left) old s ≤ suc left
    go true e h = let i = by_first old s left true e in omega arith
    go false e h = let i = by_first old s left false e in omega arith

pub few_rows : (t : List ℕ) → right_rows t ≤ most_rows
unfolding right_rows
few_rows t = pick_all (λ n. n ≤ most_rows) (headed version_1 t) (rights_few most_rows [] (drop head_bytes t)) (omega arith)
