-- A walk over rows that has come to a row: what is left of it finds the fault that the whole finds.
use Rattle.std.specs.Prelude.{Bool, ◌≡◌, List, drop, leb}
use Rattle.std.proofs.Math.Bool.{true, false}
use Rattle.std.proofs.Common.{true≢false, sym, ◌∙◌, arith}
use Rattle.std.proofs.Math.Path.{refl, ap}
use Rattle.std.proofs.Math.Option.{Option}
use Prim.Native.Nat.{ℕ, zero, suc, ◌+◌, ◌-◌, ◌<◌, ◌≤◌}
use Rattle.std.proofs.Math.ListN.{length}
use borrow.Author.Tests.{eq-eqb, ne_eqb, lt-ltb, le-ltb, leb-true, leb-false}
use Rattle.base.specs.Pick.{pick, pick_ind}
use Rattle.base.specs.Lists.{first_of}
use Rattle.base.specs.Big.{be3}
use Rattle.definition.specs.Limits.{most_rows}
use Rattle.definition.specs.Refusals.{Refusal, when}
use Rattle.definition.specs.Texts.{Text}
use Rattle.definition.specs.RuleRows.{rule_size, rule_source, rises, rule_right}
use Rattle.definition.specs.RuleFields.{Cursor, next, wrong, read_row}
use Rattle.definition.specs.RuleFaults.{field_fault, row_fault, rule_fault}
use Rattle.definition.specs.Blocks.{Walk, version_1, headed}
use Rattle.definition.specs.BlockTurns.{fine}
use Rattle.definition.specs.FieldsRight.{rightly}
use Rattle.definition.specs.Checking.{walk_at}
use Rattle.definition.specs.RuleTurns.{rules_from}
use Rattle.definition.proofs.RuleTurns.{fine-by, rules-begun, rules-done, rules-onward, rules_halted}
use Rattle.rule_table_check.specs.Told.{told_of, stopped_at}
use Rattle.rule_table_check.specs.Marks.{mark_at, no_mark, Rising, mark-after, rising_after}

-- the first fault from a row on
unfoldable pub fault_at : List ℕ → ℕ → ℕ → ℕ → ℕ → Option Refusal
fault_at b at left old low = rules_from at left (mark_at b old low) b

-- however many rows more there may be
pub record Kept (b : List ℕ) (at most old low here left last least : ℕ) : Type 0 where
  pub same : (more : ℕ) → fault_at b here (left + more) last least ≡ fault_at b at (most + more) old low
  pub rising : Rising (mark_at b last least) least
  pub few : left ≤ most

-- and where rows are left it stands at the table's end or at a fault
pub record Stands (b : List ℕ) (at most old low here left last least : ℕ) : Type 0 where
  pub kept : Kept b at most old low here left last least
  pub fault : 0 < left → here < length b → false ≡ rule_right (mark_at b last least) (drop here b)

module _ (b : List ℕ) (at most old low here left last least : ℕ) (k : Kept b at most old low here left last least) where
  pub at_end : length b ≤ here → Stands b at most old low here left last least
  at_end h = record { kept = k; fault = λ z l. absurd (omega arith) }

  pub at-fault : false ≡ rule_right (mark_at b last least) (drop here b) → Stands b at most old low here left last least
  at-fault e = record { kept = k; fault = λ z l. e }

  pub none_left : left ≡ 0 → Stands b at most old low here left last least
  none_left e = record { kept = k; fault = λ z l. absurd (omega arith) }

  pub row_on : here < length b → 0 < left → (end : ℕ) → true ≡ rule_right (mark_at b last least) (drop here b)
      → end ≡ here + rule_size (drop here b) → (c : ℕ) → c ≡ be3 (drop here b) 6 + 1
      → Kept b at most old low end (left - 1) here c
  unfolding fault_at
  row_on h l end p z c e = record {
    same = λ more. rules-onward b here (left + more) (mark_at b last least) h (omega arith) p
        end (left - 1 + more) (mark_at b here c) z (omega arith) (mark-after b here c e)
        ∙ k.same more;
    rising = rising_after b here c e;
    few = let f = k.few in omega arith;
  }

pub begun : {b : List ℕ} {at most old low : ℕ} → Rising (mark_at b old low) low → Kept b at most old low at most old low
begun h = record { same = λ more. refl; rising = h; few = omega arith }

-- Of a row that is not right, or too many, the order need not be asked: where nothing else is wrong with it, the order is
module _ (x : Walk Text) (e : fine rule_right x ≡ false) where
  abbrev stop : Option Refusal
  stop = told_of x.at x.left x.rest false

  pub at-stop : stop ≡ row_fault x
  unfolding row_fault field_fault first_of when pick
  at-stop = go (rises x.mark (rule_source x.rest)) refl
    where
      fields : 0 < x.left → rises x.mark (rule_source x.rest) ≡ true → (c : Cursor) → read_row x.rest ≡ c → stop ≡ row_fault x
      fields h r (wrong k o) p = rw (ne_eqb x.left 0 (λ z. omega arith), p)
      fields h r (next o) p = absurd (true≢false (sym (fine-by x (next o) p h ∙ (unfold rightly in r)) ∙ e))

      rows : rises x.mark (rule_source x.rest) ≡ true → (n : ℕ) → x.left ≡ n → stop ≡ row_fault x
      rows r zero p = rw (eq-eqb x.left 0 p)
      rows r (suc n) p = fields (omega arith) r (read_row x.rest) refl

      go : (b : Bool) → rises x.mark (rule_source x.rest) ≡ b → stop ≡ row_fault x
      go true r = rows r x.left refl
      go false r = sym (ap (told_of x.at x.left x.rest) r)

-- What is left of the walk over a table, from `here` on, finds the table's fault
module _ (b : List ℕ) (here rest last least : ℕ) (e : fault_at b here rest last least ≡ rule_fault b) where
  at_row : here < length b → (0 < rest → false ≡ rule_right (mark_at b last least) (drop here b))
      → told_of here rest (drop here b) false ≡ rule_fault b
  unfolding fault_at
  at_row h w =
      let f = not_fine rest refl in
      at-stop (walk_at here rest (mark_at b last least) b) f ∙ rules_halted b here rest (mark_at b last least) h f ∙ e
    where
      not_fine : (n : ℕ) → rest ≡ n → fine rule_right (walk_at here rest (mark_at b last least) b) ≡ false
      not_fine zero p = rw (le-ltb 0 rest (omega arith)) refl
      not_fine (suc n) p = rw (lt-ltb 0 rest (omega arith)) (sym (w (omega arith)))

  pub stops : (0 < rest → here < length b → false ≡ rule_right (mark_at b last least) (drop here b)) → stopped_at b here rest ≡ rule_fault b
  unfolding fault_at stopped_at
  stops w =
      pick_ind (λ f. f ≡ rule_fault b) (leb (length b) here) _ _
      (λ l. rules-done b here rest (mark_at b last least) (leb-true (length b) here l) ∙ e)
      (λ l. let h : here < length b = leb-false (length b) here l in at_row h (λ z. w z h))

-- The first half of a table leads there, and then the second
module _ (b : List ℕ) (hd : true ≡ headed version_1 b) (n at left old low : ℕ) (k : Kept b 5 n 5 0 at left old low)
    (two : n + n ≡ most_rows) where
  pub first-half : fault_at b at (left + n) old low ≡ rule_fault b
  unfolding fault_at
  first-half =
      k.same n
      ∙ ap (λ i. fault_at b 5 i 5 0) two
      ∙ ap (λ m. rules_from 5 most_rows m b) (no_mark b 5)
      ∙ rules-begun b hd

  pub second-half : (here rest last least : ℕ) → Kept b at (left + n) old low here rest last least
      → fault_at b here rest last least ≡ rule_fault b
  second-half here rest last least w =
      let x : rest + 0 ≡ rest = omega arith in
      let y : left + n + 0 ≡ left + n = omega arith in
      sym (ap (λ i. fault_at b here i last least) x) ∙ w.same 0 ∙ ap (λ i. fault_at b at i old low) y ∙ first-half
