-- Parts of a row one behind another: a count and as many, texts, and the row.
use mathlib.Core.Bool.{◌&&◌}
use mathlib.Core.Path.{◌≡◌, sym, ap, ◌∙◌}
use mathlib.Core.List.{List}
use Prim.Native.Nat.{ℕ, zero, suc, ◌+◌, ◌-◌, ◌<◌, ◌≤◌}
use native.Mathlib.Omega.{arith}
use lib.Dec.{leb}
use lib.ListN.{length}
use borrow.Author.Tests.{le-leb, lt-leb}
use Rattle.base.specs.Pick.{pick}
use Rattle.base.specs.ListLaws.{holds-is}
use Rattle.definition.specs.Refusals.{refused_length}
use Rattle.definition.specs.RuleRows.{rule_size}
use Rattle.definition.specs.RuleFields.{Cursor, next, wrong, and_then, read_text, read_texts, read_parts, read_row}
use Rattle.definition.proofs.FieldsWithin.{in_text}
use Rattle.rule_row_faults.proofs.Inside.{at_most}

-- Texts one after another, `done` of them read: reading the others leads where all lead
pub record Left (z : ℕ) (s : List ℕ) (n o done at : ℕ) : Type 0 where
  pub leads : read_texts z s (n - done) at ≡ read_texts z s n o
  pub inside : at ≤ z

pub begun : {z : ℕ} {s : List ℕ} {n o : ℕ} → o ≤ z → Left z s n o 0 o
begun {z} {s} {n} {o} h =
    let e : n - 0 ≡ n = omega arith in
    record { leads = ap (λ i. read_texts z s i o) e; inside = h }

first : (z : ℕ) (s : List ℕ) (n o : ℕ) → 0 < n
    → read_texts z s n o ≡ and_then (read_text z s o) (read_texts z s (n - 1))
unfolding read_texts
first z s zero o h = absurd (omega arith)
first z s (suc n) o h = let e : suc n - 1 ≡ n = omega arith in rw e

module _ {z : ℕ} {s : List ℕ} {n o done at : ℕ} (w : Left z s n o done at) where
  pub no_more : n ≤ done → next at ≡ read_texts z s n o
  unfolding read_texts
  no_more h =
      let e : n - done ≡ 0 = omega arith in
      sym (ap (λ i. read_texts z s i at) e) ∙ w.leads

  module _ (h : done < n) where
    here : read_texts z s n o ≡ and_then (read_text z s at) (read_texts z s (n - done - 1))
    here = sym w.leads ∙ first z s (n - done) at (omega arith)

    pub text_faulty : {k p : ℕ} → wrong k p ≡ read_text z s at → wrong k p ≡ read_texts z s n o
    unfolding and_then
    text_faulty e = sym (here ∙ rw (← e))

    pub text-passed : {p : ℕ} → next p ≡ read_text z s at → Left z s n o (done + 1) p
    unfolding and_then
    text-passed {p} e =
        let d : n - (done + 1) ≡ n - done - 1 = omega arith in
        record {
          leads = ap (λ j. read_texts z s j p) d ∙ sym (here ∙ rw (← e));
          inside = at_most e (in_text z s at w.inside);
        }

-- a count that may be 0 is only asked whether it is too large
pub up_to : (n most : ℕ) → (leb 0 n && leb n most) ≡ leb n most
up_to n most = rw (le-leb 0 n (omega arith))

-- A row that the table does not hold, and one that it does
module _ (s : List ℕ) (z : ℕ) (e : z ≡ rule_size s) where
  pub row_past : length s < z → wrong refused_length 0 ≡ read_row s
  unfolding read_row pick
  row_past h = rw (holds-is (rule_size s) s, lt-leb (rule_size s) (length s) (omega arith))

  pub row_read : z ≤ length s → (x : Cursor) → x ≡ read_parts z s → x ≡ read_row s
  unfolding read_row pick
  row_read h x p =
      rw (holds-is (rule_size s) s, le-leb (rule_size s) (length s) (omega arith)) (p ∙ ap (λ i. read_parts i s) e)
