-- What holds of the six numbers that refuse a rule table holds of the number of any faulty field, row and table.
use Rattle.std.specs.Prelude.{Bool, true, false, ◌≡◌, length, drop, get_or}
use Rattle.std.proofs.Common.{ap, subst, arith}
use mathlib.Core.List.{List, []}
use Rattle.std.proofs.Math.Option.{some}
use Prim.Native.Nat.{ℕ, zero, suc}
use Rattle.base.specs.Pick.{pick, pick_all}
use Rattle.definition.specs.Limits.{most_rows}
use Rattle.definition.specs.Refusals.{Refusal, refuse, refused_length}
use Rattle.definition.specs.Texts.{Text}
use Rattle.definition.specs.Blocks.{Walk, version_1, headed, begin, fault_from, fault}
use Rattle.definition.specs.RuleRows.{rule_size, rule_source}
use Rattle.definition.specs.RuleFields.{Cursor, next, wrong, and_then, field, fields, read_text, read_texts, read_text_if, read_flags, read_source}
use Rattle.definition.specs.RuleFields.{read_codes, read_others, read_end, read_tail, read_parts, read_row}
use Rattle.definition.specs.RuleFaults.{row_fault, rule_fault}
use Rattle.definition.specs.BlockTurns.{found_at}
use Rattle.definition.specs.RuleTurns.{rule_moves}
use Rattle.definition.proofs.RuleTurns.{found_ind}
use Rattle.definition.specs.RuleNumbers.{Known, Six}

module _ (Q : ℕ → Type 0) (six : Six Q) where
  known-then : (c : Cursor) (f : ℕ → Cursor) → Known Q six c → ((o : ℕ) → Known Q six (f o)) → Known Q six (and_then c f)
  unfolding Known and_then
  known-then (next o) f h g = g o
  known-then (wrong k o) f h g = h

  known-field : (z o n k : ℕ) (right : Bool) → Q k → Known Q six (field z o n k right)
  unfolding field Known
  known-field z o n k right q = pick_all (Known Q six) _ (pick_all (Known Q six) right tt q) six.of_length

  module _ (z : ℕ) (s : List ℕ) where
    known-fields : (q : List ℕ → Bool) (size k : ℕ) → Q k → (n o : ℕ) → Known Q six (fields q size k z s n o)
    unfolding fields Known
    known-fields q size k h zero o = tt
    known-fields q size k h (suc n) o =
        known-then (field z o size k (q (drop o s))) (fields q size k z s n) (known-field z o size k (q (drop o s)) h)
        (λ p. known-fields q size k h n p)

    known-text : (o : ℕ) → Known Q six (read_text z s o)
    unfolding read_text
    known-text o = known-then _ _ (known-field z o 1 _ _ six.of_range) (λ p. known-fields _ 1 _ six.of_byte (get_or s o 0) p)

    known-texts : (n o : ℕ) → Known Q six (read_texts z s n o)
    unfolding read_texts Known
    known-texts zero o = tt
    known-texts (suc n) o = known-then (read_text z s o) (read_texts z s n) (known-text o) (λ p. known-texts n p)

    known-text_if : (b : Bool) (o : ℕ) → Known Q six (read_text_if b z s o)
    unfolding read_text_if Known
    known-text_if b o = pick_all (Known Q six) b (known-text o) tt

    known-tail : (o : ℕ) → Known Q six (read_tail z s o)
    unfolding read_tail read_others read_end Known
    known-tail o =
        known-then _ _ (known-text_if _ o) (λ o.
        known-then _ _ (known-text_if _ o) (λ o.
        known-then _ _ (known-then _ _ (known-field z o 1 _ _ six.of_range) (λ p. known-texts (get_or s o 0) p)) (λ o.
        pick_all (Known Q six) _ tt six.of_length)))

    known-parts : Known Q six (read_parts z s)
    unfolding read_parts read_flags read_source read_codes
    known-parts =
        known-then _ _ (known-then _ _ (known-field z 2 1 _ _ six.of_range) (λ p. known-field z p 2 _ _ six.of_range)) (λ o.
        known-then _ _ (known-then _ _ (known-field z o 1 _ _ six.of_range) (λ p. known-fields _ 3 _ six.of_letter (get_or s o 0) p)) (λ o.
        known-then _ _ (known-then _ _ (known-field z o 1 _ _ six.of_range) (λ p. known-fields _ 3 _ six.of_letter (get_or s o 0) p)) (λ o.
        known-tail o)))

  known_row : (s : List ℕ) → Known Q six (read_row s)
  unfolding read_row Known
  known_row s = pick_all (Known Q six) _ (known-parts (rule_size s) s) six.of_length

  -- the number of what is found of a row
  row_number : (x : Walk Text) (f : Refusal) → row_fault x ≡ some f → Q f.number
  unfolding Known
  row_number x =
      found_ind x (λ f. Q f.number) six.of_rows (λ k o p. rw p at (known_row x.rest)) six.of_order

  -- and of a table's fault
  pub fault_number : (b : List ℕ) (f : Refusal) → rule_fault b ≡ some f → Q f.number
  unfolding rule_fault fault pick
  fault_number b f e = go (headed version_1 b) e
    where
      start : Walk Text
      start = begin rule_size rule_source most_rows [] b

      go : (h : Bool) → pick h (fault_from rule_size rule_source row_fault start) (some (refuse refused_length 0)) ≡ some f → Q f.number
      go true e =
          let s = found_at rule_size rule_source row_fault rule_moves (λ y. Unit {0}) (λ y p h n. tt) f (length start.rest) start (omega arith) tt e in
          row_number s.0 f s.3
      go false e = subst Q (let i : refuse refused_length 0 ≡ f = cc in ap (λ (r : Refusal). r.number) i) six.of_length
