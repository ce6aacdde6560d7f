-- Where the walk over a row's fields stands is at most the row's size, and a row that is read ends at its size.
use Rattle.std.specs.Prelude.{Bool, ◌≡◌, List, leb, length, get_or, drop}
use Rattle.std.proofs.Common.{subst, arith}
use Prim.Native.Nat.{ℕ, zero, suc, ◌+◌, ◌≤◌}
use borrow.Author.Tests.{leb-true}
use Rattle.base.specs.Pick.{pick_ind, pick_all}
use Rattle.base.specs.Lists.{holds}
use Rattle.base.specs.ListLaws.{holds-length}
use Rattle.definition.specs.RuleRows.{rule_size}
use Rattle.definition.specs.RuleFields.{Cursor, next, wrong, and_then, field, fields, read_text, read_texts, read_text_if, read_flags, read_source, read_codes, read_others, read_end, read_tail, read_parts, read_row}
use Rattle.definition.specs.FieldsWithin.{Full, In, place}

module _ (z : ℕ) where
  in_then : (c : Cursor) (f : ℕ → Cursor) → In z c → ((o : ℕ) → o ≤ z → In z (f o)) → In z (and_then c f)
  unfolding place and_then
  in_then (next o) f h g = g o h
  in_then (wrong k o) f h g = h

  full-then : (c : Cursor) (f : ℕ → Cursor) → ((o : ℕ) → Full z (f o)) → Full z (and_then c f)
  unfolding Full and_then
  full-then (next o) f g = g o
  full-then (wrong k o) f g = tt

  pub in_field : (o n : ℕ) (k : ℕ) (ok : Bool) → o ≤ z → In z (field z o n k ok)
  unfolding field place
  in_field o n k ok h = pick_ind (In z) (leb (o + n) z) _ _ (λ e. pick_all (In z) ok (leb-true (o + n) z e) h) (λ e. h)

  module _ (s : List ℕ) where
    in_fields : (q : List ℕ → Bool) (size : ℕ) (k : ℕ) (n o : ℕ) → o ≤ z → In z (fields q size k z s n o)
    unfolding fields place
    in_fields q size k zero o h = h
    in_fields q size k (suc n) o h =
        in_then (field z o size k (q (drop o s))) (fields q size k z s n) (in_field o size k (q (drop o s)) h)
        (λ p l. in_fields q size k n p l)

    pub in_text : (o : ℕ) → o ≤ z → In z (read_text z s o)
    unfolding read_text
    in_text o h = in_then _ _ (in_field o 1 _ _ h) (λ p l. in_fields _ 1 _ (get_or s o 0) p l)

    in_texts : (n o : ℕ) → o ≤ z → In z (read_texts z s n o)
    unfolding read_texts place
    in_texts zero o h = h
    in_texts (suc n) o h = in_then (read_text z s o) (read_texts z s n) (in_text o h) (λ p l. in_texts n p l)

    pub in_text_if : (b : Bool) (o : ℕ) → o ≤ z → In z (read_text_if b z s o)
    unfolding read_text_if place
    in_text_if b o h = pick_all (In z) b (in_text o h) h

    in_end : (o : ℕ) → o ≤ z → In z (read_end z o)
    unfolding read_end place
    in_end o h = pick_all (In z) (leb z o) h h

    full-end : (o : ℕ) → Full z (read_end z o)
    unfolding read_end Full
    full-end o = pick_ind (Full z) (leb z o) _ _ (λ e. leb-true z o e) (λ e. tt)

    in_tail : (o : ℕ) → o ≤ z → In z (read_tail z s o)
    unfolding read_tail read_others
    in_tail o h =
        in_then _ _ (in_text_if _ o h) (λ o h.
        in_then _ _ (in_text_if _ o h) (λ o h.
        in_then _ _ (in_then _ _ (in_field o 1 _ _ h) (λ p l. in_texts (get_or s o 0) p l)) (λ o h. in_end o h)))

    full-tail : (o : ℕ) → Full z (read_tail z s o)
    unfolding read_tail
    full-tail o = full-then _ _ (λ o. full-then _ _ (λ o. full-then _ _ (λ o. full-end o)))

    pub in_flags : 2 ≤ z → In z (read_flags z s)
    unfolding read_flags
    in_flags h = in_then _ _ (in_field 2 1 _ _ h) (λ p l. in_field p 2 _ _ l)

    pub in_source : (o : ℕ) → o ≤ z → In z (read_source z s o)
    unfolding read_source
    in_source o h = in_then _ _ (in_field o 1 _ _ h) (λ p l. in_fields _ 3 _ (get_or s o 0) p l)

    pub in_codes : (o : ℕ) → o ≤ z → In z (read_codes z s o)
    unfolding read_codes
    in_codes o h = in_then _ _ (in_field o 1 _ _ h) (λ p l. in_fields _ 3 _ (get_or s o 0) p l)

    in_parts : 2 ≤ z → In z (read_parts z s)
    unfolding read_parts
    in_parts h =
        in_then _ _ (in_flags h) (λ o h. in_then _ _ (in_source o h) (λ o h. in_then _ _ (in_codes o h) (λ o h. in_tail o h)))

    full-parts : Full z (read_parts z s)
    unfolding read_parts
    full-parts = full-then _ _ (λ o. full-then _ _ (λ o. full-then _ _ (λ o. full-tail o)))

-- A row that the table has no room for is faulty at its start, so that no fault lies past the table's end
pub field-inside : (s : List ℕ) → place (read_row s) ≤ length s
unfolding read_row rule_size place
field-inside s =
    pick_ind (λ c. place c ≤ length s) (holds (rule_size s) s) _ _
    (λ e. let l = holds-length (rule_size s) s e in let i = in_parts (rule_size s) s (omega arith) in omega arith)
    (λ e. omega arith)

-- A row that is read ends at its size
pub ends : (s : List ℕ) (o : ℕ) → read_row s ≡ next o → o ≡ rule_size s
unfolding read_row rule_size place Full
ends s o h =
    let i : place (next o) ≤ rule_size s = subst (λ c. place c ≤ rule_size s) h
    (pick_all (λ c. place c ≤ rule_size s) (holds (rule_size s) s) (in_parts (rule_size s) s (omega arith)) (omega arith)) in
    let f : Full (rule_size s) (next o) = subst (Full (rule_size s)) h
    (pick_all (Full (rule_size s)) (holds (rule_size s) s) (full-parts (rule_size s) s) tt) in
    omega arith
