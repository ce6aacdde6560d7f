-- Fields one after another: a turn of the walk in each case.
use mathlib.Core.Bool.{Bool, true, false}
use mathlib.Core.Path.{◌≡◌, sym, ap, ◌∙◌}
use mathlib.Core.List.{List}
use Prim.Native.Nat.{ℕ, zero, suc, ◌+◌, ◌-◌, ◌<◌, ◌≤◌}
use native.Mathlib.Omega.{arith}
use lib.ListN.{drop}
use Rattle.definition.specs.Refusals.{refused_length}
use Rattle.definition.specs.RuleFields.{next, wrong, and_then, field, fields}
use Rattle.rule_row_faults.proofs.Tests.{field_past, field-right, field-wrong}

-- `done` of `n` are read, up to `at`: reading the others leads where all lead from `o` on
pub record Left (q : List ℕ → Bool) (size k z : ℕ) (s : List ℕ) (n o done at : ℕ) : Type 0 where
  pub leads : fields q size k z s (n - done) at ≡ fields q size k z s n o
  pub inside : at ≤ z

pub begun : {q : List ℕ → Bool} {size k z : ℕ} {s : List ℕ} {n o : ℕ} → o ≤ z
    → Left q size k z s n o 0 o
begun {q} {size} {k} {z} {s} {n} {o} h =
    let e : n - 0 ≡ n = omega arith in
    record { leads = ap (λ i. fields q size k z s i o) e; inside = h }

first : (q : List ℕ → Bool) (size k z : ℕ) (s : List ℕ) (n o : ℕ) → 0 < n
    → fields q size k z s n o ≡ and_then (field z o size k (q (drop o s))) (fields q size k z s (n - 1))
unfolding fields
first q size k z s zero o h = absurd (omega arith)
first q size k z s (suc n) o h = let e : suc n - 1 ≡ n = omega arith in rw e

module _ {q : List ℕ → Bool} {size k z : ℕ} {s : List ℕ} {n o done at : ℕ}
    (w : Left q size k z s n o done at) where
  pub no_more : n ≤ done → next at ≡ fields q size k z s n o
  unfolding fields
  no_more h =
      let e : n - done ≡ 0 = omega arith in
      sym (ap (λ i. fields q size k z s i at) e) ∙ w.leads

  module _ (h : done < n) where
    here : fields q size k z s n o ≡ and_then (field z at size k (q (drop at s))) (fields q size k z s (n - done - 1))
    here = sym w.leads ∙ first q size k z s (n - done) at (omega arith)

    pub past : z < at + size → wrong refused_length at ≡ fields q size k z s n o
    unfolding and_then
    past l = sym (here ∙ rw (field_past z at size k (q (drop at s)) l))

    module _ (l : at + size ≤ z) where
      pub not_right : q (drop at s) ≡ false → wrong k at ≡ fields q size k z s n o
      unfolding and_then
      not_right e = sym (here ∙ rw (field-wrong z at size k (q (drop at s)) l e))

      pub right : q (drop at s) ≡ true → (p : ℕ) → p ≡ at + size → Left q size k z s n o (done + 1) p
      unfolding and_then
      right e p i =
          let d : n - (done + 1) ≡ n - done - 1 = omega arith in
          record {
            leads =
                ap (λ j. fields q size k z s j p) d ∙ ap (fields q size k z s (n - done - 1)) i
                ∙ sym (here ∙ rw (field-right z at size k (q (drop at s)) l e));
            inside = omega arith;
          }
