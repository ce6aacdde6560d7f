-- Does the source of a row start with a text? One law for each way that a turn can go.
use Rattle.std.specs.Prelude.{Bool, true, false, ◌&&◌, ◌≡◌, List, ℕ, suc, ◌+◌, ◌-◌, ◌≤◌, ◌<◌, length, get_or, drop}
use Rattle.std.proofs.Math.Path.{sym}
use Rattle.std.proofs.Common.{ap, ◌∙◌, add-one, drop_of_length-le, eq-eqb, ne_eqb}
use Rattle.std.proofs.Math.Seq.{drop-cons}
use Rattle.base.specs.Lists.{starts}
use Rattle.base.specs.Rows.{counted, counted_none, counted_some}
use Rattle.definition.specs.RuleRows.{three_at}

-- `n` characters from `o` of a row on, and the text from `i` on
module _ (s w : List ℕ) (n o i : ℕ) where
  abbrev pub there : Bool
  there = starts (drop i w) (counted three_at 3 n (drop o s))

  pub text-over : length w ≤ i → true ≡ there
  unfolding starts
  text-over l = sym (rw (drop_of_length-le w {i = i} l))

  module _ (l : i < length w) where
    pub source-over : n ≡ 0 → false ≡ there
    unfolding starts
    source-over h = sym (rw (counted_none three_at 3 n (drop o s) h, drop-cons w i 0 l))

    module _ (h : 0 < n) (c d : ℕ) (p : c ≡ three_at (drop o s)) (q : d ≡ get_or w i 0) where
      pub another : (c ≡ d → ⊥) → false ≡ there
      unfolding starts
      another k = sym (rw (counted_some three_at 3 n o s h, drop-cons w i 0 l)
          (ap (λ b. b && starts (drop (suc i) w) (counted three_at 3 (n - 1) (drop (o + 3) s)))
          (ne_eqb (get_or w i 0) (three_at (drop o s)) (λ e. k (p ∙ sym (q ∙ e))))))

      pub same_letter : c ≡ d → starts (drop (i + 1) w) (counted three_at 3 (n - 1) (drop (o + 3) s)) ≡ there
      unfolding starts
      same_letter k = sym (rw (counted_some three_at 3 n o s h, drop-cons w i 0 l, add-one)
          (ap (λ b. b && starts (drop (suc i) w) (counted three_at 3 (n - 1) (drop (o + 3) s)))
          (eq-eqb (get_or w i 0) (three_at (drop o s)) (sym q ∙ sym k ∙ p))))
