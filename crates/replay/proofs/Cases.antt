-- The tests of an answer one by one.
use mathlib.Core.Bool.{Bool, true, false, ◌&&◌, true≢false}
use mathlib.Core.Path.{◌≡◌, refl, sym, ap, ◌∙◌}
use mathlib.Core.List.{List}
use Prim.Native.Nat.{ℕ, suc, ◌+◌, ◌≤◌, ◌<◌}
use native.Mathlib.Numerals.{add-one}
use lib.Dec.{eqb, leb}
use lib.ListN.{length, get_or, take, drop, drop_of_length-le}
use lib.Seq.{drop-cons}
use borrow.Author.Tests.{eq-eqb, ne_eqb, le-leb, lt-leb}
use Rattle.base.specs.Lists.{all, same}
use Rattle.lent_bytes.specs.Parts.{part_or_none}
use Rattle.jettyfig.specs.declared.Answer.{Answer}
use Rattle.replay.specs.Given.{number_at, zeros, are_numbers, is_right_by, is_right}

-- The numbers of an answer up to one that differs
module _ (s : List ℕ) (at : ℕ) (a : Answer) where
  pub other-number : (n : ℕ) → n ≡ get_or s at 0 → (a.number ≡ n → ⊥) → eqb a.number n ≡ are_numbers s at a
  unfolding are_numbers
  other-number n e k = ne_eqb a.number n k ∙ sym (rw (ne_eqb a.number (get_or s at 0) (λ x. k (x ∙ sym e))) refl)

  module _ (h : a.number ≡ get_or s at 0) where
    pub other_place : (p : ℕ) → p ≡ number_at s (at + 1) → (a.place ≡ p → ⊥) → eqb a.place p ≡ are_numbers s at a
    unfolding are_numbers
    other_place p e k =
        ne_eqb a.place p k
        ∙ sym (rw (eq-eqb a.number (get_or s at 0) h, ne_eqb a.place (number_at s (at + 1)) (λ x. k (x ∙ sym e))) refl)

    module _ (j : a.place ≡ number_at s (at + 1)) where
      pub other_length : (l : ℕ) → l ≡ number_at s (at + 5) → (a.length ≡ l → ⊥) → eqb a.length l ≡ are_numbers s at a
      unfolding are_numbers
      other_length l e k =
          ne_eqb a.length l k
          ∙ sym (rw (
            eq-eqb a.number (get_or s at 0) h,
            eq-eqb a.place (number_at s (at + 1)) j,
            ne_eqb a.length (number_at s (at + 5)) (λ x. k (x ∙ sym e)),
          ) refl)

      pub by_edges : a.length ≡ number_at s (at + 5) → (n : ℕ) → n ≡ number_at s (at + 9) → eqb a.edges n ≡ are_numbers s at a
      unfolding are_numbers
      by_edges i n e =
          ap (eqb a.edges) e
          ∙ sym (rw (
            eq-eqb a.number (get_or s at 0) h,
            eq-eqb a.place (number_at s (at + 1)) j,
            eq-eqb a.length (number_at s (at + 5)) i,
          ) refl)

-- All of an answer up to what is wrong
first : (x y : Bool) → false ≡ x → false ≡ (x && y)
first true y e = absurd (true≢false (sym e))
first false y e = refl

next : (x y : Bool) → true ≡ x → y ≡ (x && y)
next true y e = refl
next false y e = absurd (true≢false e)

module _ (s : List ℕ) (at : ℕ) (a : Answer) (slots room out : List ℕ) (len : ℕ) (e : len ≡ number_at s (at + 5)) where
  abbrev bytes : Bool
  bytes = same (part_or_none s (at + 13) len) (take len out)

  pub compared : (p q : List ℕ) (b : Bool) → b ≡ same p q → p ≡ part_or_none s (at + 13) len → q ≡ take len out → b ≡ bytes
  compared p q b k f g = k ∙ ap (λ (l : List ℕ). same l q) f ∙ ap (same (part_or_none s (at + 13) len)) g

  whole : is_right_by s at a slots room out len ≡ is_right s at a slots room out
  unfolding is_right
  whole = ap (is_right_by s at a slots room out) e

  pub short : length out < len → false ≡ is_right s at a slots room out
  unfolding is_right_by
  short h = first (leb len (length out)) _ (sym (lt-leb len (length out) h)) ∙ whole

  module _ (h : len ≤ length out) where
    fits : (y : Bool) → y ≡ (leb len (length out) && y)
    fits y = next (leb len (length out)) y (sym (le-leb len (length out) h))

    pub other-numbers : false ≡ are_numbers s at a → false ≡ is_right s at a slots room out
    unfolding is_right_by
    other-numbers k = first (are_numbers s at a) _ k ∙ fits _ ∙ whole

    module _ (n : true ≡ are_numbers s at a) where
      counts : (y : Bool) → y ≡ (leb len (length out) && (are_numbers s at a && y))
      counts y = next (are_numbers s at a) y n ∙ fits (are_numbers s at a && y)

      pub other-bytes : false ≡ bytes → false ≡ is_right s at a slots room out
      unfolding is_right_by
      other-bytes k = first bytes _ k ∙ counts _ ∙ whole

      module _ (w : true ≡ bytes) where
        writes : (y : Bool) → y ≡ (leb len (length out) && (are_numbers s at a && (bytes && y)))
        writes y = next bytes y w ∙ counts (bytes && y)

        pub other-rest : false ≡ zeros (drop len out) → false ≡ is_right s at a slots room out
        unfolding is_right_by
        other-rest k = first (zeros (drop len out)) _ k ∙ writes _ ∙ whole

        pub other-slots : true ≡ zeros (drop len out) → false ≡ zeros slots → false ≡ is_right s at a slots room out
        unfolding is_right_by
        other-slots z k = first (zeros slots) _ k ∙ next (zeros (drop len out)) _ z ∙ writes _ ∙ whole

        pub by-room : true ≡ zeros (drop len out) → true ≡ zeros slots → zeros room ≡ is_right s at a slots room out
        unfolding is_right_by
        by-room z t = next (zeros slots) (zeros room) t ∙ next (zeros (drop len out)) _ z ∙ writes _ ∙ whole
