-- Gaps between rows: characters side by side that give no edge.
use Rattle.std.specs.Prelude.{Bool, true, false, ◌&&◌, List, ◌≡◌, ℕ, ◌+◌, ◌-◌, ◌≤◌, ◌<◌, eqb, leb, length, drop}
use Rattle.std.proofs.Common.{true≢false, sym, ap, ◌∙◌, arith}
use Rattle.std.proofs.Math.Option.{none, some}
use Rattle.std.proofs.Math.Path.{refl, subst}
use borrow.Author.Tests.{eq-eqb, ne_eqb, leb-true, le-leb}
use Rattle.base.specs.Pick.{pick}
use Rattle.base.specs.Bools.{and_left, and_right}
use Rattle.base.specs.Lists.{has, maybe}
use Rattle.definition.specs.Tables.{tag_other}
use Rattle.definition.specs.DecompositionRows.{decomposition_char, decomposition_tag, decomposition_size, decomposition_of, decompositions_of}
use Rattle.definition.specs.Decomposing.{row_of, stands_for}
use Rattle.table_decompositions.specs.declared.Gap.{Gap}
use Rattle.table_decompositions.specs.Search.{row_hit, row_over, row_above, sorted_risen, Begun, begun-next}

-- does a character lie in a gap?
unfoldable pub in_gap : Gap → ℕ → Bool
in_gap g c = leb g.first c && leb c g.last

-- none of a gap gives an edge
abbrev pub Empty : List ℕ → Gap → Type 0
Empty b g = (x : ℕ) → in_gap g x ≡ true → stands_for (decompositions_of b) x ≡ none

-- The gap of a character, in which it lies unless it gives an edge
pub record GapAt (b : List ℕ) (c : ℕ) (g : Gap) : Type 0 where
  pub none-there : Empty b g
  pub own : in_gap g c ≡ false → has (stands_for (decompositions_of b) c) ≡ true

-- no character lies in a gap that ends before it begins
pub nowhere : (b : List ℕ) → Empty b (record { first = 1; last = 0 })
unfolding in_gap
nowhere b x e = absurd (let a = leb-true 1 x (and_left (leb 1 x) (leb x 0) e) in let z = leb-true x 0 (and_right (leb 1 x) (leb x 0) e) in omega arith)

pub rowless : (b : List ℕ) (x : ℕ) → row_of (decompositions_of b) x ≡ none → stands_for (decompositions_of b) x ≡ none
unfolding stands_for maybe
rowless b x e = rw e refl

-- What a walk has passed: from `first` on a character's row is there or later
module _ (b : List ℕ) (c at first : ℕ) (low : first ≤ c) (w : (x : ℕ) → first ≤ x → Begun b x at) where
  -- the characters up to `last` have no row
  gap_by : (last : ℕ) → c ≤ last → ((x : ℕ) → first ≤ x → x ≤ last → row_of (decompositions_of b) x ≡ none) → GapAt b c (record { first = first; last = last })
  unfolding in_gap
  gap_by last h f = record {
    none-there = λ x e. rowless b x (f x (leb-true first x (and_left (leb first x) (leb x last) e)) (leb-true x last (and_right (leb first x) (leb x last) e)));
    own = λ e. absurd (true≢false (sym (rw (le-leb first c low, le-leb c last h) refl) ∙ e));
  }

  pub gap-over : length b ≤ at → (last : ℕ) → c ≤ last → GapAt b c (record { first = first; last = last })
  gap-over l last h = gap_by last h (λ x m q. sym (w x m).same ∙ row_over b x at l)

  module _ (l : at < length b) (d : ℕ) (e : d ≡ decomposition_char (drop at b)) where
    pub gap-before : c < d → GapAt b c (record { first = first; last = d - 1 })
    gap-before h = gap_by (d - 1) (omega arith) (λ x m q. sym (w x m).same ∙ row_above b x at l (w x m).sorted (omega (arith, q, h, e)))

    -- the row is its own
    module _ (h : d ≡ c) (t : ℕ) (q : t ≡ decomposition_tag (drop at b)) where
      stands : stands_for (decompositions_of b) c ≡ pick (eqb (decomposition_tag (drop at b)) tag_other) (some (decomposition_of (drop at b)).into) none
      unfolding stands_for maybe decomposition_of
      stands = rw (sym (w c low).same ∙ row_hit b c at l (sym e ∙ h)) refl

      pub gap-none : t ≡ tag_other → GapAt b c (record { first = 1; last = 0 })
      gap-none g = record {
        none-there = nowhere b;
        own = λ z. ap has {x = stands_for (decompositions_of b) c} {y = some (decomposition_of (drop at b)).into}
            (stands ∙ unfold pick in rw (eq-eqb (decomposition_tag (drop at b)) tag_other (sym q ∙ g)) refl);
      }

      pub gap-own : (t ≡ tag_other → ⊥) → GapAt b c (record { first = c; last = c })
      unfolding in_gap
      gap-own g = record {
        none-there = λ x z.
            let k = leb-true c x (and_left (leb c x) (leb x c) z) in
            let m = leb-true x c (and_right (leb c x) (leb x c) z) in
            subst (λ (y : ℕ). stands_for (decompositions_of b) y ≡ none) {x = c} {y = x} (omega arith)
            (stands ∙ unfold pick in rw (ne_eqb (decomposition_tag (drop at b)) tag_other (λ u. g (q ∙ u))) refl);
        own = λ z. absurd (true≢false (sym (rw (le-leb c c (omega arith)) refl) ∙ z));
      }

    -- the row is passed
    pub gap_on : first ≤ d → (z : ℕ) → z ≡ decomposition_size (drop at b) → (x : ℕ) → d + 1 ≤ x → Begun b x (at + z)
    gap_on h z q x m = begun-next b x at z l (λ u. omega (arith, u, e, m)) q (w x (omega (arith, h, m)))

    -- and the next one's character is higher
    pub gap-next : (z : ℕ) → z ≡ decomposition_size (drop at b) → at + z < length b → d + 1 ≤ decomposition_char (drop (at + z) b)
    gap-next z q m =
        let r = sorted_risen l (w c low).sorted (subst (λ (k : ℕ). at + k < length b) q m) in
        let u : decomposition_char (drop (at + z) b) ≡ decomposition_char (drop (at + decomposition_size (drop at b)) b) = ap (λ (k : ℕ). decomposition_char (drop (at + k) b)) q in
        omega (arith, r, u, e)
