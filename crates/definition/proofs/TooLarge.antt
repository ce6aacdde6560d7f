-- Calls that end with 19, and listings that are returned.
use Rattle.std.specs.Prelude.{Bool, true, false, ◌≡◌, refl, ℕ, ◌<◌, eqb, length, drop}
use Rattle.std.proofs.Common.{true≢false, sym, ap, ◌∙◌, arith, eqb-true}
use Rattle.std.proofs.Math.Option.{none}
use Rattle.std.proofs.lemmas.Bool.{eqb-false}
use Rattle.base.specs.Big.{be4}
use Rattle.definition.specs.Limits.{most_listed}
use Rattle.definition.specs.Blocks.{head_bytes, version_1, headed}
use Rattle.definition.specs.Decomposing.{edges, with_alternatives}
use Rattle.definition.specs.Listing.{shown}
use Rattle.definition.specs.Refusals.{refuse, refused_listing}
use Rattle.definition.specs.Call.{Inputs, Called, refusal, refused, uncounted, called}
use Rattle.definition.specs.Promises.{Held}
use Rattle.definition.specs.Sizes.{shown_in}
use Rattle.definition.proofs.Sizes.{listing-uncounted, uncounted-listing, counted_but_2, length_exact, shown-headed}
use Rattle.definition.specs.Endings.{romanization, Romanized, TooLarge}
use Rattle.definition.proofs.Endings.{too_large, refused_large}
use Rattle.definition.specs.TooLarge.{mode_2_bytes}

module _ (i : Inputs) where
  only_in_2 : TooLarge i → i.mode ≡ 2
  only_in_2 h = go (eqb i.mode 2) refl
    where
      go : (b : Bool) → eqb i.mode 2 ≡ b → i.mode ≡ 2
      go true e = eqb-true i.mode 2 e
      go false e = absurd (true≢false (sym h.2 ∙ counted_but_2 i h.0 (unfold edges in h.1) i.mode (eqb-false i.mode 2 e)))

  large_is : i.mode ≡ 2 → uncounted i.mode (romanization i) ≡ uncounted 2 (shown_in i 2)
  large_is e = ap (λ (m : ℕ). uncounted m (shown_in i m)) e

  -- A call that ends with 19 is one of mode 2, and what it would list passes the limit
  pub large_mode : (called i).number ≡ refused_listing → i.mode ≡ 2
  large_mode e = only_in_2 (too_large i e)

  pub large_sum : (called i).number ≡ refused_listing → most_listed < mode_2_bytes i
  unfolding shown with_alternatives
  large_sum e = let h = too_large i e in uncounted-listing 2 _ (omega arith) (sym (large_is (only_in_2 h)) ∙ h.2)

  -- and every such call ends so
  pub sum_large : refusal i ≡ none → Held i → i.mode ≡ 2 → most_listed < mode_2_bytes i → called i ≡ refused i (refuse refused_listing 0)
  unfolding shown with_alternatives edges
  sum_large e h m l = refused_large i (e, h, large_is m ∙ listing-uncounted 2 _ (omega arith) l)

  -- A listing that is returned begins with the exact length of its rows, and so with a right header
  module _ (r : Called) (done : Romanized i r) (lists : 0 < i.mode) where
    pub returned_exact : be4 (romanization i) 1 ≡ length (drop head_bytes (romanization i))
    returned_exact = length_exact i i.mode lists done.counted

    pub returned-headed : headed version_1 (romanization i) ≡ true
    returned-headed = shown-headed i i.mode lists done.counted
