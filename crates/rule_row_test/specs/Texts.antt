-- Texts one after another, from a place on: where they end, or none where they are not right or reach too far.
use Prim.Native.Nat.{ℕ, zero, suc, ◌+◌, ◌-◌, ◌≤◌, ◌<◌}
use Rattle.std.specs.Prelude.{Bool, true, false, List, ◌≡◌, take, Option, Some, None}
use Rattle.std.proofs.Math.Path.{refl, sym, ap, subst}
use Rattle.std.proofs.Common.{◌∙◌, drop-drop, le-leb}
use native.Mathlib.Omega.{arith}
use Rattle.std.proofs.Math.ListN.{get_or, drop}
use Rattle.std.proofs.lemmas.Bool.{lt-leb}
use Rattle.base.specs.Lists.{all}
use Rattle.definition.specs.Limits.{most_target}
use Rattle.definition.specs.RuleRows.{printable, text_size, text_of, text_right, texts_size, texts_right}

-- they are right and end at `r`, not past `end`
pub record Passed (b : List ℕ) (end count from r : ℕ) : Type 0 where
  pub ends : r ≡ from + texts_size count (drop from b)
  pub inside : r ≤ end
  pub right : texts_right count (drop from b) ≡ true

-- or one is not right, where they do not reach past `end`
pub record Refused (b : List ℕ) (end count from : ℕ) : Type 0 where
  pub wrong : from + texts_size count (drop from b) ≤ end → texts_right count (drop from b) ≡ false

abbrev pub Walked : List ℕ → ℕ → ℕ → ℕ → Option ℕ → Type 0
Walked b end count from (Some r) = Passed b end count from r
Walked b end count from None = Refused b end count from

pub begun : (b : List ℕ) (end count from : ℕ) (r : Option ℕ) → Walked b end (count - 0) from r → Walked b end count from r
begun b end count from r w =
    let e : count - 0 ≡ count = omega arith in
    subst (λ i. Walked b end i from r) e w

module _ (b : List ℕ) (end at : ℕ) where
  pub none_left : (left : ℕ) → at ≤ end → left ≡ 0 → Walked b end left at (Some at)
  unfolding texts_size texts_right
  none_left left k e = record {
    ends = rw e (omega arith);
    inside = k;
    right = rw e refl;
  }

  -- a first text that reaches too far, and one that is not right
  too_far : (n : ℕ) → 0 < n → end < at + text_size (drop at b) → end < at + texts_size n (drop at b)
  unfolding texts_size
  too_far zero h l = absurd (omega arith)
  too_far (suc n) h l = omega arith

  not_right : (n : ℕ) → 0 < n → text_right (drop at b) ≡ false → texts_right n (drop at b) ≡ false
  unfolding texts_right
  not_right zero h e = absurd (omega arith)
  not_right (suc n) h e = rw e refl

  passed : (to : ℕ) → to ≡ at + text_size (drop at b) → drop (text_size (drop at b)) (drop at b) ≡ drop to b
      → text_right (drop at b) ≡ true → (n : ℕ) (r : Option ℕ) → Walked b end n to r → Walked b end (suc n) at r
  unfolding texts_size texts_right
  passed to f d p n (Some r) w = record {
    ends = let q = w.ends in rw d (omega arith);
    inside = w.inside;
    right = rw (p, d) w.right;
  }
  passed to f d p n None w = record {
    wrong = λ k. rw (p, d) (w.wrong (let l = rw d at k in omega arith));
  }

  module _ (left : ℕ) (h : 0 < left) where
    pub far : end < at + text_size (drop at b) → Walked b end left at None
    far l = record { wrong = λ k. absurd (omega (arith, too_far left h l)) }

    bad : text_right (drop at b) ≡ false → Walked b end left at None
    bad e = record { wrong = λ k. not_right left h e }

    pub past_end : end ≤ at → Walked b end left at None
    past_end l = far (unfold text_size in omega arith)

    module _ (n : ℕ) (e : n ≡ get_or (drop at b) 0 0) where
      pub too_long : most_target < n → Walked b end left at None
      too_long l = bad (unfold text_right in rw (lt-leb (get_or (drop at b) 0 0) most_target (omega arith)) refl)

      module _ (to : ℕ) (f : to ≡ at + 1 + n) where
        pub past_text : end < to → Walked b end left at None
        past_text l = far (unfold text_size in omega arith)

        module _ (m : n ≤ most_target) (x : Bool) (g : x ≡ all printable (take (to - (at + 1)) (drop (at + 1) b))) where
          right_is : text_right (drop at b) ≡ x
          unfolding text_right text_of
          right_is =
              let d : to - (at + 1) ≡ get_or (drop at b) 0 0 = omega arith in
              rw (le-leb (get_or (drop at b) 0 0) most_target (omega arith))
              (ap (λ l. all printable (take (get_or (drop at b) 0 0) l)) (drop-drop 1 at b)
              ∙ ap (λ i. all printable (take i (drop (at + 1) b))) (sym d) ∙ sym g)

          pub unprintable : x ≡ false → Walked b end left at None
          unprintable i = bad (right_is ∙ i)

          pub text-passed : x ≡ true → (next : ℕ) → left ≡ suc next → (r : Option ℕ) → Walked b end next to r → Walked b end left at r
          unfolding text_size
          text-passed i next one r w =
              let d : at + (1 + get_or (drop at b) 0 0) ≡ to = omega arith in
              subst (λ i. Walked b end i at r) (sym one)
              (passed to (omega arith) (drop-drop (1 + get_or (drop at b) 0 0) at b ∙ ap (λ j. drop j b) d) (right_is ∙ i) next r w)
