-- What stands in a stretch: a character, a text, its first characters, and the nearest space left of a position. And
-- the two stretches that a space divides.
use Rattle.std.specs.Prelude.{Bool, true, ◌&&◌, ◌≡◌, ltb, take, drop}
use Rattle.std.proofs.Math.Bool.{false, and-false}
use Rattle.std.proofs.Common.{true≢false, sym, ◌∙◌, ap, length-take, length-drop, get_or-take, get_or-drop}
use Rattle.std.proofs.Math.Path.{refl}
use mathlib.Core.List.{[], ◌∷◌}
use Prim.Native.Nat.{ℕ, zero, suc, ◌+◌, ◌-◌, ◌≤◌, ◌<◌}
use native.Mathlib.Omega.{arith}
use Rattle.std.proofs.Math.Decide.{dec_lt, ℕ_discrete}
use Rattle.std.proofs.Math.Dec.{eqb}
use Rattle.std.proofs.Math.ListN.{length}
use borrow.Author.Tests.{lt-ltb, le-ltb, ne_eqb}
use Rattle.base.specs.Pick.{pick}
use Rattle.definition.specs.Texts.{Text, the_space, at, prev, stands, fits, begins}
use Rattle.definition.specs.Expansion.{stretch_start}
use Rattle.definition.specs.OAng.{starts-here}
use Rattle.definition.specs.Within.{stands_bound}
use Rattle.stretches.specs.Given.{Ink, Solid, Stretch, at_outside, prev_zero, prev_suc}

module _ {T st : Text} {a : ℕ} (h : Stretch T st a) where
  -- A character that is no space stands in the text where it stands in the stretch
  stands-inside : (c P p : ℕ) → Ink c → P ≡ a + p → p ≤ length st → stands T P c ≡ stands st p c
  unfolding stands
  stands-inside c P p n e l = go (dec_lt p (length st))
    where
      go : Dec (p < length st) → (ltb P (length T) && eqb c (at T P)) ≡ (ltb p (length st) && eqb c (at st p))
      go (yes k) = rw (h.look P p e l, lt-ltb P (length T) (omega arith), lt-ltb p (length st) k)
      go (no k) = rw (
        h.look P p e l,
        le-ltb p (length st) (omega arith),
        at_outside st p (omega arith),
        ne_eqb c the_space n,
      )
          (and-false (ltb P (length T)))

  -- what follows it counts only where it stands, before the stretch's end
  then-alike : (c p : ℕ) {X x : Bool} → (p < length st → X ≡ x) → (stands st p c && X) ≡ (stands st p c && x)
  then-alike c p {X} {x} f = go (stands st p c) refl
    where
      go : (b : Bool) → stands st p c ≡ b → (b && X) ≡ (b && x)
      go true e = f (stands_bound st p c e)
      go false e = refl

  pub fits-inside : (w : Text) (P p : ℕ) → Solid w → P ≡ a + p → p ≤ length st → fits T w P ≡ fits st w p
  unfolding fits
  fits-inside [] P p s e l = refl
  fits-inside (c ∷ w) P p s e l = rw (stands-inside c P p s.0 e l)
      (then-alike c p (λ k. fits-inside w (P + 1) (p + 1) s.1 (omega arith) (omega arith)))

  pub begins-inside : (w : Text) (P p k : ℕ) → Solid w → P ≡ a + p → p ≤ length st → begins T w P k ≡ begins st w p k
  unfolding begins
  begins-inside w P p zero s e l = refl
  begins-inside [] P p (suc k) s e l = refl
  begins-inside (c ∷ w) P p (suc k) s e l = rw (stands-inside c P p s.0 e l)
      (then-alike c p (λ j. begins-inside w (P + 1) (p + 1) k s.1 (omega arith) (omega arith)))

  -- the character after the stretch, and the one before it, are spaces
  pub space_at_end : at T (a + length st) ≡ the_space
  space_at_end = h.look (a + length st) (length st) refl (omega arith) ∙ at_outside st (length st) (omega arith)

  pub space_before-start : 0 < a → at T (a - 1) ≡ the_space
  space_before-start z =
      let e : suc (a - 1) ≡ a = omega arith in
      sym (prev_suc T (a - 1)) ∙ ap (prev T) e ∙ h.back a 0 (omega arith) (omega arith) ∙ prev_zero st

-- The nearest space left of a position of the stretch is one of the stretch, or the one right before it: on the
-- whole text as on the stretch
pub stretch_start-inside : {T st : Text} {a : ℕ} → Stretch T st a → (P p : ℕ) → P ≡ a + p → p ≤ length st
    → stretch_start T P ≡ a + stretch_start st p
unfolding stretch_start
stretch_start-inside {T} {st} {a} h P zero e l =
    starts-here T P (h.back P 0 e l ∙ prev_zero st) ∙ e
stretch_start-inside {T} {st} {a} h P (suc p) e l =
    let i : P ≡ suc (a + p) = omega arith in
    rw (
      i,
      h.look (a + p) p refl (omega arith),
      stretch_start-inside h (a + p) p refl (omega arith),
    )
    (moved (eqb (at st p) the_space))
  where
    moved : (b : Bool) → pick b (suc (a + p)) (a + stretch_start st p) ≡ a + pick b (suc p) (stretch_start st p)
    moved true = unfold pick in omega arith
    moved false = unfold pick in refl

-- where something other than a space stands before a place, the place is not the start
pub later : (t : Text) (p : ℕ) (q : ℕ → Bool) → q the_space ≡ false → q (prev t p) ≡ true → 0 < p
unfolding prev
later t zero q f e = absurd (true≢false (sym e ∙ f))
later t (suc p) q f e = omega arith

-- At a space no text without one stands
module _ (T : Text) where
  pub stands_space : (p c : ℕ) → at T p ≡ the_space → Ink c → stands T p c ≡ false
  unfolding stands
  stands_space p c sp k = rw (sp, ne_eqb c the_space k) (and-false (ltb p (length T)))

  pub fits_space : (w : Text) → Solid w → (p q : ℕ) → p ≤ q → q < p + length w → at T q ≡ the_space
      → fits T w p ≡ false
  unfolding fits
  fits_space [] s p q l k sp = absurd (omega arith)
  fits_space (c ∷ w) s p q l k sp =
      go (ℕ_discrete p q) (λ e. fits_space w s.1 (p + 1) q (omega arith) (omega arith) sp)
    where
      go : Dec (p ≡ q) → ((p ≡ q → ⊥) → fits T w (p + 1) ≡ false) → (stands T p c && fits T w (p + 1)) ≡ false
      go (yes e) f = rw (stands_space p c (ap (at T) e ∙ sp) s.0)
      go (no e) f = rw (f e) (and-false (stands T p c))

-- What is left of a space and what is right of it are stretches (which may have spaces of their own)
pub left-part : (T : Text) (b : ℕ) → b ≤ length T → at T b ≡ the_space → Stretch T (take b T) 0
unfolding at
left-part T b l sp = record { look = look; back = back; room = omega (arith, length-take b T) }
  where
    look : (P p : ℕ) → P ≡ 0 + p → p ≤ length (take b T) → at T P ≡ at (take b T) p
    look P p i k = go (dec_lt p b)
      where
        go : Dec (p < b) → at T P ≡ at (take b T) p
        go (yes q) = let e : P ≡ p = omega arith in rw e (sym (get_or-take b T p the_space q))
        go (no q) =
            let e : P ≡ b = omega (arith, length-take b T) in
            rw e (sp ∙ sym (at_outside (take b T) p (omega (arith, length-take b T))))

    back : (P p : ℕ) → P ≡ 0 + p → p ≤ length (take b T) → prev T P ≡ prev (take b T) p
    back P zero i k = let e : P ≡ 0 = omega arith in rw (e, prev_zero T, prev_zero (take b T))
    back P (suc p) i k =
        let e : P ≡ suc p = omega arith in
        rw (e, prev_suc T p, prev_suc (take b T) p) (look p p (omega arith) (omega arith))

pub right_part : (T : Text) (b : ℕ) → b < length T → at T b ≡ the_space → Stretch T (drop (b + 1) T) (b + 1)
unfolding at
right_part T b l sp = record { look = look; back = back; room = omega (arith, length-drop (b + 1) T) }
  where
    look : (P p : ℕ) → P ≡ b + 1 + p → p ≤ length (drop (b + 1) T) → at T P ≡ at (drop (b + 1) T) p
    look P p i k = rw i (sym (get_or-drop (b + 1) T p the_space))

    back : (P p : ℕ) → P ≡ b + 1 + p → p ≤ length (drop (b + 1) T) → prev T P ≡ prev (drop (b + 1) T) p
    back P zero i k = let e : P ≡ suc b = omega arith in rw (e, prev_suc, prev_zero) sp
    back P (suc p) i k =
        let e : P ≡ suc (b + 1 + p) = omega arith in
        rw (e, prev_suc T (b + 1 + p), prev_suc (drop (b + 1) T) p) (look (b + 1 + p) p refl (omega arith))
