-- The choice of where the walk back behind O ang ends: off, the definition is the former one; on, the walk stays in its stretch.
-- (proofs/OAng: it ends at the same place from wherever it comes to.)
use Rattle.std.specs.Prelude.{Bool, not, ◌&&◌, ◌≡◌, List, [], ◌∷◌, eqb}
use Rattle.std.proofs.Math.Bool.{true, false}
use Rattle.std.proofs.Math.Path.{refl, sym, ap}
use Rattle.std.proofs.Common.{◌∙◌, eq-eqb, ne_eqb}
use Prim.Native.Nat.{ℕ, zero, suc, ◌-◌, ◌≤◌, ◌<◌}
use native.Mathlib.Omega.{arith}
use Rattle.std.proofs.Math.Decide.{ℕ_discrete}
use Rattle.base.specs.Pick.{pick}
use Rattle.base.specs.Lists.{all, is, same}
use Rattle.definition.specs.Texts.{Text, the_space, at, prev, last_is}
use Rattle.definition.specs.Tables.{Rule, Class, Choices, script_thai}
use Rattle.definition.specs.Classes.{script}
use Rattle.definition.specs.Edges.{View}
use Rattle.definition.specs.Rules.{first_rule}
use Rattle.definition.specs.Expansion.{Work, stretch_start, walk_start, o_ang_side, between}

-- Off: O ang is between consonants just where it was before there was the choice, and nothing else asks it
pub o_ang_off : (c : Choices) (rs : List Rule) (ks : List Class) (t : Text) (v : View) (w : Work) → c.o_ang ≡ 0
    → between c rs ks t v w
    ≡ (eqb (script ks (prev t w.from)) script_thai && eqb (script ks (at t w.to)) script_thai
    && last_is o_ang_side (v.behind 0 w.from)
    && is (λ y. not (same y []) && all o_ang_side y) (first_rule rs (at t w.to ∷ [])))
unfolding between walk_start pick
o_ang_off c rs ks t v w e = rw e

-- Where a stretch begins
module _ (t : Text) where
  -- Behind a space, and at the text's start, a position's stretch begins with it; behind another character where that of the
  -- position before does
  pub starts-here : (p : ℕ) → prev t p ≡ the_space → stretch_start t p ≡ p
  unfolding prev stretch_start pick
  starts-here zero e = refl
  starts-here (suc p) e = rw (eq-eqb (at t p) the_space e)

  pub past-other : (p : ℕ) → 0 < p → (prev t p ≡ the_space → ⊥) → stretch_start t (p - 1) ≡ stretch_start t p
  unfolding prev stretch_start pick
  past-other zero h e = absurd (omega arith)
  past-other (suc p) h e = ap (stretch_start t) {x = suc p - 1} {y = p} (omega arith) ∙ sym (rw (ne_eqb (at t p) the_space e))

  pub start_bound : (p : ℕ) → stretch_start t p ≤ p
  unfolding stretch_start pick
  start_bound zero = omega arith
  start_bound (suc p) = go (eqb (at t p) the_space) (start_bound p)
    where
      go : (b : Bool) → stretch_start t p ≤ p → pick b (suc p) (stretch_start t p) ≤ suc p
      go true h = omega arith
      go false h = omega arith

  -- A stretch that begins no later than `q` is the one in which `q` stands
  pub start-same : (q p : ℕ) → q ≤ p → stretch_start t p ≤ q → stretch_start t q ≡ stretch_start t p
  unfolding stretch_start pick
  start-same q zero h l = ap (stretch_start t) {x = q} {y = zero} (omega arith)
  start-same q (suc p) h l = go (ℕ_discrete q (suc p)) (λ k. start-same q p k)
    where
      Before : Type 0
      Before = stretch_start t p ≤ q → stretch_start t q ≡ stretch_start t p

      by : (b : Bool) → pick b (suc p) (stretch_start t p) ≤ q → q ≤ p → Before → stretch_start t q ≡ pick b (suc p) (stretch_start t p)
      by true m k f = absurd (omega arith)
      by false m k f = f m

      go : Dec (q ≡ suc p) → (q ≤ p → Before) → stretch_start t q ≡ stretch_start t (suc p)
      go (yes e) f = ap (stretch_start t) e
      go (no e) f = by (eqb (at t p) the_space) l (omega arith) (f (omega arith))

-- by the choice
pub walk-stretch : (c : Choices) (t : Text) (p : ℕ) → c.o_ang ≡ 1 → stretch_start t p ≡ walk_start c t p
unfolding walk_start pick
walk-stretch c t p e = sym (rw (eq-eqb c.o_ang 1 e))

pub walk-whole : (c : Choices) (t : Text) (p : ℕ) → (c.o_ang ≡ 1 → ⊥) → 0 ≡ walk_start c t p
unfolding walk_start pick
walk-whole c t p e = sym (rw (ne_eqb c.o_ang 1 e))
