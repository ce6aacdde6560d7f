-- Fields of three bytes each from a place to another: the cases of a turn, each asked the same.
use Prim.Native.Nat.{ℕ, suc, ◌+◌, ◌-◌, ◌*◌, ◌/◌, ◌≤◌, ◌<◌}
use Rattle.std.specs.Prelude.{Bool, true, false, List, ◌∷◌, ◌≡◌, drop}
use Rattle.std.proofs.Math.Path.{sym}
use Rattle.std.proofs.Common.{ap, ◌∙◌, drop-drop}
use native.Mathlib.Omega.{arith}
use Rattle.base.specs.Lists.{all}
use Rattle.base.specs.Rows.{counted}

module _ {A : Type 0} (one : List ℕ → A) (f : A → Bool) (b : List ℕ) (at to : ℕ) where
  pub threes-over : to ≤ at → true ≡ all f (counted one 3 ((to - at) / 3) (drop at b))
  unfolding all counted
  threes-over h = let e : (to - at) / 3 ≡ 0 = omega arith in rw e

  module _ (h : at < to) (k : at + 3 * ((to - at) / 3) ≡ to) where
    first : counted one 3 ((to - at) / 3) (drop at b) ≡ one (drop at b) ∷ counted one 3 ((to - (at + 3)) / 3) (drop (at + 3) b)
    unfolding counted
    first =
        let e : (to - at) / 3 ≡ suc ((to - (at + 3)) / 3) = omega arith in
        rw e (ap (λ l. one (drop at b) ∷ counted one 3 ((to - (at + 3)) / 3) l) (drop-drop 3 at b))

    pub threes-other : false ≡ f (one (drop at b)) → false ≡ all f (counted one 3 ((to - at) / 3) (drop at b))
    unfolding all
    threes-other e = rw first (simp (sym e))

    pub threes-next : true ≡ f (one (drop at b))
        → all f (counted one 3 ((to - (at + 3)) / 3) (drop (at + 3) b)) ≡ all f (counted one 3 ((to - at) / 3) (drop at b))
    unfolding all
    threes-next e = sym (ap (all f) first ∙ simp (sym e))
