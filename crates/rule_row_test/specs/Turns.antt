-- The cases of a turn over bytes, each asked the same.
use Rattle.std.specs.Prelude.{ℕ, suc, ◌+◌, ◌-◌, ◌≤◌, ◌<◌, Bool, true, false, List, ◌∷◌, ◌≡◌, length, get_or, take, drop}
use Rattle.std.proofs.Math.Path.{sym}
use Rattle.std.proofs.Common.{ap, ◌∙◌, add-one, drop-cons}
use native.Mathlib.Omega.{arith}
use Rattle.base.specs.Lists.{all}

module _ (q : ℕ → Bool) (b : List ℕ) (at to : ℕ) where
  pub bytes-over : to ≤ at → true ≡ all q (take (to - at) (drop at b))
  unfolding all
  bytes-over h = let e : to - at ≡ 0 = omega arith in rw e

  first : at < to → to ≤ length b → take (to - at) (drop at b) ≡ get_or b at 0 ∷ take (to - (at + 1)) (drop (at + 1) b)
  first h k =
      let e : to - at ≡ suc (to - (at + 1)) = omega arith in
      rw (e, add-one, drop-cons b at 0 (omega arith))

  pub bytes-other : at < to → to ≤ length b → (c : ℕ) → c ≡ get_or b at 0 → false ≡ q c
      → false ≡ all q (take (to - at) (drop at b))
  unfolding all
  bytes-other h k c e l = rw (first h k) (simp (← e, sym l))

  pub bytes_next : at < to → to ≤ length b → (c : ℕ) → c ≡ get_or b at 0 → true ≡ q c
      → all q (take (to - (at + 1)) (drop (at + 1) b)) ≡ all q (take (to - at) (drop at b))
  unfolding all
  bytes_next h k c e l = sym (ap (all q) (first h k) ∙ simp (← e, sym l))
