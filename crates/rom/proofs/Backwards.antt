-- The first `n` characters of a text, read backwards.
use Prim.Native.Nat.{ℕ, suc, ◌-◌, ◌<◌, ◌≤◌}
use mathlib.Core.List.{List, [], ◌∷◌, reverse, reverse-append, reverse-reverse}
use mathlib.Core.Path.{◌≡◌, ap, ◌∙◌}
use native.Mathlib.Omega.{arith}
use lib.ListN.{length, take, get_or}
use lib.Seq.{take-suc, take-length}
use Rattle.base.specs.Lists.{tail}
use Rattle.definition.specs.Texts.{without_last}

abbrev pub back : List ℕ → ℕ → List ℕ
back s n = reverse (take n s)

pub back_nil : (s : List ℕ) (n : ℕ) → n ≡ 0 → back s n ≡ []
back_nil s n e = rw e

pub back-all : (s : List ℕ) → back s (length s) ≡ reverse s
back-all s = ap reverse (take-length s)

module _ (s : List ℕ) (n : ℕ) (h : 0 < n) (k : n ≤ length s) where
  pub back_cons : back s n ≡ get_or s (n - 1) 0 ∷ back s (n - 1)
  back_cons =
      let e : n ≡ suc (n - 1) = omega arith in
      ap (back s) e ∙ ap reverse (take-suc s (n - 1) 0 (omega arith))
      ∙ reverse-append (take (n - 1) s) (get_or s (n - 1) 0 ∷ [])

  pub front_less : without_last (take n s) ≡ take (n - 1) s
  front_less = ap (λ (w : List ℕ). reverse (tail w)) back_cons ∙ reverse-reverse (take (n - 1) s)
