-- What is left of lent bytes, their first and their last.
use Prim.Native.Nat.{ℕ, ◌+◌, ◌-◌, ◌<◌}
use mathlib.Core.Bool.{Bool, false}
use mathlib.Core.List.{List, [], ◌∷◌}
use mathlib.Core.Path.{◌≡◌, refl, sym, ap, ◌∙◌}
use native.Mathlib.Omega.{arith}
use native.Mathlib.Numerals.{add-one}
use lib.ListN.{length, get_or, drop}
use lib.Seq.{drop-cons}
use Rattle.base.specs.Lists.{head, is}
use Rattle.definition.specs.Texts.{last_is}
use Rattle.rom.specs.Sets.{member, member-before}
use Rattle.rom.proofs.Backwards.{back_nil, back-all, back_cons}

-- What is left from `i` on
pub left_cons : (s : List ℕ) (i : ℕ) → i < length s → drop i s ≡ get_or s i 0 ∷ drop (i + 1) s
left_cons s i h = drop-cons s i 0 h ∙ ap (λ (n : ℕ). get_or s i 0 ∷ drop n s) (sym (add-one i))

-- The first of a text; a byte past its end is 0, which is in no set
pub first-is : (set : ℕ) (s : List ℕ) → member set (get_or s 0 0) ≡ is (member set) (head s)
unfolding head
first-is set [] = member-before set 0 (omega arith)
first-is set (x ∷ s) = refl

-- The last of a text
module _ (f : ℕ → Bool) (s : List ℕ) where
  pub no_last : length s ≡ 0 → false ≡ last_is f s
  unfolding last_is head
  no_last e = sym (rw (sym (back-all s), back_nil s (length s) e))

  pub last-there : 0 < length s → f (get_or s (length s - 1) 0) ≡ last_is f s
  unfolding last_is head
  last-there h = sym (rw (sym (back-all s), back_cons s (length s) h (omega arith)))
