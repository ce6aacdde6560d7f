-- A base is bare before what the line and its packed classes tell.
use mathlib.Core.Bool.{Bool, true, false, ◌&&◌, ◌||◌}
use mathlib.Core.List.{List}
use mathlib.Core.Path.{◌≡◌, refl, subst}
use Prim.Native.Nat.{ℕ, ◌+◌, ◌≤◌}
use native.Mathlib.Omega.{arith}
use lib.Dec.{eqb}
use lib.ListN.{get_or}
use Rattle.definition.specs.Texts.{Text, at, khmer_yo}
use Rattle.definition.specs.Tables.{Class}
use Rattle.definition.specs.Classes.{class, mark}
use Rattle.definition.specs.Vowels.{before_yo, bare}
use Rattle.table_classes.specs.Packing.{Says}
use Rattle.words.specs.Given.{World, kinds, size, kind_in, Lined, char_at, kind_at}
use Rattle.vowel_step.specs.Ways.{silent}

module _ {w : World} {line : List ℕ} (g : Lined w line) (p : ℕ) where
  abbrev ks : List Class
  ks = kinds w

  abbrev t : Text
  t = w.text

  -- a base is bare before the Khmer yo, or before what the classes tell
  regroup : (y a b c d e f : Bool) → (y || (a || (b || (c || (d || (e || f)))))) ≡ (y || a || b || c || d || e || f)
  regroup true a b c d e f = refl
  regroup false true b c d e f = refl
  regroup false false true c d e f = refl
  regroup false false false true d e f = refl
  regroup false false false false true e f = refl
  regroup false false false false false e f = refl

  pub bare-told : (base : Text) → p ≤ size w
      → ((before_yo base && eqb (get_or line (p + 1) 0) khmer_yo) || silent (kind_in line (p + 1)) (kind_in line (p + 2))) ≡ bare ks t base p
  unfolding bare silent mark
  bare-told base h =
      let k = kind_at g p (omega arith) in
      let i : p + 1 + 1 ≡ p + 2 = omega arith in
      let j = subst (λ (x : ℕ). Says (kind_in line x) (class ks (at t (p + 1)))) i (kind_at g (p + 1) (omega arith)) in
      rw (char_at g p (omega arith), k.sign, k.medial, k.subjoined, k.category, k.virama, j.sign, j.virama)
      (regroup (before_yo base && eqb (at t p) khmer_yo) (class ks (at t p)).sign (class ks (at t p)).medial (class ks (at t p)).subjoined
      (mark ks (at t p) && (class ks (at t (p + 1))).sign) (class ks (at t p)).virama (mark ks (at t p) && (class ks (at t (p + 1))).virama))
