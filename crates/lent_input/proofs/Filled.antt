-- What stands in lent bytes `xs` after a read into those from `start` on, which has left `ys` there: what reads have given so far,
-- one behind the other.
use Rattle.std.proofs.Common.{◌≡◌, ℕ, ◌+◌, ◌≤◌, List, ◌++◌, length, take, sym, ap, subst, ◌∙◌, le_refl}
use Rattle.std.proofs.lemmas.List.{length-take-le, take-append-le}
use Rattle.std.proofs.lemmas.Slice.{take-put_mid_below}
use Rattle.std.proofs.Math.Seq.{take-append-add}
use Rattle.std.proofs.KnownBytes.{Consumes-trans, Consumes-kept}
use Rattle.std.specs.Io.KnownBytes.{Consumes, Keeps}
use Rattle.std.specs.declared.option.Option.{Option}
use borrow.Rule.Slice.PartMut.{put_mid}

front : (xs ys : List ℕ) (start k n : ℕ) → start ≤ length xs → n ≤ length ys
    → take (start + n) (put_mid start k xs ys) ≡ take start xs ++ take n ys
front xs ys start k n p q = ap (λ m. take (m + n) (put_mid start k xs ys)) (sym (length-take-le start xs p))
    ∙ take-append-add (take start xs) _ n ∙ ap (λ l. take start xs ++ l) (take-append-le n ys _ q)

-- a read that has given n bytes
pub more : (a b c : Option (List ℕ)) (xs ys : List ℕ) (start k n : ℕ) → start ≤ length xs → n ≤ length ys
    → Consumes a b (take start xs) → Consumes b c (take n ys) → Consumes a c (take (start + n) (put_mid start k xs ys))
more a b c xs ys start k n p q before read =
    subst (Consumes a c) (sym (front xs ys start k n p q)) (Consumes-trans a b c _ _ before read)

-- a read that has failed
pub kept : (a b c : Option (List ℕ)) (xs ys : List ℕ) (start k : ℕ) → start ≤ length xs
    → Consumes a b (take start xs) → Keeps b c → Consumes a c (take start (put_mid start k xs ys))
kept a b c xs ys start k p before keeps =
    subst (Consumes a c) (sym (take-put_mid_below start k xs ys start (le_refl start) p)) (Consumes-kept a b c _ before keeps)
