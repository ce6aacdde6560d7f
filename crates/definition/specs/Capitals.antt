-- The choice of capitals: off, its step changes nothing; on, it changes letters only, each byte in its place.
-- (proofs/Capitals: what it changes is not doubled.)
use Rattle.std.specs.Prelude.{true, ◌&&◌, ◌≡◌, refl, ℕ, ◌+◌, ◌≤◌, eqb, length}
use Rattle.std.proofs.Math.Bool.{and-false}
use Rattle.std.proofs.Common.{arith}
use mathlib.Core.List.{List, [], ◌∷◌, map}
use Prim.Native.String.{String}
use Rattle.std.proofs.Math.Dec.{leb}
use Rattle.std.proofs.lemmas.List.{length-map}
use borrow.Author.Tests.{leb-true}
use Rattle.base.specs.Pick.{pick, pick_ind, pick_all}
use Rattle.base.specs.Bools.{and_left, and_right}
use Rattle.base.specs.Lists.{any, all}
use Rattle.base.specs.Alls.{All, all-all}
use Rattle.definition.specs.Texts.{Text, chars, capital, lower}
use Rattle.definition.specs.Blocks.{small}
use Rattle.definition.specs.Tables.{Class, Choices}
use Rattle.definition.specs.Expansion.{Work, work, upper_case, capitalized, capitalizes, capitalize, doubling}
use Rattle.definition.specs.Letters.{among_all}

-- Off: all is as it was before there was the choice
pub capitals_off : (c : Choices) (ks : List Class) (t : Text) (w : Work) → c.capitals ≡ 0 → capitalize c ks t w ≡ w
unfolding capitalize capitalizes pick
capitals_off c ks t w e = rw e

-- A romanization that has a small letter is not in upper case, and stays
pub small_stays : (c : Choices) (ks : List Class) (t : Text) (w : Work) → any small w.rom ≡ true → capitalize c ks t w ≡ w
unfolding capitalize capitalizes upper_case pick
small_stays c ks t w e = rw (e, and-false (any capital w.rom), and-false (eqb c.capitals 1 && eqb (w.from + 1) w.to))

-- On: the span and the annotation stay, and as many bytes
pub capitalize_ind : (P : Work → Type 0) (c : Choices) (ks : List Class) (t : Text) (w : Work)
    → P (work (capitalized w.rom) w.from w.to w.note) → P w → P (capitalize c ks t w)
unfolding capitalize
capitalize_ind P c ks t w h k = pick_all P (capitalizes c ks t w) h k

pub capitalized-length : (w : Text) → length (capitalized w) ≡ length w
unfolding capitalized
capitalized-length [] = refl
capitalized-length (c ∷ w) = omega (arith, length-map w lower)

-- What every byte has, and a small letter too, every byte has afterwards
module _ (P : ℕ → Type 0) (letters : (c : ℕ) → 97 ≤ c → c ≤ 122 → P c) where
  lower-all : (w : Text) → All P w → All P (map lower w)
  unfolding lower capital
  lower-all [] h = tt
  lower-all (c ∷ w) h = (
    pick_ind P (leb 65 c && leb c 90) (c + 32) c
        (λ e.
        let l = leb-true 65 c (and_left _ _ e) in
        let g = leb-true c 90 (and_right (leb 65 c) _ e) in
        letters (c + 32) (omega arith) (omega arith))
        (λ e. h.0),
    lower-all w h.1,
  )

  pub capitalized-all : (w : Text) → All P w → All P (capitalized w)
  unfolding capitalized
  capitalized-all [] h = tt
  capitalized-all (c ∷ w) h = (h.0, lower-all w h.1)

-- A letter that is doubled is small
pub doubling-small : (c : ℕ) → doubling c ≡ true → small c ≡ true
unfolding doubling all small
doubling-small =
    let letters : String = "bcdfghjklmnpqrstwz" in
    among_all letters (λ c. small c ≡ true) (all-all (λ c. small c ≡ true) small (λ c q. q) (chars letters) refl)
