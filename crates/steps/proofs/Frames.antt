-- The rules of the Thai pattern: those whose source is the vowel, an en dash and what follows the consonant.
use mathlib.Core.Bool.{Bool, true, false, ◌&&◌}
use mathlib.Core.List.{List, [], ◌∷◌}
use mathlib.Core.Option.{Option, none}
use mathlib.Core.Path.{◌≡◌, refl, sym, ap, ◌∙◌}
use Prim.Native.Nat.{ℕ, zero, suc, ◌+◌, ◌≤◌, ◌<◌}
use native.Mathlib.Omega.{arith}
use lib.Dec.{eqb}
use lib.ListN.{length, get_or, take, drop}
use Rattle.base.specs.Bools.{eqb_alike}
use Rattle.base.specs.Lists.{keep, head, bind, same}
use Rattle.base.specs.ListLaws.{keep-none}
use Rattle.base.specs.Alls.{All-each, keep_cong}
use Rattle.definition.specs.Texts.{Text, en_dash, prev, fits}
use Rattle.definition.specs.Tables.{Rule}
use Rattle.definition.specs.Rules.{first_rule, spans}
use Rattle.definition.specs.Expansion.{framed, widen, around_by}
use Rattle.definition.specs.Expansion as expansion
use Rattle.definition.specs.ExpandBounds.{framed_bound}
use Rattle.rom.proofs.Walks.{left_cons}
use Rattle.words.specs.Given.{World, size, part, Lined, line-half, char_before, part_at}
use Rattle.words.specs.Spans.{spans-is}

-- a rule with a source
sourced : Text → Rule
sourced w = record {
  source = w;
  start_only = false;
  not_start = false;
  end_only = false;
  not_end = false;
  whole_word = false;
  count = 0;
  codes = [];
  target = none;
  end_target = none;
  others = [];
}

regroup : (a b c d : Bool) → (((a && (b && true)) && c) && d) ≡ (a && (b && (c && d)))
regroup true true c d = refl
regroup true false c d = refl
regroup false b c d = refl

nothing_follows : (a c d : Bool) → (((a && false) && c) && d) ≡ (a && false)
nothing_follows true c d = refl
nothing_follows false c d = refl

module _ (t : Text) (c k e : ℕ) where
  module _ (h : e + k ≤ length t) where
    followed : (w : Text) → (eqb (length w + 2) (k + 2) && fits t w e) ≡ same w (part t e (e + k))
    unfolding spans sourced
    followed w =
        ap (λ (b : Bool). b && fits t w e) (eqb_alike (length w + 2) (k + 2) (e + length w) (e + k) (λ p. omega arith) (λ p. omega arith))
        ∙ spans-is t e (e + k) (omega arith) h (sourced w)

    framed-text : (w : Text)
        → ((same (take 2 w) (c ∷ en_dash ∷ []) && eqb (length w) (k + 2)) && fits t (drop 2 w) e) ≡ same w (c ∷ en_dash ∷ part t e (e + k))
    unfolding same
    framed-text [] = refl
    framed-text (x ∷ []) = nothing_follows (eqb x c) (eqb 1 (k + 2)) (fits t [] e)
    framed-text (x ∷ y ∷ w) =
        let l : length (x ∷ y ∷ w) ≡ length w + 2 = omega arith in
        regroup (eqb x c) (eqb y en_dash) (eqb (length (x ∷ y ∷ w)) (k + 2)) (fits t w e)
        ∙ ap (λ (b : Bool). eqb x c && (eqb y en_dash && b)) (ap (λ (m : ℕ). eqb m (k + 2) && fits t w e) l ∙ followed w)

    framed-first : (rs : List Rule) → bind (head (keep (framed t c k e) rs)) (λ r. r.target) ≡ first_rule rs (c ∷ en_dash ∷ part t e (e + k))
    unfolding framed first_rule
    framed-first rs = ap (λ (l : List Rule). bind (head l) (λ r. r.target))
        (keep_cong (framed t c k e) (λ r. same r.source (c ∷ en_dash ∷ part t e (e + k))) rs (All-each _ (λ r. framed-text r.source) rs))

  -- there is none past the text
  framed-past : e ≤ length t → length t < e + k → (rs : List Rule) → bind (head (keep (framed t c k e) rs)) (λ r. r.target) ≡ none
  unfolding head
  framed-past h l rs = ap (λ (l : List Rule). bind (head l) (λ r. r.target))
      (keep-none (λ r. Unit {0}) (framed t c k e) rs (All-each _ (λ r. tt) rs) (λ r u. never r (framed t c k e r) refl))
    where
      never : (r : Rule) (b : Bool) → framed t c k e r ≡ b → b ≡ false
      never r true q = absurd (omega (arith, framed_bound t c k e r h q))
      never r false q = refl

-- The source by the line's numbers
three : (k x y z : ℕ) (l : List ℕ) → k ≤ 3 → take k (x ∷ y ∷ z ∷ []) ≡ take k (x ∷ y ∷ z ∷ l)
three zero x y z l h = refl
three (suc zero) x y z l h = refl
three (suc (suc zero)) x y z l h = refl
three (suc (suc (suc zero))) x y z l h = refl
three (suc (suc (suc (suc k)))) x y z l h = absurd (omega arith)

from-line : (line : List ℕ) (a b d : ℕ) → b ≡ a + 1 → d ≡ b + 1 → d < length line
    → drop a line ≡ get_or line a 0 ∷ get_or line b 0 ∷ get_or line d 0 ∷ drop (d + 1) line
from-line line a b d p q h =
    left_cons line a (omega arith)
    ∙ ap (λ (i : ℕ). get_or line a 0 ∷ drop i line) (sym p)
    ∙ ap (λ (l : List ℕ). get_or line a 0 ∷ l) (left_cons line b (omega arith)
    ∙ ap (λ (i : ℕ). get_or line b 0 ∷ drop i line) (sym q)
    ∙ ap (λ (l : List ℕ). get_or line b 0 ∷ l) (left_cons line d h))

source_is : {u : World} {line : List ℕ} (g : Lined u line) (v k e : ℕ) → 1 ≤ k → k ≤ 3 → e + k ≤ size u
    → take (k + 2) (v ∷ en_dash ∷ get_or line (e + 1) 0 ∷ get_or line (e + 2) 0 ∷ get_or line (e + 3) 0 ∷ [])
    ≡ v ∷ en_dash ∷ part u.text e (e + k)
source_is {u} {line} g v k e h j l =
    let m : k + 2 ≡ suc (suc k) = omega arith in
    let x = get_or line (e + 1) 0 in
    let y = get_or line (e + 2) 0 in
    let z = get_or line (e + 3) 0 in
    ap (λ (i : ℕ). take i (v ∷ en_dash ∷ x ∷ y ∷ z ∷ [])) m
    ∙ ap (λ (u : Text). v ∷ en_dash ∷ u)
    (three k x y z (drop (e + 3 + 1) line) j
    ∙ sym (ap (take k) (from-line line (e + 1) (e + 2) (e + 3) (omega arith) (omega arith) (omega (arith, line-half g))))
    ∙ part_at g e (e + k) (e + 1) k (omega arith) l (omega arith) (omega arith))

-- What the pattern says of the `k` characters after the span
module _ {u : World} {line : List ℕ} (g : Lined u line) (rs : List Rule) (k : ℕ) (w : expansion.Work) where
  abbrev t : Text
  t = u.text

  pub frame_past : w.to ≤ size u → size u < w.to + k → around_by rs t k w ≡ none
  unfolding around_by widen
  frame_past h l =
      ap (widen k w) (framed-past t (prev t w.from) k w.to (omega arith) (omega arith) rs)

  -- by the numbers in the line, `o` being what the first rule with their text says
  module _ {v x y z : ℕ} (o : Option Text) (p : v ≡ get_or line w.from 0) (d : x ≡ get_or line (w.to + 1) 0)
      (e : y ≡ get_or line (w.to + 2) 0) (f : z ≡ get_or line (w.to + 3) 0) where
    pub frame_first : w.from ≤ size u → 1 ≤ k → k ≤ 3 → w.to + k ≤ size u
        → o ≡ first_rule rs (take (k + 2) (v ∷ en_dash ∷ x ∷ y ∷ z ∷ [])) → around_by rs t k w ≡ widen k w o
    unfolding around_by
    frame_first i h j l r =
        let c = prev t w.from in
        ap (widen k w) (framed-first t c k w.to (omega arith) rs
        ∙ sym (r ∙ ap (first_rule rs)
        (ap (λ (q : ℕ). take (k + 2) (q ∷ en_dash ∷ x ∷ y ∷ z ∷ [])) (p ∙ char_before g w.from (omega arith))
        ∙ ap (λ (q : ℕ). take (k + 2) (c ∷ en_dash ∷ q ∷ y ∷ z ∷ [])) d
        ∙ ap (λ (q : ℕ). take (k + 2) (c ∷ en_dash ∷ get_or line (w.to + 1) 0 ∷ q ∷ z ∷ [])) e
        ∙ ap (λ (q : ℕ). take (k + 2) (c ∷ en_dash ∷ get_or line (w.to + 1) 0 ∷ get_or line (w.to + 2) 0 ∷ q ∷ [])) f
        ∙ source_is g c k w.to h j l)))
