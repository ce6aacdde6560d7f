-- To look for a text among those that are left: of one row, and of some rows.
use mathlib.Core.Bool.{Bool, true, false, ◌&&◌, ◌||◌}
use mathlib.Core.List.{List, [], ◌∷◌, ◌++◌, map-append}
use mathlib.Core.Path.{◌≡◌, refl, sym, ap, ◌∙◌}
use Prim.Native.Nat.{ℕ, suc, ◌+◌, ◌-◌, ◌≤◌, ◌<◌}
use native.Mathlib.Omega.{arith}
use lib.Dec.{eqb}
use lib.ListN.{length, get_or, take, drop, drop_of_length-le, length-drop}
use lib.Seq.{take_all, drop-cons}
use Rattle.base.specs.Lists.{put, keep, any, same}
use Rattle.base.specs.ListLaws.{any_append}
use Rattle.definition.specs.Texts.{Text}
use Rattle.definition.specs.Tables.{Rule}
use Rattle.definition.specs.Edges.{Edge}
use Rattle.definition.specs.RuleRows.{rule_size, rule_of}
use Rattle.definition.specs.Rules.{holds_at}
use Rattle.definition.specs.Offers.{offers, all_offers}
use Rattle.words.specs.Found.{Rows, none_in, one_in}
use Rattle.offers.specs.Texts.{texts, holding}

-- of one row, from number `k` on
module _ (w : Text) (l : List Text) (k : ℕ) where
  pub looked-over : length l ≤ k → false ≡ any (same w) (drop k l)
  unfolding any
  looked-over h = sym (ap (any (same w)) (drop_of_length-le l {i = k} h))

  pub looked_on : k < length l → (t : Bool) → t ≡ same w (get_or l k []) → (t || any (same w) (drop (k + 1) l)) ≡ any (same w) (drop k l)
  unfolding any
  looked_on h t e =
      let m : suc k ≡ k + 1 = omega arith in
      ap (λ (y : Bool). y || any (same w) (drop (k + 1) l)) e
      ∙ sym (ap (any (same w)) (drop-cons l k [] h) ∙ ap (λ i. same w (get_or l k []) || any (same w) (drop i l)) m)

-- of some rows whose rules hold
module _ (w : Text) (b : Bool) (x : Edge) where
  abbrev pub among_all : List Rule → Bool
  among_all rs = any (same w) (texts (all_offers b x rs))

  put_turn : (h : Bool) (r : Rule) (rs : List Rule)
      → among_all (put h r rs) ≡ ((h && any (same w) (texts (offers b x r))) || among_all rs)
  unfolding all_offers
  put_turn true r rs =
      ap (any (same w)) (map-append (λ (c : Edge). c.text) (offers b x r) (all_offers b x rs))
      ∙ any_append (same w) (texts (offers b x r)) (texts (all_offers b x rs))
  put_turn false r rs = refl

  module _ (code : Text) (start end : Bool) (R : List ℕ) (row left : ℕ) where
    pub rows-over : left ≡ 0 → false ≡ among_all (holding code start end R row left)
    unfolding any all_offers keep
    rows-over h = sym (ap (λ l. among_all (keep (holds_at code start end) l)) (none_in R row left h))

    pub rows_turn : 0 < left → Rows R row left → (z : ℕ) → z ≡ rule_size (drop row R) → (t : Bool)
        → t ≡ (holds_at code start end (rule_of (drop row R)) && any (same w) (texts (offers b x (rule_of (drop row R)))))
        → (m : ℕ) → left - 1 ≡ m → (t || among_all (holding code start end R (row + z) m)) ≡ among_all (holding code start end R row left)
    unfolding keep
    rows_turn h k z q t e m g =
        let r = rule_of (drop row R) in
        ap (λ (n : ℕ). t || among_all (holding code start end R (row + z) n)) (sym g)
        ∙ ap (λ (y : Bool). y || among_all (holding code start end R (row + z) (left - 1))) e
        ∙ ap (λ n. (holds_at code start end r && any (same w) (texts (offers b x r))) || among_all (holding code start end R (row + n) (left - 1))) q
        ∙ sym (ap (λ l. among_all (keep (holds_at code start end) l)) (one_in R row left h k)
        ∙ put_turn (holds_at code start end r) r (holding code start end R (row + rule_size (drop row R)) (left - 1)))

-- To compare with two texts, one behind the other, is to compare with each
pub joined_short : (w u v : List ℕ) → length w < length u → false ≡ same w (u ++ v)
unfolding same
joined_short w [] v h = absurd (omega arith)
joined_short [] (y ∷ u) v h = refl
joined_short (x ∷ w) (y ∷ u) v h = sym (and_false (eqb x y)) ∙ ap (λ (b : Bool). eqb x y && b) (joined_short w u v (omega arith))
  where
    and_false : (b : Bool) → (b && false) ≡ false
    and_false true = refl
    and_false false = refl

pub joined_same : (w u v : List ℕ) → length u ≤ length w → (same (take (length u) w) u && same (drop (length u) w) v) ≡ same w (u ++ v)
unfolding same
joined_same w [] v h = refl
joined_same [] (y ∷ u) v h = absurd (omega arith)
joined_same (x ∷ w) (y ∷ u) v h =
    and_assoc (eqb x y) (same (take (length u) w) u) (same (drop (length u) w) v) ∙ ap (λ (b : Bool). eqb x y && b) (joined_same w u v (omega arith))
  where
    and_assoc : (a b c : Bool) → ((a && b) && c) ≡ (a && (b && c))
    and_assoc true b c = refl
    and_assoc false b c = refl

-- what follows the front is compared first
pub joined_parts : (w u v : List ℕ) → length u ≤ length w → (t f : Bool)
    → t ≡ same (take (length w - length u) (drop (length u) w)) v → f ≡ same (take (length u) w) u → (t && f) ≡ same w (u ++ v)
joined_parts w u v h t f p q =
    let n = length u in
    ap (λ (y : Bool). y && f) (p ∙ ap (λ l. same l v) (take_all (length w - n) (drop n w) (omega (arith, length-drop n w))))
    ∙ ap (λ (y : Bool). same (drop n w) v && y) q ∙ and_comm (same (drop n w) v) (same (take n w) u) ∙ joined_same w u v h
  where
    and_comm : (a b : Bool) → (a && b) ≡ (b && a)
    and_comm true true = refl
    and_comm true false = refl
    and_comm false true = refl
    and_comm false false = refl
