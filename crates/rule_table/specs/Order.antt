-- The order of sources: what of it a search in sorted rows needs.
use Rattle.std.specs.Prelude.{Bool, true, false, ◌&&◌, ◌≡◌, refl, List, [], ◌∷◌, ℕ, suc, ◌+◌, ◌-◌, ◌%◌, ◌≤◌, ◌<◌, eqb, ltb, length, get_or, drop, Option, Some, None}
use Rattle.std.proofs.Common.{true≢false, ap, ◌∙◌, subst, append-nil, arith, add-one, get_or-drop}
use Rattle.std.proofs.Math.Path.{sym}
use Rattle.std.proofs.Math.Decide.{dec_lt}
use Rattle.std.proofs.Math.ListN.{drop_of_length-le}
use Rattle.std.proofs.Math.Seq.{drop-cons}
use borrow.Author.Tests.{ltb-true, eqb-true, lt-ltb, le-ltb, eq-eqb, ne_eqb}
use Rattle.base.specs.Big.{be3, be4}
use Rattle.base.specs.Pick.{pick}
use Rattle.base.specs.Bools.{and_left, and_right, or_cases}
use Rattle.base.specs.Lists.{same, starts}
use Rattle.base.specs.ListLaws.{same_true, starts-append}
use Rattle.definition.specs.Texts.{Text}
use Rattle.base.specs.Rows.{counted, counted_none, counted_some}
use Rattle.definition.specs.RuleRows.{rises, three_at, source_count, rule_source}
use Rattle.definition.specs.There.{three-there}
use Rattle.std.specs.declared.cmp.Ordering.{Ordering}
use Rattle.std.specs.declared.cmp.Ordering.TheVariants.{Less, Equal, Greater}

-- the first text beside the second, character by character, a prefix first
unfoldable pub beside : ℕ → ℕ → Ordering → Ordering
beside x y o = pick (ltb x y) Less (pick (ltb y x) Greater o)

unfoldable pub compared : Text → Text → Ordering
compared [] [] = Equal
compared [] (y ∷ b) = Less
compared (x ∷ a) [] = Greater
compared (x ∷ a) (y ∷ b) = beside x y (compared a b)

-- Two first characters
module _ (x y : ℕ) (o : Ordering) where
  beside-lower : x < y → beside x y o ≡ Less
  unfolding beside pick
  beside-lower l = rw (lt-ltb x y l)

  beside-higher : y < x → beside x y o ≡ Greater
  unfolding beside pick
  beside-higher l = rw (le-ltb x y (omega arith), lt-ltb y x l)

  beside_same : x ≡ y → beside x y o ≡ o
  unfolding beside pick
  beside_same e = rw (le-ltb x y (omega arith), le-ltb y x (omega arith))

-- the three ways
ways : {X : Type 0} (x y : ℕ) → (x < y → X) → (x ≡ y → X) → (y < x → X) → X
ways {X} x y f g h = go (dec_lt x y) (dec_lt y x)
  where
    go : Dec (x < y) → Dec (y < x) → X
    go (yes l) d = f l
    go (no l) (yes k) = h k
    go (no l) (no k) = g (omega arith)

-- Equal just where they are the same
pub equal_same : (a w : Text) → compared a w ≡ Equal → same a w ≡ true
unfolding compared same
equal_same [] [] e = refl
equal_same [] (y ∷ w) e = absurd (let z : ◌≡◌ {A = ℕ} 0 1 = cc in omega arith)
equal_same (x ∷ a) [] e = absurd (let z : ◌≡◌ {A = ℕ} 0 1 = cc in omega arith)
equal_same (x ∷ a) (y ∷ w) e = ways x y
    (λ l. let q = sym (beside-lower x y (compared a w) l) ∙ e in absurd (let z : ◌≡◌ {A = ℕ} 0 1 = cc in omega arith))
    (λ i. rw (eq-eqb x y i) (equal_same a w (sym (beside_same x y (compared a w) i) ∙ e)))
    (λ l. let q = sym (beside-higher x y (compared a w) l) ∙ e in absurd (let z : ◌≡◌ {A = ℕ} 0 1 = cc in omega arith))

-- a text with itself
pub compared_self : (a : Text) → compared a a ≡ Equal
unfolding compared
compared_self [] = refl
compared_self (x ∷ a) = beside_same x x (compared a a) refl ∙ compared_self a

pub same_equal : (a w : Text) → same a w ≡ true → compared a w ≡ Equal
same_equal a w e = ap (compared a) (sym (same_true a w e)) ∙ compared_self a

pub unlike : (a w : Text) → (compared a w ≡ Equal → ⊥) → same a w ≡ false
unlike a w f = go (same a w) refl
  where
    go : (b : Bool) → same a w ≡ b → b ≡ false
    go false e = refl
    go true e = absurd (f (same_equal a w e))

-- What comes after one that is above is above too
pub above_later : (a y w : Text) → compared a w ≡ Greater → rises a y ≡ true → compared y w ≡ Greater
unfolding compared rises
above_later [] y [] e r = absurd (let z : ◌≡◌ {A = ℕ} 0 1 = cc in omega arith)
above_later [] y (v ∷ w) e r = absurd (let z : ◌≡◌ {A = ℕ} 0 1 = cc in omega arith)
above_later (x ∷ a) [] w e r = absurd (true≢false (sym r))
above_later (x ∷ a) (y ∷ b) [] e r = refl
above_later (x ∷ a) (y ∷ b) (v ∷ w) e r = ways x v
    (λ l. let q = sym (beside-lower x v (compared a w) l) ∙ e in absurd (let z : ◌≡◌ {A = ℕ} 0 1 = cc in omega arith))
    (λ i. or_cases (ltb x y) _
    (λ l. let k = ltb-true x y l in beside-higher y v (compared b w) (omega arith))
    (λ k. let j = eqb-true x y (and_left _ _ k) in
    beside_same y v (compared b w) (omega arith)
    ∙ above_later a b w (sym (beside_same x v (compared a w) i) ∙ e) (and_right (eqb x y) _ k)) r)
    (λ l. or_cases (ltb x y) _
    (λ k. let j = ltb-true x y k in beside-higher y v (compared b w) (omega arith))
    (λ k. let j = eqb-true x y (and_left _ _ k) in beside-higher y v (compared b w) (omega arith)) r)

-- What comes after one that is equal is not below
pub risen_not_below : (y w : Text) → compared y w ≡ Less → rises w y ≡ true → ⊥
unfolding compared rises
risen_not_below [] [] e r = absurd (let z : ◌≡◌ {A = ℕ} 0 1 = cc in omega arith)
risen_not_below [] (v ∷ w) e r = absurd (true≢false (sym r))
risen_not_below (x ∷ y) [] e r = absurd (let z : ◌≡◌ {A = ℕ} 0 1 = cc in omega arith)
risen_not_below (x ∷ y) (v ∷ w) e r = ways x v
    (λ l. or_cases (ltb v x) _
    (λ k. let j = ltb-true v x k in omega arith)
    (λ k. let j = eqb-true v x (and_left _ _ k) in omega arith) r)
    (λ i. or_cases (ltb v x) _
    (λ k. let j = ltb-true v x k in omega arith)
    (λ k. risen_not_below y w (sym (beside_same x v (compared y w) i) ∙ e) (and_right (eqb v x) _ k)) r)
    (λ l. let q = sym (beside-higher x v (compared y w) l) ∙ e in absurd (let z : ◌≡◌ {A = ℕ} 0 1 = cc in omega arith))

-- What comes before one that is below is below too
pub below_earlier : (a y w : Text) → compared y w ≡ Less → rises a y ≡ true → compared a w ≡ Less
below_earlier a y w e r = go (compared a w) refl
  where
    go : (o : Ordering) → compared a w ≡ o → o ≡ Less
    go Less q = refl
    go Equal q = absurd (risen_not_below y w e (subst (λ x. rises x y ≡ true) (same_true a w (equal_same a w q)) r))
    go Greater q = let k = sym e ∙ above_later a y w q r in absurd (let z : ◌≡◌ {A = ℕ} 0 1 = cc in omega arith)

-- Prefixes: one that is equal starts with it, one below does not
pub equal_starts : (a w : Text) → compared a w ≡ Equal → starts w a ≡ true
equal_starts a w e = ap (starts w) (same_true a w (equal_same a w e)) ∙ starts_self w
  where
    starts_self : (w : Text) → starts w w ≡ true
    starts_self w = rw append-nil at (starts-append w [])

pub below_starts : (a w : Text) → compared a w ≡ Less → starts w a ≡ false
unfolding compared starts
below_starts [] [] e = absurd (let z : ◌≡◌ {A = ℕ} 0 1 = cc in omega arith)
below_starts [] (v ∷ w) e = refl
below_starts (x ∷ a) [] e = absurd (let z : ◌≡◌ {A = ℕ} 0 1 = cc in omega arith)
below_starts (x ∷ a) (v ∷ w) e = ways x v
    (λ l. rw (ne_eqb v x (λ z. omega arith)))
    (λ i. rw (eq-eqb v x (sym i)) (below_starts a w (sym (beside_same x v (compared a w) i) ∙ e)))
    (λ l. let q = sym (beside-higher x v (compared a w) l) ∙ e in absurd (let z : ◌≡◌ {A = ℕ} 0 1 = cc in omega arith))

-- and where one that is above does not, none after it does
pub above_starts : (a y w : Text) → compared a w ≡ Greater → starts w a ≡ false → rises a y ≡ true → starts w y ≡ false
unfolding compared starts rises
above_starts [] y [] e h r = absurd (let z : ◌≡◌ {A = ℕ} 0 1 = cc in omega arith)
above_starts [] y (v ∷ w) e h r = absurd (let z : ◌≡◌ {A = ℕ} 0 1 = cc in omega arith)
above_starts (x ∷ a) y [] e h r = absurd (true≢false h)
above_starts (x ∷ a) [] (v ∷ w) e h r = refl
above_starts (x ∷ a) (y ∷ b) (v ∷ w) e h r = ways x v
    (λ l. let q = sym (beside-lower x v (compared a w) l) ∙ e in absurd (let z : ◌≡◌ {A = ℕ} 0 1 = cc in omega arith))
    (λ i. or_cases (ltb x y) _
    (λ l. let k = ltb-true x y l in rw (ne_eqb v y (λ z. omega arith)))
    (λ k. let j = eqb-true x y (and_left _ _ k) in
    rw (eq-eqb v y (omega arith)) (above_starts a b w (sym (beside_same x v (compared a w) i) ∙ e)
    (ap (λ c. c && starts w a) (sym (eq-eqb v x (sym i))) ∙ h) (and_right (eqb x y) _ k))) r)
    (λ l. or_cases (ltb x y) _
    (λ k. let j = ltb-true x y k in rw (ne_eqb v y (λ z. omega arith)))
    (λ k. let j = eqb-true x y (and_left _ _ k) in rw (ne_eqb v y (λ z. omega arith))) r)

-- A source of `n` characters from `o` of a row on, beside the text from `i` on: one law for each way that a turn can go
module _ (s w : List ℕ) (n o i : ℕ) where
  abbrev pub here : Ordering
  here = compared (counted three_at 3 n (drop o s)) (drop i w)

  pub source-longer : 0 < n → length w ≤ i → Greater ≡ here
  unfolding compared
  source-longer h l = sym (rw (counted_some three_at 3 n o s h, drop_of_length-le w {i = i} l))

  pub text-longer : n ≡ 0 → i < length w → Less ≡ here
  unfolding compared
  text-longer h l = sym (rw (counted_none three_at 3 n (drop o s) h, drop-cons w i 0 l))

  pub both_end : n ≡ 0 → length w ≤ i → Equal ≡ here
  unfolding compared
  both_end h l = sym (rw (counted_none three_at 3 n (drop o s) h, drop_of_length-le w {i = i} l))

  module _ (h : 0 < n) (l : i < length w) (c d : ℕ) (p : c ≡ three_at (drop o s)) (q : d ≡ get_or w i 0) where
    one : here ≡ beside c d (compared (counted three_at 3 (n - 1) (drop (o + 3) s)) (drop (suc i) w))
    unfolding compared
    one = rw (counted_some three_at 3 n o s h, drop-cons w i 0 l, p, q)

    pub lower : c < d → Less ≡ here
    lower k = sym (one ∙ beside-lower c d _ k)

    pub higher : d < c → Greater ≡ here
    higher k = sym (one ∙ beside-higher c d _ k)

    pub same_character : (d ≤ c) × (c ≤ d) → compared (counted three_at 3 (n - 1) (drop (o + 3) s)) (drop (i + 1) w) ≡ here
    same_character k = rw add-one (sym (one ∙ beside_same c d _ (omega arith)))

-- The first character of a row's source, where it is told
abbrev pub First : List ℕ → Option ℕ → Type 0
First s (Some c) = (0 < source_count s) × (c ≡ three_at (drop 6 s))
First s None = Unit {0}

-- the count and the first character, read as one number
pub first-told : (R : List ℕ) (row key : ℕ) → key ≡ be4 (drop row R) 5 → ((i : ℕ) → get_or R i 0 < 256) → 16777215 < key
    → First (drop row R) (Some (key % 16777216))
unfolding source_count
first-told R row key p b h = (omega (arith, small 6, small 7, small 8), begins)
  where
    s : List ℕ
    s = drop row R

    small : (i : ℕ) → get_or s i 0 < 256
    small i = rw get_or-drop (b (row + i))

    begins : key % 16777216 ≡ three_at (drop 6 s)
    begins = (let e : key % 16777216 ≡ be3 s 6 = omega (arith, small 6, small 7, small 8) in e) ∙ three-there s 6

-- where it differs from the text's first, it settles the order
module _ (s w : List ℕ) (c d : ℕ) (f : First s (Some c)) (l : 0 < length w) (q : d ≡ get_or w 0 0) where
  pub first-lower : c < d → Less ≡ compared (rule_source s) w
  unfolding rule_source
  first-lower h = lower s w (source_count s) 6 0 f.0 l c d f.1 q h

  pub first-higher : d < c → Greater ≡ compared (rule_source s) w
  unfolding rule_source
  first-higher h = higher s w (source_count s) 6 0 f.0 l c d f.1 q h
