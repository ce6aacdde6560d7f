-- Laws of the small functions over lists.
use Rattle.std.specs.Prelude.{Bool, ◌&&◌, ◌||◌, ◌⊎◌, ℕ, zero, suc, ◌+◌, ◌-◌, ◌<◌, ◌≤◌, eqb, leb, length, take, drop, replicate}
use Rattle.std.proofs.Math.Bool.{true, false, or-true, or_assoc}
use Rattle.std.proofs.Common.{true≢false, sym, ◌∙◌, arith, le-leb, leb-true, eq-eqb, ne_eqb, eqb-true}
use Rattle.std.proofs.Math.Path.{◌≡◌, refl, ap}
use mathlib.Core.List.{List, [], ◌∷◌, ◌++◌, map}
use Rattle.std.proofs.Math.Logic.{⊎_elim}
use Rattle.std.proofs.Math.Option
use Rattle.std.proofs.Math.Option.{Option, none, some}
use Rattle.std.proofs.Math.Decide.{dec_le}
use Rattle.std.proofs.Math.Seq.{take-nil}
use Rattle.std.proofs.lemmas.Bool.{lt-leb}
use Rattle.base.specs.Bools.{and_left, and_right}
use Rattle.base.specs.Pick.{pick}
use Rattle.base.specs.Lists.{put, keep, any, tail, empty, holds, front, after, best_of, best, is, or_else, first_of, same, starts}
use Rattle.base.specs.Alls.{All, All-map}

-- `any` and `keep` of two lists, one behind the other
pub any_append : {A : Type 0} (f : A → Bool) (l k : List A) → any f (l ++ k) ≡ (any f l || any f k)
unfolding any
any_append f [] k = refl
any_append f (x ∷ l) k = ap (λ (b : Bool). f x || b) (any_append f l k) ∙ sym (or_assoc (f x) (any f l) (any f k))

pub keep_append : {A : Type 0} (q : A → Bool) (l k : List A) → keep q (l ++ k) ≡ keep q l ++ keep q k
unfolding keep
keep_append q [] k = refl
keep_append {A} q (x ∷ l) k = ap (put (q x) x) (keep_append q l k) ∙ put-append (q x)
  where
    put-append : (b : Bool) → put b x (keep q l ++ keep q k) ≡ put b x (keep q l) ++ keep q k
    put-append true = refl
    put-append false = refl

-- what passes one test passes another; one that passes there is
pub any_implies : {A : Type 0} (f g : A → Bool) → ((x : A) → f x ≡ true → g x ≡ true)
    → (l : List A) → any f l ≡ true → any g l ≡ true
unfolding any
any_implies f g h [] e = e
any_implies {A} f g h (x ∷ l) e = go (f x) refl e (any_implies f g h l)
  where
    go : (b : Bool) → f x ≡ b → (b || any f l) ≡ true → (any f l ≡ true → any g l ≡ true) → (g x || any g l) ≡ true
    go true p e k = ap (λ (c : Bool). c || any g l) (h x p)
    go false p e k = ap (λ (c : Bool). g x || c) (k e) ∙ or-true (g x)

pub any_elim : {A X : Type 0} (f : A → Bool) (l : List A) → ((x : A) → f x ≡ true → X) → any f l ≡ true → X
unfolding any
any_elim f [] k e = absurd (true≢false (sym e))
any_elim {A} {X} f (x ∷ l) k e = go (f x) refl e (any_elim f l k)
  where
    go : (b : Bool) → f x ≡ b → (b || any f l) ≡ true → (any f l ≡ true → X) → X
    go true q e r = k x q
    go false q e r = r e

-- Sizes as numbers
leb_suc : (a b : ℕ) → leb a b ≡ leb (suc a) (suc b)
leb_suc a b = go (dec_le a b)
  where
    go : Dec (a ≤ b) → leb a b ≡ leb (suc a) (suc b)
    go (yes k) = le-leb a b k ∙ sym (le-leb (suc a) (suc b) (omega arith))
    go (no k) = lt-leb a b (omega arith) ∙ sym (lt-leb (suc a) (suc b) (omega arith))

pub holds-is : {A : Type 0} (n : ℕ) (l : List A) → holds n l ≡ leb n (length l)
unfolding holds
holds-is zero l = sym (le-leb 0 (length l) (omega arith))
holds-is (suc n) [] = sym (lt-leb (suc n) 0 (omega arith))
holds-is (suc n) (x ∷ l) = holds-is n l ∙ leb_suc n (length l)

pub holds-length : {A : Type 0} (n : ℕ) (l : List A) → holds n l ≡ true → n ≤ length l
holds-length n l e = leb-true n (length l) (sym (holds-is n l) ∙ e)

pub empty-is : {A : Type 0} (l : List A) → empty l ≡ eqb (length l) 0
unfolding empty
empty-is [] = refl
empty-is (x ∷ l) = sym (ne_eqb (suc (length l)) 0 (λ z. omega arith))

pub none_left : {A : Type 0} (l : List A) → empty l ≡ true → length l ≡ 0
none_left l e = eqb-true (length l) 0 (sym (empty-is l) ∙ e)

pub some_left : {A : Type 0} (l : List A) → empty l ≡ false → 0 < length l
unfolding empty
some_left [] e = absurd (true≢false e)
some_left (x ∷ l) e = omega arith

pub take-most : {A : Type 0} (n : ℕ) (l : List A) → length (take n l) ≤ n
take-most zero l = omega arith
take-most (suc n) [] = omega arith
take-most (suc n) (x ∷ l) = let h = take-most n l in omega arith

pub tail-length : {A : Type 0} (l : List A) → length (tail l) ≡ length l - 1
tail-length [] = omega arith
tail-length (x ∷ l) = omega arith

pub front_length : {A : Type 0} (q : A → Bool) (l : List A) → length (front q l) ≤ length l
unfolding front
front_length q [] = omega arith
front_length {A} q (x ∷ l) = go (q x) (front_length q l)
  where
    go : (b : Bool) → length (front q l) ≤ length l → length {A = A} (elim b [ true ↦ x ∷ front q l | false ↦ [] ]) ≤ suc (length l)
    go true h = omega arith
    go false h = omega arith

-- a front and what follows it are the whole
pub front-after : {A : Type 0} (q : A → Bool) (l : List A) → length (front q l) + length (after q l) ≡ length l
unfolding front after
front-after q [] = refl
front-after {A} q (x ∷ l) = go (q x) (front-after q l)
  where
    go : (b : Bool) → length (front q l) + length (after q l) ≡ length l
        → length {A = A} (elim b [ true ↦ x ∷ front q l | false ↦ [] ]) + length {A = A} (elim b [ true ↦ after q l | false ↦ x ∷ l ]) ≡ suc (length l)
    go true h = omega arith
    go false h = omega arith

-- Equal lists of numbers
pub same_refl : (a : List ℕ) → same a a ≡ true
unfolding same
same_refl [] = refl
same_refl (x ∷ a) = ap (λ (b : Bool). b && same a a) (eq-eqb x x refl) ∙ same_refl a

pub same_true : (a b : List ℕ) → same a b ≡ true → a ≡ b
unfolding same
same_true [] [] e = refl
same_true [] (y ∷ b) e = absurd (true≢false (sym e))
same_true (x ∷ a) [] e = absurd (true≢false (sym e))
same_true (x ∷ a) (y ∷ b) e = let p = eqb-true x y (and_left _ _ e) in let q = same_true a b (and_right (eqb x y) _ e) in cc

pub same_none : (a : List ℕ) → same a [] ≡ empty a
unfolding same empty
same_none [] = refl
same_none (x ∷ a) = refl

pub same_some : (a : List ℕ) → 0 < length a → same a [] ≡ false
unfolding same
same_some [] h = absurd (omega arith)
same_some (x ∷ a) h = refl

pub starts-append : (a b : List ℕ) → starts a (a ++ b) ≡ true
unfolding starts
starts-append [] b = refl
starts-append (x ∷ a) b = ap (λ (c : Bool). c && starts a (a ++ b)) (eq-eqb x x refl) ∙ starts-append a b

pub starts_split : (a b : List ℕ) → starts a b ≡ true → b ≡ a ++ drop (length a) b
unfolding starts
starts_split [] b e = refl
starts_split (x ∷ a) [] e = absurd (true≢false (sym e))
starts_split (x ∷ a) (y ∷ b) e =
    let p = eqb-true x y (and_left _ _ e) in
    let q = starts_split a b (and_right (eqb x y) _ e) in
    ap (λ (z : ℕ). z ∷ b) (sym p) ∙ ap (λ (l : List ℕ). x ∷ l) q

-- what is absent on both sides
-- the first that is there, by whether the front one is
module _ {A : Type 0} (a : Option A) where
  pub first_past : (l : List (Option A)) → a ≡ none → first_of (a ∷ l) ≡ first_of l
  unfolding first_of
  first_past l e = rw e

  pub first-here : (l : List (Option A)) (x : A) → a ≡ some x → first_of (a ∷ l) ≡ some x
  unfolding first_of
  first-here l x e = rw e

  pub first_only : first_of (a ∷ []) ≡ a
  unfolding first_of
  first_only = go a
    where
      go : (a : Option A) → or_else a none ≡ a
      go none = refl
      go (some x) = refl

pub or_none : {A : Type 0} (a b : Option A) → or_else a b ≡ none → (a ≡ none) × (b ≡ none)
or_none none b e = (refl, e)
or_none (some x) b e = absurd (let w : ◌≡◌ {A = ℕ} 0 1 = cc in omega arith)

module _ {A : Type 0} where
  -- A test that none passes
  pub any_none : (P : A → Type 0) (f : A → Bool) (l : List A) → All P l → ((x : A) → P x → f x ≡ false)
      → any f l ≡ false
  unfolding any
  any_none P f [] h k = refl
  any_none P f (x ∷ l) h k = rw (k x h.0) (any_none P f l h.1 k)

  pub keep-none : (P : A → Type 0) (f : A → Bool) (l : List A) → All P l → ((x : A) → P x → f x ≡ false)
      → keep f l ≡ []
  unfolding keep
  keep-none P f [] h k = refl
  keep-none P f (x ∷ l) h k = rw (k x h.0) (keep-none P f l h.1 k)

  -- where nothing is kept, none has passed
  pub keep-nothing : (q : A → Bool) (l : List A) → keep q l ≡ [] → All (λ x. q x ≡ false) l
  unfolding keep
  keep-nothing q [] e = tt
  keep-nothing q (x ∷ l) e = go (q x) refl e (keep-nothing q l)
    where
      go : (b : Bool) → q x ≡ b → put b x (keep q l) ≡ [] → (keep q l ≡ [] → All (λ x. q x ≡ false) l)
          → All (λ x. q x ≡ false) (x ∷ l)
      go true z e f = absurd (let w : ◌≡◌ {A = ℕ} 0 1 = cc in omega arith)
      go false z e f = (z, f e)

  -- where all pass, all are kept; where one is kept, no other has passed
  pub keep_every : (q : A → Bool) (l : List A) → All (λ x. q x ≡ true) l → keep q l ≡ l
  unfolding keep
  keep_every q [] h = refl
  keep_every q (x ∷ l) h = rw h.0 (ap (λ r. x ∷ r) (keep_every q l h.1))

  pub keep_only : (q : A → Bool) (x : A) (l : List A) → keep q l ≡ x ∷ [] → All (λ y. q y ≡ true → y ≡ x) l
  unfolding keep
  keep_only q x [] e = tt
  keep_only q x (y ∷ l) e = go (q y) refl e (keep_only q x l)
    where
      go : (b : Bool) → q y ≡ b → put b y (keep q l) ≡ x ∷ []
          → (keep q l ≡ x ∷ [] → All (λ y. q y ≡ true → y ≡ x) l) → All (λ y. q y ≡ true → y ≡ x) (y ∷ l)
      go true z e f = (λ t. cc, All-map (λ v w t. absurd (true≢false (sym t ∙ w))) l (keep-nothing q l cc))
      go false z e f = (λ t. absurd (true≢false (sym t ∙ z)), f e)

  -- A list moved by `s`
  pub any-map : (f g : A → Bool) (s : A → A) → ((x : A) → f (s x) ≡ g x) → (l : List A) → any f (map s l) ≡ any g l
  unfolding any
  any-map f g s q [] = refl
  any-map f g s q (x ∷ l) = rw (q x, any-map f g s q l)

  pub keep-map : (q r : A → Bool) (s : A → A) (l : List A) → All (λ x. q (s x) ≡ r x) l
      → keep q (map s l) ≡ map s (keep r l)
  unfolding keep
  keep-map q r s [] h = refl
  keep-map q r s (x ∷ l) h = rw (h.0, keep-map q r s l h.1) (go (r x))
    where
      go : (b : Bool) → put b (s x) (map s (keep r l)) ≡ map s (put b x (keep r l))
      go true = refl
      go false = refl

  best_of-map : (c : A → A → Bool) (s : A → A) → ((x y : A) → c (s x) (s y) ≡ c x y)
      → (x : A) (l : List A) → best_of c (s x) (map s l) ≡ s (best_of c x l)
  unfolding best_of pick
  best_of-map c s q x [] = refl
  best_of-map c s q x (y ∷ l) =
      ap (λ b. best_of c (pick b (s y) (s x)) (map s l)) (q y x) ∙ go (c y x) (λ z. best_of-map c s q z l)
    where
      go : (b : Bool) → ((z : A) → best_of c (s z) (map s l) ≡ s (best_of c z l))
          → best_of c (pick b (s y) (s x)) (map s l) ≡ s (best_of c (pick b y x) l)
      go true k = k y
      go false k = k x

  pub best-map : (c : A → A → Bool) (s : A → A) → ((x y : A) → c (s x) (s y) ≡ c x y)
      → (l : List A) → best c (map s l) ≡ Option.map s (best c l)
  unfolding best
  best-map c s q [] = refl
  best-map c s q (x ∷ l) = ap some (best_of-map c s q x l)

  pub is-map : (q : A → Bool) (s : A → A) → ((x : A) → q (s x) ≡ q x) → (o : Option A)
      → is q (Option.map s o) ≡ is q o
  is-map q s k none = refl
  is-map q s k (some x) = k x

  -- the head of a moved list is a moved head
  pub map_uncons : (s : A → A) (X : A) (K xs : List A) → X ∷ K ≡ map s xs
      → (x : A) × (ys : List A) × (xs ≡ x ∷ ys) × (X ≡ s x) × (K ≡ map s ys)
  map_uncons s X K [] e = absurd (let z : ◌≡◌ {A = ℕ} 0 1 = cc in omega arith)
  map_uncons s X K (x ∷ xs) e = (x, xs, refl, cc, cc)

  pub take-replicate : (x : A) (n k : ℕ) → n ≤ k → take n (replicate k x) ≡ replicate n x
  take-replicate x zero k l = refl
  take-replicate x (suc n) zero l = absurd (omega arith)
  take-replicate x (suc n) (suc k) l = ap (λ r. x ∷ r) (take-replicate x n k (omega arith))

  -- Kept twice: first what the second test keeps anyway; in either order
  pub keep-keep : (q r : A → Bool) (l : List A) → All (λ x. (q x ≡ false) ⊎ (r x ≡ true)) l
      → keep q l ≡ keep q (keep r l)
  unfolding keep
  keep-keep q r [] h = refl
  keep-keep q r (x ∷ l) h = ⊎_elim
      (λ e. ap (λ b. put b x (keep q l)) e ∙ keep-keep q r l h.1 ∙ go (r x) e)
      (λ e. ap (put (q x) x) (keep-keep q r l h.1) ∙ ap (λ b. keep q (put b x (keep r l))) (sym e)) h.0
    where
      go : (b : Bool) → q x ≡ false → keep q (keep r l) ≡ keep q (put b x (keep r l))
      go true e = rw e
      go false e = refl

  pub keep_swap : (q r : A → Bool) (l : List A) → keep q (keep r l) ≡ keep r (keep q l)
  unfolding keep
  keep_swap q r [] = refl
  keep_swap q r (x ∷ l) = go (q x) (r x) refl refl (keep_swap q r l)
    where
      go : (b c : Bool) → q x ≡ b → r x ≡ c → keep q (keep r l) ≡ keep r (keep q l)
          → keep q (put c x (keep r l)) ≡ keep r (put b x (keep q l))
      go true true e f h = rw (e, f) (ap (λ k. x ∷ k) h)
      go true false e f h = rw f h
      go false true e f h = rw e h
      go false false e f h = h

-- a part of a front
pub drop-take : (i n : ℕ) (l : List ℕ) → drop i (take (i + n) l) ≡ take n (drop i l)
drop-take zero n l = ap (λ (k : ℕ). take k l) {x = 0 + n} {y = n} (omega arith)
drop-take (suc i) n [] = ap (λ (l : List ℕ). drop (suc i) l) (take-nil (suc i + n)) ∙ sym (take-nil n)
drop-take (suc i) n (x ∷ l) = ap (λ (k : ℕ). drop (suc i) (take k (x ∷ l))) {x = suc i + n} {y = suc (i + n)} (omega arith) ∙ drop-take i n l

-- any of those kept
pub any-keep : {A : Type 0} (f g : A → Bool) (l : List A) → any f (keep g l) ≡ any (λ x. g x && f x) l
unfolding any keep
any-keep f g [] = refl
any-keep f g (x ∷ l) = go (g x) (any-keep f g l)
  where
    go : (b : Bool) → any f (keep g l) ≡ any (λ x. g x && f x) l → any f (put b x (keep g l)) ≡ ((b && f x) || any (λ x. g x && f x) l)
    go true e = ap (λ (t : Bool). f x || t) e
    go false e = e
