-- What holds of every element of a list, and of what may be absent.
use Rattle.std.specs.Prelude.{Bool, true, false, ◌&&◌, ◌≡◌, refl, ℕ, zero, suc, ◌<◌, length, get_or, take, drop}
use Rattle.std.proofs.Common.{◌∙◌, ap, arith}
use mathlib.Core.List.{List, [], ◌∷◌, ◌++◌, map, reverse, reverse_aux}
use Rattle.std.proofs.Math.Option.{Option, none, some}
use Rattle.base.specs.Pick.{pick, pick_all}
use Rattle.base.specs.Bools.{and_left, and_right, conj}
use Rattle.base.specs.Lists.{put, keep, any, all, head, or_else, maybe, front, after, tail, bind, best_of, best}
use Rattle.base.specs.Rows.{Each, no_row, row_then, rows, rows_nil, rows_cons}

abbrev pub All : {A : Type 0} → (A → Type 0) → List A → Type 0
All P [] = Unit {0}
All P (x ∷ l) = P x × All P l

pub All-map : {A : Type 0} {P Q : A → Type 0} → ((x : A) → P x → Q x) → (l : List A) → All P l → All Q l
All-map f [] h = tt
All-map f (x ∷ l) h = (f x h.0, All-map f l h.1)

-- of one that stands there
pub All-at : {A : Type 0} (P : A → Type 0) (l : List A) (i : ℕ) (d : A) → All P l → i < length l → P (get_or l i d)
All-at P [] i d a h = absurd (omega arith)
All-at P (x ∷ l) zero d a h = a.0
All-at P (x ∷ l) (suc i) d a h = All-at P l i d a.1 (omega arith)

-- each stands so to every later one
abbrev pub Ordered : {A : Type 0} → (A → A → Type 0) → List A → Type 0
Ordered R [] = Unit {0}
Ordered R (x ∷ l) = All (R x) l × Ordered R l

pub any_cong : {A : Type 0} (f g : A → Bool) (l : List A) → All (λ x. f x ≡ g x) l → any f l ≡ any g l
unfolding any
any_cong f g [] h = refl
any_cong f g (x ∷ l) h = rw (h.0, any_cong f g l h.1)

pub keep_cong : {A : Type 0} (f g : A → Bool) (l : List A) → All (λ x. f x ≡ g x) l → keep f l ≡ keep g l
unfolding keep
keep_cong f g [] h = refl
keep_cong f g (x ∷ l) h = rw (h.0, keep_cong f g l h.1)

pub best_of-all : {A : Type 0} (P : A → Type 0) (c : A → A → Bool) (x : A) (l : List A) → P x → All P l → P (best_of c x l)
unfolding best_of
best_of-all P c x [] p k = p
best_of-all P c x (y ∷ l) p k = best_of-all P c (pick (c y x) y x) l (pick_all P (c y x) k.0 p) k.1

pub All-append : {A : Type 0} (P : A → Type 0) (l k : List A) → All P l → All P k → All P (l ++ k)
All-append P [] k h j = j
All-append P (x ∷ l) k h j = (h.0, All-append P l k h.1 j)

-- of a part
pub All-left : {A : Type 0} (P : A → Type 0) (l k : List A) → All P (l ++ k) → All P l
All-left P [] k h = tt
All-left P (x ∷ l) k h = (h.0, All-left P l k h.1)

pub All-right : {A : Type 0} (P : A → Type 0) (l k : List A) → All P (l ++ k) → All P k
All-right P [] k h = h
All-right P (x ∷ l) k h = All-right P l k h.1

pub All-reverse : {A : Type 0} (P : A → Type 0) (l : List A) → All P l → All P (reverse l)
All-reverse {A} P l h = go l [] h tt
  where
    go : (l k : List A) → All P l → All P k → All P (reverse_aux l k)
    go [] k h j = j
    go (x ∷ l) k h j = go l (x ∷ k) h.1 (h.0, j)

pub All-tail : {A : Type 0} (P : A → Type 0) (l : List A) → All P l → All P (tail l)
All-tail P [] h = tt
All-tail P (x ∷ l) h = h.1

pub All-one : {A : Type 0} (P : A → Type 0) (l : List A) → All P l → All P (take 1 l)
All-one P [] h = tt
All-one P (x ∷ l) h = (h.0, tt)

pub All-front : {A : Type 0} (P : A → Type 0) (q : A → Bool) (l : List A) → All P l → All P (front q l)
unfolding front
All-front P q [] h = tt
All-front {A} P q (x ∷ l) h = go (q x) (All-front P q l h.1)
  where
    go : (b : Bool) → All P (front q l) → All P (elim b [ true ↦ x ∷ front q l | false ↦ [] ])
    go true k = (h.0, k)
    go false k = tt

pub All-after : {A : Type 0} (P : A → Type 0) (q : A → Bool) (l : List A) → All P l → All P (after q l)
unfolding after
All-after P q [] h = tt
All-after {A} P q (x ∷ l) h = go (q x) (All-after P q l h.1)
  where
    go : (b : Bool) → All P (after q l) → All P (elim b [ true ↦ after q l | false ↦ x ∷ l ])
    go true k = k
    go false k = h

pub All-put : {A : Type 0} (P : A → Type 0) (b : Bool) (x : A) (l : List A) → (b ≡ true → P x) → All P l → All P (put b x l)
All-put P true x l h k = (h refl, k)
All-put P false x l h k = k

pub All-keep : {A : Type 0} (P : A → Type 0) (q : A → Bool) (l : List A) → All P l → All P (keep q l)
unfolding keep
All-keep P q [] h = tt
All-keep P q (x ∷ l) h = All-put P (q x) x (keep q l) (λ e. h.0) (All-keep P q l h.1)

abbrev pub Opt : {A : Type 0} → (A → Type 0) → Option A → Type 0
Opt P none = Unit {0}
Opt P (some x) = P x

pub Opt-any : {A : Type 0} (o : Option A) → Opt (λ x. Unit {0}) o
Opt-any none = tt
Opt-any (some x) = tt

pub or_else-all : {A : Type 0} (P : A → Type 0) (x y : Option A) → Opt P x → Opt P y → Opt P (or_else x y)
or_else-all P none y h k = k
or_else-all P (some x) y h k = h

pub All-head : {A : Type 0} (P : A → Type 0) (l : List A) → All P l → Opt P (head l)
unfolding head
All-head P [] h = tt
All-head P (x ∷ l) h = h.0

pub All-best : {A : Type 0} (P : A → Type 0) (c : A → A → Bool) (l : List A) → All P l → Opt P (best c l)
unfolding best
All-best P c [] h = tt
All-best P c (x ∷ l) h = best_of-all P c x l h.0 h.1

pub All_getD : {A : Type 0} (P : A → Type 0) (l : List A) (i : ℕ) (d : A) → All P l → P d → P (get_or l i d)
All_getD P [] i d h p = p
All_getD P (x ∷ l) zero d h p = h.0
All_getD P (x ∷ l) (suc i) d h p = All_getD P l i d h.1 p

pub All-drop : {A : Type 0} (P : A → Type 0) (i : ℕ) (l : List A) → All P l → All P (drop i l)
All-drop P zero l h = h
All-drop P (suc i) [] h = tt
All-drop P (suc i) (x ∷ l) h = All-drop P i l h.1

pub maybe-all : {A B : Type 0} (P : B → Type 0) (R : A → Type 0) (o : Option A) {y : B} {f : A → B} → Opt R o → P y → ((x : A) → R x → P (f x)) → P (maybe o y f)
unfolding maybe
maybe-all P R none r p k = p
maybe-all P R (some x) r p k = k x r

pub bind_all : {A B : Type 0} (P : B → Type 0) (R : A → Type 0) (o : Option A) (f : A → Option B) → Opt R o → ((x : A) → R x → Opt P (f x)) → Opt P (bind o f)
bind_all P R none f r k = tt
bind_all P R (some x) f r k = k x r

-- what a kept head passed
pub head-keep : {A : Type 0} (P : A → Type 0) (q : A → Bool) (l : List A) → All P l → Opt (λ x. P x × (q x ≡ true)) (head (keep q l))
unfolding head keep
head-keep P q [] h = tt
head-keep {A} P q (x ∷ l) h = go (q x) refl (head-keep P q l h.1)
  where
    go : (b : Bool) → q x ≡ b → Opt (λ x. P x × (q x ≡ true)) (head (keep q l)) → Opt (λ x. P x × (q x ≡ true)) (head (put b x (keep q l)))
    go true e k = (h.0, e)
    go false e k = k

-- several tests, as a fact of each
pub conj-all : (a : Bool) (l : List Bool) → conj a l ≡ true → All (λ b. b ≡ true) (a ∷ l)
conj-all a [] e = (e, tt)
conj-all a (b ∷ l) e =
    let r = conj-all (a && b) l e in
    (and_left a b r.0, (and_right a b r.0, r.1))

-- a test of all elements, as a fact of each
pub all-all : {A : Type 0} (P : A → Type 0) (f : A → Bool) → ((x : A) → f x ≡ true → P x) → (l : List A) → all f l ≡ true → All P l
unfolding all
all-all P f k [] e = tt
all-all P f k (x ∷ l) e = (k x (and_left _ _ e), all-all P f k l (and_right (f x) _ e))

-- what holds of each row's bytes, as a fact of each row
pub rows_all : {A : Type 0} {P : List ℕ → Type 0} {size : List ℕ → ℕ} (one : List ℕ → A) (Q : A → Type 0) → ((s : List ℕ) → 0 < size s)
    → ((s : List ℕ) → P s → Q (one s)) → {s : List ℕ} → Each P size s → All Q (rows one size s)
rows_all {size = size} one Q moves f (no_row {s} e) = rw (rows_nil one size s e) tt
rows_all {A = A} {P = P} {size = size} one Q moves f (row_then {s} p r) = go s p (rows_all one Q moves f r)
  where
    go : (s : List ℕ) → P s → All Q (rows one size (drop (size s) s)) → All Q (rows one size s)
    go [] p h = rw (rows_nil one size [] refl) tt
    go (x ∷ s) p h = rw (rows_cons one size moves (x ∷ s) (omega arith)) (f (x ∷ s) p, h)

-- and back; so the test does not see their order
pub All-all : {A : Type 0} (f : A → Bool) (l : List A) → All (λ x. f x ≡ true) l → all f l ≡ true
unfolding all
All-all f [] h = refl
All-all f (x ∷ l) h = ap (λ (b : Bool). b && all f l) h.0 ∙ All-all f l h.1

pub all-reverse : {A : Type 0} (f : A → Bool) (l : List A) → all f l ≡ true → all f (reverse l) ≡ true
all-reverse f l e = All-all f (reverse l) (All-reverse (λ x. f x ≡ true) l (all-all (λ x. f x ≡ true) f (λ x q. q) l e))

-- what holds of each; of what is there, and something besides; of what is kept
module _ {A : Type 0} where
  pub All-each : (P : A → Type 0) → ((x : A) → P x) → (l : List A) → All P l
  All-each P f [] = tt
  All-each P f (x ∷ l) = (f x, All-each P f l)

  pub Opt-map : {P Q : A → Type 0} → ((x : A) → P x → Q x) → (o : Option A) → Opt P o → Opt Q o
  Opt-map f none h = tt
  Opt-map f (some x) h = f x h

  pub Opt_with : {X : Type 0} (P : A → Type 0) (o : Option A) → Opt P o → X → Opt (λ y. P y × X) o
  Opt_with P o h x = Opt-map (λ y p. (p, x)) o h

  pub All-kept : (P : A → Type 0) (q : A → Bool) (l : List A) → All P l → All (λ x. P x × (q x ≡ true)) (keep q l)
  unfolding keep
  All-kept P q [] h = tt
  All-kept P q (x ∷ l) h =
      All-put (λ x. P x × (q x ≡ true)) (q x) x (keep q l) (λ e. (h.0, e)) (All-kept P q l h.1)

  -- two facts of each element; a fact of each element that a map has made, and back
  pub All-both : (P Q : A → Type 0) (l : List A) → All P l → All Q l → All (λ x. P x × Q x) l
  All-both P Q [] h k = tt
  All-both P Q (x ∷ l) h k = ((h.0, k.0), All-both P Q l h.1 k.1)

  module _ {B : Type 0} where
    pub All-to : (P : B → Type 0) (f : A → B) (l : List A) → All (λ x. P (f x)) l → All P (map f l)
    All-to P f [] h = tt
    All-to P f (x ∷ l) h = (h.0, All-to P f l h.1)

    pub All_of : (P : B → Type 0) (f : A → B) (l : List A) → All P (map f l) → All (λ x. P (f x)) l
    All_of P f [] h = tt
    All_of P f (x ∷ l) h = (h.0, All_of P f l h.1)

    pub map_cong : (f g : A → B) (l : List A) → All (λ x. f x ≡ g x) l → map f l ≡ map g l
    map_cong f g [] h = refl
    map_cong f g (x ∷ l) h = rw (h.0, map_cong f g l h.1)
