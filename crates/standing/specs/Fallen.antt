-- The second pass: fallbacks come behind the edges of the first, one for a character at most, starts rising. The entry
-- of each start names its own.
use Rattle.std.specs.Prelude.{ℕ, zero, suc, ◌+◌, ◌<◌, ◌≤◌, Bool, true, false, List, [], ◌∷◌, ◌++◌, ◌≡◌, refl, eqb, take, drop}
use Rattle.std.proofs.Common.{sym, ap, ◌∙◌, eq-eqb, ne_eqb, eqb-true}
use Rattle.std.proofs.Math.Path.{subst}
use native.Mathlib.Omega.{arith}
use Rattle.std.proofs.Math.Decide.{ℕ_discrete}
use Rattle.std.proofs.Math.ListN.{length, length-set}
use Rattle.base.specs.Lists.{put, keep, any}
use Rattle.base.specs.ListLaws.{any_implies}
use Rattle.base.specs.Bools.{and_left}
use Rattle.base.specs.Alls.{All, All-map, All-append}
use Rattle.definition.specs.Edges.{Edge, starting, covered, alike}
use Rattle.edge.specs.Adding.{there}
use Rattle.standing.specs.Starts.{begun, fall_of, fell, fell-begun, fell-here, fell-other}
use Rattle.standing.specs.Begun.{Parted, Begun}

-- Two lists of edges with the same spans
abbrev pub Same : List Edge → List Edge → Type 0
Same [] [] = Unit {0}
Same [] (y ∷ k) = ⊥
Same (x ∷ l) [] = ⊥
Same (x ∷ l) (y ∷ k) = (x.from ≡ y.from) × (x.to ≡ y.to) × Same l k

pub same_length : (l k : List Edge) → Same l k → length l ≡ length k
same_length [] [] h = refl
same_length [] (y ∷ k) h = absurd h
same_length (x ∷ l) [] h = absurd h
same_length (x ∷ l) (y ∷ k) h = ap suc (same_length l k h.2)

pub same-take : (n : ℕ) (l k : List Edge) → Same l k → Same (take n l) (take n k)
same-take zero l k h = tt
same-take (suc n) [] [] h = tt
same-take (suc n) [] (y ∷ k) h = absurd h
same-take (suc n) (x ∷ l) [] h = absurd h
same-take (suc n) (x ∷ l) (y ∷ k) h = (h.0, h.1, same-take n l k h.2)

pub same_drop : (n : ℕ) (l k : List Edge) → Same l k → Same (drop n l) (drop n k)
same_drop zero l k h = h
same_drop (suc n) [] [] h = tt
same_drop (suc n) [] (y ∷ k) h = absurd h
same_drop (suc n) (x ∷ l) [] h = absurd h
same_drop (suc n) (x ∷ l) (y ∷ k) h = same_drop n l k h.2

-- what is said of spans holds of both
pub same-all : (P : ℕ → ℕ → Type 0) (l k : List Edge) → Same l k → All (λ x. P x.from x.to) l → All (λ x. P x.from x.to) k
same-all P [] [] h a = tt
same-all P [] (y ∷ k) h a = absurd h
same-all P (x ∷ l) [] h a = absurd h
same-all P (x ∷ l) (y ∷ k) h a =
    (subst (P y.from) h.1 (subst (λ (f : ℕ). P f x.to) h.0 a.0), same-all P l k h.2 a.1)

pub same-parted : (l k : List Edge) (f b : ℕ) → Same l k → Parted l f b → Parted k f b
same-parted l k f b h p = record {
  within = omega (arith, p.within, same_length l k h);
  low = same-all (λ x y. x < f) (take b l) (take b k) (same-take b l k h) p.low;
  high = same-all (λ x y. f ≤ x + 2) (drop b l) (drop b k) (same_drop b l k h) p.high;
}

-- Of some edges only one starts at `q`, which has the number before `k`, counted from 0; where `k` is 0 none does
abbrev pub Only : List Edge → ℕ → ℕ → Type 0
Only [] q zero = Unit {0}
Only [] q (suc k) = ⊥
Only (x ∷ l) q zero = (x.from ≡ q → ⊥) × Only l q zero
Only (x ∷ l) q (suc zero) = (x.from ≡ q) × Only l q zero
Only (x ∷ l) q (suc (suc k)) = (x.from ≡ q → ⊥) × Only l q (suc k)

pub same_only : (l k : List Edge) (q n : ℕ) → Same l k → Only l q n → Only k q n
same_only [] [] q n h o = o
same_only [] (y ∷ k) q n h o = absurd h
same_only (x ∷ l) [] q n h o = absurd h
same_only (x ∷ l) (y ∷ k) q zero h o = (λ e. o.0 (h.0 ∙ e), same_only l k q zero h.2 o.1)
same_only (x ∷ l) (y ∷ k) q (suc zero) h o = (sym h.0 ∙ o.0, same_only l k q zero h.2 o.1)
same_only (x ∷ l) (y ∷ k) q (suc (suc n)) h o = (λ e. o.0 (h.0 ∙ e), same_only l k q (suc n) h.2 o.1)

-- none does; one more edge that doesn't, and that does
pub only_none : (l : List Edge) (q : ℕ) → All (λ x. x.from < q) l → Only l q 0
only_none [] q h = tt
only_none (x ∷ l) q h = (λ e. omega (arith, h.0), only_none l q h.1)

only_more : (l : List Edge) (x : Edge) (q k : ℕ) → (x.from ≡ q → ⊥) → Only l q k → Only (l ++ x ∷ []) q k
only_more [] x q zero h o = (h, tt)
only_more [] x q (suc k) h o = absurd o
only_more (y ∷ l) x q zero h o = (o.0, only_more l x q zero h o.1)
only_more (y ∷ l) x q (suc zero) h o = (o.0, only_more l x q zero h o.1)
only_more (y ∷ l) x q (suc (suc k)) h o = (o.0, only_more l x q (suc k) h o.1)

only_new : (l : List Edge) (x : Edge) (q : ℕ) → x.from ≡ q → Only l q 0 → Only (l ++ x ∷ []) q (suc (length l))
only_new [] x q h o = (h, tt)
only_new (y ∷ l) x q h o = (o.0, only_new l x q h o.1)

-- the one with a number, where there is one
unfoldable pub numbered : List Edge → ℕ → List Edge
numbered l zero = []
numbered l (suc k) = take 1 (drop k l)

pub only_here : (l : List Edge) (q k : ℕ) → Only l q k → starting l q ≡ numbered l k
unfolding starting keep numbered
only_here [] q zero o = refl
only_here [] q (suc k) o = absurd o
only_here (x ∷ l) q zero o = ap (λ (b : Bool). put b x (starting l q)) (ne_eqb x.from q o.0) ∙ only_here l q zero o.1
only_here (x ∷ l) q (suc zero) o =
    ap (λ (b : Bool). put b x (starting l q)) (eq-eqb x.from q o.0) ∙ ap (λ (r : List Edge). x ∷ r) (only_here l q zero o.1)
only_here (x ∷ l) q (suc (suc k)) o = ap (λ (b : Bool). put b x (starting l q)) (ne_eqb x.from q o.0) ∙ only_here l q (suc k) o.1

pub only_within : (l : List Edge) (q k : ℕ) → Only l q k → k ≤ length l
only_within [] q zero o = omega arith
only_within [] q (suc k) o = absurd o
only_within (x ∷ l) q zero o = omega arith
only_within (x ∷ l) q (suc zero) o = omega arith
only_within (x ∷ l) q (suc (suc k)) o = let h = only_within l q (suc k) o.1 in omega arith

-- The second pass stands at `p` of `n`: `P` are the first pass's edges, `F` the fallbacks so far
pub record Fallen (P F : List Edge) (p n : ℕ) (starts : List ℕ) : Type 0 where
  pub size : length starts ≡ n + 1
  pub parts : (f : ℕ) → f ≤ n → Parted P f (begun starts f)
  pub whole : begun starts n ≡ length P
  pub low : All (λ x. x.from < p) F
  pub over : All (λ x. x.to ≡ x.from + 1) F
  pub named : (q : ℕ) → q < n → Only F q (fall_of starts q)

pub fallen-first : {P : List Edge} {n : ℕ} {starts : List ℕ} → Begun P n starts → begun starts n ≡ length P → length starts ≡ n + 1
    → Fallen P [] 0 n starts
fallen-first b e h = record {
  size = h;
  parts = b.parts;
  whole = e;
  low = tt;
  over = tt;
  named = λ q l. subst (Only [] q) (sym (b.unfallen q (omega arith))) tt;
}

module _ {P F : List Edge} {p n : ℕ} {starts : List ℕ} (h : Fallen P F p n starts) where
  -- `p` is covered, and gets none
  pub fallen-kept : Fallen P F (p + 1) n starts
  fallen-kept = record {
    size = h.size;
    parts = h.parts;
    whole = h.whole;
    low = All-map {P = λ y. y.from < p} {Q = λ y. y.from < p + 1} (λ y l. omega arith) F h.low;
    over = h.over;
    named = h.named;
  }

  -- it gets one
  pub fallen-more : (x : Edge) → x.from ≡ p → x.to ≡ p + 1 → p < n → Fallen P (F ++ x ∷ []) (p + 1) n (fell p (length F) starts)
  unfolding fell
  fallen-more x e t l = record {
    size = length-set starts p _ ∙ h.size;
    parts = λ f k. subst (Parted P f) (sym (fell-begun p (length F) starts inside f)) (h.parts f k);
    whole = fell-begun p (length F) starts inside n ∙ h.whole;
    low = All-append (λ y. y.from < p + 1) F (x ∷ []) fallen-kept.low (omega arith, tt);
    over = All-append (λ y. y.to ≡ y.from + 1) F (x ∷ []) h.over (omega arith, tt);
    named = λ q k. names q (ℕ_discrete q p) k;
  }
    where
      inside : p < length starts
      inside = omega (arith, h.size)

      names : (q : ℕ) → Dec (q ≡ p) → q < n → Only (F ++ x ∷ []) q (fall_of (fell p (length F) starts) q)
      names q (yes z) k =
          let m : fall_of (fell p (length F) starts) q ≡ suc (length F) =
          ap (fall_of (fell p (length F) starts)) z ∙ fell-here p (length F) starts inside ∙ (omega arith) in
          let u : Only F q 0 = only_none F q (subst (λ (i : ℕ). All (λ y. y.from < i) F) (sym z) h.low) in
          subst (Only (F ++ x ∷ []) q) (sym m) (only_new F x q (e ∙ sym z) u)
      names q (no z) k = subst (Only (F ++ x ∷ []) q) (sym (fell-other p (length F) starts inside q z))
          (only_more F x q (fall_of starts q) (λ i. z (sym i ∙ e)) (h.named q k))

-- other edges with the same spans
pub same-fallen : {P F : List Edge} {p n : ℕ} {starts : List ℕ} (P' F' : List Edge) → Same P P' → Same F F'
    → Fallen P F p n starts → Fallen P' F' p n starts
same-fallen {P} {F} {p} {n} {starts} P' F' s t h = record {
  size = h.size;
  parts = λ f l. same-parted P P' f (begun starts f) s (h.parts f l);
  whole = h.whole ∙ same_length P P' s;
  low = same-all (λ x y. x < p) F F' t h.low;
  over = same-all (λ x y. y ≡ x + 1) F F' t h.over;
  named = λ q l. same_only F F' q (fall_of starts q) t (h.named q l);
}

-- A fallback is given only where no edge goes over that one character, so that none is equal to it
pub fallback_fresh : (es : List Edge) (p : ℕ) (x : Edge) → covered es p ≡ false → x.from ≡ p → x.to ≡ p + 1 → there es x ≡ false
unfolding there covered alike
fallback_fresh es p x c e t = go (any (alike x) (starting es x.from)) refl
  where
    go : (b : Bool) → any (alike x) (starting es x.from) ≡ b → b ≡ false
    go false q = refl
    go true q = sym (any_implies (alike x) (λ y. eqb y.to (p + 1)) is (starting es p) (ap (λ (i : ℕ). any (alike x) (starting es i)) (sym e) ∙ q)) ∙ c
      where
        is : (y : Edge) → alike x y ≡ true → eqb y.to (p + 1) ≡ true
        is y a = eq-eqb y.to (p + 1) (sym (eqb-true x.to y.to (and_left _ _ (and_left _ _ a))) ∙ t)
