-- How many edges mode 3 lists: all edges in order are no more than the lattice has, and what holds of each of its edges
-- holds of each of them.
use Rattle.std.specs.Prelude.{Bool, true, false, ◌≡◌, refl, List, [], ◌∷◌, ◌++◌, ℕ, zero, suc, ◌+◌, ◌≤◌, ◌<◌, eqb, length}
use Rattle.std.proofs.Math.Path.{ap}
use Rattle.std.proofs.Common.{◌∙◌, arith, length-append, eq-eqb, ne_eqb}
use Rattle.std.proofs.Math.Decide.{ℕ_discrete}
use Rattle.base.specs.Lists.{put, keep}
use Rattle.base.specs.Alls.{All, All-append, All-keep}
use Rattle.definition.specs.Edges.{Edge, starting}
use Rattle.definition.specs.Paths.{longer, sorted}

-- What holds of each edge
longer-all : (P : Edge → Type 0) (es : List Edge) (p k : ℕ) → All P es → All P (longer es p k)
unfolding longer starting
longer-all P es p zero h = tt
longer-all P es p (suc k) h =
    let here : Edge → Bool = λ x. eqb x.from p in
    let wide : Edge → Bool = λ x. eqb x.to (p + suc k) in
    All-append P (keep wide (keep here es)) (longer es p k) (All-keep P wide (keep here es) (All-keep P here es h)) (longer-all P es p k h)

pub sorted_all : (P : Edge → Type 0) (es : List Edge) (k p : ℕ) → All P es → All P (sorted es k p)
unfolding sorted
sorted_all P es zero p h = tt
sorted_all P es (suc k) p h =
    All-append P (longer es p (suc k)) (sorted es k (p + 1)) (longer-all P es p (suc k) h) (sorted_all P es k (p + 1) h)

-- One edge more in the lattice is one more at most among them, as it has one start
starts-here : (x : Edge) (es : List Edge) (p : ℕ) → x.from ≡ p → starting (x ∷ es) p ≡ x ∷ starting es p
unfolding starting keep
starts-here x es p e = ap (λ b. put b x (keep (λ y. eqb y.from p) es)) (eq-eqb x.from p e)

starts_elsewhere : (x : Edge) (es : List Edge) (p : ℕ) → ¬ (x.from ≡ p) → starting (x ∷ es) p ≡ starting es p
unfolding starting keep
starts_elsewhere x es p e = ap (λ b. put b x (keep (λ y. eqb y.from p) es)) (ne_eqb x.from p e)

longer-same : (es fs : List Edge) (p k : ℕ) → starting es p ≡ starting fs p → longer es p k ≡ longer fs p k
unfolding longer
longer-same es fs p zero e = refl
longer-same es fs p (suc k) e =
    let wide : Edge → Bool = λ x. eqb x.to (p + suc k) in
    ap (λ l. keep wide l ++ longer es p k) e ∙ ap (λ l. keep wide (starting fs p) ++ l) (longer-same es fs p k e)

-- and one end: from its start it stands under one width
longer_far : (x : Edge) (es : List Edge) (p k : ℕ) → x.from ≡ p → p + k < x.to → longer (x ∷ es) p k ≡ longer es p k
unfolding longer keep
longer_far x es p zero s l = refl
longer_far x es p (suc k) s l =
    let wide : Edge → Bool = λ x. eqb x.to (p + suc k) in
    ap (λ l. keep wide l ++ longer (x ∷ es) p k) (starts-here x es p s)
    ∙ ap (λ b. put b x (keep wide (starting es p)) ++ longer (x ∷ es) p k) (ne_eqb x.to (p + suc k) (λ e. omega arith))
    ∙ ap (λ l. keep wide (starting es p) ++ l) (longer_far x es p k s (omega arith))

longer-more : (x : Edge) (es : List Edge) (p k : ℕ) → x.from ≡ p → length (longer (x ∷ es) p k) ≤ 1 + length (longer es p k)
unfolding longer keep
longer-more x es p zero s = omega arith
longer-more x es p (suc k) s = go (ℕ_discrete x.to (p + suc k)) (longer-more x es p k s)
  where
    wide : Edge → Bool
    wide y = eqb y.to (p + suc k)

    kept : List Edge
    kept = keep wide (starting es p)

    short : List Edge
    short = longer (x ∷ es) p k

    first : (b : Bool) → wide x ≡ b → keep wide (starting (x ∷ es) p) ++ short ≡ put b x kept ++ short
    first b e = unfold keep in (ap (λ l. keep wide l ++ short) (starts-here x es p s) ∙ ap (λ b. put b x kept ++ short) e)

    go : Dec (x.to ≡ p + suc k) → length short ≤ 1 + length (longer es p k)
        → length (keep wide (starting (x ∷ es) p) ++ short) ≤ 1 + length (kept ++ longer es p k)
    go (yes e) h =
        let a = ap (λ (l : List Edge). length l) (first true (eq-eqb x.to (p + suc k) e)) in
        let b = ap (λ (l : List Edge). length (kept ++ l)) (longer_far x es p k s (omega arith)) in
        omega arith
    go (no e) h =
        let a = ap (λ (l : List Edge). length l) (first false (ne_eqb x.to (p + suc k) e)) in
        omega (arith, length-append kept short, length-append kept (longer es p k))

sorted-past : (x : Edge) (es : List Edge) (k p : ℕ) → x.from < p → sorted (x ∷ es) k p ≡ sorted es k p
unfolding sorted
sorted-past x es zero p l = refl
sorted-past x es (suc k) p l =
    ap (λ a. a ++ sorted (x ∷ es) k (p + 1)) (longer-same (x ∷ es) es p (suc k) (starts_elsewhere x es p (λ e. omega arith)))
    ∙ ap (λ a. longer es p (suc k) ++ a) (sorted-past x es k (p + 1) (omega arith))

sorted_more : (x : Edge) (es : List Edge) (k p : ℕ) → length (sorted (x ∷ es) k p) ≤ 1 + length (sorted es k p)
unfolding sorted
sorted_more x es zero p = omega arith
sorted_more x es (suc k) p = go (ℕ_discrete x.from p) (sorted_more x es k (p + 1))
  where
    here : List Edge → List Edge
    here l = longer l p (suc k)

    later : List Edge → List Edge
    later l = sorted l k (p + 1)

    go : Dec (x.from ≡ p) → length (later (x ∷ es)) ≤ 1 + length (later es)
        → length (here (x ∷ es) ++ later (x ∷ es)) ≤ 1 + length (here es ++ later es)
    go (yes e) h =
        let a = longer-more x es p (suc k) e in
        let b = ap (λ (l : List Edge). length l) (sorted-past x es k (p + 1) (omega arith)) in
        omega (arith, length-append (here (x ∷ es)) (later (x ∷ es)), length-append (here es) (later es))
    go (no e) h =
        let a = ap (λ (l : List Edge). length l) (longer-same (x ∷ es) es p (suc k) (starts_elsewhere x es p e)) in
        omega (arith, length-append (here (x ∷ es)) (later (x ∷ es)), length-append (here es) (later es))

longer-none : (p k : ℕ) → longer [] p k ≡ []
unfolding longer starting keep
longer-none p zero = refl
longer-none p (suc k) = longer-none p k

sorted_none : (k p : ℕ) → sorted [] k p ≡ []
unfolding sorted
sorted_none zero p = refl
sorted_none (suc k) p = ap (λ l. l ++ sorted [] k (p + 1)) (longer-none p (suc k)) ∙ sorted_none k (p + 1)

pub sorted_few : (es : List Edge) (k p : ℕ) → length (sorted es k p) ≤ length es
sorted_few [] k p = let e = ap (λ (l : List Edge). length l) (sorted_none k p) in omega arith
sorted_few (x ∷ es) k p = let a = sorted_more x es k p in let b = sorted_few es k p in omega arith
