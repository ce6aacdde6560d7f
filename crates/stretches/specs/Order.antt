-- Mode 3's order inside the stretch is that of the stretch, moved.
-- (Proved in proofs/Order.)
use Rattle.std.proofs.Math.Bool.{Bool}
use Rattle.std.specs.Prelude.{false, ◌≡◌}
use Rattle.std.proofs.Math.Path.{refl, sym, ap}
use Rattle.std.proofs.Common.{◌∙◌}
use mathlib.Core.List.{List, [], ◌++◌, map, map-append}
use Prim.Native.Nat.{ℕ, zero, suc, ◌+◌, ◌≤◌, ◌<◌}
use native.Mathlib.Omega.{arith}
use Rattle.std.proofs.Math.Dec.{eqb}
use borrow.Author.Tests.{ne_eqb}
use Rattle.base.specs.Lists.{keep}
use Rattle.base.specs.ListLaws.{keep_append, keep-none, keep-map, keep_swap}
use Rattle.base.specs.Alls.{All, All-keep, All-each}
use Rattle.base.specs.Bools.{eqb_alike}
use Rattle.definition.specs.Edges.{Edge, starting}
use Rattle.definition.specs.Paths.{longer, sorted}
use Rattle.stretches.specs.Demand.{shift}
use Rattle.stretches.specs.Building.{Inside}

-- Keeping before ordering, or after it
longer-keep : (q : Edge → Bool) (es : List Edge) (p k : ℕ) → keep q (longer es p k) ≡ longer (keep q es) p k
unfolding longer keep starting
longer-keep q es p zero = refl
longer-keep q es p (suc k) =
    let f : Edge → Bool = λ x. eqb x.from p in
    let t : Edge → Bool = λ x. eqb x.to (p + suc k) in
    keep_append q (keep t (keep f es)) (longer es p k)
    ∙ ap (λ l. l ++ keep q (longer es p k)) (keep_swap q t (keep f es) ∙ ap (keep t) (keep_swap q f es))
    ∙ ap (λ l. keep t (keep f (keep q es)) ++ l) (longer-keep q es p k)

pub sorted-keep : (q : Edge → Bool) (es : List Edge) (k p : ℕ) → keep q (sorted es k p) ≡ sorted (keep q es) k p
unfolding sorted keep
sorted-keep q es zero p = refl
sorted-keep q es (suc k) p = keep_append q (longer es p (suc k)) (sorted es k (p + 1))
    ∙ ap (λ l. l ++ keep q (sorted es k (p + 1))) (longer-keep q es p (suc k))
    ∙ ap (λ l. longer (keep q es) p (suc k) ++ l) (sorted-keep q es k (p + 1))

-- where no edge starts
longer-none : (es : List Edge) (p k : ℕ) → starting es p ≡ [] → longer es p k ≡ []
unfolding longer keep
longer-none es p zero e = refl
longer-none es p (suc k) e = ap (λ l. keep (λ x. eqb x.to (p + suc k)) l ++ longer es p k) e ∙ longer-none es p k e

abbrev moved : ℕ → List Edge → List Edge
moved a es = map (shift a) es

module _ (a n : ℕ) (es : List Edge) (full : All (Inside 0 n) es) where
  -- The moved edges, from a position of the stretch
  starting-moved : (P p : ℕ) → P ≡ a + p → starting (moved a es) P ≡ map (shift a) (starting es p)
  unfolding starting shift
  starting-moved P p e = keep-map (λ x. eqb x.from P) (λ x. eqb x.from p) (shift a) es
      (All-each _ (λ x. eqb_alike (a + x.from) P x.from p (λ z. omega arith) (λ z. omega arith)) es)

  longer-moved : (P p k : ℕ) → P ≡ a + p → longer (moved a es) P k ≡ map (shift a) (longer es p k)
  unfolding longer shift
  longer-moved P p zero e = refl
  longer-moved P p (suc k) e =
      let t : Edge → Bool = λ x. eqb x.to (p + suc k) in
      ap (λ l. keep (λ x. eqb x.to (P + suc k)) l ++ longer (moved a es) P k) (starting-moved P p e)
      ∙ ap (λ l. l ++ longer (moved a es) P k) (keep-map (λ x. eqb x.to (P + suc k)) t (shift a) (starting es p)
      (All-each _ (λ x. eqb_alike (a + x.to) (P + suc k) x.to (p + suc k) (λ z. omega arith) (λ z. omega arith))
      (starting es p)))
      ∙ ap (λ l. map (shift a) (keep t (starting es p)) ++ l) (longer-moved P p k e)
      ∙ sym (map-append (shift a) (keep t (starting es p)) (longer es p k))

  -- wider than the stretch there is nothing, nor past its end, nor before its start
  longer-more : (p k j : ℕ) → n ≤ p + k → longer es p (j + k) ≡ longer es p k
  unfolding longer starting
  longer-more p k zero l = let e : 0 + k ≡ k = omega arith in rw e
  longer-more p k (suc j) l =
      let e : suc j + k ≡ suc (j + k) = omega arith in
      let f : Edge → Bool = λ x. eqb x.from p in
      rw e (ap (λ z. z ++ longer es p (j + k)) (keep-none (Inside 0 n) (λ x. eqb x.to (p + suc (j + k))) (keep f es)
      (All-keep (Inside 0 n) f es full) (λ x h. ne_eqb x.to (p + suc (j + k)) (λ z. omega arith)))
      ∙ longer-more p k j l)

  starting-past : (P p : ℕ) → P ≡ a + p → n ≤ p → starting (moved a es) P ≡ []
  unfolding starting
  starting-past P p e l = starting-moved P p e
      ∙ ap (map (shift a)) (keep-none (Inside 0 n) (λ x. eqb x.from p) es full
      (λ x h. ne_eqb x.from p (λ z. omega arith)))

  starting_early : (P : ℕ) → P < a → starting (moved a es) P ≡ []
  unfolding starting shift
  starting_early P l = keep-map (λ x. eqb x.from P) (λ x. false) (shift a) es
      (All-each _ (λ x. ne_eqb (a + x.from) P (λ z. omega arith)) es)
      ∙ ap (map (shift a)) (keep-none (Inside 0 n) (λ x. false) es full (λ x h. refl))

  -- Position by position: past the stretch, inside it, before it
  sorted-past : (k P p : ℕ) → P ≡ a + p → n ≤ p → sorted (moved a es) k P ≡ []
  unfolding sorted
  sorted-past zero P p e l = refl
  sorted-past (suc k) P p e l =
      ap (λ z. z ++ sorted (moved a es) k (P + 1)) (longer-none (moved a es) P (suc k) (starting-past P p e l))
      ∙ sorted-past k (P + 1) (p + 1) (omega arith) (omega arith)

  sorted-inside : (k j K P p : ℕ) → P ≡ a + p → p + k ≡ n → K ≡ j + k
      → sorted (moved a es) K P ≡ map (shift a) (sorted es k p)
  unfolding sorted
  sorted-inside zero j K P p e f g = sorted-past K P p e (omega arith)
  sorted-inside (suc k) j zero P p e f g = absurd (omega arith)
  sorted-inside (suc k) j (suc K) P p e f g =
      let z : suc K ≡ j + suc k = omega arith in
      ap (λ l. l ++ sorted (moved a es) K (P + 1))
      (longer-moved P p (suc K) e ∙ ap (λ m. map (shift a) (longer es p m)) z
      ∙ ap (map (shift a)) (longer-more p (suc k) j (omega arith)))
      ∙ ap (λ l. map (shift a) (longer es p (suc k)) ++ l)
      (sorted-inside k j K (P + 1) (p + 1) (omega arith) (omega arith) (omega arith))
      ∙ sym (map-append (shift a) (longer es p (suc k)) (sorted es k (p + 1)))

  pub sorted_toward : (d j P : ℕ) → P + d ≡ a → sorted (moved a es) (d + (j + n)) P ≡ map (shift a) (sorted es n 0)
  unfolding sorted
  sorted_toward zero j P e =
      let z : 0 + (j + n) ≡ j + n = omega arith in
      rw z (sorted-inside n j (j + n) P 0 (omega arith) (omega arith) refl)
  sorted_toward (suc d) j P e =
      let z : suc d + (j + n) ≡ suc (d + (j + n)) = omega arith in
      rw z (ap (λ l. l ++ sorted (moved a es) (d + (j + n)) (P + 1))
      (longer-none (moved a es) P (suc (d + (j + n))) (starting_early P (omega arith)))
      ∙ sorted_toward d j (P + 1) (omega arith))
