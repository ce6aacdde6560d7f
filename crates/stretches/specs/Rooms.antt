-- Slots and room: what holds the line's edges holds each word's. A character that stands for others asks slots and room
-- for its string's edges too, for a while: in a word it finds as many free as in the line, or more.
use Rattle.std.specs.Prelude.{Bool, ◌≡◌, eqb, leb, ltb, length}
use Rattle.std.proofs.Math.Bool.{true, false}
use Rattle.std.proofs.Math.Path.{refl}
use Rattle.std.proofs.Common.{subst, arith, le-leb, leb-true}
use mathlib.Core.List.{List, [], ◌∷◌, map}
use Rattle.std.proofs.Math.Option.{Option, none, some}
use Prim.Native.Nat.{ℕ, zero, suc, ◌+◌, ◌-◌, ◌≤◌}
use Rattle.base.specs.Pick.{pick}
use Rattle.base.specs.Lists.{put, keep, or_else}
use Rattle.base.specs.ListLaws.{or_none}
use Rattle.base.specs.Alls.{All}
use Rattle.definition.specs.Limits.{most_bytes}
use Rattle.definition.specs.Notes.{note_decomp}
use Rattle.definition.specs.Refusals.{Refusal, when, refused_edge_text}
use Rattle.definition.specs.Texts.{Text, at}
use Rattle.definition.specs.Tables.{Decomposition, Tables}
use Rattle.definition.specs.Edges.{Edge}
use Rattle.definition.specs.Capacity.{bytes, misfit, placed_at, inner_edges, before_edge, overflow}
use Rattle.definition.specs.Growth.{all_bytes}
use Rattle.definition.proofs.Decomposed.{overflow-parts, parts-overflow}
use Rattle.stretches.specs.Demand.{shift}

-- What is something where a test fails: where it is nothing, the test has held
tested : {A : Type 0} (b : Bool) (o : Option A) (x : A) → ◌≡◌ {A = Option A} (elim b [ true ↦ o | false ↦ some x ]) none
    → (b ≡ true) × (o ≡ none)
tested true o x e = (refl, e)
tested false o x e = absurd (let w : ◌≡◌ {A = ℕ} 0 1 = cc in omega arith)

-- Edges are held just where there is a slot for each, and room for the bytes of all
held_few : (k r : ℕ) (l : List Edge) → misfit k r l ≡ none → (length l ≤ k) × (all_bytes l ≤ r)
unfolding misfit all_bytes
held_few k r [] e = (omega arith, omega arith)
held_few zero r (x ∷ l) e = absurd (let w : ◌≡◌ {A = ℕ} 0 1 = cc in omega arith)
held_few (suc k) r (x ∷ l) e =
    let t = tested (leb (bytes x) r) (misfit k (r - bytes x) l) _ e in
    let h = held_few k (r - bytes x) l t.1 in
    let z = leb-true (bytes x) r t.0 in
    (omega (arith, h.0), omega (arith, h.1))

few_held : (k r : ℕ) (l : List Edge) → length l ≤ k → all_bytes l ≤ r → misfit k r l ≡ none
unfolding misfit all_bytes
few_held k r [] l m = refl
few_held zero r (x ∷ l) i j = absurd (omega arith)
few_held (suc k) r (x ∷ l) i j =
    rw (le-leb (bytes x) r (omega arith), misfit) (few_held k (r - bytes x) l (omega arith) (omega arith))

-- what is held is held where there is more
more-held : (K R k r : ℕ) (l : List Edge) → misfit K R l ≡ none → K ≤ k → R ≤ r → misfit k r l ≡ none
more-held K R k r l e i j = let f = held_few K R l e in few_held k r l (omega (arith, f.0)) (omega (arith, f.1))

-- A refusal that is none is none elsewhere
placed-none : (p : ℕ) (o : Option Refusal) → placed_at p o ≡ none → o ≡ none
unfolding placed_at
placed-none p none e = refl
placed-none p (some x) e = absurd (let w : ◌≡◌ {A = ℕ} 0 1 = cc in omega arith)

when_elsewhere : (b : Bool) (n p q : ℕ) → when b n p ≡ none → when b n q ≡ none
unfolding when pick
when_elsewhere true n p q e = absurd (let w : ◌≡◌ {A = ℕ} 0 1 = cc in omega arith)
when_elsewhere false n p q e = refl

module _ (D : Tables) (ds : List Decomposition) where
  -- Before it is added, the edge `x` of the text `t` finds what it asks where `X` of `T` does, if there is as much or more:
  -- it has the same annotation and takes as many bytes, and the same character stands where it starts
  before_more : (T t : Text) (X x : Edge) → X.note ≡ x.note → bytes X ≡ bytes x → at T X.from ≡ at t x.from
      → (K R k r : ℕ) → before_edge D ds T K R X ≡ none → K ≤ k → R ≤ r → before_edge D ds t k r x ≡ none
  unfolding before_edge
  before_more T t X x n b c K R k r e i j = go (eqb x.note note_decomp) (rw (b, n) at e)
    where
      long : ℕ → Option Refusal
      long p = when (ltb most_bytes (bytes x)) refused_edge_text p

      inner : Text → ℕ → ℕ → ℕ → Option Refusal
      inner s p k r = placed_at p (misfit k r (inner_edges D ds s p))

      same-inner : inner_edges D ds T X.from ≡ inner_edges D ds t x.from
      same-inner = unfold inner_edges in rw c

      go : (own : Bool)
          → pick own (or_else (inner T X.from K R) (long X.from)) none ≡ none
          → pick own (or_else (inner t x.from k r) (long x.from)) none ≡ none
      go false e = unfold pick in refl
      go true e =
          let z = or_none (inner T X.from K R) (long X.from) (unfold pick in e) in
          let f = placed-none X.from (misfit K R (inner_edges D ds T X.from)) z.0 in
          let g = more-held K R k r (inner_edges D ds t x.from) (rw same-inner at f) i j in
          unfold pick placed_at in
          rw (g, when_elsewhere (ltb most_bytes (bytes x)) refused_edge_text X.from x.from z.1)

  -- Where edges are held, some of them are held in as many slots and as much room
  keep-held : (T : Text) (q : Edge → Bool) (ES : List Edge) (K R k r : ℕ) → overflow D ds T K R ES ≡ none
      → K ≤ k → R ≤ r → overflow D ds T k r (keep q ES) ≡ none
  unfolding keep
  keep-held T q [] K R k r e i j = unfold overflow in refl
  keep-held T q (X ∷ ES) K R k r e i j =
      let h = overflow-parts D ds T K R X ES e in
      go (q X) h.0 h.1 (λ k r. keep-held T q ES (K - 1) (R - bytes X) k r h.2)
    where
      go : (b : Bool)
          → before_edge D ds T K R X ≡ none → misfit K R (X ∷ []) ≡ none
          → ((k r : ℕ) → K - 1 ≤ k → R - bytes X ≤ r → overflow D ds T k r (keep q ES) ≡ none)
          → overflow D ds T k r (put b X (keep q ES)) ≡ none
      go true h m f = parts-overflow D ds T k r X (keep q ES) (before_more T T X X refl refl refl K R k r h i j)
          (more-held K R k r (X ∷ []) m i j) (f (k - 1) (r - bytes X) (omega arith) (omega arith))
      go false h m f = f k r (omega arith) (omega arith)

  -- and where they are held moved, they are held
  moved-held : (T t : Text) (a : ℕ) (es : List Edge) → All (λ x. at T (a + x.from) ≡ at t x.from) es → (k r : ℕ)
      → overflow D ds T k r (map (shift a) es) ≡ none → overflow D ds t k r es ≡ none
  unfolding shift bytes all_bytes
  moved-held T t a [] c k r e = unfold overflow in refl
  moved-held T t a (x ∷ es) c k r e =
      let h = overflow-parts D ds T k r (shift a x) (map (shift a) es) e in
      let f = held_few k r (shift a x ∷ []) h.1 in
      parts-overflow D ds t k r x es
      (before_more T t (shift a x) x refl refl c.0 k r k r h.0 (omega arith) (omega arith))
      (few_held k r (x ∷ []) f.0 f.1)
      (moved-held T t a es c.1 (k - 1) (r - bytes x) h.2)

  -- So where the edges `ES` are held, and `es` are some of them, moved, `es` are held in as many slots and as much room
  pub held-part : (T t : Text) (q : Edge → Bool) (a : ℕ) (ES es : List Edge) → keep q ES ≡ map (shift a) es
      → All (λ x. at T (a + x.from) ≡ at t x.from) es
      → (K R k r : ℕ) → overflow D ds T K R ES ≡ none → K ≤ k → R ≤ r → overflow D ds t k r es ≡ none
  held-part T t q a ES es e c K R k r h i j = moved-held T t a es c k r
      (subst (λ l. overflow D ds T k r l ≡ none) e (keep-held T q ES K R k r h i j))
