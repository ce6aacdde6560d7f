-- The walk back behind U+0E2D: where it ends at a space it stays in the stretch, and goes along the whole text's edges
-- as along the stretch's. So what is seen of both is alike.
use Rattle.std.proofs.Math.Bool.{Bool}
use Rattle.std.specs.Prelude.{true, false, ◌≡◌, List, [], ◌∷◌, ◌⊎◌, ltb, length}
use Rattle.std.proofs.Math.Path.{refl}
use Rattle.std.proofs.Common.{inl, inr, arith}
use Rattle.std.proofs.Math.Option.{Option, none, some, map}
use Prim.Native.Nat.{ℕ, zero, suc, ◌+◌, ◌-◌, ◌≤◌, ◌<◌}
use Rattle.std.proofs.Math.Dec.{eqb}
use borrow.Author.Tests.{eqb-true, eqb-false, ltb-true, le-ltb}
use Rattle.base.specs.Pick.{pick}
use Rattle.base.specs.Bools.{leb_alike}
use Rattle.base.specs.Lists.{keep}
use Rattle.base.specs.Alls.{All-map, Opt, All-best, All-kept}
use Rattle.definition.specs.Texts.{Text, the_space}
use Rattle.definition.specs.Tables.{Decomposition, Tables}
use Rattle.definition.specs.Classes.{alpha}
use Rattle.definition.specs.Edges.{Edge, ending, left_best, walk, view}
use Rattle.definition.specs.Expansion.{stretch_start, walk_start}
use Rattle.definition.specs.Blank.{blank_alpha}
use Rattle.stretches.specs.Demand.{First, First_if, shift}
use Rattle.stretches.specs.Given.{FairTables, Stretch}
use Rattle.stretches.specs.Texts.{stretch_start-inside}
use Rattle.stretches.specs.Boundaries.{See}
use Rattle.stretches.specs.Building.{Inside}
use Rattle.stretches.specs.Edges.{Same, left_best-inside, letter-inside, closed-inside}

module _ {a n : ℕ} {ES es : List Edge} (h : Same a n ES es) where
  -- the longest edge of the stretch that ends at `p` does
  left_best-is : (p : ℕ) → Opt (λ x. Inside 0 n x × (x.to ≡ p)) (left_best es p)
  unfolding left_best ending
  left_best-is p =
      let q : Edge → Bool = λ x. eqb x.to p in
      All-best (λ x. Inside 0 n x × (x.to ≡ p)) _ (keep q es)
      (All-map (λ x c. (c.0, eqb-true x.to p c.1)) (keep q es) (All-kept (Inside 0 n) q es h.full))

  -- Back to a place of the stretch the walk goes alike. Each step goes back by one position or more, so as many steps
  -- as there are positions are enough, and more change nothing
  walk_inside : (K k P p s : ℕ) → P ≡ a + p → p ≤ n → p ≤ K → p ≤ k → walk ES (a + s) K P ≡ walk es s k p
  unfolding walk
  walk_inside zero zero P p s e l m o = refl
  walk_inside zero (suc k) P p s e l m o = rw (le-ltb s p (omega arith), walk)
  walk_inside (suc K) zero P p s e l m o = rw (le-ltb (a + s) P (omega arith), walk)
  walk_inside (suc K) (suc k) P p s e l m o =
      rw (leb_alike (suc (a + s)) P (suc s) p (λ q. omega arith) (λ q. omega arith), walk)
      (go (ltb s p) refl (λ Q q i j d. walk_inside K k Q q s i j (omega arith) (omega arith)))
    where
      Rest : Type 0
      Rest = (Q q : ℕ) → Q ≡ a + q → q ≤ n → q < p → walk ES (a + s) K Q ≡ walk es s k q

      text : (w : Text) (x : Edge) → Rest → x.from < p
          → ◌≡◌ {A = Text} (elim w [ [] ↦ walk ES (a + s) K (a + x.from) | c ∷ w ↦ c ∷ w ])
          (elim w [ [] ↦ walk es s k x.from | c ∷ w ↦ c ∷ w ])
      text [] x f d = f (a + x.from) x.from refl (omega arith) d
      text (c ∷ w) x f d = refl

      back : (o : Option Edge) → Opt (λ x. Inside 0 n x × (x.to ≡ p)) o → Rest → 0 < p
          → ◌≡◌ {A = Text} (elim (map (shift a) o) [
            | none ↦ walk ES (a + s) K (P - 1)
            | some x ↦ elim x.text [ [] ↦ walk ES (a + s) K x.from | c ∷ w ↦ c ∷ w ]
          ])
          (elim o [
            | none ↦ walk es s k (p - 1)
            | some x ↦ elim x.text [ [] ↦ walk es s k x.from | c ∷ w ↦ c ∷ w ]
          ])
      back none c f d = f (P - 1) (p - 1) (omega arith) (omega arith) (omega arith)
      back (some x) (c, i) f d = unfold shift in text x.text x f (omega arith)

      go : (b : Bool) → ltb s p ≡ b → Rest
          → ◌≡◌ {A = Text} (elim b [
            | false ↦ []
            | true ↦ elim (left_best ES P) [
              | none ↦ walk ES (a + s) K (P - 1)
              | some x ↦ elim x.text [ [] ↦ walk ES (a + s) K x.from | c ∷ w ↦ c ∷ w ]
            ]
          ])
          (elim b [
            | false ↦ []
            | true ↦ elim (left_best es p) [
              | none ↦ walk es s k (p - 1)
              | some x ↦ elim x.text [ [] ↦ walk es s k x.from | c ∷ w ↦ c ∷ w ]
            ]
          ])
      go false q f = refl
      go true q f =
          let d = ltb-true s p q in
          rw (left_best-inside h P p e (omega arith) l) (back (left_best es p) (left_best-is p) f (omega arith))

-- What is seen of the edges of both is alike: where the choice of O ang is 1 the walk ends at a space, and where it is 0
-- U+0E2D stands first
pub see_edges : {D : Tables} {ds : List Decomposition} → FairTables D ds → {T st : Text} {a : ℕ} → Stretch T st a
    → First_if D.choices st → {ES es : List Edge} → Same a (length st) ES es
    → See D.choices T st a (view D.classes ES) (view D.classes es)
unfolding view walk_start pick
see_edges {D} {ds} fair {T} {st} {a} h first {ES} {es} same = record {
  letter = letter-inside same D.classes blank;
  closed = closed-inside same D.classes blank;
  behind = go (eqb D.choices.o_ang 1) refl;
}
  where
    blank : alpha D.classes the_space ≡ false
    blank = blank_alpha D.classes fair.lexicon.blank

    go : (b : Bool) → eqb D.choices.o_ang 1 ≡ b
        → ((p : ℕ) → p ≤ length st → walk ES (walk_start D.choices T (a + p)) (a + p) (a + p)
        ≡ walk es (walk_start D.choices st p) p p) ⊎ First st
    go true e = inl (λ p l. rw (e, stretch_start-inside h (a + p) p refl l)
        (walk_inside same (a + p) p (a + p) p (stretch_start st p) refl l (omega arith) (omega arith)))
    go false e = inr (first (let q = eqb-false D.choices.o_ang 1 e in let r = fair.o_ang in omega arith))
