-- Of a span's edges the Rust takes the first "rom", else the first "rom decomp", else the first of the rest (`best_edge_in_span`); the
-- definition takes the first added. They are the same: no edge is added behind one of its span that ranks below it.
-- (Proved in proofs/Ranking.)
use Rattle.std.proofs.Math.Bool.{Bool, true, false}
use Rattle.std.specs.Prelude.{◌&&◌, ◌≡◌, ◌⊎◌, leb}
use Rattle.std.proofs.Common.{sym, subst, eq-eqb, ne_eqb, eqb-true}
use Rattle.std.proofs.Math.Path.{refl}
use mathlib.Core.List.{List, [], ◌∷◌, ◌++◌}
use Rattle.std.proofs.Math.Logic.{inl, inr}
use Rattle.std.proofs.Math.Option.{Option, none, some}
use Prim.Native.Nat.{ℕ, zero, suc, ◌+◌, ◌≤◌, ◌<◌}
use native.Mathlib.Omega.{arith}
use Rattle.std.proofs.Math.Dec.{eqb}
use Rattle.std.proofs.lemmas.Bool.{lt-leb}
use Rattle.base.specs.Pick.{pick, pick_all}
use Rattle.base.specs.Bools.{and_left, and_right}
use Rattle.base.specs.Lists.{put, keep, any, head, or_else}
use Rattle.base.specs.ListLaws.{keep-none}
use Rattle.base.specs.Alls.{All, All-map, All-append, All-left, All-kept, Ordered, Opt, Opt-map}
use Rattle.definition.specs.Notes.{note_single, note_Mn, note_orig, note_decomp}
use Rattle.definition.specs.Edges.{Edge, starting, alike, new_in, add}
use Rattle.definition.specs.Growth.{Added, add-added}
use Rattle.definition.specs.Far.{Far}

-- The rank of an annotation: those that begin with "rom", "rom decomp", the rest
unfoldable pub rank : ℕ → ℕ
rank n = pick (eqb n note_decomp) 1 (pick (leb note_Mn n && leb n note_orig) 2 0)

rank-rule : (n : ℕ) → n ≤ note_single → rank n ≡ 0
unfolding rank pick
rank-rule n l = rw (ne_eqb n note_decomp (λ e. omega arith), lt-leb note_Mn n (omega arith))

rank_decomp : (n : ℕ) → n ≡ note_decomp → rank n ≡ 1
unfolding rank pick
rank_decomp n e = rw (eq-eqb n note_decomp e)

rank_most : (n : ℕ) → rank n ≤ 2
unfolding rank
rank_most n = pick_all (λ k. k ≤ 2) (eqb n note_decomp) (omega arith) (pick_all (λ k. k ≤ 2) (leb note_Mn n && leb n note_orig) (omega arith) (omega arith))

-- The edges of a span, in adding order
unfoldable pub spanning : List Edge → ℕ → ℕ → List Edge
spanning es p q = keep (λ x. eqb x.from p && eqb x.to q) es

-- the first of a rank, and the one that the Rust takes
unfoldable pub first_of_rank : ℕ → List Edge → Option Edge
first_of_rank k l = head (keep (λ x. eqb (rank x.note) k) l)

unfoldable pub ranked : List Edge → Option Edge
ranked l = or_else (first_of_rank 0 l) (or_else (first_of_rank 1 l) (first_of_rank 2 l))

-- In a list whose ranks never fall the first is that one
abbrev Rising : List Edge → Type 0
Rising = Ordered (λ x y. rank x.note ≤ rank y.note)

rank-here : (k : ℕ) (x : Edge) (l : List Edge) → rank x.note ≡ k → first_of_rank k (x ∷ l) ≡ some x
unfolding first_of_rank keep head
rank-here k x l e = rw (eq-eqb (rank x.note) k e)

rank_absent : (k n : ℕ) (l : List Edge) → k < n → All (λ y. n ≤ rank y.note) l → first_of_rank k l ≡ none
unfolding first_of_rank head
rank_absent k n l j h =
    rw (keep-none (λ y. n ≤ rank y.note) (λ x. eqb (rank x.note) k) l h (λ y m. ne_eqb (rank y.note) k (λ e. omega arith)))

pub rising_first : (l : List Edge) → Rising l → head l ≡ ranked l
unfolding ranked head
rising_first [] h = unfold first_of_rank keep in refl
rising_first (x ∷ l) h = go (rank x.note) refl
  where
    from : (n : ℕ) → rank x.note ≡ n → All (λ y. n ≤ rank y.note) (x ∷ l)
    from n e = (omega arith, All-map (λ y m. omega arith) l h.0)

    go : (n : ℕ) → rank x.note ≡ n → some x ≡ or_else (first_of_rank 0 (x ∷ l)) (or_else (first_of_rank 1 (x ∷ l)) (first_of_rank 2 (x ∷ l)))
    go zero e = rw (rank-here 0 x l e)
    go (suc zero) e = rw (rank_absent 0 1 (x ∷ l) (omega arith) (from 1 e), rank-here 1 x l e)
    go (suc (suc zero)) e =
        rw (rank_absent 0 2 (x ∷ l) (omega arith) (from 2 e), rank_absent 1 2 (x ∷ l) (omega arith) (from 2 e), rank-here 2 x l e)
    go (suc (suc (suc n))) e = absurd (let m = rank_most x.note in omega arith)

-- A later edge of the same span ranks no higher
pub record Below (x y : Edge) : Type 0 where
  pub below : x.from ≡ y.from → x.to ≡ y.to → rank x.note ≤ rank y.note

abbrev pub Ranked : List Edge → Type 0
Ranked = Ordered Below

-- so the ranks of a span's edges never fall
spanning_rising : (es : List Edge) (p q : ℕ) → Ranked es → Rising (spanning es p q)
unfolding spanning keep
spanning_rising [] p q h = tt
spanning_rising (x ∷ es) p q h = go (eqb x.from p && eqb x.to q) refl (spanning_rising es p q h.1)
  where
    test : Edge → Bool
    test y = eqb y.from p && eqb y.to q

    go : (b : Bool) → test x ≡ b → Rising (keep test es) → Rising (put b x (keep test es))
    go false e k = k
    go true e k = (
      All-map (λ y z.
          let a = eqb-true x.from p (and_left _ _ e) in
          let b = eqb-true x.to q (and_right (eqb x.from p) _ e) in
          let c = eqb-true y.from p (and_left _ _ z.1) in
          let d = eqb-true y.to q (and_right (eqb y.from p) _ z.1) in
          z.0.below (omega arith) (omega arith)) (keep test es) (All-kept (Below x) test es h.0),
      k,
    )

pub first-ranked : (es : List Edge) → Ranked es → (p q : ℕ) → head (spanning es p q) ≡ ranked (spanning es p q)
first-ranked es h p q = rising_first (spanning es p q) (spanning_rising es p q h)

-- of a front, and of a list with one more
pub ranked_front : (es more : List Edge) → Ranked (es ++ more) → Ranked es
ranked_front [] more h = tt
ranked_front (x ∷ es) more h = (All-left (Below x) es more h.0, ranked_front es more h.1)

ranked-one : (es : List Edge) (y : Edge) → All (λ x. Below x y) es → Ranked es → Ranked (es ++ y ∷ [])
ranked-one [] y k h = (tt, tt)
ranked-one (x ∷ es) y k h = (All-append (Below x) es (y ∷ []) h.0 (k.0, tt), ranked-one es y k.1 h.1)

pub add-ranked : (es : List Edge) (o : Option Edge) → Opt (λ y. All (λ x. Below x y) es) o → Ranked es → Ranked (add es o)
unfolding add new_in
add-ranked es none k h = h
add-ranked es (some y) k h = pick_all Ranked (any (alike y) (starting es y.from)) {x = es} {y = es ++ y ∷ []} h (ranked-one es y k h)

-- Before the start `p` an edge is a rule's, or a decomposition that ends there or before
abbrev Settled : ℕ → Edge → Type 0
Settled p x = (x.note ≤ note_single) ⊎ ((x.note ≡ note_decomp) × (x.to ≤ p))

pub settled-later : (p : ℕ) (x : Edge) → Settled p x → Settled (p + 1) x
settled-later p x (inl n) = inl n
settled-later p x (inr d) = let l = d.1 in inr (d.0, omega arith)

-- so it ranks no lower than a rule's edge that ends behind, and than a decomposition
pub under_rule : (p e : ℕ) (x y : Edge) → p < e → Far e y → Settled p x → Below x y
under_rule p e x y l f (inl n) = record { below = λ a b. let r = rank-rule x.note n in omega arith }
under_rule p e x y l f (inr d) = record { below = λ a b. let k = d.1 in let m = f.far in absurd (omega arith) }

pub under_decomp : (p : ℕ) (x y : Edge) → y.note ≡ note_decomp → Settled p x → Below x y
under_decomp p x y n (inl m) = record { below = λ a b. let r = rank-rule x.note m in omega arith }
under_decomp p x y n (inr d) =
    record { below = λ a b. let r = rank_decomp x.note d.0 in let s = rank_decomp y.note n in omega arith }

pub record Ready (p : ℕ) (es : List Edge) : Type 0 where
  pub ranks : Ranked es
  pub settled : All (Settled p) es

pub add_ready : (p q : ℕ) (es : List Edge) (o : Option Edge) → Opt (λ y. All (λ x. Below x y) es × Settled q y) o
    → ((x : Edge) → Settled p x → Settled q x) → Ready p es → Ready q (add es o)
add_ready p q es o k f r = record {
  ranks = add-ranked es o (Opt-map (λ y z. z.0) o k) r.ranks;
  settled = added-all_of (add-added es o (Opt-map (λ y z. z.1) o k));
}
  where
    added-all_of : Added (Settled q) es (add es o) → All (Settled q) (add es o)
    added-all_of a = subst (All (Settled q)) (sym a.is) (All-append (Settled q) es a.more (All-map f es r.settled) a.all)
