-- Each space has its own single edge, and no other reaches over it.
use Rattle.std.specs.Prelude.{Bool, true, false, ◌≡◌, ◌⊎◌, take, drop}
use Rattle.std.proofs.Math.Bool.{true≢false}
use Rattle.std.proofs.Math.Path.{refl, ap}
use Rattle.std.proofs.Common.{sym, ◌∙◌, ⊎_elim, zero-add, length-take, length-drop}
use mathlib.Core.List.{List, [], ◌∷◌, ◌++◌}
use Rattle.std.proofs.Math.Logic.{inl, inr}
use Rattle.std.proofs.Math.Option.{Option, some}
use Prim.Native.Nat.{ℕ, zero, suc, ◌+◌, ◌-◌, ◌≤◌, ◌<◌}
use native.Mathlib.Omega.{arith}
use Rattle.std.proofs.Math.Dec.{eqb}
use Rattle.std.proofs.Math.ListN.{length, replicate}
use borrow.Author.Tests.{eqb-true, ne_eqb}
use Rattle.base.specs.Pick.{pick}
use Rattle.base.specs.Lists.{keep, any}
use Rattle.base.specs.ListLaws.{keep_append, any_none, keep-nothing}
use Rattle.base.specs.Alls.{All-kept}
use Rattle.definition.specs.Texts.{Text, the_space, at}
use Rattle.definition.specs.Tables.{Decomposition, Tables, lexicon}
use Rattle.definition.specs.Edges.{Edge, starting, covered, new_in, alike, add, view, M, ret, State}
use Rattle.definition.specs.Building.{single, put_in, each, fallback_edge, fall, lattice_by}
use Rattle.definition.specs.Decomposing.{start, lattice}
use Rattle.stretches.specs.Demand.{over, space_edge}
use Rattle.stretches.specs.Given.{FairTables}
use Rattle.stretches.specs.Texts.{left-part, right_part}
use Rattle.stretches.specs.States.{each_split}
use Rattle.stretches.specs.Elsewhere.{Stays, start_space, fallback_space}
use Rattle.stretches.proofs.Elsewhere.{start_stays, fall_stays}
use Rattle.stretches.specs.Spaces.{near-over, over-own}

module _ {D : Tables} {ds : List Decomposition} (fair : FairTables D ds) (T : Text) (q : ℕ) (l : q < length T)
    (sp : at T q ≡ the_space) where
  -- No step but the one at the space adds an edge over it, in either pass
  module _ (F : ℕ → State → State) (stays : Stays T F) where
    step-over : (P : ℕ) (S : State) → P < length T → (P < q) ⊎ (q < P)
        → keep (over q) (F P S).0 ≡ keep (over q) S.0
    step-over P S m (inl d) =
        let k = length-take q T in
        near-over q (inl (omega arith))
        (stays (take q T) 0 (left-part T q (omega arith) sp) P P S (omega arith) (omega arith))
    step-over P S m (inr d) =
        let k = length-drop (q + 1) T in
        near-over q (inr (omega arith))
        (stays (drop (q + 1) T) (q + 1) (right_part T q l sp) P (P - (q + 1)) S (omega arith) (omega arith))

    each_over : (k P : ℕ) (S : State) → P + k ≤ length T → (P + k ≤ q) ⊎ (q < P)
        → keep (over q) (each F k P S).0 ≡ keep (over q) S.0
    unfolding each
    each_over zero P S m d = refl
    each_over (suc k) P S m d =
        each_over k (P + 1) (F P S) (omega arith) (⊎_elim (λ z. inl (omega arith)) (λ z. inr (omega arith)) d)
        ∙ step-over P S (omega arith) (⊎_elim (λ z. inl (omega arith)) (λ z. inr (omega arith)) d)

    -- a pass is one up to the space, its step, and one behind it
    each_at : (S : State) → each F (length T) 0 S ≡ each F (length T - (q + 1)) (q + 1) (F q (each F q 0 S))
    unfolding each
    each_at S =
        let k = length T - (q + 1) in
        let e : length T ≡ q + suc k = omega arith in
        ap (λ j. each F j 0 S) e ∙ each_split F q (suc k) 0 S
        ∙ ap (λ p. each F k (p + 1) (F p (each F q 0 S))) (zero-add q)

    over-before : (S : State) → keep (over q) (each F q 0 S).0 ≡ keep (over q) S.0
    over-before S = each_over q 0 S (omega arith) (inl (omega arith))

    over-all : (S : State) → keep (over q) (each F (length T) 0 S).0 ≡ keep (over q) (F q (each F q 0 S)).0
    over-all S = ap (λ R. keep (over q) R.0) (each_at S)
        ∙ each_over (length T - (q + 1)) (q + 1) (F q (each F q 0 S)) (omega arith) (inr (omega arith))

  -- The step at the space: where no edge reaches over it, the fallback adds its own
  own : (S : State) → keep (over q) S.0 ≡ []
      → keep (over q) (fall D T q S).0 ≡ space_edge D.classes q ∷ []
  unfolding fall put_in add new_in ret pick keep
  own S e = ap (λ b. keep (over q) (pick b S (put_in F S)).0) uncovered ∙ added
    where
      F : List Edge → M (Option Edge)
      F es = fallback_edge (lexicon D) T (view D.classes es) q

      x : Edge
      x = space_edge D.classes q

      here : (x.from ≡ q) × (x.to ≡ q + 1)
      here = unfold space_edge single in (refl, refl)

      one : F S.0 ≡ ret (some x)
      one = fallback_space fair T q sp (view D.classes S.0)

      -- what starts here does not end at the next position
      none_here : (f : Edge → Bool) → ((x : Edge) → (x.to ≡ q + 1 → ⊥) → f x ≡ false)
          → any f (starting S.0 q) ≡ false
      none_here f k = unfold starting in
          any_none (λ x. (over q x ≡ false) × (eqb x.from q ≡ true)) f (keep (λ x. eqb x.from q) S.0)
          (All-kept (λ x. over q x ≡ false) (λ x. eqb x.from q) S.0 (keep-nothing (over q) S.0 e))
          (λ x z. k x (λ y. true≢false (sym (over-own q x (eqb-true x.from q z.1) y) ∙ z.0)))

      uncovered : covered S.0 q ≡ false
      uncovered = unfold covered in none_here (λ x. eqb x.to (q + 1)) (λ x z. ne_eqb x.to (q + 1) z)

      unlike : any (alike x) (starting S.0 x.from) ≡ false
      unlike = unfold alike in rw here.0 (none_here (alike x)
          (λ y z. rw (here.1, ne_eqb (q + 1) y.to (λ w. z (sym w)))))

      added : keep (over q) (add S.0 (F S.0 S.1).0) ≡ x ∷ []
      added = ap (λ f. keep (over q) (add S.0 (f S.1).0)) one
          ∙ ap (λ b. keep (over q) (pick b S.0 (S.0 ++ x ∷ []))) unlike
          ∙ keep_append (over q) S.0 (x ∷ [])
          ∙ rw (e, over-own q x here.0 here.1)

  -- Both passes: after the first no edge reaches over the space, and the second comes to its step so
  pub own-edge : keep (over q) (lattice D ds T).0 ≡ space_edge D.classes q ∷ []
  unfolding lattice lattice_by keep
  own-edge = over-all (fall D T) (fall_stays fair T) built
      ∙ own (each (fall D T) q 0 built) (over-before (fall D T) (fall_stays fair T) built ∙ none-built)
    where
      unbuilt : State
      unbuilt = ([], replicate (length T) 0)

      built : State
      built = each (start D ds T) (length T) 0 unbuilt

      none-built : keep (over q) built.0 ≡ []
      none-built = over-all (start D ds T) (start_stays fair T) unbuilt
          ∙ ap (λ R. keep (over q) R.0) (start_space fair T q sp (each (start D ds T) q 0 unbuilt))
          ∙ over-before (start D ds T) (start_stays fair T) unbuilt
