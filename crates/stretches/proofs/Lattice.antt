-- The lattice of the whole text, cut to the stretch, is the lattice of the stretch, moved.
use Rattle.std.specs.Prelude.{Bool, ◌≡◌, refl, ◌⊎◌, length, take, drop}
use Rattle.std.proofs.Math.Bool.{true, false}
use Rattle.std.proofs.Common.{sym, ◌∙◌, ap, inl, inr, ⊎_elim, length-take, length-drop}
use Rattle.std.proofs.Math.Path.{subst}
use mathlib.Core.List.{List, []}
use Rattle.std.proofs.Math.Option.{Option, some}
use Prim.Native.Nat.{ℕ, zero, suc, ◌+◌, ◌-◌, ◌≤◌, ◌<◌}
use native.Mathlib.Omega.{arith}
use Rattle.std.proofs.Math.Decide.{dec_lt, ℕ_discrete}
use Rattle.std.proofs.Math.ListN.{replicate}
use Rattle.base.specs.Pick.{pick_all}
use Rattle.base.specs.Lists.{keep}
use Rattle.definition.specs.Limits.{most_source}
use Rattle.definition.specs.Texts.{Text, the_space, at}
use Rattle.definition.specs.Tables.{Decomposition, Tables, lexicon}
use Rattle.definition.specs.Edges.{Edge, covered, alike, add, view, M, ret, State}
use Rattle.definition.specs.Rules.{is_prefix}
use Rattle.definition.specs.Building.{single, put_in, fallback_edge, span_edge, rise, build, fall, lattice_by}
use Rattle.definition.specs.Decomposing.{decomp_edge, start, lattice}
use Rattle.definition.specs.Growth.{Added, added_new, added-map}
use Rattle.definition.specs.Within.{prefix_bound}
use Rattle.stretches.specs.Demand.{space_edge, First_if}
use Rattle.stretches.specs.Given.{FairTables, Stretch, Span, at_outside}
use Rattle.stretches.specs.Windows.{window, window_zero}
use Rattle.stretches.specs.Texts.{space_at_end, space_before-start, left-part, right_part}
use Rattle.stretches.specs.Boundaries.{See}
use Rattle.stretches.specs.Rules.{prefix_inside}
use Rattle.stretches.specs.Building.{Inside, fallback_inside, decomp_inside, decomp_held}
use Rattle.stretches.proofs.Building.{span_edge-inside}
use Rattle.stretches.specs.Edges.{Outside, left, right, covered-inside, Same, add-inside}
use Rattle.stretches.specs.Walks.{see_edges}
use Rattle.stretches.specs.States.{Rel, rel_pick, put_in-inside, rel_outside, pass}
use Rattle.stretches.specs.Elsewhere.{Near, Stays, start_space, fallback_space}
use Rattle.stretches.proofs.Elsewhere.{start_stays, fall_stays}

-- Steps inside the stretch
module _ {D : Tables} {ds : List Decomposition} (fair : FairTables D ds) {T st : Text} {a : ℕ}
    (h : Stretch T st a) (first : First_if D.choices st) where
  see_states : {S s : State} → Rel a (length st) S s
      → See D.choices T st a (view D.classes S.0) (view D.classes s.0)
  see_states r = see_edges fair h first r.edges

  rise-inside : (k : ℕ) (b : Bool) {P E p e : ℕ} (S s : State) → Span a (length st) P E p e → (b ≡ true → e ≤ length st)
      → Rel a (length st) S s → Rel a (length st) (rise D T k b P E S) (rise D st k b p e s)
  unfolding rise
  rise-inside zero b S s z q r = r
  rise-inside (suc k) false S s z q r = r
  rise-inside (suc k) true {P} {E} {p} {e} S s z q r =
      let y : Span a (length st) P (E + 1) p (e + 1) = omega arith in
      rw (prefix_inside fair.lexicon h y)
      (rise-inside k (is_prefix D.rules st p (e + 1)) _ _ y
      (prefix_bound D.rules st p (e + 1) y.begins y.forward)
      (put_in-inside (λ es. span_edge D T (view D.classes es) P E) (λ es. span_edge D st (view D.classes es) p e)
      S s (span_edge-inside fair h (see_states r) z (q refl)) r))

  build-inside : (P p : ℕ) (S s : State) → P ≡ a + p → p < length st → Rel a (length st) S s
      → Rel a (length st) (build D T P S) (build D st p s)
  unfolding build
  build-inside P p S s i l r =
      let z : Span a (length st) P (P + 1) p (p + 1) = omega arith in
      rw (prefix_inside fair.lexicon h z)
      (rise-inside most_source (is_prefix D.rules st p (p + 1)) S s z
      (prefix_bound D.rules st p (p + 1) z.begins z.forward) r)

  start-inside : (P p : ℕ) (S s : State) → P ≡ a + p → p < length st → Rel a (length st) S s
      → Rel a (length st) (start D ds T P S) (start D ds st p s)
  unfolding start
  start-inside P p S s i l r =
      let b = build-inside P p S s i l r in
      let o = decomp_edge D ds st p in
      record {
        edges = subst (λ O. Same a (length st) (add (build D T P S).0 O) (add (build D st p s).0 o))
            (sym (decomp_inside D ds h P p i l)) (add-inside o b.edges (decomp_held D ds h p l));
        memory = b.memory;
      }

  fall-inside : (P p : ℕ) (S s : State) → P ≡ a + p → p < length st → Rel a (length st) S s
      → Rel a (length st) (fall D T P S) (fall D st p s)
  unfolding fall
  fall-inside P p S s i l r = rw (covered-inside r.edges P p i l)
      (rel_pick (covered s.0 p) r
      (put_in-inside (λ es. fallback_edge (lexicon D) T (view D.classes es) P)
      (λ es. fallback_edge (lexicon D) st (view D.classes es) p) S s
      (fallback_inside fair.lexicon h (see_states r) P p i l) r))

-- Steps outside it
module _ {D : Tables} {ds : List Decomposition} (fair : FairTables D ds) {T st : Text} {a : ℕ}
    (h : Stretch T st a) where
  -- in another stretch, behind the space that ends this one or before the one that starts it
  near_outside : {b k : ℕ} {S R s : State} → (b + k < a) ⊎ (a + length st ≤ b) → Near b k S R
      → Rel a (length st) S s → Rel a (length st) R s
  near_outside {b} {k} d x r = rel_outside (added-map (λ y l. far d y l) x.added)
      (x.frame a (length st) (⊎_elim (λ q. inr (omega arith)) (λ q. inl (omega arith)) d)) r
    where
      far : (b + k < a) ⊎ (a + length st ≤ b) → (y : Edge) → Inside b k y → Outside a (length st) y
      far (inl q) y l = left l.goes (omega arith) (λ e. absurd (omega arith))
      far (inr q) y l = right l.goes (omega arith)

  -- at a space
  fall_space : (P : ℕ) (S s : State) → at T P ≡ the_space → (P + 1 ≤ a) ⊎ (a + length st ≤ P)
      → Rel a (length st) S s → Rel a (length st) (fall D T P S) s
  unfolding fall put_in ret
  fall_space P S s sp d r = pick_all (λ R. Rel a (length st) R s) (covered S.0 P) {x = S} {y = put_in F S} r
      (rel_outside (subst (λ f. Added (Outside a (length st)) S.0 (add S.0 (f S.1).0)) (sym one) own)
      (ap (λ f. window a (length st) (f S.1).1) one) r)
    where
      F : List Edge → M (Option Edge)
      F es = fallback_edge (lexicon D) T (view D.classes es) P

      one : F S.0 ≡ ret (some (space_edge D.classes P))
      one = fallback_space fair T P sp (view D.classes S.0)

      far : (P + 1 ≤ a) ⊎ (a + length st ≤ P) → Outside a (length st) (space_edge D.classes P)
      far (inl q) = unfold space_edge single in left (omega arith) q (λ e. refl)
      far (inr q) = unfold space_edge single in right (omega arith) q

      own : Added (Outside a (length st)) S.0 (add S.0 (some (space_edge D.classes P)))
      own = unfold add in added_new alike S.0 (space_edge D.classes P) (far d)

  -- so at every position outside
  module _ (F : ℕ → State → State)
      (space : (P : ℕ) (S s : State) → at T P ≡ the_space → (P + 1 ≤ a) ⊎ (a + length st ≤ P)
      → Rel a (length st) S s → Rel a (length st) (F P S) s)
      (stays : Stays T F) where
    outside_step : (P : ℕ) (S s : State) → (P < a) ⊎ (a + length st ≤ P) → Rel a (length st) S s
        → Rel a (length st) (F P S) s
    outside_step P S s (inl l) r = go (ℕ_discrete (P + 1) a)
      where
        before : at T (a - 1) ≡ the_space
        before = space_before-start h (omega arith)

        go : Dec (P + 1 ≡ a) → Rel a (length st) (F P S) s
        go (yes e) = let q : P ≡ a - 1 = omega arith in space P S s (ap (at T) q ∙ before) (inl (omega arith)) r
        go (no e) =
            let c = length-take (a - 1) T in
            near_outside (inl (omega arith))
            (stays (take (a - 1) T) 0 (left-part T (a - 1) (omega arith) before) P P S (omega arith) (omega arith)) r
    outside_step P S s (inr l) r = go (ℕ_discrete P (a + length st)) (dec_lt P (length T))
      where
        go : Dec (P ≡ a + length st) → Dec (P < length T) → Rel a (length st) (F P S) s
        go (yes e) q = space P S s (ap (at T) e ∙ space_at_end h) (inr l) r
        go (no e) (no q) = space P S s (at_outside T P (omega arith)) (inr l) r
        go (no e) (yes q) =
            let c = length-drop (a + length st + 1) T in
            near_outside (inr (omega arith)) (stays (drop (a + length st + 1) T) (a + length st + 1)
            (right_part T (a + length st) (omega arith) (space_at_end h))
            P (P - (a + length st + 1)) S (omega arith) (omega arith)) r

  start_outside : (P : ℕ) (S s : State) → (P < a) ⊎ (a + length st ≤ P) → Rel a (length st) S s
      → Rel a (length st) (start D ds T P S) s
  start_outside = outside_step (start D ds T)
      (λ P S s sp d r. subst (λ X. Rel a (length st) X s) (sym (start_space fair T P sp S)) r) (start_stays fair T)

  fall_outside : (P : ℕ) (S s : State) → (P < a) ⊎ (a + length st ≤ P) → Rel a (length st) S s
      → Rel a (length st) (fall D T P S) s
  fall_outside = outside_step (fall D T) fall_space (fall_stays fair T)

  -- Both passes
  pub lattice-inside : First_if D.choices st → Rel a (length st) (lattice D ds T) (lattice D ds st)
  unfolding lattice lattice_by
  lattice-inside first =
      pass (fall D T) (fall D st) (fall-inside fair h first) fall_outside (length T) h.room _ _
      (pass (start D ds T) (start D ds st) (start-inside fair h first) start_outside (length T) h.room _ _ none_yet)
    where
      none_yet : Rel a (length st) ([], replicate (length T) 0) ([], replicate (length st) 0)
      none_yet = record {
        edges = record { cut = unfold keep in refl; clear = tt; full = tt };
        memory = window_zero a (length st) (length T) h.room;
      }
