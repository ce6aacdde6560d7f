-- Of a span's edges the first added is the one that the Rust takes: neither pass adds an edge behind one of its span that ranks
-- below it.
use Rattle.std.proofs.Math.Bool.{Bool, true, false}
use Rattle.std.specs.Prelude.{◌≡◌, length}
use Rattle.std.proofs.Common.{true≢false, sym, ◌∙◌, subst, eq-eqb}
use Rattle.std.proofs.Math.Path.{refl}
use mathlib.Core.List.{List, [], ◌∷◌, ◌++◌}
use Rattle.std.proofs.Math.Logic.{inl, inr}
use Rattle.std.proofs.Math.Option.{Option, none, some}
use Prim.Native.Nat.{ℕ, zero, suc, ◌+◌, ◌<◌}
use native.Mathlib.Omega.{arith}
use Rattle.std.proofs.Math.Dec.{eqb}
use Rattle.std.proofs.Math.ListN.{replicate}
use Rattle.base.specs.Pick.{pick_ind}
use Rattle.base.specs.Bools.{or_left, or_right}
use Rattle.base.specs.Lists.{put, keep, any, head}
use Rattle.base.specs.Alls.{All, All-map, Opt, Opt-map}
use Rattle.definition.specs.Limits.{most_source}
use Rattle.definition.specs.Texts.{Text}
use Rattle.definition.specs.Tables.{Decomposition, Tables, lexicon}
use Rattle.definition.specs.Edges.{Edge, M, State, starting, covered, view}
use Rattle.definition.specs.Rules.{is_prefix}
use Rattle.definition.specs.Building.{put_in, each, fallback_edge, span_edge, rise, build, fall, lattice_by}
use Rattle.definition.specs.Decomposing.{decomp_edge, start, lattice}
use Rattle.definition.specs.Covers.{Single, fallback_single}
use Rattle.definition.proofs.Decomposed.{decomp_own}
use Rattle.definition.specs.Far.{span_far}
use Rattle.definition.specs.Ranking.{Below, Ranked, Ready, add-ranked, add_ready, first-ranked, ranked, ranked_front, settled-later, spanning, under_decomp, under_rule}

module _ (D : Tables) (ds : List Decomposition) (t : Text) where
  -- The first pass: each start's rule edges, then its decomposition
  rise_ready : (k : ℕ) (b : Bool) (s e : ℕ) (st : State) → s < e → Ready s st.0 → Ready s (rise D t k b s e st).0
  unfolding rise put_in
  rise_ready zero b s e st l r = r
  rise_ready (suc k) false s e st l r = r
  rise_ready (suc k) true s e st l r =
      let f : List Edge → M (Option Edge) = λ es. span_edge D t (view D.classes es) s e in
      let o = (f st.0 st.1).0 in
      rise_ready k (is_prefix D.rules t s (e + 1)) s (e + 1) (put_in f st) (omega arith)
      (add_ready s s st.0 o
      (Opt-map (λ y z. (All-map (λ x q. under_rule s e x y l z q) st.0 r.settled, inl (let n = z.note in omega arith))) o
      ((span_far D t (view D.classes st.0) s e).gives st.1))
      (λ x q. q) r)

  build_ready : (p : ℕ) (st : State) → Ready p st.0 → Ready p (build D t p st).0
  unfolding build
  build_ready p st r = rise_ready most_source (is_prefix D.rules t p (p + 1)) p (p + 1) st (omega arith) r

  start_ready : (p : ℕ) (st : State) → Ready p st.0 → Ready (p + 1) (start D ds t p st).0
  unfolding start
  start_ready p st r =
      let b = build_ready p st r in
      let es = (build D t p st).0 in
      add_ready p (p + 1) es (decomp_edge D ds t p)
      (Opt-map (λ y z. (
        All-map (λ x q. under_decomp p x y z.note q) es b.settled,
        inr (z.note, (let e = z.to in omega arith)),
      )) (decomp_edge D ds t p) (decomp_own D ds t p))
      (settled-later p) b

  starts_ready : (k p : ℕ) (st : State) → Ready p st.0 → Ready (p + k) (each (start D ds t) k p st).0
  unfolding each
  starts_ready zero p st r = let e : p + 0 ≡ p = omega arith in rw e r
  starts_ready (suc k) p st r =
      let e : p + suc k ≡ p + 1 + k = omega arith in
      rw e (starts_ready k (p + 1) (start D ds t p st) (start_ready p st r))

  -- The second: a fallback only where its span has no edge
  uncovered : (es : List Edge) (p : ℕ) (y : Edge) → y.from ≡ p → y.to ≡ p + 1 → covered es p ≡ false → All (λ x. Below x y) es
  unfolding covered starting keep any
  uncovered [] p y a b e = tt
  uncovered (x ∷ es) p y a b e = go (eqb x.from p) refl e (uncovered es p y a b)
    where
      test : Edge → Bool
      test z = eqb z.to (p + 1)

      here : Edge → Bool
      here z = eqb z.from p

      go : (c : Bool) → eqb x.from p ≡ c → any test (put c x (keep here es)) ≡ false → (any test (keep here es) ≡ false → All (λ x. Below x y) es)
          → All (λ x. Below x y) (x ∷ es)
      go true q e f = (
        record { below = λ u v. absurd (true≢false (sym (eq-eqb x.to (p + 1) (v ∙ b)) ∙ or_left (test x) _ e)) },
        f (or_right (test x) _ e),
      )
      go false q e f = (record { below = λ u v. absurd (true≢false (sym (eq-eqb x.from p (u ∙ a)) ∙ q)) }, f e)

  fall-ranked : (p : ℕ) (st : State) → Ranked st.0 → Ranked (fall D t p st).0
  unfolding fall put_in
  fall-ranked p st h =
      let f : List Edge → M (Option Edge) = λ es. fallback_edge (lexicon D) t (view D.classes es) p in
      pick_ind (λ S. Ranked S.0) (covered st.0 p) st (put_in f st) (λ e. h)
      (λ e. add-ranked st.0 (f st.0 st.1).0
      (one (f st.0 st.1).0 e ((fallback_single (lexicon D) t (view D.classes st.0) p).gives st.1)) h)
    where
      one : (o : Option Edge) → covered st.0 p ≡ false → Single p o → Opt (λ y. All (λ x. Below x y) st.0) o
      one none e s = tt
      one (some y) e s = uncovered st.0 p y s.0 s.1 e

  falls_ranked : (k p : ℕ) (st : State) → Ranked st.0 → Ranked (each (fall D t) k p st).0
  unfolding each
  falls_ranked zero p st h = h
  falls_ranked (suc k) p st h = falls_ranked k (p + 1) (fall D t p st) (fall-ranked p st h)

  -- All edges, whatever the tables are
  pub lattice-ranked : Ranked (lattice D ds t).0
  unfolding lattice lattice_by
  lattice-ranked =
      let st : State = ([], replicate (length t) 0) in
      falls_ranked (length t) 0 (each (start D ds t) (length t) 0 st)
      (starts_ready (length t) 0 st (record { ranks = tt; settled = tt })).ranks

  -- Of every span the first added edge is the one that the Rust takes
  pub span_ranked : (p q : ℕ) → head (spanning (lattice D ds t).0 p q) ≡ ranked (spanning (lattice D ds t).0 p q)
  span_ranked p q = first-ranked (lattice D ds t).0 lattice-ranked p q

  -- and so it is at any time while they are added
  pub span_ranked-so_far : (es more : List Edge) → (lattice D ds t).0 ≡ es ++ more → (p q : ℕ) → head (spanning es p q) ≡ ranked (spanning es p q)
  span_ranked-so_far es more e p q = first-ranked es (ranked_front es more (subst Ranked e lattice-ranked)) p q
