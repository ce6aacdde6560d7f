-- Characters that stand for others, through both passes: 17 edges for each character still; texts of 606 bytes at most where
-- nothing overflows; and what overflows, when edges are put behind others.
use Rattle.std.specs.Prelude.{Bool, ◌⊎◌, leb}
use Rattle.std.proofs.Math.Bool.{true, false}
use Rattle.std.proofs.Math.Path.{◌≡◌, refl, ap}
use Rattle.std.proofs.Common.{◌∙◌, inl, inr}
use mathlib.Core.List.{List, [], ◌∷◌, ◌++◌}
use Rattle.std.proofs.Math.Option.{Option, none, some}
use Prim.Native.Nat.{ℕ, zero, suc, ◌+◌, ◌-◌, ◌*◌, ◌≤◌, ◌<◌}
use native.Mathlib.Omega.{arith}
use Rattle.std.proofs.Math.Dec.{ltb}
use Rattle.std.proofs.Math.ListN.{length, replicate}
use borrow.Author.Tests.{eq-eqb, ne_eqb, ltb-false}
use Rattle.base.specs.Pick.{pick}
use Rattle.base.specs.Bits.{bit}
use Rattle.base.specs.Lists.{has, maybe, or_else, first_of}
use Rattle.base.specs.ListLaws.{or_none}
use Rattle.base.specs.Alls.{All, All-map, Opt}
use Rattle.definition.specs.Limits.{most_source, most_edges, most_bytes}
use Rattle.definition.specs.Notes.{note_orig, note_decomp}
use Rattle.definition.specs.Texts.{Text, at}
use Rattle.definition.specs.Tables.{Decomposition, Tables}
use Rattle.definition.specs.Edges.{Edge, State, covered, add}
use Rattle.definition.specs.Building.{single, each, build, fall, lattice_by, rule_lattice}
use Rattle.definition.specs.Decomposing.{stands_for, decomp_text, decomp_edge, start, lattice}
use Rattle.definition.specs.Refusals.{Refusal, refuse, when, refused_room, refused_edge_text}
use Rattle.definition.specs.Capacity.{bytes, misfit, placed_at, inner_edges, before_edge, overflow}
use Rattle.definition.specs.Growth.{Added, Grown, added_not, added_twice, added-map, add-added, add-grown, grown_twice, build-grown, fall-grown, all_bytes}
use Rattle.definition.specs.Covers.{add_covers, covered-added, each_covers}
use Rattle.definition.specs.Cores.{uncored}
use Rattle.definition.specs.Bounds.{Bounded, Formed, Sound, Ruled, sound_formed}
use Rattle.definition.proofs.Bounds.{build-ruled, lattice_by-all}
use Rattle.definition.specs.Decomposed.{Own, Tall, stood, tally}

module _ (D : Tables) (ds : List Decomposition) (t : Text) where
  pub decomp_own : (p : ℕ) → Opt (Own D ds t p) (decomp_edge D ds t p)
  unfolding decomp_edge single
  decomp_own p = go (stands_for ds (at t p))
    where
      go : (o : Option Text) → Opt (Own D ds t p) (maybe o none (λ w. some (single p note_decomp (decomp_text D t p w))))
      go none = unfold maybe in tt
      go (some w) = unfold maybe single in record { from = refl; to = refl; note = refl; core = refl }

  -- A start's edges, and all
  pub start-grown : (p : ℕ) (st : State) → Grown (most_source + bit (stood D ds t p)) st.0 (start D ds t p st).0
  unfolding start
  start-grown p st = grown_twice most_source (bit (stood D ds t p)) (build-grown D t p st) (one (decomp_edge D ds t p))
    where
      one : (o : Option Edge) → Grown (bit (has o)) (build D t p st).0 (add (build D t p st).0 o)
      one none = unfold add in record { added = added_not (build D t p st).0; few = omega arith }
      one (some x) = add-grown (build D t p st).0 (some x)

  start-added : (p : ℕ) (st : State) → Added (λ x. Unit {0}) st.0 (start D ds t p st).0
  start-added p st = (start-grown p st).added

  start_covers : (p : ℕ) (st : State) → stood D ds t p ≡ true → covered (start D ds t p st).0 p ≡ true
  unfolding start
  start_covers p st e = go (decomp_edge D ds t p) (decomp_own p) e
    where
      go : (o : Option Edge) → Opt (Own D ds t p) o → has o ≡ true → covered (add (build D t p st).0 o) p ≡ true
      go none q e = absurd (let w : ◌≡◌ {A = ℕ} 0 1 = cc in omega arith)
      go (some x) q e = add_covers (build D t p st).0 p (some x) (q.from, q.to)

  starts_few : (k p : ℕ) (st : State) → length (each (start D ds t) k p st).0 ≤ length st.0 + most_source * k + tally D ds t k p
  unfolding each tally
  starts_few zero p st = omega arith
  starts_few (suc k) p st =
      let a = (start-grown p st).few in
      let b = starts_few k (p + 1) (start D ds t p st) in
      omega (arith, a, b)

  -- a fallback comes only where there is none
  falls_few : (k p : ℕ) (st : State) → ((q : ℕ) → p ≤ q → q < p + k → stood D ds t q ≡ true → covered st.0 q ≡ true)
      → length (each (fall D t) k p st).0 + tally D ds t k p ≤ length st.0 + k
  unfolding each tally
  falls_few zero p st c = omega arith
  falls_few (suc k) p st c =
      let a = one (stood D ds t p) refl in
      let b = falls_few k (p + 1) (fall D t p st) (λ q l m e. covered-added q (fall-grown D t p st).added (c q (omega arith) (omega arith) e)) in
      omega (arith, a, b)
    where
      one : (b : Bool) → stood D ds t p ≡ b → length (fall D t p st).0 + bit b ≤ length st.0 + 1
      one true e = unfold fall pick in (rw (c p (omega arith) (omega arith) e) (omega arith))
      one false e = let f = (fall-grown D t p st).few in omega (arith, f)

  -- At most 17 edges for each character
  pub lattice_few : length (lattice D ds t).0 ≤ most_edges * length t
  unfolding lattice lattice_by
  lattice_few =
      let st : State = ([], replicate (length t) 0) in
      let a = starts_few (length t) 0 st in
      let b = falls_few (length t) 0 (each (start D ds t) (length t) 0 st)
      (λ q l m e. each_covers (start D ds t) start-added (λ p. stood D ds t p ≡ true) start_covers (length t) 0 st q l m e) in
      omega (arith, a, b)

  decomp_tall : (p : ℕ) → p < length t → Opt (Tall D ds t) (decomp_edge D ds t p)
  decomp_tall p l = go (decomp_edge D ds t p) (decomp_own p)
    where
      go : (o : Option Edge) → Opt (Own D ds t p) o → Opt (Tall D ds t) o
      go none q = tt
      go (some x) q = let a = q.from in let b = q.to in let c = q.note in (
        record { forward = omega arith; inside = omega arith; known = inr q.note; core = uncored x (omega arith) q.core },
        λ h. absurd (omega arith),
      )

  ruled_tall : (x : Edge) → Ruled t x → Tall D ds t x
  ruled_tall x r = (sound_formed x r.sound, λ h. r.sound.short)

  module _ (ok : Bounded D) where
    start_tall : (p : ℕ) (st : State) → p < length t → Added (Tall D ds t) st.0 (start D ds t p st).0
    unfolding start
    start_tall p st l =
        added_twice (added-map ruled_tall (build-ruled D ok t p st l)) (add-added (build D t p st).0 (decomp_edge D ds t p) (decomp_tall p l))

    lattice_tall : All (Tall D ds t) (lattice D ds t).0
    unfolding lattice
    lattice_tall = lattice_by-all D ok t (Tall D ds t) (start D ds t) start_tall ruled_tall

    pub lattice_formed : All (Formed (length t)) (lattice D ds t).0
    lattice_formed = All-map (λ x h. h.0) (lattice D ds t).0 lattice_tall

  -- What fits is short
  module _ (k r : ℕ) (x : Edge) where
    edge-short : before_edge D ds t k r x ≡ none → x.note ≡ note_decomp → bytes x ≤ most_bytes
    unfolding before_edge when pick
    edge-short e n = go (ltb most_bytes (bytes x)) refl (or_none
        (placed_at x.from (misfit k r (inner_edges D ds t x.from))) (when (ltb most_bytes (bytes x)) refused_edge_text x.from)
        (rw (eq-eqb x.note note_decomp n) at e)).1
      where
        go : (b : Bool) → ltb most_bytes (bytes x) ≡ b → pick b (some (refuse refused_edge_text x.from)) none ≡ none → bytes x ≤ most_bytes
        go true q e = absurd (let w : ◌≡◌ {A = ℕ} 0 1 = cc in omega arith)
        go false q e = ltb-false most_bytes (bytes x) q

  -- a scan finds nothing just where it finds nothing of the first edge, nor of the others
  pub overflow-parts : (k r : ℕ) (x : Edge) (es : List Edge) → overflow D ds t k r (x ∷ es) ≡ none
      → (before_edge D ds t k r x ≡ none) × (misfit k r (x ∷ []) ≡ none) × (overflow D ds t (k - 1) (r - bytes x) es ≡ none)
  unfolding overflow first_of
  overflow-parts k r x es e =
      let rest : Option Refusal = or_else (overflow D ds t (k - 1) (r - bytes x) es) none in
      let a = or_none (before_edge D ds t k r x) (or_else (misfit k r (x ∷ [])) rest) e in
      let b = or_none (misfit k r (x ∷ [])) rest a.1 in
      let c = or_none (overflow D ds t (k - 1) (r - bytes x) es) none b.1 in
      (a.0, b.0, c.0)

  pub parts-overflow : (k r : ℕ) (x : Edge) (es : List Edge) → before_edge D ds t k r x ≡ none → misfit k r (x ∷ []) ≡ none
      → overflow D ds t (k - 1) (r - bytes x) es ≡ none → overflow D ds t k r (x ∷ es) ≡ none
  unfolding overflow first_of
  parts-overflow k r x es a b c = rw (a, b, c)

  overflow-short : (k r : ℕ) (es : List Edge) → overflow D ds t k r es ≡ none → All (λ x. x.note ≡ note_decomp → bytes x ≤ most_bytes) es
  unfolding overflow first_of
  overflow-short k r [] e = tt
  overflow-short k r (x ∷ es) e =
      let a = overflow-parts k r x es e in (edge-short k r x a.0, overflow-short (k - 1) (r - bytes x) es a.2)

  pub lattice_sound : Bounded D → (k r : ℕ) → overflow D ds t k r (lattice D ds t).0 ≡ none → All (Sound (length t)) (lattice D ds t).0
  lattice_sound ok k r e = go (lattice D ds t).0 (lattice_tall ok) (overflow-short k r (lattice D ds t).0 e)
    where
      either : (x : Edge) → Tall D ds t x → (x.note ≡ note_decomp → bytes x ≤ most_bytes) → (x.note ≤ note_orig) ⊎ (x.note ≡ note_decomp) → bytes x ≤ most_bytes
      either x h f (inl n) = h.1 n
      either x h f (inr n) = f n

      go : (es : List Edge) → All (Tall D ds t) es → All (λ x. x.note ≡ note_decomp → bytes x ≤ most_bytes) es → All (Sound (length t)) es
      go [] h f = tt
      go (x ∷ es) h f = (
        record {
          forward = h.0.0.forward;
          inside = h.0.0.inside;
          short = either x h.0 f.0 h.0.0.known;
          known = h.0.0.known;
          core = h.0.0.core;
        },
        go es h.1 f.1,
      )

  -- What overflows, overflows with more behind it; behind what fits the scan goes on; and of what rules and fallbacks give it asks
  -- nothing besides slots and room
  pub overflow-grown : (k r : ℕ) (es more : List Edge) (x : Refusal) → overflow D ds t k r es ≡ some x → overflow D ds t k r (es ++ more) ≡ some x
  unfolding overflow first_of
  overflow-grown k r [] more x e = absurd (let w : ◌≡◌ {A = ℕ} 0 1 = cc in omega arith)
  overflow-grown k r (y ∷ es) more x e =
      go (before_edge D ds t k r y) (misfit k r (y ∷ [])) (overflow D ds t (k - 1) (r - bytes y) es) (overflow D ds t (k - 1) (r - bytes y) (es ++ more))
      (overflow-grown (k - 1) (r - bytes y) es more x) e
    where
      go : (a b c d : Option Refusal) → (c ≡ some x → d ≡ some x) → or_else a (or_else b (or_else c none)) ≡ some x → or_else a (or_else b (or_else d none)) ≡ some x
      go (some z) b c d f e = e
      go none (some z) c d f e = e
      go none none (some z) d f e = ap (λ (o : Option Refusal). or_else o none) (f e)
      go none none none d f e = absurd (let w : ◌≡◌ {A = ℕ} 0 1 = cc in omega arith)

  pub overflow-after : (k r : ℕ) (es more : List Edge) → overflow D ds t k r es ≡ none
      → overflow D ds t k r (es ++ more) ≡ overflow D ds t (k - length es) (r - all_bytes es) more
  unfolding overflow first_of all_bytes
  overflow-after k r [] more e = let p : k - 0 ≡ k = omega arith in let q : r - 0 ≡ r = omega arith in rw (p, q)
  overflow-after k r (y ∷ es) more e =
      let a = overflow-parts k r y es e in
      let p : k - suc (length es) ≡ k - 1 - length es = omega arith in
      let q : r - (bytes y + all_bytes es) ≡ r - bytes y - all_bytes es = omega arith in
      rw (a.0, a.1, p, q) (last (overflow D ds t (k - 1) (r - bytes y) (es ++ more)) (overflow-after (k - 1) (r - bytes y) es more a.2))
    where
      last : (o : Option Refusal) {u : Option Refusal} → o ≡ u → or_else o none ≡ u
      last none e = e
      last (some z) e = e

  misfit_cons : (k r : ℕ) (x : Edge) (es : List Edge) → misfit k r (x ∷ es) ≡ or_else (misfit k r (x ∷ [])) (misfit (k - 1) (r - bytes x) es)
  unfolding misfit
  misfit_cons zero r x es = refl
  misfit_cons (suc k) r x es = let p : suc k - 1 ≡ k = omega arith in rw p (go (leb (bytes x) r))
    where
      go : (b : Bool) → elim b as (λ _. Option Refusal) [ true ↦ misfit k (r - bytes x) es | false ↦ some (refuse refused_room x.from) ]
          ≡ or_else (elim b as (λ _. Option Refusal) [ true ↦ none | false ↦ some (refuse refused_room x.from) ]) (misfit k (r - bytes x) es)
      go true = refl
      go false = refl

  pub overflow-ruled : (k r : ℕ) (es : List Edge) → All (λ x. x.note ≤ note_orig) es → overflow D ds t k r es ≡ misfit k r es
  unfolding overflow first_of before_edge pick
  overflow-ruled k r [] h = unfold misfit in refl
  overflow-ruled k r (x ∷ es) h =
      let n = h.0 in
      rw (ne_eqb x.note note_decomp (λ e. omega arith), overflow-ruled (k - 1) (r - bytes x) es h.1, misfit_cons k r x es)
      (go (misfit k r (x ∷ [])) (misfit (k - 1) (r - bytes x) es))
    where
      go : (a b : Option Refusal) → or_else a (or_else b none) ≡ or_else a b
      go (some z) b = refl
      go none (some z) = refl
      go none none = refl

  -- Where no character of the text stands for others, all is as rules and fallbacks give it
  module _ (off : (p : ℕ) → p < length t → stands_for ds (at t p) ≡ none) where
    start_off : (p : ℕ) (st : State) → p < length t → start D ds t p st ≡ build D t p st
    unfolding start decomp_edge maybe add
    start_off p st l = rw (off p l)

    starts_off : (k p : ℕ) (st : State) → p + k ≤ length t → each (start D ds t) k p st ≡ each (build D t) k p st
    unfolding each
    starts_off zero p st l = refl
    starts_off (suc k) p st l = starts_off k (p + 1) (start D ds t p st) (omega arith) ∙ ap (each (build D t) k (p + 1)) (start_off p st (omega arith))

    pub lattice_off : lattice D ds t ≡ rule_lattice D t
    unfolding lattice rule_lattice lattice_by
    lattice_off = ap (each (fall D t) (length t) 0) (starts_off (length t) 0 ([], replicate (length t) 0) (omega arith))
