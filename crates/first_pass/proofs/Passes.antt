-- The first pass over all starts: its edges go forward within the text, and starts tell how many there were at each.
use Prim.Native.Nat.{ℕ, zero, suc, ◌+◌, ◌-◌, ◌%◌, ◌≤◌, ◌<◌}
use mathlib.Core.Bool.{Bool, true, false}
use mathlib.Core.List.{List, ◌∷◌, [], ◌++◌}
use mathlib.Core.Option.{Option, none, some}
use mathlib.Core.Path.{◌≡◌, refl, sym, ap, ◌∙◌, subst}
use native.Mathlib.Omega.{arith}
use lib.ListN.{length, set, replicate}
use lib.Seq.{get_or-set_same}
use Rattle.base.specs.Pick.{pick_all}
use Rattle.base.specs.Lists.{any}
use Rattle.base.specs.Alls.{All, All-append, Opt}
use Rattle.definition.specs.Limits.{most_source}
use Rattle.definition.specs.Texts.{Text}
use Rattle.definition.specs.Tables.{Tables}
use Rattle.definition.specs.Edges.{Edge, State, starting, alike, new_in, add, view}
use Rattle.definition.specs.Rules.{is_prefix}
use Rattle.definition.specs.Building.{put_in, span_edge, rise, build}
use Rattle.definition.specs.Bounds.{Bounded}
use Rattle.definition.specs.Bounds.{Spelt}
use Rattle.definition.proofs.Bounds.{span_spelt}
use Rattle.definition.specs.Near.{span_near}
use Rattle.definition.specs.Within.{prefix_bound}
use Rattle.edge.specs.Slots.{edges_of}
use Rattle.edge.specs.Stored.{edge_count}
use Rattle.edge.specs.Adding.{there}
use Rattle.standing.specs.Starts.{begun_limit, begun, since_in}
use Rattle.standing.specs.Begun.{Begun, begun_first, begun-next, begun-add, since_new}
use Rattle.standing.specs.Stands.{Ahead}
use Rattle.first_pass.specs.Rises.{put_span}
use Rattle.first_pass.specs.Fresh.{Fresh}

-- The edges of the first pass
module _ (D : Tables) (ok : Bounded D) (t : Text) where
  abbrev Aheads : List Edge → Type 0
  Aheads es = All (λ x. Ahead (length t) x.from x.to) es

  put_ahead : (s e : ℕ) (st : State) → s < e → e ≤ length t → Aheads st.0 → Aheads (put_span D t s e st).0
  unfolding put_in add new_in
  put_ahead s e st l k h = go (span_edge D t (view D.classes st.0) s e st.1).0 ((span_spelt D ok t (view D.classes st.0) s e l k).gives st.1)
    where
      go : (o : Option Edge) → Opt (Spelt D ok t) o → Aheads (add st.0 o)
      go none q = h
      go (some x) q = pick_all Aheads (any (alike x) (starting st.0 x.from)) {x = st.0} {y = st.0 ++ x ∷ []} h
          (All-append (λ x. Ahead (length t) x.from x.to) st.0 (x ∷ []) h ((q.0.forward, q.0.inside), tt))

  rise_ahead : (k : ℕ) (b : Bool) (s e : ℕ) (st : State) → s < e → s ≤ length t → (b ≡ true → e ≤ length t) → Aheads st.0 → Aheads (rise D t k b s e st).0
  unfolding rise
  rise_ahead zero b s e st l n c h = h
  rise_ahead (suc k) false s e st l n c h = h
  rise_ahead (suc k) true s e st l n c h =
      rise_ahead k (is_prefix D.rules t s (e + 1)) s (e + 1) (put_span D t s e st) (omega arith) n (prefix_bound D.rules t s (e + 1) n (omega arith))
      (put_ahead s e st l (c refl) h)

  pub build_ahead : (p : ℕ) (st : State) → p < length t → Aheads st.0 → Aheads (build D t p st).0
  unfolding build
  build_ahead p st l h = rise_ahead most_source (is_prefix D.rules t p (p + 1)) p (p + 1) st (omega arith) (omega arith)
      (prefix_bound D.rules t p (p + 1) (omega arith) (omega arith)) h

-- what one start adds has begun as before
module _ (D : Tables) (t : Text) (starts : List ℕ) where
  put-begun : (s e : ℕ) (st : State) → Begun st.0 s starts → Begun (put_span D t s e st).0 s starts
  unfolding put_in
  put-begun s e st b = begun-add b _ ((span_near D t (view D.classes st.0) s e).gives st.1)

  rise-begun : (k : ℕ) (b : Bool) (s e : ℕ) (st : State) → Begun st.0 s starts → Begun (rise D t k b s e st).0 s starts
  unfolding rise
  rise-begun zero b s e st h = h
  rise-begun (suc k) false s e st h = h
  rise-begun (suc k) true s e st h = rise-begun k (is_prefix D.rules t s (e + 1)) s (e + 1) (put_span D t s e st) (put-begun s e st h)

  pub build-begun : (s : ℕ) (st : State) → Begun st.0 s starts → Begun (build D t s st).0 s starts
  unfolding build
  build-begun s st h = rise-begun most_source (is_prefix D.rules t s (s + 1)) s (s + 1) st h

-- starts while the first pass goes on
pub begun-zeros : (k : ℕ) → 0 < k → Begun [] 0 (set (replicate k 0) 0 0)
begun-zeros k h = subst (Begun [] 0) (zeros k) (begun_first k h)
  where
    zeros : (k : ℕ) → replicate {A = ℕ} k 0 ≡ set (replicate {A = ℕ} k 0) 0 0
    zeros zero = refl
    zeros (suc k) = refl

pub fresh-begun : (slots room : List ℕ) (s count used since : ℕ) (starts : List ℕ) → Begun (edges_of room count slots) s starts → since ≡ since_in starts s
    → Fresh s slots room (record { count = count; used = used; since = since })
fresh-begun slots room s count used since starts b e =
    let l = (b.parts (s - 2) (omega arith)).within in
    record {
      most = omega (arith, l, e, edge_count slots room count);
      new = λ x h. ap (λ (m : ℕ). there (edges_of room m slots) x) e ∙ (since_new room slots count b refl x h).1;
    }

-- the search goes on at the next start, and at the end all are begun
pub begun_turn : {es : List Edge} {s : ℕ} {starts : List ℕ} (next : List ℕ) (n count : ℕ) → Begun es s starts → next ≡ starts → count ≡ length es
    → length next ≡ n + 1 → s < n → count < begun_limit → Begun es (s + 1) (set next (s + 1) count)
begun_turn {es} {s} {starts} next n count b e c l h k =
    subst (λ (m : ℕ). Begun es (s + 1) (set next (s + 1) m)) (sym c)
    (begun-next (subst (Begun es s) (sym e) b) (omega arith) (omega (arith, c, k)))

pub begun-last : (starts last : List ℕ) (n count : ℕ) → last ≡ set starts n count → n < length starts → count < begun_limit → begun last n ≡ count
begun-last starts last n count e h k =
    ap (λ (l : List ℕ). begun l n) e ∙ ap (λ (x : ℕ). x % begun_limit) (get_or-set_same starts n count 0 h) ∙ (omega arith)
