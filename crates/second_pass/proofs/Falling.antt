-- The second pass, a start at a time: each adds its fallback at most, and starts name the fallbacks.
use Prim.Native.Nat.{ℕ, ◌+◌, ◌*◌, ◌≤◌, ◌<◌}
use mathlib.Core.List.{List, [], ◌∷◌, ◌++◌, append-nil, append_assoc}
use mathlib.Core.Option.{Option, none, some}
use mathlib.Core.Path.{◌≡◌, refl, sym, ap, ◌∙◌, subst}
use native.Mathlib.Omega.{arith}
use lib.ListN.{length, length-append}
use Rattle.base.specs.Pick.{pick_all}
use Rattle.base.specs.Lists.{maybe}
use Rattle.base.specs.Alls.{All, All-append, Opt}
use Rattle.definition.specs.Limits.{slot_bytes}
use Rattle.definition.specs.Texts.{Text}
use Rattle.definition.specs.Tables.{Lexicon, Tables, lexicon}
use Rattle.definition.specs.Edges.{Edge, View, M, State, covered, alike, add, view}
use Rattle.definition.specs.Rules.{simple}
use Rattle.definition.specs.Building.{single, put_in, fallback_by, fallback_edge, fall}
use Rattle.definition.specs.Posts.{Post, post_ret, post_then, post_pick}
use Rattle.definition.specs.Growth.{Added, added_not, added_new}
use Rattle.edge.specs.declared.Filled.{Filled}
use Rattle.edge.specs.Slots.{edges_of}
use Rattle.edge.specs.Stored.{edge_count}
use Rattle.words.specs.Given.{World}
use Rattle.standing.specs.Starts.{begun, fell}
use Rattle.standing.specs.Begun.{Begun}
use Rattle.standing.specs.Fallen.{Fallen, fallen-first, fallen-kept, fallen-more}
use Rattle.standing.specs.Stands.{Ahead, Stands, fallen-stands}
use Rattle.passes.specs.Reached.{Over}
use Rattle.passes.proofs.Passing.{kept}

-- An edge over the one character at `p`
pub record Alone (p : ℕ) (x : Edge) : Type 0 where
  pub from : x.from ≡ p
  pub to : x.to ≡ p + 1

single-alone : (p n : ℕ) (w : Text) → Alone p (single p n w)
unfolding single
single-alone p n w = record { from = refl; to = refl }

by-alone : (t : Text) (p : ℕ) (o : Option Text) → Alone p (fallback_by t p o)
unfolding fallback_by maybe
by-alone t p none = single-alone p _ _
by-alone t p (some w) = single-alone p _ _

-- a fallback is one
fallback_alone : (L : Lexicon) (t : Text) (v : View) (p : ℕ) → Post (Option Edge) (Opt (Alone p)) (fallback_edge L t v p)
unfolding fallback_edge
fallback_alone L t v p =
    post_pick _ (post_ret _ (single-alone p _ _))
    (post_pick _ (post_ret _ (single-alone p _ _))
    (post_pick _ (post_ret _ (single-alone p _ _))
    (post_pick _ (post_ret _ (single-alone p _ _))
    (post_then (simple L t v p (p + 1)) _ (λ o. post_ret _ (by-alone t p o))))))

add-alone : (p : ℕ) (es : List Edge) (o : Option Edge) → Opt (Alone p) o → Added (Alone p) es (add es o)
unfolding add
add-alone p es none h = added_not es
add-alone p es (some x) h = added_new alike es x h

-- so a start adds nothing else
fall-alone : (D : Tables) (t : Text) (p : ℕ) (st : State) → Added (Alone p) st.0 (fall D t p st).0
unfolding fall put_in
fall-alone D t p st =
    let f : List Edge → M (Option Edge) = λ es. fallback_edge (lexicon D) t (view D.classes es) p in
    pick_all (λ (S : State). Added (Alone p) st.0 S.0) (covered st.0 p) {x = st} {y = put_in f st} (added_not st.0)
    (add-alone p st.0 (f st.0 st.1).0 ((fallback_alone (lexicon D) t (view D.classes st.0) p).gives st.1))

-- with its edge, or none, behind the others
pub fall-added : (D : Tables) (t : Text) (n p : ℕ) (S R P S' R' : List ℕ) (c k : ℕ) → edges_of R' k S' ≡ (fall D t p (kept n S R P c)).0
    → Added (Alone p) (edges_of R c S) (edges_of R' k S')
fall-added D t n p S R P S' R' c k e = let g = fall-alone D t p (kept n S R P c) in record { more = g.more; is = e ∙ g.is; all = g.all }

-- What starts tell in the middle of the second pass: `P` are the first pass's edges, `fallbacks` stand behind them
pub record Behind (P : List Edge) (n : ℕ) (S R : List ℕ) (c p : ℕ) (starts : List ℕ) : Type 0 where
  pub fallbacks : List Edge
  pub is : edges_of R c S ≡ P ++ fallbacks
  pub fallen : Fallen P fallbacks p n starts
  pub ahead : All (λ x. Ahead n x.from x.to) (P ++ fallbacks)
  pub few : length fallbacks ≤ p

pub behind-first : (n : ℕ) (S R : List ℕ) (c : ℕ) (starts : List ℕ) → Begun (edges_of R c S) n starts → begun starts n ≡ c → length starts ≡ n + 1
    → All (λ x. Ahead n x.from x.to) (edges_of R c S) → Behind (edges_of R c S) n S R c 0 starts
behind-first n S R c starts b e l a = record {
  fallbacks = [];
  is = sym (append-nil (edges_of R c S));
  fallen = fallen-first b (e ∙ sym (edge_count S R c)) l;
  ahead = subst (All (λ x. Ahead n x.from x.to)) (sym (append-nil (edges_of R c S))) a;
  few = omega arith;
}

module _ {P : List Edge} {n : ℕ} {S R : List ℕ} {c p : ℕ} {starts : List ℕ} (h : Behind P n S R c p starts) where
  abbrev F : List Edge
  F = h.fallbacks

  -- how many edges there are
  pub behind-count : c ≡ length P + length F
  behind-count = sym (edge_count S R c) ∙ ap length h.is ∙ length-append P F

  -- all of it done
  pub behind-stands : p ≡ n → c * slot_bytes ≤ length S → Stands S starts c
  behind-stands e l = fallen-stands (subst (λ (m : ℕ). Fallen P F m n starts) e h.fallen) R S c h.is l h.ahead

  module _ (S' R' : List ℕ) (k : ℕ) (g : Added (Alone p) (edges_of R c S) (edges_of R' k S')) (l : p < n) where
    grown : (more : List Edge) → edges_of R' k S' ≡ edges_of R c S ++ more → k ≡ c + length more
    grown more e = omega (arith, ap length e, length-append (edges_of R c S) more, edge_count S R c, edge_count S' R' k)

    -- no edge more
    pub behind-kept : k ≤ c → Behind P n S' R' k (p + 1) starts
    behind-kept m = go g.more g.is
      where
        go : (more : List Edge) → edges_of R' k S' ≡ edges_of R c S ++ more → Behind P n S' R' k (p + 1) starts
        go [] e = record {
          fallbacks = F;
          is = e ∙ append-nil (edges_of R c S) ∙ h.is;
          fallen = fallen-kept h.fallen;
          ahead = h.ahead;
          few = let f = h.few in omega arith;
        }
        go (x ∷ more) e = absurd (omega (arith, grown (x ∷ more) e))

    -- one more, with the next number
    pub behind_more : c < k → k ≤ c + 1 → (i : ℕ) → i ≡ length F → Behind P n S' R' k (p + 1) (fell p i starts)
    behind_more m j i q = subst (λ (i : ℕ). Behind P n S' R' k (p + 1) (fell p i starts)) (sym q) (go g.more g.is g.all)
      where
        go : (more : List Edge) → edges_of R' k S' ≡ edges_of R c S ++ more → All (Alone p) more → Behind P n S' R' k (p + 1) (fell p (length F) starts)
        go [] e a = absurd (omega (arith, grown [] e))
        go (x ∷ []) e a =
            let f = a.0.from in
            let t = a.0.to in
            let is = append_assoc P F (x ∷ []) in
            record {
              fallbacks = F ++ x ∷ [];
              is = e ∙ ap (λ (l : List Edge). l ++ x ∷ []) h.is ∙ is;
              fallen = fallen-more h.fallen x f t l;
              ahead = subst (All (λ x. Ahead n x.from x.to)) is
                  (All-append (λ x. Ahead n x.from x.to) (P ++ F) (x ∷ []) h.ahead ((omega arith, omega arith), tt));
              few = let f = h.few in omega (arith, length-append F (x ∷ []));
            }
        go (x ∷ y ∷ more) e a = absurd (omega (arith, grown (x ∷ y ∷ more) e))

-- of how many edges the last were compared doesn't matter here
pub over_since : {ready line S R P : List ℕ} {w : World} {filled : Filled} → Over w ready line S R P filled
    → Over w ready line S R P (record { count = filled.count; used = filled.used; since = 0 })
over_since o = record { told = o.told; lent = o.lent; stored = o.stored; edges = o.edges }
