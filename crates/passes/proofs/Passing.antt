-- A pass in the middle, a turn at a time: what is left of it leads where all of it does. One law serves the rising ends of
-- a start and the starts of both passes.
use Prim.Native.Nat.{ℕ, ◌+◌, ◌≤◌}
use mathlib.Core.List.{List}
use mathlib.Core.Path.{◌≡◌, refl, sym, ap, ◌∙◌, subst}
use native.Mathlib.Omega.{arith}
use lib.ListN.{length}
use Rattle.definition.specs.Tables.{Class}
use Rattle.definition.specs.Edges.{State}
use Rattle.definition.specs.Building.{each}
use Rattle.definition.specs.Growth.{Added, Grown, each-grown}
use Rattle.edge.specs.declared.Filled.{Filled}
use Rattle.edge.specs.Answers.{Answer, fits}
use Rattle.edge.specs.Slots.{edges_of}
use Rattle.edge.specs.Stored.{edge_count}
use Rattle.edge_places.specs.Shows.{memory}
use Rattle.noting.specs.Keeps.{Keeps}
use Rattle.words.specs.Given.{World, kinds, size}
use Rattle.passes.specs.Reached.{Over, state_of, over_keeps, keeps_state, with_edges, over_now, Reached, Refused}
use Rattle.passes.specs.Reached.{reached-refused, reached_as, reached_since}
use Rattle.passes.specs.Turns.{each_over, each_turn}

-- the state that slots, room and places keep
abbrev pub kept : ℕ → List ℕ → List ℕ → List ℕ → ℕ → State
kept n S R P c = (edges_of R c S, memory n P)

keeps_now : {ks : List Class} {n : ℕ} {S R P : List ℕ} {c u : ℕ} (st : State) → Keeps ks n S R P c u st → Keeps ks n S R P c u (kept n S R P c)
keeps_now {ks} {n} {S} {R} {P} {c} {u} st k = subst (Keeps ks n S R P c u) (sym (keeps_state st k)) k

-- From slots `S₀` and room `R₀` to `S`, `R` and places `P`: `rest` of what they keep is the whole
pub record Going (rest : State → State) (ks : List Class) (n : ℕ) (S₀ R₀ : List ℕ) (whole : State) (S R P : List ℕ) (c u : ℕ) : Type 0 where
  pub on : rest (kept n S R P c) ≡ whole
  pub keeps : Keeps ks n S R P c u (kept n S R P c)
  pub slots : length S ≡ length S₀
  pub room : length R ≡ length R₀

module _ {ready line S₀ R₀ P₀ : List ℕ} {w : World} {filled : Filled} (o : Over w ready line S₀ R₀ P₀ filled) where
  -- it begins with what was lent
  pub going_first : (rest : State → State)
      → Going rest (kinds w) (size w) S₀ R₀ (rest (state_of w P₀)) S₀ R₀ P₀ filled.count filled.used
  going_first rest = record {
    on = ap rest (keeps_state (state_of w P₀) (over_keeps o));
    keeps = keeps_now (state_of w P₀) (over_keeps o);
    slots = refl;
    room = refl;
  }

  -- and at each turn what is kept is lent, in a world with the edges so far
  pub going_lent : {rest : State → State} {S₁ R₁ : List ℕ} {whole : State} {S R P : List ℕ} {c u : ℕ} (since : ℕ)
      → Going rest (kinds w) (size w) S₁ R₁ whole S R P c u
      → Over (with_edges w (edges_of R c S)) ready line S R P (record { count = c; used = u; since = since })
  going_lent {S = S} {R = R} {P = P} {c = c} {u = u} since r =
      over_now o.told o.lent.text S R P (record { count = c; used = u; since = since }) (kept (size w) S R P c) r.keeps

module _ {rest : State → State} {ks : List Class} {n : ℕ} {S₀ R₀ : List ℕ} {whole : State} {S R P : List ℕ} {c u : ℕ}
    (r : Going rest ks n S₀ R₀ whole S R P c u) where
  abbrev st : State
  st = kept n S R P c

  -- it ends where nothing is left
  pub going_over : (most : ℕ) → u ≤ most → rest st ≡ st → Reached ks n S₀ R₀ S R P most whole (fits c u)
  going_over most l h =
      reached_as whole (sym h ∙ r.on) (fits c u) (record { slots = r.slots; room = r.room; came = (r.keeps, l) })

  -- a turn: `f`, with `next` left behind it
  module _ (f next : State → State) (turn : rest st ≡ next (f st)) {S' R' P' : List ℕ} {most : ℕ} (a : Answer)
      (b : Reached ks n S R S' R' P' most (f st) a) where
    -- is refused, whatever the rest would add
    pub going_refused : Added (λ x. Unit {0}) (f st).0 (next (f st)).0 → (more : ℕ) → Refused a → Reached ks n S₀ R₀ S' R' P' more whole a
    going_refused g more q =
        reached_as whole (sym turn ∙ r.on) a
        (reached-refused more (next (f st)) g a q (reached_since S₀ R₀ r.slots r.room a b))

    module _ (k v : ℕ) (q : a ≡ fits k v) where
      came : Reached ks n S R S' R' P' most (f st) (fits k v)
      came = subst (Reached ks n S R S' R' P' most (f st)) q b

      -- or goes on
      pub going_next : Going next ks n S₀ R₀ whole S' R' P' k v
      going_next = record {
        on = ap next (keeps_state (f st) came.came.0) ∙ sym turn ∙ r.on;
        keeps = keeps_now (f st) came.came.0;
        slots = came.slots ∙ r.slots;
        room = came.room ∙ r.room;
      }

      pub going_used : v ≤ most
      going_used = came.came.1

      -- the edges are those of the turn
      pub going_edges : edges_of R' k S' ≡ (f st).0
      going_edges = came.came.0.edges

-- A pass over all starts begins with the first
pub passing_first : {ready line S R P : List ℕ} {w : World} {filled : Filled} → Over w ready line S R P filled → (f : ℕ → State → State) (left : ℕ) → size w ≡ left
    → Going (each f left 0) (kinds w) (size w) S R (each f (size w) 0 (state_of w P)) S R P filled.count filled.used
passing_first {S = S} {R = R} {P = P} {w = w} {filled = filled} o f left e =
    subst (λ (m : ℕ). Going (each f m 0) (kinds w) (size w) S R (each f (size w) 0 (state_of w P)) S R P filled.count filled.used) e
    (going_first o (each f (size w) 0))

-- and `left` are left from `p` on
module _ (f : ℕ → State → State) (m : ℕ) (grows : (p : ℕ) (st : State) → Grown m st.0 (f p st).0) {ks : List Class} {n : ℕ} {S₀ R₀ : List ℕ}
    {whole : State} {S R P : List ℕ} {c u : ℕ} (p left : ℕ) (r : Going (each f left p) ks n S₀ R₀ whole S R P c u) where
  pub passing_over : (most : ℕ) → u ≤ most → left ≡ 0 → Reached ks n S₀ R₀ S R P most whole (fits c u)
  passing_over most l h = going_over r most l (each_over f left p (kept n S R P c) h)

  -- one start, behind which `j` are left
  module _ (j : ℕ) (h : left ≡ j + 1) {S' R' P' : List ℕ} {most : ℕ} (a : Answer)
      (b : Reached ks n S R S' R' P' most (f p (kept n S R P c)) a) where
    turn : each f left p (kept n S R P c) ≡ each f j (p + 1) (f p (kept n S R P c))
    turn = each_turn f left j p (kept n S R P c) h

    pub passing_refused : (more : ℕ) → Refused a → Reached ks n S₀ R₀ S' R' P' more whole a
    passing_refused = going_refused r (f p) (each f j (p + 1)) turn a b (each-grown f m grows j (p + 1) (f p (kept n S R P c))).added

    module _ (k v : ℕ) (q : a ≡ fits k v) where
      pub passing_next : Going (each f j (p + 1)) ks n S₀ R₀ whole S' R' P' k v
      passing_next = going_next r (f p) (each f j (p + 1)) turn a b k v q

      pub passing_used : v ≤ most
      passing_used = going_used r (f p) (each f j (p + 1)) turn a b k v q

      -- the edges are those of the start, so many at most
      pub passing_edges : edges_of R' k S' ≡ (f p (kept n S R P c)).0
      passing_edges = going_edges r (f p) (each f j (p + 1)) turn a b k v q

      pub passing_few : k ≤ c + m
      passing_few = omega (arith, edge_count S' R' k, ap length passing_edges, (grows p (kept n S R P c)).few, edge_count S R c)
