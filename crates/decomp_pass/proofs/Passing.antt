-- The first pass in the middle: what is left of it leads where all of it does, nothing has overflowed, and no character from the
-- next start on has its edge yet.
use Rattle.std.specs.Prelude.{Ok}
use Prim.Native.Nat.{ℕ, ◌/◌, ◌≤◌}
use mathlib.Core.List.{List}
use mathlib.Core.Option.{none}
use mathlib.Core.Path.{◌≡◌, refl, sym, ap, ◌∙◌, subst}
use lib.ListN.{length}
use Rattle.base.specs.Rows.{counted}
use Rattle.definition.specs.Limits.{slot_bytes}
use Rattle.definition.specs.Texts.{Text}
use Rattle.definition.specs.Tables.{Class, Decomposition, Tables}
use Rattle.definition.specs.Edges.{State}
use Rattle.definition.specs.Building.{each}
use Rattle.definition.specs.Decomposing.{start}
use Rattle.definition.specs.Capacity.{overflow}
use Rattle.definition.specs.Growth.{Added}
use Rattle.edge.specs.Answers.{fits}
use Rattle.edge.specs.Slots.{edges_of}
use Rattle.words.specs.Given.{World, kinds, size}
use Rattle.passes.specs.Reached.{nothing, Over, state_of}
use Rattle.passes.proofs.Passing.{kept, Going, passing_first, going_next}
use Rattle.decomp.specs.Answers.{Grew}
use Rattle.decomp.specs.Grown.{Before, GrewTo}
use Rattle.decomp_pass.specs.Both.{grew-fits}
use Rattle.decomp_pass.proofs.Onward.{Refused, grew_since, grew-refused}

-- From slots `S₀` and room `R₀` to `S`, `R` and places `P`: `rest` of what they keep is the whole
pub record Underway (D : Tables) (ds : List Decomposition) (t : Text) (ks : List Class) (n : ℕ) (S₀ R₀ : List ℕ) (whole : State) (rest : State → State)
    (S R P : List ℕ) (c u s : ℕ) : Type 0 where
  pub going : Going rest ks n S₀ R₀ whole S R P c u
  pub held : overflow D ds t (length S / slot_bytes) (length R) (edges_of R c S) ≡ none
  pub before : Before s (edges_of R c S)

-- it begins with no edges
pub underway_first : (D : Tables) (ds : List Decomposition) {ready line S R P : List ℕ} {w : World} → Over w ready line S R P nothing → (left : ℕ) → size w ≡ left
    → Underway D ds w.text (kinds w) (size w) S R (each (start D ds w.text) (size w) 0 (state_of w P)) (each (start D ds w.text) left 0) S R P 0 0 0
unfolding counted overflow
underway_first D ds {w = w} o left e = record { going = passing_first o (start D ds w.text) left e; held = refl; before = tt }

-- A step `f`, with `next` left behind it
module _ {D : Tables} {ds : List Decomposition} {t : Text} {ks : List Class} {n : ℕ} {S₀ R₀ : List ℕ} {whole : State} {rest : State → State} {S R P : List ℕ} {c u s : ℕ}
    (r : Underway D ds t ks n S₀ R₀ whole rest S R P c u s) (f next : State → State) (turn : rest (kept n S R P c) ≡ next (f (kept n S R P c)))
    {S' R' P' : List ℕ} {most : ℕ} (a : Grew) (b : GrewTo D ds t ks n S R S' R' P' most (f (kept n S R P c)) a) where
  -- is refused, whatever the rest would add
  pub underway_refused : Added (λ x. Unit {0}) (f (kept n S R P c)).0 (next (f (kept n S R P c))).0 → (more : ℕ) → Refused a
      → GrewTo D ds t ks n S₀ R₀ S' R' P' more whole a
  underway_refused g more q =
      grew-refused r.going.slots r.going.room whole
      (subst (λ (to : State). Added (λ x. Unit {0}) (f (kept n S R P c)).0 to.0) (sym turn ∙ r.going.on) g) more a q b

  -- or is the last
  pub underway_over : next (f (kept n S R P c)) ≡ f (kept n S R P c) → (more : ℕ) → most ≤ more → GrewTo D ds t ks n S₀ R₀ S' R' P' more whole a
  underway_over e more l =
      subst (λ (to : State). GrewTo D ds t ks n S₀ R₀ S' R' P' more to a) (sym e ∙ sym turn ∙ r.going.on) (grew_since r.going.slots r.going.room more l a b)

  -- or goes on
  module _ (k v : ℕ) (q : a ≡ Ok record { count = k; used = v }) where
    came : GrewTo D ds t ks n S R S' R' P' most (f (kept n S R P c)) (Ok record { count = k; used = v })
    came = subst (GrewTo D ds t ks n S R S' R' P' most (f (kept n S R P c))) q b

    -- the edges are those of the step
    pub underway_edges : edges_of R' k S' ≡ (f (kept n S R P c)).0
    underway_edges = came.came.0.edges

    pub underway_used : v ≤ most
    underway_used = came.came.1

    pub underway_next : (s' : ℕ) → Before s' (f (kept n S R P c)).0 → Underway D ds t ks n S₀ R₀ whole next S' R' P' k v s'
    underway_next s' before = record {
      going = going_next r.going f next turn (fits k v) (grew-fits came) k v refl;
      held =
          ap (overflow D ds t (length S' / slot_bytes) (length R')) underway_edges
          ∙ ap (λ (m : ℕ). overflow D ds t (m / slot_bytes) (length R') (f (kept n S R P c)).0) came.slots
          ∙ ap (λ (m : ℕ). overflow D ds t (length S / slot_bytes) m (f (kept n S R P c)).0) came.room ∙ came.came.2;
      before = subst (Before s') (sym underway_edges) before;
    }
