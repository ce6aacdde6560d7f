-- Edges that spans give behind edges that fit: slots and room are asked alone, so that what adding them answers is told of the
-- whole scan.
use Rattle.std.specs.Prelude.{Ok, Err}
use Prim.Native.Nat.{ℕ, ◌/◌, ◌≤◌, ◌<◌}
use mathlib.Core.List.{List}
use mathlib.Core.Option.{Option, none, some}
use mathlib.Core.Path.{◌≡◌, sym, ap, ◌∙◌, subst}
use native.Mathlib.Omega.{arith}
use lib.ListN.{length}
use Rattle.base.specs.Alls.{All-map, All-append}
use Rattle.definition.specs.Limits.{slot_bytes}
use Rattle.definition.specs.Notes.{note_decomp}
use Rattle.definition.specs.Texts.{Text}
use Rattle.definition.specs.Tables.{Class, Decomposition, Tables}
use Rattle.definition.specs.Edges.{State}
use Rattle.definition.specs.Refusals.{Refusal, refuse, refused_slots, refused_room, refused_edge_text}
use Rattle.definition.specs.Capacity.{misfit, overflow}
use Rattle.definition.specs.Growth.{Added}
use Rattle.definition.specs.Bounds.{Ruled}
use Rattle.definition.proofs.Decomposed.{overflow-grown}
use Rattle.edge.specs.declared.Full.TheVariants as full
use Rattle.edge.specs.Answers.{Answer}
use Rattle.edge.specs.Fitting.{stored_fits}
use Rattle.noting.specs.Keeps.{Keeps}
use Rattle.passes.specs.Reached.{Reached}
use Rattle.decomp.specs.declared.Unfit.TheVariants.{Slots, Room, TooLong}
use Rattle.decomp.specs.Answers.{Grew, as_grew}
use Rattle.decomp.specs.Grown.{Before, GrewTo, overflow-behind}
use Rattle.decomp.specs.Steps.{reached-fits}

-- A state whose edges fit, and what spans make of it
module _ (D : Tables) (ds : List Decomposition) (t : Text) {ks : List Class} {n : ℕ} {S R P : List ℕ} {count used : ℕ} (st spans : State)
    (k : Keeps ks n S R P count used st) (held : overflow D ds t (length S / slot_bytes) (length R) st.0 ≡ none) (more : Added (Ruled t) st.0 spans.0) where
  asks_room : overflow D ds t (length S / slot_bytes) (length R) spans.0 ≡ misfit (length S / slot_bytes) (length R) spans.0
  asks_room =
      let fitted = ap (misfit (length S / slot_bytes) (length R)) (sym k.edges) ∙ stored_fits S R count used k.stored in
      ap (overflow D ds t (length S / slot_bytes) (length R)) more.is
      ∙ overflow-behind D ds t (length S / slot_bytes) (length R) st.0 held fitted more.more (All-map (λ x y. y.note) more.more more.all)
      ∙ ap (misfit (length S / slot_bytes) (length R)) (sym more.is)

  -- what adding them answers is how far building has come
  pub spans-grew : {S' R' P' : List ℕ} {most : ℕ} (a : Answer) → Reached ks n S R S' R' P' most spans a → GrewTo D ds t ks n S R S' R' P' most spans (as_grew a)
  spans-grew (Ok y) b = record { slots = b.slots; room = b.room; came = (b.came.0, b.came.1, asks_room ∙ reached-fits b) }
  spans-grew (Err (full.Slots p)) b = record { slots = b.slots; room = b.room; came = asks_room ∙ b.came }
  spans-grew (Err (full.Room p)) b = record { slots = b.slots; room = b.room; came = asks_room ∙ b.came }

  -- none of their edges is a character's own
  pub spans-before : (s e : ℕ) → s ≤ e → Before s st.0 → Before e spans.0
  spans-before s e l before = subst (Before e) (sym more.is) (All-append (λ x. x.note ≡ note_decomp → x.from < e) st.0 more.more
      (All-map {P = λ x. x.note ≡ note_decomp → x.from < s} {Q = λ x. x.note ≡ note_decomp → x.from < e} (λ x f h. let z = f h in omega arith) st.0 before)
      (All-map (λ x y h. absurd (let b = y.note in omega arith)) more.more more.all))

-- the answer is a refusal
abbrev pub Refused : Grew → Type 0
Refused (Ok t) = ⊥
Refused (Err f) = Unit {0}

-- Slots and room that were as long before refuse the same, and go on refusing it whatever comes behind
module _ (D : Tables) (ds : List Decomposition) (t : Text) (S R S₀ R₀ : List ℕ) (st : State) (a : length S ≡ length S₀) (b : length R ≡ length R₀) where
  same : (o : Option Refusal) → overflow D ds t (length S / slot_bytes) (length R) st.0 ≡ o → overflow D ds t (length S₀ / slot_bytes) (length R₀) st.0 ≡ o
  same o e =
      ap (λ (m : ℕ). overflow D ds t (m / slot_bytes) (length R₀) st.0) (sym a)
      ∙ ap (λ (m : ℕ). overflow D ds t (length S / slot_bytes) m st.0) (sym b) ∙ e

  stays : (whole : State) → Added (λ x. Unit {0}) st.0 whole.0 → (x : Refusal) → overflow D ds t (length S / slot_bytes) (length R) st.0 ≡ some x
      → overflow D ds t (length S₀ / slot_bytes) (length R₀) whole.0 ≡ some x
  stays whole g x e =
      ap (overflow D ds t (length S₀ / slot_bytes) (length R₀)) g.is
      ∙ overflow-grown D ds t (length S₀ / slot_bytes) (length R₀) st.0 g.more x (same (some x) e)

-- So a step behind others
module _ {D : Tables} {ds : List Decomposition} {t : Text} {ks : List Class} {n : ℕ} {S R S₀ R₀ S' R' P' : List ℕ} {most : ℕ} {st : State}
    (a : length S ≡ length S₀) (b : length R ≡ length R₀) where
  pub grew_since : (more : ℕ) → most ≤ more → (r : Grew) → GrewTo D ds t ks n S R S' R' P' most st r → GrewTo D ds t ks n S₀ R₀ S' R' P' more st r
  grew_since more l (Ok y) g = record {
    slots = g.slots ∙ a;
    room = g.room ∙ b;
    came = (g.came.0, (let m = g.came.1 in omega (arith, m, l)), same D ds t S R S₀ R₀ st a b none g.came.2);
  }
  grew_since more l (Err (Slots p)) g = record { slots = g.slots ∙ a; room = g.room ∙ b; came = same D ds t S R S₀ R₀ st a b (some (refuse refused_slots p)) g.came }
  grew_since more l (Err (Room p)) g = record { slots = g.slots ∙ a; room = g.room ∙ b; came = same D ds t S R S₀ R₀ st a b (some (refuse refused_room p)) g.came }
  grew_since more l (Err (TooLong p)) g = record { slots = g.slots ∙ a; room = g.room ∙ b; came = same D ds t S R S₀ R₀ st a b (some (refuse refused_edge_text p)) g.came }

  -- a refusal stays
  pub grew-refused : (whole : State) → Added (λ x. Unit {0}) st.0 whole.0 → (more : ℕ) (r : Grew) → Refused r
      → GrewTo D ds t ks n S R S' R' P' most st r → GrewTo D ds t ks n S₀ R₀ S' R' P' more whole r
  grew-refused whole h more (Ok y) q g = absurd q
  grew-refused whole h more (Err (Slots p)) q g = record { slots = g.slots ∙ a; room = g.room ∙ b; came = stays D ds t S R S₀ R₀ st a b whole h (refuse refused_slots p) g.came }
  grew-refused whole h more (Err (Room p)) q g = record { slots = g.slots ∙ a; room = g.room ∙ b; came = stays D ds t S R S₀ R₀ st a b whole h (refuse refused_room p) g.came }
  grew-refused whole h more (Err (TooLong p)) q g = record { slots = g.slots ∙ a; room = g.room ∙ b; came = stays D ds t S R S₀ R₀ st a b whole h (refuse refused_edge_text p) g.came }
