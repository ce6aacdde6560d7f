-- How far building has come: slots, room and places keep a state of the definition, or there is the refusal that the scan
-- of its edges gives.
use Rattle.std.specs.Prelude.{Ok, Err, ℕ, ◌+◌, ◌/◌, ◌≤◌, ◌<◌, List, [], ◌≡◌, refl, length}
use Rattle.std.proofs.Math.Option.{some}
use Rattle.std.proofs.Common.{sym, ap, ◌∙◌, subst, arith}
use Rattle.definition.specs.Limits.{slot_bytes}
use Rattle.definition.specs.Texts.{Text}
use Rattle.definition.specs.Tables.{Class, Tables}
use Rattle.definition.specs.Edges.{Edge, Mem, State, add}
use Rattle.definition.specs.Refusals.{Refusal, refuse, refused_slots, refused_room}
use Rattle.definition.specs.Capacity.{misfit}
use Rattle.definition.specs.Growth.{Added, misfit-grown}
use Rattle.definition.specs.Call.{tables_of}
use Rattle.edge.specs.declared.Numbers.{Numbers}
use Rattle.edge.specs.declared.Filled.{Filled}
use Rattle.edge.specs.declared.Full.TheVariants.{Slots, Room}
use Rattle.edge.specs.Answers.{Answer, fits}
use Rattle.edge.specs.Slots.{four_bytes, edge_by, edges_of}
use Rattle.edge.specs.Stored.{Stored}
use Rattle.edge.specs.Adding.{added, slots_after, room_after, Writable, slots_after-length, room_after-length, added_used}
use Rattle.edge.specs.Fitting.{Told as Fitted, stopped}
use Rattle.edge_places.specs.declared.Ending.{Ending}
use Rattle.edge_places.specs.Shows.{Ends, memory}
use Rattle.noting.specs.Noting.{places_after}
pub use Rattle.noting.specs.Noting.{Refused}
use Rattle.noting.specs.Keeps.{Keeps, keeps_added}
use Rattle.words.specs.Given.{World, kinds, size, Told, Lined, Lent}

-- an offset into the text room has four bytes
abbrev pub addressable : ℕ
addressable = four_bytes

-- no edges yet
abbrev pub nothing : Filled
nothing = record { count = 0; used = 0; since = 0 }

-- A world whose edges stand in slots and room: what all that is lent stands for while the lattice is built
pub record Over (w : World) (ready line slots room places : List ℕ) (filled : Filled) : Type 0 where
  pub told : Told w ready
  pub lent : Lent w line places
  pub stored : Stored slots room filled.count filled.used
  pub edges : edges_of room filled.count slots ≡ w.edges

-- there is one
pub record Somewhere (ready line slots room places : List ℕ) (filled : Filled) : Type 0 where
  pub world : World
  pub over : Over world ready line slots room places filled

-- its state
abbrev pub state_of : World → List ℕ → State
state_of w places = (w.edges, memory (size w) places)

pub over_keeps : {w : World} {ready line slots room places : List ℕ} {filled : Filled} → Over w ready line slots room places filled
    → Keeps (kinds w) (size w) slots room places filled.count filled.used (state_of w places)
over_keeps o = record { stored = o.stored; edges = o.edges; shown = o.lent.edges; remembered = refl }

-- a state is what slots, room and places keep of it
pub keeps_state : {ks : List Class} {n : ℕ} {S R P : List ℕ} {c u : ℕ} (st : State) → Keeps ks n S R P c u st
    → ◌≡◌ {A = State} (edges_of R c S, memory n P) st
keeps_state {ks} {n} {S} {R} {P} {c} {u} st k =
    ap (λ (es : List Edge). (es, memory n P)) k.edges ∙ ap (λ (m : Mem). (st.0, m)) k.remembered

-- the same world with other edges
abbrev pub with_edges : World → List Edge → World
with_edges w es = record { classes = w.classes; choices = w.choices; text = w.text; edges = es }

-- of which what was made ready tells as much
pub told_with : {w : World} {ready : List ℕ} → Told w ready → (es : List Edge) → Told (with_edges w es) ready
told_with t es = record { letters = t.letters; choices = t.choices }

pub over_now : {w : World} {ready line : List ℕ} → Told w ready → Lined w line → (slots room places : List ℕ) (filled : Filled) (st : State)
    → Keeps (kinds w) (size w) slots room places filled.count filled.used st → Over (with_edges w st.0) ready line slots room places filled
over_now t g slots room places filled st k = record {
  told = told_with t st.0;
  lent = record { text = record { fine = g.fine; few = g.few; is = g.is }; edges = k.shown };
  stored = k.stored;
  edges = k.edges;
}

-- From slots `S` and room `R` to `S'`, `R'` and places `P'`, with `most` bytes used at most
module _ (ks : List Class) (n : ℕ) (S R S' R' P' : List ℕ) (most : ℕ) (st : State) where
  abbrev Came : Answer → Type 0
  Came (Ok t) = Keeps ks n S' R' P' t.count t.used st × (t.used ≤ most)
  Came (Err (Slots p)) = misfit (length S / slot_bytes) (length R) st.0 ≡ some (refuse refused_slots p)
  Came (Err (Room p)) = misfit (length S / slot_bytes) (length R) st.0 ≡ some (refuse refused_room p)

  pub record Reached (r : Answer) : Type 0 where
    pub slots : length S' ≡ length S
    pub room : length R' ≡ length R
    pub came : Came r

-- slots, room and places
abbrev pub Rooms : Type 0
Rooms = List ℕ × List ℕ × List ℕ

-- What a step of building promises: of every world over what was lent, it reaches where the definition's step `f` leads
abbrev pub Reaches : List ℕ → List ℕ → List ℕ → List ℕ → List ℕ → Rooms → Rooms → Filled → ℕ → (Tables → Text → State → State) → Answer → Type 0
Reaches rules ready vowels code line before after filled most f r =
    (w : World) → Over w ready line before.0 before.1 before.2 filled
    → Reached (kinds w) (size w) before.0 before.1 after.0 after.1 after.2 most
    (f (tables_of w.choices rules w.classes vowels code) w.text (state_of w before.2)) r

module _ {ks : List Class} {n : ℕ} {S R S' R' P' : List ℕ} {most : ℕ} {st : State} where
  pub reached-wide : (more : ℕ) → most ≤ more → (r : Answer) → Reached ks n S R S' R' P' most st r → Reached ks n S R S' R' P' more st r
  reached-wide more l (Ok t) a =
      record { slots = a.slots; room = a.room; came = (a.came.0, (let k = a.came.1 in omega arith)) }
  reached-wide more l (Err (Slots p)) a = record { slots = a.slots; room = a.room; came = a.came }
  reached-wide more l (Err (Room p)) a = record { slots = a.slots; room = a.room; came = a.came }

  -- a refusal stays, whatever comes after
  pub reached-refused : (more : ℕ) (st' : State) → Added (λ x. Unit {0}) st.0 st'.0
      → (r : Answer) → Refused r → Reached ks n S R S' R' P' most st r → Reached ks n S R S' R' P' more st' r
  reached-refused more st' g r h a = go r h a.came
    where
      stays : (x : Refusal) → misfit (length S / slot_bytes) (length R) st.0 ≡ some x
          → misfit (length S / slot_bytes) (length R) st'.0 ≡ some x
      stays x q = ap (misfit (length S / slot_bytes) (length R)) g.is ∙ misfit-grown (length S / slot_bytes) (length R) st.0 g.more x q

      go : (r : Answer) → Refused r → Came ks n S R S' R' P' most st r → Reached ks n S R S' R' P' more st' r
      go (Ok x) h t = absurd h
      go (Err (Slots p)) h t = record { slots = a.slots; room = a.room; came = stays (refuse refused_slots p) t }
      go (Err (Room p)) h t = record { slots = a.slots; room = a.room; came = stays (refuse refused_room p) t }

  -- a state that is equal
  pub reached_as : (st' : State) → st ≡ st' → (r : Answer) → Reached ks n S R S' R' P' most st r → Reached ks n S R S' R' P' most st' r
  reached_as st' e r a = subst (λ (s : State). Reached ks n S R S' R' P' most s r) e a

  -- slots and room that were as long before
  pub reached_since : (S₀ R₀ : List ℕ) → length S ≡ length S₀ → length R ≡ length R₀ → (r : Answer)
      → Reached ks n S R S' R' P' most st r → Reached ks n S₀ R₀ S' R' P' most st r
  reached_since S₀ R₀ a b r x = go r x.came
    where
      fitted : (y : Refusal) → misfit (length S / slot_bytes) (length R) st.0 ≡ some y → misfit (length S₀ / slot_bytes) (length R₀) st.0 ≡ some y
      fitted y q = ap (λ k. misfit (k / slot_bytes) (length R₀) st.0) (sym a) ∙ ap (λ k. misfit (length S / slot_bytes) k st.0) (sym b) ∙ q

      go : (r : Answer) → Came ks n S R S' R' P' most st r → Reached ks n S₀ R₀ S' R' P' most st r
      go (Ok y) t = record { slots = x.slots ∙ a; room = x.room ∙ b; came = t }
      go (Err (Slots p)) t = record { slots = x.slots ∙ a; room = x.room ∙ b; came = fitted (refuse refused_slots p) t }
      go (Err (Room p)) t = record { slots = x.slots ∙ a; room = x.room ∙ b; came = fitted (refuse refused_room p) t }

-- what is there
pub reached-here : {ks : List Class} {n : ℕ} {S R P : List ℕ} {c u : ℕ} {st : State} (most : ℕ) → Keeps ks n S R P c u st → u ≤ most
    → Reached ks n S R S R P most st (fits c u)
reached-here most k l = record { slots = refl; room = refl; came = (k, l) }

-- One edge more
module _ {ks : List Class} {n : ℕ} {S R P : List ℕ} {count used : ℕ} {st : State} (k : Keeps ks n S R P count used st) (e : Numbers) (w : List ℕ)
    (ok : Writable used e w) (end : Ending) (ends : Ends ks (edge_by e w) end) (h : e.from < e.to) (l : e.to ≤ n) where
  abbrev after : State
  after = (add st.0 (some (edge_by e w)), st.1)

  abbrev slots' : List ℕ
  slots' = slots_after S R count used e w

  abbrev room' : List ℕ
  room' = room_after S R count used e w

  reached-by : (r : Answer) → r ≡ added S R count used e w → Reached ks n S R slots' room' (places_after r count e end P) (used + length w) after r
  reached-by r q = go r q
    where
      made : (r : Answer) → Came ks n S R slots' room' (places_after r count e end P) (used + length w) after r
          → Reached ks n S R slots' room' (places_after r count e end P) (used + length w) after r
      made r t = record { slots = slots_after-length S R count used e w k.stored ok; room = room_after-length S R count used e w k.stored ok; came = t }

      as_kept : (es : List Edge) → misfit (length S / slot_bytes) (length R) (add (edges_of R count S) (some (edge_by e w)))
          ≡ misfit (length S / slot_bytes) (length R) (add st.0 (some (edge_by e w)))
      as_kept es = ap (λ (es : List Edge). misfit (length S / slot_bytes) (length R) (add es (some (edge_by e w)))) k.edges

      go : (r : Answer) → r ≡ added S R count used e w → Reached ks n S R slots' room' (places_after r count e end P) (used + length w) after r
      go (Ok t) q =
          made (Ok t) (keeps_added k e w ok end ends h l t.count t.used (sym q), added_used S R count used e w k.stored ok t.count t.used (sym q))
      go (Err (Slots p)) q =
          let s = subst (Fitted S R count used e w k.stored ok) (sym q) (stopped S R count used e w k.stored ok) in
          made (Err (Slots p)) (sym (as_kept []) ∙ ap (misfit (length S / slot_bytes) (length R)) s.1.new ∙ s.1.scan [] ∙ ap (λ k. some (refuse refused_slots k)) (sym s.0))
      go (Err (Room p)) q =
          let s = subst (Fitted S R count used e w k.stored ok) (sym q) (stopped S R count used e w k.stored ok) in
          made (Err (Room p)) (sym (as_kept []) ∙ ap (misfit (length S / slot_bytes) (length R)) s.1.new ∙ s.1.scan [] ∙ ap (λ k. some (refuse refused_room k)) (sym s.0))

  pub reached-add : (S' R' P' : List ℕ) (r : Answer) → r ≡ added S R count used e w → S' ≡ slots' → R' ≡ room' → P' ≡ places_after r count e end P
      → Reached ks n S R S' R' P' (used + length w) after r
  reached-add S' R' P' r q a b c =
      subst (λ (l : List ℕ). Reached ks n S R l R' P' (used + length w) after r) (sym a)
      (subst (λ (l : List ℕ). Reached ks n S R slots' l P' (used + length w) after r) (sym b)
      (subst (λ (l : List ℕ). Reached ks n S R slots' room' l (used + length w) after r) (sym c) (reached-by r q)))
