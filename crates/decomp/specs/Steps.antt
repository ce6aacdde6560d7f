-- Adding the edge of a character that stands for others: what it needs, and where it leads.
use Rattle.std.specs.Prelude.{Ok, Err, ℕ, ◌+◌, ◌-◌, ◌/◌, ◌≤◌, ◌<◌, Bool, true, false, ◌||◌, List, [], ◌∷◌, ◌++◌, ◌≡◌, eqb, length}
use Rattle.std.proofs.Math.Option.{Option, none, some}
use Rattle.std.proofs.Math.Path.{refl, ap}
use Rattle.std.proofs.Common.{sym, ◌∙◌, subst, arith}
use borrow.Author.Tests.{eqb-true, lt-ltb, le-ltb}
use Rattle.base.specs.Pick.{pick}
use Rattle.base.specs.Bools.{and_left, and_right}
use Rattle.base.specs.Lists.{any, keep, put, maybe}
use Rattle.definition.specs.Limits.{slot_bytes, most_bytes}
use Rattle.definition.specs.Notes.{note_decomp}
use Rattle.definition.specs.Texts.{Text, at}
use Rattle.definition.specs.Tables.{Class, Decomposition, Tables}
use Rattle.definition.specs.Edges.{Edge, State, starting, alike, new_in, add}
use Rattle.definition.specs.Building.{single}
use Rattle.definition.specs.Decomposing.{stands_for, inner_lattice, decomp_text, decomp_edge}
use Rattle.definition.specs.Refusals.{Refusal, refuse, when, refused_slots, refused_room, refused_edge_text}
use Rattle.definition.specs.Capacity.{bytes, misfit, placed_at, inner_edges, before_edge, overflow}
use Rattle.definition.specs.Growth.{all_bytes}
use Rattle.edge.specs.declared.Filled.{Filled}
use Rattle.edge.specs.declared.Taken.{Taken}
use Rattle.edge.specs.declared.Full.TheVariants as full
use Rattle.edge.specs.Answers.{Answer}
use Rattle.edge.specs.Slots.{edges_of}
use Rattle.edge.specs.Fitting.{stored_fits}
use Rattle.noting.specs.Keeps.{Keeps}
use Rattle.words.specs.Given.{size_in}
use Rattle.words.specs.declared.given.Dicts.{Dicts}
use Rattle.passes.specs.Reached.{addressable, Somewhere, Reached}
use Rattle.first_pass.specs.Fresh.{Fresh}
use Rattle.decomp.specs.declared.Unfit.TheVariants.{Slots, Room, TooLong}
use Rattle.decomp.specs.Answers.{as_grew}
use Rattle.decomp.specs.Grown.{Before, GrewTo, overflow-one, overflow-before}
use Rattle.decomp.specs.Rows.{Formable}

-- the definition's step
abbrev pub put_decomp : ℕ → Tables → List Decomposition → Text → State → State
put_decomp p D ds t st = (add st.0 (decomp_edge D ds t p), st.1)

-- what it needs of what is lent
pub record AddReady (dicts : Dicts) (line slots room places : List ℕ) (filled : Filled) (p : ℕ) : Type 0 where
  pub forms : Formable dicts
  pub somewhere : Somewhere dicts.ready.now line slots room places filled
  pub inside : p < size_in line
  pub fresh : Fresh p slots room filled
  pub offset : filled.used + most_bytes < addressable

-- so it is new
new-any : (x : Edge) (p : ℕ) → x.note ≡ note_decomp → x.from ≡ p → (es : List Edge) → Before p es → any (alike x) (starting es p) ≡ false
unfolding starting keep any
new-any x p n f [] h = refl
new-any x p n f (y ∷ es) h = go (eqb y.from p) refl (alike x y) refl (new-any x p n f es h.1)
  where
    rest : List Edge
    rest = keep (λ z. eqb z.from p) es

    apart : eqb y.from p ≡ true → alike x y ≡ true → ⊥
    apart a b = unfold alike in
        (let z = eqb-true x.note y.note (and_right (eqb x.to y.to) (eqb x.note y.note) (and_left _ _ b)) in
        let k = h.0 (sym z ∙ n) in
        let e = eqb-true y.from p a in
        omega arith)

    go : (a : Bool) → eqb y.from p ≡ a → (b : Bool) → alike x y ≡ b → any (alike x) rest ≡ false → any (alike x) (put a y rest) ≡ false
    go false e b d r = r
    go true e true d r = absurd (apart e d)
    go true e false d r = unfold any in (ap (λ (c : Bool). c || any (alike x) rest) d ∙ r)

pub decomp_new : (x : Edge) (es : List Edge) → x.note ≡ note_decomp → Before x.from es → add es (some x) ≡ es ++ x ∷ []
unfolding add new_in pick
decomp_new x es n h = rw (new-any x x.from n refl es h)

-- What is asked before
module _ (D : Tables) (ds : List Decomposition) (t : Text) (p : ℕ) (w : Text) (e : stands_for ds (at t p) ≡ some w) where
  abbrev pub own : Edge
  own = single p note_decomp (decomp_text D t p w)

  pub edge-is : decomp_edge D ds t p ≡ some own
  unfolding decomp_edge maybe
  edge-is = rw e

  inner_are : inner_edges D ds t p ≡ (inner_lattice D w).0
  unfolding inner_edges maybe
  inner_are = rw e

  module _ (k r : ℕ) where
    pub before_lacks : (n q : ℕ) → misfit k r (inner_lattice D w).0 ≡ some (refuse n q) → before_edge D ds t k r own ≡ some (refuse n p)
    unfolding before_edge single pick placed_at
    before_lacks n q h = rw (inner_are, h)

    pub before-long : misfit k r (inner_lattice D w).0 ≡ none → most_bytes < bytes own → before_edge D ds t k r own ≡ some (refuse refused_edge_text p)
    unfolding before_edge single pick placed_at when
    before-long h l = rw (inner_are, h, lt-ltb most_bytes (bytes own) l)

    pub before-fits : misfit k r (inner_lattice D w).0 ≡ none → bytes own ≤ most_bytes → before_edge D ds t k r own ≡ none
    unfolding before_edge single pick placed_at when
    before-fits h l = rw (inner_are, h, le-ltb most_bytes (bytes own) l)

-- what is in the slots has found room
pub reached-fits : {ks : List Class} {n : ℕ} {S R S' R' P' : List ℕ} {most : ℕ} {st : State} {t : Taken} → Reached ks n S R S' R' P' most st (Ok t)
    → misfit (length S / slot_bytes) (length R) st.0 ≡ none
reached-fits {S = S} {R = R} {S' = S'} {R' = R'} {t = t} b =
    ap (misfit (length S / slot_bytes) (length R)) (sym b.came.0.edges)
    ∙ ap (λ (k : ℕ). misfit (k / slot_bytes) (length R) (edges_of R' t.count S')) (sym b.slots)
    ∙ ap (λ (k : ℕ). misfit (length S' / slot_bytes) k (edges_of R' t.count S')) (sym b.room)
    ∙ stored_fits S' R' t.count t.used b.came.0.stored

-- Building has come to a state whose edges fit, and none of these starts at `p` yet
module _ (D : Tables) (ds : List Decomposition) (t : Text) (ks : List Class) (n : ℕ) (S R P : List ℕ) (count used p most : ℕ) (st : State)
    (k : Keeps ks n S R P count used st) (held : overflow D ds t (length S / slot_bytes) (length R) st.0 ≡ none) (before : Before p st.0) where
  abbrev slots_left : ℕ
  slots_left = length S / slot_bytes - length st.0

  abbrev room_left : ℕ
  room_left = length R - all_bytes st.0

  fitted : misfit (length S / slot_bytes) (length R) st.0 ≡ none
  fitted = ap (misfit (length S / slot_bytes) (length R)) (sym k.edges) ∙ stored_fits S R count used k.stored

  -- no row: nothing is added
  pub step-none : stands_for ds (at t p) ≡ none → used ≤ most → GrewTo D ds t ks n S R S R P most (put_decomp p D ds t st) (Ok record { count = count; used = used })
  unfolding decomp_edge maybe add
  step-none e l = rw e (record { slots = refl; room = refl; came = (k, l, held) })

  module _ (w : Text) (e : stands_for ds (at t p) ≡ some w) (S' R' P' : List ℕ) (a : length S' ≡ length S) (b : length R' ≡ length R) where
    added_is : (put_decomp p D ds t st).0 ≡ st.0 ++ own D ds t p w e ∷ []
    unfolding single
    added_is = ap (add st.0) (edge-is D ds t p w e) ∙ decomp_new (own D ds t p w e) st.0 refl before

    -- refused before its own edge is asked for
    step-before : (y : Refusal) → before_edge D ds t slots_left room_left (own D ds t p w e) ≡ some y
        → overflow D ds t (length S / slot_bytes) (length R) (put_decomp p D ds t st).0 ≡ some y
    step-before y q =
        ap (overflow D ds t (length S / slot_bytes) (length R)) added_is
        ∙ overflow-before D ds t (length S / slot_bytes) (length R) st.0 held fitted (own D ds t p w e) y q

    pub step-slot : (q : ℕ) → misfit slots_left room_left (inner_lattice D w).0 ≡ some (refuse refused_slots q)
        → GrewTo D ds t ks n S R S' R' P' most (put_decomp p D ds t st) (Err (Slots p))
    step-slot q h = record { slots = a; room = b; came = step-before (refuse refused_slots p) (before_lacks D ds t p w e slots_left room_left refused_slots q h) }

    pub step_room : (q : ℕ) → misfit slots_left room_left (inner_lattice D w).0 ≡ some (refuse refused_room q)
        → GrewTo D ds t ks n S R S' R' P' most (put_decomp p D ds t st) (Err (Room p))
    step_room q h = record { slots = a; room = b; came = step-before (refuse refused_room p) (before_lacks D ds t p w e slots_left room_left refused_room q h) }

    module _ (h : misfit slots_left room_left (inner_lattice D w).0 ≡ none) where
      pub step-long : most_bytes < bytes (own D ds t p w e) → GrewTo D ds t ks n S R S' R' P' most (put_decomp p D ds t st) (Err (TooLong p))
      step-long l = record { slots = a; room = b; came = step-before (refuse refused_edge_text p) (before-long D ds t p w e slots_left room_left h l) }

      -- or added
      pub step_added : bytes (own D ds t p w e) ≤ most_bytes → (r : Answer)
          → Reached ks n S R S' R' P' most (add st.0 (some (own D ds t p w e)), st.1) r
          → GrewTo D ds t ks n S R S' R' P' most (put_decomp p D ds t st) (as_grew r)
      step_added l r c = go r (subst (λ (o : Option Edge). Reached ks n S R S' R' P' most (add st.0 o, st.1) r) (sym (edge-is D ds t p w e)) c)
        where
          asks_room : overflow D ds t (length S / slot_bytes) (length R) (put_decomp p D ds t st).0
              ≡ misfit (length S / slot_bytes) (length R) (put_decomp p D ds t st).0
          asks_room =
              ap (overflow D ds t (length S / slot_bytes) (length R)) added_is
              ∙ overflow-one D ds t (length S / slot_bytes) (length R) st.0 held fitted (own D ds t p w e)
              (before-fits D ds t p w e slots_left room_left h l)
              ∙ ap (misfit (length S / slot_bytes) (length R)) (sym added_is)

          go : (r : Answer) → Reached ks n S R S' R' P' most (put_decomp p D ds t st) r → GrewTo D ds t ks n S R S' R' P' most (put_decomp p D ds t st) (as_grew r)
          go (Ok y) x = record {
            slots = x.slots;
            room = x.room;
            came = (x.came.0, x.came.1, asks_room ∙ reached-fits x);
          }
          go (Err (full.Slots q)) x = record { slots = x.slots; room = x.room; came = asks_room ∙ x.came }
          go (Err (full.Room q)) x = record { slots = x.slots; room = x.room; came = asks_room ∙ x.came }
