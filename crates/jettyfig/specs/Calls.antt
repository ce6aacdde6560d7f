-- What is left of a call, step by step: shown, built, read, checked.
use Rattle.std.specs.Prelude.{ℕ, zero, suc, ◌+◌, ◌-◌, ◌/◌, ◌≤◌, ◌<◌, Bool, true, false, ◌≡◌, refl, ltb}
use mathlib.Core.List.{List, ◌++◌}
use Rattle.std.proofs.Math.Option.{Option, none, some}
use Rattle.std.proofs.Math.Path.{sym, ap}
use Rattle.std.proofs.Common.{◌∙◌, subst, arith, length-drop}
use Rattle.std.proofs.Math.ListN.{length, drop, replicate}
use borrow.Author.Tests.{ne_eqb, lt-ltb, le-ltb, ltb-true, ltb-false}
use Rattle.base.specs.Pick.{pick}
use Rattle.base.specs.Lists.{or_else}
use Rattle.base.specs.Alls.{All}
use Rattle.definition.specs.Limits.{slot_bytes, most_listed}
use Rattle.definition.specs.Blocks.{head_bytes}
use Rattle.definition.specs.Texts.{Text}
use Rattle.definition.specs.Tables.{Class, Decomposition, Tables}
use Rattle.definition.specs.Edges.{State}
use Rattle.definition.specs.Decomposing.{lattice}
use Rattle.definition.specs.Bounds.{Sound}
use Rattle.definition.specs.Listing.{shown}
use Rattle.definition.specs.Refusals.{Refusal, refuse, refused_listing, refused_output}
use Rattle.definition.specs.Capacity.{overflow}
use Rattle.definition.specs.Call.{Inputs, Called, tables, decompositions, characters, before_text, refusal, refused, uncounted, written, within_room, with_lattice, accepted, unless_refused, called}
use Rattle.definition.specs.Call.{text_refusal}
use Rattle.lent_bytes.specs.Puts.{put_at}
use Rattle.edge.specs.Answers.{fits}
use Rattle.edge.specs.Slots.{edges_of}
use Rattle.edge.specs.Stored.{edge_count}
use Rattle.passes.specs.Reached.{Reached}
use Rattle.output.specs.Shows.{Shows}
use Rattle.jettyfig.specs.declared.Answer.{Answer}
use Rattle.jettyfig.specs.Verdicts.{done, refusing, returned}

-- a refusal over an output of zeros
module _ (i : Inputs) (out : List ℕ) (h : out ≡ replicate i.out 0) where
  pub as_refused : (n p : ℕ) → returned (refusing n p) out ≡ refused i (refuse n p)
  unfolding refused
  as_refused n p = ap (returned (refusing n p)) h

-- zeros from a place on
pub drop-zeros : (k n : ℕ) → drop k (replicate {A = ℕ} n 0) ≡ replicate (n - k) 0
drop-zeros zero n = ap (λ (m : ℕ). replicate {A = ℕ} m 0) {x = n} {y = n - 0} (omega arith)
drop-zeros (suc k) zero = ap (λ (m : ℕ). replicate {A = ℕ} m 0) {x = 0} {y = 0 - suc k} (omega arith)
drop-zeros (suc k) (suc n) = drop-zeros k n ∙ ap (λ (m : ℕ). replicate {A = ℕ} m 0) {x = n - k} {y = suc n - suc k} (omega arith)

-- What is shown: where it fits and where it doesn't
module _ (w out out' : List ℕ) (r : ℕ) (s : Shows w out out' r) (h : out ≡ replicate (length out) 0) (i : Inputs) (l : i.out ≡ length out) where
  over_zeros : length w ≤ length out → out' ≡ w ++ replicate (i.out - length w) 0
  unfolding put_at
  over_zeros k =
      s.written k
      ∙ ap (λ (z : List ℕ). w ++ drop (0 + length w) z) h
      ∙ ap (◌++◌ w) (drop-zeros (0 + length w) (length out) ∙ ap (λ (m : ℕ). replicate {A = ℕ} m 0) {x = length out - (0 + length w)} {y = i.out - length w} (omega (arith, l)))

  pub shown_large : (n : ℕ) (z : List ℕ) → z ≡ replicate (length out') 0 → uncounted i.mode w ≡ true → returned (refusing refused_listing 0) z ≡ written i n w
  unfolding written pick refused
  shown_large n z e u = rw u (ap (returned (refusing refused_listing 0)) (e ∙ ap (λ (m : ℕ). replicate {A = ℕ} m 0) (s.kept ∙ sym l)))

  pub shown-fits : (n : ℕ) → uncounted i.mode w ≡ false → r ≤ length out' → returned (done r n) out' ≡ written i n w
  unfolding written pick
  shown-fits n u k = rw (u, le-ltb i.out (length w) (omega (arith, k, l, s.needed, s.kept)))
      (ap (λ (m : ℕ). returned (done m n) out') s.needed ∙ ap (returned (done (length w) n)) (over_zeros (omega (arith, k, s.needed, s.kept))))

  pub shown_misses : (n : ℕ) (z : List ℕ) → z ≡ replicate (length out') 0 → uncounted i.mode w ≡ false → length out' < r → returned (refusing refused_output r) z ≡ written i n w
  unfolding written pick refused
  shown_misses n z e u k = rw (u, lt-ltb i.out (length w) (omega (arith, k, l, s.needed, s.kept)))
      (ap (λ (m : ℕ). returned (refusing refused_output m) z) s.needed
      ∙ ap (returned (refusing refused_output (length w))) (e ∙ ap (λ (m : ℕ). replicate {A = ℕ} m 0) (s.kept ∙ sym l)))

-- What is built: a refusal of slots or room, or the lattice
module _ (i : Inputs) (D : Tables) (t : Text) where
  abbrev ds : List Decomposition
  ds = decompositions i

  abbrev built : Option Refusal
  built = overflow D ds t (i.slots / slot_bytes) i.room (lattice D ds t).0

  pub built-refused : (x : Refusal) → built ≡ some x → refused i x ≡ accepted i D t
  unfolding accepted with_lattice within_room
  built-refused x e = sym (ap (within_room i D t (lattice D ds t)) e)

  pub built-all : built ≡ none → written i (length (lattice D ds t).0) (shown D t i.mode (lattice D ds t)) ≡ accepted i D t
  unfolding accepted with_lattice within_room
  built-all e = sym (ap (within_room i D t (lattice D ds t)) e)

-- a lattice that is in the slots has found room
module _ {ks : List Class} {n : ℕ} {S R S' R' P' : List ℕ} {most : ℕ} {st : State} {c u : ℕ} (b : Reached ks n S R S' R' P' most st (fits c u)) where
  pub reached-count : c ≡ length st.0
  reached-count = sym (edge_count S' R' c) ∙ ap length b.came.0.edges

  pub reached_sound : (k : ℕ) → All (Sound k) st.0 → All (Sound k) (edges_of R' c S')
  reached_sound k h = subst (All (Sound k)) (sym b.came.0.edges) h

-- What is refused before any edge is built: of mode, choices, tables and code, or else of the text
module _ (i : Inputs) where
  abbrev first : Option Refusal
  first = before_text i.mode i.choices i.rules i.classes i.vowels i.decompositions i.code

  pub first-refused : (x : Refusal) → first ≡ some x → refusal i ≡ some x
  unfolding refusal
  first-refused x e = ap (λ o. or_else o (text_refusal i.text)) e

  pub then-text : first ≡ none → refusal i ≡ text_refusal i.text
  unfolding refusal
  then-text e = ap (λ o. or_else o (text_refusal i.text)) e

  -- and so the call
  pub call-refused : (x : Refusal) → refusal i ≡ some x → refused i x ≡ called i
  unfolding called unless_refused
  call-refused x e = sym (ap (unless_refused i) e)

  pub call-accepted : refusal i ≡ none → accepted i (tables i) (characters i) ≡ called i
  unfolding called unless_refused
  call-accepted e = sym (ap (unless_refused i) e)

-- Any two results that the call's contract admits coincide
abbrev answer_of : Called → Answer
answer_of c = record { number = c.number; place = c.place; length = c.length; edges = c.edges }

pub coincide : (i : Inputs) (a b : Answer) (x y : List ℕ) → returned a x ≡ called i → returned b y ≡ called i → (a ≡ b) × (x ≡ y)
coincide i a b x y p q = (ap answer_of (p ∙ sym q), ap (λ (c : Called). c.output) (p ∙ sym q))

-- A listing of `n` bytes, by what its rows and its header have at most
pub counted-by : (m : ℕ) (w : List ℕ) (n : ℕ) → n ≡ length w → (m ≡ 0 → ⊥) → ltb (head_bytes + most_listed) n ≡ uncounted m w
unfolding uncounted
counted-by m w n e h = rw (ne_eqb m 0 h) (go (ltb (head_bytes + most_listed) n) refl)
  where
    go : (b : Bool) → ltb (head_bytes + most_listed) n ≡ b → b ≡ ltb most_listed (length (drop head_bytes w))
    go true q = let l = ltb-true (head_bytes + most_listed) n q in sym (lt-ltb most_listed (length (drop head_bytes w)) (omega (arith, e, length-drop head_bytes w)))
    go false q = let l = ltb-false (head_bytes + most_listed) n q in sym (le-ltb most_listed (length (drop head_bytes w)) (omega (arith, e, length-drop head_bytes w)))
