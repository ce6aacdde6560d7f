-- An edge that did not fit is the first that the definition's scan finds no slot or room for, whatever comes after it.
use Prim.Native.Nat.{ℕ, zero, suc, ◌+◌, ◌-◌, ◌*◌, ◌/◌, ◌≤◌}
use Rattle.std.specs.Prelude.{Ok, Err, Bool, List, [], ◌∷◌, ◌++◌, ◌≡◌}
use Rattle.std.proofs.Math.Bool.{true, false}
use Rattle.std.proofs.Math.Option.{Option, none, some}
use Rattle.std.proofs.Math.Path.{refl, ap}
use Rattle.std.proofs.Common.{sym, ◌∙◌}
use native.Mathlib.Omega.{arith}
use Rattle.std.proofs.Math.Dec.{leb}
use Rattle.std.proofs.Math.ListN.{length}
use borrow.Author.Tests.{le-leb, leb-true, leb-false}
use Rattle.base.specs.Pick.{pick}
use Rattle.base.specs.Lists.{any}
use Rattle.definition.specs.Limits.{slot_bytes}
use Rattle.definition.specs.Edges.{Edge, starting, alike, new_in, add}
use Rattle.definition.specs.Refusals.{Refusal, refuse, refused_slots, refused_room}
use Rattle.definition.specs.Capacity.{bytes, misfit}
use Rattle.definition.specs.Growth.{all_bytes, misfit-after}
use Rattle.edge.specs.declared.Numbers.{Numbers}
use Rattle.edge.specs.Answers.{Answer, fits}
use Rattle.edge.specs.declared.Full.TheVariants.{Slots, Room}
use Rattle.edge.specs.Slots.{edge_by, edges_of}
use Rattle.edge.specs.Stored.{Stored, edge_count}
use Rattle.edge.specs.Adding.{there, slot_left, room_left, answer, added, Writable, written-bytes}

module _ (x : Edge) (l : List Edge) (r : ℕ) where
  too_long : (k : ℕ) → leb (bytes x) r ≡ false → misfit (suc k) r (x ∷ l) ≡ some (refuse refused_room x.from)
  unfolding misfit
  too_long k h = ap (λ (b : Bool). elim b as (λ _. Option Refusal) [ true ↦ misfit k (r - bytes x) l | false ↦ some (refuse refused_room x.from) ]) h

-- edges for which there are slots and bytes fit
all_fit : (es : List Edge) (k r : ℕ) → length es ≤ k → all_bytes es ≤ r → misfit k r es ≡ none
unfolding misfit all_bytes
all_fit [] k r h g = refl
all_fit (x ∷ es) zero r h g = absurd (omega arith)
all_fit (x ∷ es) (suc k) r h g =
    ap (λ (b : Bool). elim b as (λ _. Option Refusal) [ true ↦ misfit k (r - bytes x) es | false ↦ some (refuse refused_room x.from) ])
    (le-leb (bytes x) r (omega arith))
    ∙ all_fit es k (r - bytes x) (omega arith) (omega arith)

-- so what is stored fits
pub stored_fits : (slots room : List ℕ) (count used : ℕ) → Stored slots room count used
    → misfit (length slots / slot_bytes) (length room) (edges_of room count slots) ≡ none
stored_fits slots room count used st =
    all_fit (edges_of room count slots) (length slots / slot_bytes) (length room)
    (omega (arith, st.slot, edge_count slots room count)) (omega (arith, st.within, st.sum))

module _ (slots room : List ℕ) (count used : ℕ) (e : Numbers) (text : List ℕ)
    (st : Stored slots room count used) (w : Writable used e text) where
  abbrev es : List Edge
  es = edges_of room count slots

  abbrev x : Edge
  x = edge_by e text

  -- an edge that did not fit, refused with number `n`: it is new, and the scan ends at it
  pub record Stopped (n : ℕ) : Type 0 where
    pub new : add es (some x) ≡ es ++ x ∷ []
    pub scan : (l : List Edge) → misfit (length slots / slot_bytes) (length room) (es ++ x ∷ l) ≡ some (refuse n e.from)

  left : (l : List Edge) → misfit (length slots / slot_bytes) (length room) (es ++ x ∷ l) ≡ misfit (length slots / slot_bytes - count) (length room - used) (x ∷ l)
  left l =
      let a = edge_count slots room count in
      misfit-after (length slots / slot_bytes) (length room) es (x ∷ l) (stored_fits slots room count used st)
      ∙ ap (λ n. misfit (length slots / slot_bytes - n) (length room - all_bytes es) (x ∷ l)) a
      ∙ ap (λ n. misfit (length slots / slot_bytes - count) (length room - n) (x ∷ l)) (sym st.sum)

  is-new : any (alike x) (starting es x.from) ≡ false → add es (some x) ≡ es ++ x ∷ []
  unfolding add new_in pick
  is-new e = rw e

  unslotted : slot_left (length slots) count ≡ false → (l : List Edge)
      → misfit (length slots / slot_bytes) (length room) (es ++ x ∷ l) ≡ some (refuse refused_slots e.from)
  unfolding misfit slot_left edge_by
  unslotted h l =
      let k = leb-false slot_bytes (length slots - count * slot_bytes) h in
      let z : length slots / slot_bytes - count ≡ 0 = omega arith in
      left l ∙ ap (λ n. misfit n (length room - used) (x ∷ l)) z

  roomless : slot_left (length slots) count ≡ true → room_left (length room) used (length text) ≡ false → (l : List Edge)
      → misfit (length slots / slot_bytes) (length room) (es ++ x ∷ l) ≡ some (refuse refused_room e.from)
  unfolding slot_left room_left edge_by
  roomless h k l =
      let j = leb-true slot_bytes (length slots - count * slot_bytes) h in
      let z : length slots / slot_bytes - count ≡ suc (length slots / slot_bytes - count - 1) = omega arith in
      left l ∙ ap (λ n. misfit n (length room - used) (x ∷ l)) z
      ∙ too_long x l (length room - used) (length slots / slot_bytes - count - 1)
      (ap (λ n. leb n (length room - used)) (written-bytes used e text w) ∙ k)

  -- what adding answered
  abbrev pub Told : Answer → Type 0
  Told (Ok t) = Unit {0}
  Told (Err (Slots p)) = (p ≡ e.from) × Stopped 9
  Told (Err (Room p)) = (p ≡ e.from) × Stopped 10

  pub stopped : Told (added slots room count used e text)
  unfolding added answer pick there
  stopped = go (any (alike x) (starting es x.from)) (slot_left (length slots) count) (room_left (length room) used (length text)) refl refl refl
    where
      go : (t s r : Bool) → any (alike x) (starting es x.from) ≡ t → slot_left (length slots) count ≡ s
          → room_left (length room) used (length text) ≡ r
          → Told (pick t (fits count used) (pick s (pick r (fits (count + 1) (used + length text)) (Err (Room e.from))) (Err (Slots e.from))))
      go true s r a b c = tt
      go false true true a b c = tt
      go false true false a b c = (refl, record { new = is-new a; scan = roomless b c })
      go false false r a b c = (refl, record { new = is-new a; scan = unslotted b })
