-- One more edge: what adding answers, what it does to the bytes, and to the edges.
use Rattle.std.specs.Prelude.{Err, ℕ, suc, ◌+◌, ◌-◌, ◌*◌, ◌/◌, ◌%◌, ◌<◌, ◌≤◌, Bool, not, ◌&&◌, List, [], ◌∷◌, ◌++◌, leb, take, drop}
use Rattle.std.proofs.Math.Bool.{true, false}
use Rattle.std.proofs.Math.Option.{some}
use Rattle.std.proofs.Math.Path.{◌≡◌, refl, sym, subst}
use Rattle.std.proofs.Common.{ap, ◌∙◌}
use native.Mathlib.Omega.{arith}
use Rattle.std.proofs.Math.Numerals.{add-one}
use Rattle.std.proofs.Math.ListN.{length, length-append}
use borrow.Author.Tests.{le-leb, lt-leb, leb-true}
use Rattle.base.specs.Pick.{pick}
use Rattle.base.specs.Lists.{any}
use Rattle.base.specs.Big.{two, three, four}
use Rattle.definition.specs.Limits.{slot_bytes}
use Rattle.definition.specs.Edges.{Edge, starting, alike, new_in, add}
use Rattle.definition.specs.Capacity.{bytes}
use Rattle.definition.specs.Growth.{all_bytes}
use Rattle.utf8.specs.Encodings.{TextBytes}
use Rattle.lent_bytes.specs.Puts.{put_at, put-before, put-from, put-there, put-length}
use Rattle.edge.specs.declared.Numbers.{Numbers}
use Rattle.edge.specs.declared.Filled.{Filled}
use Rattle.edge.specs.Answers.{Answer, fits, fits-count, fits-used}
use Rattle.edge.specs.declared.Full.TheVariants.{Slots, Room}
use Rattle.edge.specs.Slots.{two_bytes, four_bytes, offset_of, length_of, bytes_of, edge_by, numbers_of, edge_of, edges_of, slot_of}
use Rattle.edge.specs.Counted.{counted_snoc, counted-agree, all_snoc, all-agree}
use Rattle.edge.specs.Stored.{Slot, Stored, edge-agree, slot-agree}

-- is an edge like it there; is a slot left; is enough room?
unfoldable pub there : List Edge → Edge → Bool
there es x = any (alike x) (starting es x.from)

unfoldable pub slot_left : ℕ → ℕ → Bool
slot_left slots count = leb slot_bytes (slots - count * slot_bytes)

unfoldable pub room_left : ℕ → ℕ → ℕ → Bool
room_left room used len = leb len (room - used)

-- The answers, in document 01's order
unfoldable pub answer : Bool → Bool → Bool → ℕ → ℕ → ℕ → ℕ → Answer
answer t s r count used start len =
    pick t (fits count used) (pick s (pick r (fits (count + 1) (used + len)) (Err (Room start))) (Err (Slots start)))

unfoldable pub enters : Bool → Bool → Bool → Bool
enters t s r = not t && (s && r)

module _ (slots room : List ℕ) (count used : ℕ) (e : Numbers) (text : List ℕ) where
  abbrev is_there : Bool
  is_there = there (edges_of room count slots) (edge_by e text)

  abbrev has_slot : Bool
  has_slot = slot_left (length slots) count

  abbrev has_room : Bool
  has_room = room_left (length room) used (length text)

  unfoldable pub added : Answer
  added = answer is_there has_slot has_room count used e.from (length text)

  -- slots and room afterwards
  unfoldable pub slots_after : List ℕ
  slots_after = pick (enters is_there has_slot has_room) (put_at (count * slot_bytes) (slot_of e used (length text)) slots) slots

  unfoldable pub room_after : List ℕ
  room_after = pick (enters is_there has_slot has_room) (put_at used text room) room

  -- All that adding does: it answers `r` and leaves the slots `S` and the room `R`
  abbrev pub Adds : Answer → List ℕ → List ℕ → Type 0
  Adds r S R = (r ≡ added) × (S ≡ slots_after) × (R ≡ room_after)

  -- One law for each way out
  pub kept : is_there ≡ true → Adds (fits count used) slots room
  unfolding added slots_after room_after answer enters pick
  kept a = (sym (rw a), sym (rw a), sym (rw a))

  module _ (a : is_there ≡ false) where
    pub unslotted : length slots - count * slot_bytes < slot_bytes → Adds (Err (Slots e.from)) slots room
    unfolding added slots_after room_after answer enters pick
    unslotted h =
        let b : has_slot ≡ false = unfold slot_left in lt-leb slot_bytes (length slots - count * slot_bytes) h in
        (sym (rw (a, b)), sym (rw (a, b)), sym (rw (a, b)))

    module _ (h : slot_bytes ≤ length slots - count * slot_bytes) where
      pub roomless : length room - used < length text → Adds (Err (Room e.from)) slots room
      unfolding added slots_after room_after answer enters pick
      roomless g =
          let b : has_slot ≡ true = unfold slot_left in le-leb slot_bytes (length slots - count * slot_bytes) h in
          let c : has_room ≡ false = unfold room_left in lt-leb (length text) (length room - used) g in
          (sym (rw (a, b, c)), sym (rw (a, b, c)), sym (rw (a, b, c)))

      pub entered : length text ≤ length room - used
          → Adds (fits (count + 1) (used + length text)) (put_at (count * slot_bytes) (slot_of e used (length text)) slots) (put_at used text room)
      unfolding added slots_after room_after answer enters pick
      entered g =
          let b : has_slot ≡ true = unfold slot_left in le-leb slot_bytes (length slots - count * slot_bytes) h in
          let c : has_room ≡ true = unfold room_left in le-leb (length text) (length room - used) g in
          (sym (rw (a, b, c)), sym (rw (a, b, c)), sym (rw (a, b, c)))

-- What can be written: numbers that their bytes hold, and a text in UTF-8
pub record Writable (used : ℕ) (e : Numbers) (text : List ℕ) : Type 0 where
  pub from : e.from < two_bytes
  pub to : e.to < two_bytes
  pub offset : used < four_bytes
  pub long : length text < two_bytes
  pub utf8 : TextBytes text

-- An edge may be added: those that are there are stored, it can be written, and it equals none of the first `since`
abbrev pub Addable : List ℕ → List ℕ → Filled → Numbers → List ℕ → Type 0
Addable slots room filled e text =
    Stored slots room filled.count filled.used × Writable filled.used e text × (filled.since ≤ filled.count)
    × (there (edges_of room filled.since slots) (edge_by e text) ≡ false)

pub written-bytes : (used : ℕ) (e : Numbers) (text : List ℕ) → Writable used e text → bytes (edge_by e text) ≡ length text
unfolding bytes edge_by
written-bytes used e text w = ap length w.utf8.whole

-- A new slot reads as what was written
module _ (used : ℕ) (e : Numbers) (text rest : List ℕ) (w : Writable used e text) where
  abbrev slot : List ℕ
  slot = slot_of e used (length text) ++ rest

  numbers-back : numbers_of slot ≡ e
  unfolding numbers_of slot_of two three four
  numbers-back =
      let a : e.from / 256 % 256 * 256 + e.from % 256 ≡ e.from = omega (arith, w.from) in
      let b : e.to / 256 % 256 * 256 + e.to % 256 ≡ e.to = omega (arith, w.to) in
      simp (a, b)

  offset_back : offset_of slot ≡ used
  unfolding slot_of two three four
  offset_back =
      let n = used in
      let a : n / 16777216 ≡ n / 65536 / 256 = omega arith in
      let b : n / 65536 ≡ n / 256 / 256 = omega arith in
      let c : n / 16777216 % 256 ≡ n / 16777216 = omega (arith, w.offset) in
      let d : n / 16777216 % 256 * 256 + n / 65536 % 256 ≡ n / 65536 = omega (arith, a, c) in
      let e : (n / 16777216 % 256 * 256 + n / 65536 % 256) * 256 + n / 256 % 256 ≡ n / 256 = omega (arith, b, d) in
      omega (arith, e)

  length_back : length_of slot ≡ length text
  unfolding slot_of two three four
  length_back = omega (arith, w.long)

  module _ (room : List ℕ) (h : take (length text) (drop used room) ≡ text) where
    bytes_back : bytes_of room slot ≡ text
    bytes_back =
        ap (λ n. take n (drop (offset_of slot) room)) length_back ∙ ap (λ o. take (length text) (drop o room)) offset_back ∙ h

    edge-back : edge_of room slot ≡ edge_by e text
    edge-back = ap (λ x. edge_by x (bytes_of room slot)) numbers-back ∙ ap (edge_by e) bytes_back

    slot-back : Slot room (used + length text) slot
    unfolding slot_of two three four
    slot-back = record {
      row = omega (arith, length-append (slot_of e used (length text)) rest);
      inside = omega (arith, offset_back, length_back);
      text = subst TextBytes (sym bytes_back) w.utf8;
    }

bytes_snoc : (l : List Edge) (x : Edge) → all_bytes (l ++ x ∷ []) ≡ all_bytes l + bytes x
unfolding all_bytes
bytes_snoc [] x = omega arith
bytes_snoc (y ∷ l) x = let e = bytes_snoc l x in omega (arith, e)

module _ (slots room : List ℕ) (count used : ℕ) (e : Numbers) (text : List ℕ)
    (st : Stored slots room count used) (w : Writable used e text) where
  -- Where it goes in
  module _ (h : slot_left (length slots) count ≡ true) (k : room_left (length room) used (length text) ≡ true) where
    abbrev slots' : List ℕ
    slots' = put_at (count * slot_bytes) (slot_of e used (length text)) slots

    abbrev room' : List ℕ
    room' = put_at used text room

    a_slot : count * slot_bytes + slot_bytes ≤ length slots
    unfolding slot_left
    a_slot = omega (arith, leb-true slot_bytes (length slots - count * slot_bytes) h)

    its_room : used + length text ≤ length room
    unfolding room_left
    its_room = omega (arith, leb-true (length text) (length room - used) k, st.within)

    slots_stay : take (count * slot_bytes) slots ≡ take (count * slot_bytes) slots'
    slots_stay = sym (put-before (count * slot_bytes) (slot_of e used (length text)) slots st.slot)

    room_stays : take used room ≡ take used room'
    room_stays = sym (put-before used text room st.within)

    abbrev rest : List ℕ
    rest = drop (count * slot_bytes + length (slot_of e used (length text))) slots

    new-slot : drop (count * slot_bytes) slots' ≡ slot_of e used (length text) ++ rest
    new-slot = put-from (count * slot_bytes) (slot_of e used (length text)) slots st.slot

    text-there : take (length text) (drop used room') ≡ text
    text-there = put-there used text room st.within

    edges_stay : edges_of room count slots ≡ edges_of room' count slots'
    edges_stay = counted-agree slot_bytes (edge_of room) (edge_of room') (Slot room used)
        (λ s s' f. edge-agree room room' used room_stays s s' f) count slots slots' slots_stay st.rows

    one_more : edges_of room' (suc count) slots' ≡ edges_of room count slots ++ edge_by e text ∷ []
    one_more =
        counted_snoc slot_bytes (edge_of room') count slots'
        ∙ ap (λ (l : List Edge). l ++ edge_of room' (drop (count * slot_bytes) slots') ∷ []) (sym edges_stay)
        ∙ ap (λ (x : Edge). edges_of room count slots ++ x ∷ [])
        (ap (edge_of room') new-slot ∙ edge-back used e text rest w room' text-there)

    still_stored : Stored slots' room' (suc count) (used + length text)
    unfolding slot_of two three four
    still_stored = record {
      rows = all_snoc slot_bytes (Slot room' (used + length text)) count slots'
          (all-agree slot_bytes (Slot room used) (Slot room' (used + length text))
          (λ s s' f. slot-agree room room' used room_stays s s' f (used + length text) (omega arith)) count slots slots' slots_stay st.rows)
          (subst (Slot room' (used + length text)) (sym new-slot) (slot-back used e text rest w room' text-there));
      slot = omega (arith, a_slot, put-length (count * slot_bytes) (slot_of e used (length text)) slots a_slot);
      within = omega (arith, its_room, put-length used text room its_room);
      sum = sym (ap all_bytes one_more ∙ bytes_snoc (edges_of room count slots) (edge_by e text) ∙ (omega (arith, st.sum, written-bytes used e text w)));
    }

  abbrev es : List Edge
  es = edges_of room count slots

  abbrev x : Edge
  x = edge_by e text

  -- the edges afterwards are those with this one added, and they are stored
  abbrev Grown : List ℕ → List ℕ → ℕ → ℕ → Type 0
  Grown S R n u = (edges_of R n S ≡ add es (some x)) × Stored S R n u

  settled : (S R : List ℕ) (a b n u : ℕ) → fits a b ≡ fits n u → Grown S R a b → Grown S R n u
  settled S R a b n u q g =
      subst (λ (m : ℕ). Grown S R m u) (fits-count q) (subst (Grown S R a) (fits-used q) g)

  pub grown : (n u : ℕ) → added slots room count used e text ≡ fits n u
      → Grown (slots_after slots room count used e text) (room_after slots room count used e text) n u
  unfolding added slots_after room_after answer enters pick add new_in there
  grown n u q = go (any (alike x) (starting es x.from)) (slot_left (length slots) count) (room_left (length room) used (length text)) refl refl refl q
    where
      go : (t s r : Bool) → any (alike x) (starting es x.from) ≡ t → slot_left (length slots) count ≡ s
          → room_left (length room) used (length text) ≡ r
          → pick t (fits count used) (pick s (pick r (fits (count + 1) (used + length text)) (Err (Room e.from))) (Err (Slots e.from))) ≡ fits n u
          → Grown (pick (not t && (s && r)) (put_at (count * slot_bytes) (slot_of e used (length text)) slots) slots)
          (pick (not t && (s && r)) (put_at used text room) room) n u
      go true s r a b c q = settled slots room count used n u q (sym (ap (λ t. pick t es (es ++ x ∷ [])) a), st)
      go false true true a b c q = settled _ _ (count + 1) (used + length text) n u q
          (rw add-one (one_more b c ∙ sym (ap (λ t. pick t es (es ++ x ∷ [])) a)), rw add-one (still_stored b c))
      go false true false a b c q = absurd (let z : ◌≡◌ {A = ℕ} 0 1 = cc in omega arith)
      go false false r a b c q = absurd (let z : ◌≡◌ {A = ℕ} 0 1 = cc in omega arith)

  -- slots and room keep their lengths
  pub slots_after-length : length (slots_after slots room count used e text) ≡ length slots
  unfolding slots_after enters pick slot_of two three four
  slots_after-length = go (there es x) (slot_left (length slots) count) (room_left (length room) used (length text)) refl refl
    where
      go : (t s r : Bool) → slot_left (length slots) count ≡ s → room_left (length room) used (length text) ≡ r
          → length (pick (not t && (s && r)) (put_at (count * slot_bytes) (slot_of e used (length text)) slots) slots) ≡ length slots
      go true s r a b = refl
      go false true true a b = put-length (count * slot_bytes) (slot_of e used (length text)) slots (a_slot a b)
      go false true false a b = refl
      go false false r a b = refl

  pub room_after-length : length (room_after slots room count used e text) ≡ length room
  unfolding room_after enters pick
  room_after-length = go (there es x) (slot_left (length slots) count) (room_left (length room) used (length text)) refl refl
    where
      go : (t s r : Bool) → slot_left (length slots) count ≡ s → room_left (length room) used (length text) ≡ r
          → length (pick (not t && (s && r)) (put_at used text room) room) ≡ length room
      go true s r a b = refl
      go false true true a b = put-length used text room (its_room a b)
      go false true false a b = refl
      go false false r a b = refl

  -- no more is used than the text takes
  pub added_used : (n u : ℕ) → added slots room count used e text ≡ fits n u → u ≤ used + length text
  unfolding added answer pick
  added_used n u q = go (there es x) (slot_left (length slots) count) (room_left (length room) used (length text)) q
    where
      go : (t s r : Bool) → pick t (fits count used) (pick s (pick r (fits (count + 1) (used + length text)) (Err (Room e.from))) (Err (Slots e.from))) ≡ fits n u
          → u ≤ used + length text
      go true s r q = let p = fits-used q in omega arith
      go false true true q = let p = fits-used q in omega arith
      go false true false q = absurd (let z : ◌≡◌ {A = ℕ} 0 1 = cc in omega arith)
      go false false r q = absurd (let z : ◌≡◌ {A = ℕ} 0 1 = cc in omega arith)
