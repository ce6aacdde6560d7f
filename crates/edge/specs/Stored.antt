-- Slots and text room that hold edges: each slot's text lies within the used part of the room, and is UTF-8.
use Rattle.std.specs.Prelude.{ℕ, ◌+◌, ◌-◌, ◌*◌, ◌<◌, ◌≤◌, min, List, ◌≡◌, refl, get_or, take, drop}
use Rattle.std.proofs.Common.{sym, ◌∙◌, subst, arith, length-drop, length-take, take-take, get_or-take, length-take-le}
use Rattle.std.proofs.Math.Path.{ap}
use Rattle.std.proofs.Math.ListN.{length}
use Rattle.base.specs.ListLaws.{drop-take}
use Rattle.base.specs.Rows.{counted, counted-length, AllOf}
use Rattle.definition.specs.Limits.{slot_bytes}
use Rattle.definition.specs.Utf8.{encoded}
use Rattle.definition.specs.Capacity.{bytes}
use Rattle.definition.specs.Growth.{all_bytes}
use Rattle.utf8.specs.Encodings.{TextBytes}
use Rattle.edge.specs.Slots.{offset_of, length_of, bytes_of, edge_by, numbers_of, edge_of, edges_of}

pub record Slot (room : List ℕ) (used : ℕ) (s : List ℕ) : Type 0 where
  pub row : slot_bytes ≤ length s
  pub inside : offset_of s + length_of s ≤ used
  pub text : TextBytes (bytes_of room s)

pub record Stored (slots room : List ℕ) (count used : ℕ) : Type 0 where
  pub rows : AllOf (Slot room used) slot_bytes count slots
  pub slot : count * slot_bytes ≤ length slots
  pub within : used ≤ length room
  pub sum : used ≡ all_bytes (edges_of room count slots)

-- at first there is none
pub none_stored : (slots room : List ℕ) → Stored slots room 0 0
unfolding AllOf counted all_bytes
none_stored slots room = record { rows = tt; slot = omega arith; within = omega arith; sum = refl }

pub edge_count : (slots room : List ℕ) (count : ℕ) → length (edges_of room count slots) ≡ count
edge_count slots room count = counted-length (edge_of room) slot_bytes count slots

-- a slot's text as bytes, and how many these are
module _ (room s : List ℕ) (used : ℕ) (h : Slot room used s) (l : used ≤ length room) where
  pub slot-encoded : encoded (edge_of room s).text ≡ bytes_of room s
  unfolding edge_by
  slot-encoded = h.text.whole

  pub slot-length : length (bytes_of room s) ≡ length_of s
  slot-length = length-take-le (length_of s) (drop (offset_of s) room) (let i = h.inside in omega (arith, length-drop (offset_of s) room))

  pub slot-size : bytes (edge_of room s) ≡ length_of s
  unfolding bytes
  slot-size = ap length slot-encoded ∙ slot-length

-- slots whose bytes agree, and rooms that agree over the used part
module _ (room room' : List ℕ) (used : ℕ) (e : take used room ≡ take used room') where
  part-agree : (o n : ℕ) → o + n ≤ used → take n (drop o room) ≡ take n (drop o room')
  part-agree o n h = sym (within room) ∙ ap (λ (l : List ℕ). take n (drop o l)) e ∙ within room'
    where
      within : (l : List ℕ) → take n (drop o (take used l)) ≡ take n (drop o l)
      within l =
          ap (λ (k : ℕ). take n (drop o (take k l))) {x = used} {y = o + (used - o)} (omega arith)
          ∙ ap (take n) (drop-take o (used - o) l) ∙ take-take n (used - o) (drop o l) (omega arith)

  module _ (s s' : List ℕ) (f : take slot_bytes s ≡ take slot_bytes s') where
    same_byte : (i : ℕ) → i < slot_bytes → get_or s i 0 ≡ get_or s' i 0
    same_byte i h = sym (get_or-take slot_bytes s i 0 h) ∙ ap (λ (l : List ℕ). get_or l i 0) f ∙ get_or-take slot_bytes s' i 0 h

    numbers-agree : numbers_of s ≡ numbers_of s'
    unfolding numbers_of
    numbers-agree = simp (
      same_byte 0 (omega arith),
      same_byte 1 (omega arith),
      same_byte 2 (omega arith),
      same_byte 3 (omega arith),
      same_byte 10 (omega arith),
      same_byte 11 (omega arith),
    )

    offset_agree : offset_of s ≡ offset_of s'
    offset_agree = simp (same_byte 4 (omega arith), same_byte 5 (omega arith), same_byte 6 (omega arith), same_byte 7 (omega arith))

    length-agree : length_of s ≡ length_of s'
    length-agree = simp (same_byte 8 (omega arith), same_byte 9 (omega arith))

    bytes-agree : Slot room used s → bytes_of room s ≡ bytes_of room' s'
    bytes-agree h =
        part-agree (offset_of s) (length_of s) h.inside
        ∙ ap (λ n. take n (drop (offset_of s) room')) length-agree ∙ ap (λ o. take (length_of s') (drop o room')) offset_agree

    pub edge-agree : Slot room used s → edge_of room s ≡ edge_of room' s'
    edge-agree h = ap (λ e. edge_by e (bytes_of room s)) numbers-agree ∙ ap (edge_by (numbers_of s')) (bytes-agree h)

    pub slot-agree : (more : ℕ) → used ≤ more → Slot room used s → Slot room' more s'
    slot-agree more l h =
        let k : min slot_bytes (length s) ≡ min slot_bytes (length s') = sym (length-take slot_bytes s) ∙ ap length f ∙ length-take slot_bytes s' in
        record {
          row = omega (arith, h.row, k);
          inside = omega (arith, h.inside, offset_agree, length-agree);
          text = subst TextBytes (bytes-agree h) h.text;
        }
