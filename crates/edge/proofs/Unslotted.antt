-- What adding answers, and that nothing is written, where no slot is left: named on `add_edge`, so that no answer there
-- hangs on the words of its condition.
use Prim.Native.Nat.{ℕ, ◌-◌, ◌*◌, ◌<◌}
use mathlib.Core.Bool.{false}
use mathlib.Core.List.{List}
use mathlib.Core.Path.{◌≡◌, sym}
use lib.ListN.{length}
use Rattle.definition.specs.Limits.{slot_bytes}
use Rattle.edge.specs.declared.Numbers.{Numbers}
use Rattle.std.specs.Prelude.{Err}
use Rattle.edge.specs.declared.Full.TheVariants.{Slots}
use Rattle.edge.specs.Slots.{edge_by, edges_of}
use Rattle.edge.specs.Adding.{there, added, slots_after, room_after, unslotted}

module _ (slots room : List ℕ) (count used : ℕ) (e : Numbers) (text : List ℕ) where
  pub answer_unslotted : there (edges_of room count slots) (edge_by e text) ≡ false → length slots - count * slot_bytes < slot_bytes
      → added slots room count used e text ≡ Err (Slots e.from)
  answer_unslotted a h = sym (unslotted slots room count used e text a h).0

  pub slots_unslotted : there (edges_of room count slots) (edge_by e text) ≡ false → length slots - count * slot_bytes < slot_bytes
      → slots_after slots room count used e text ≡ slots
  slots_unslotted a h = sym (unslotted slots room count used e text a h).1

  pub room_unslotted : there (edges_of room count slots) (edge_by e text) ≡ false → length slots - count * slot_bytes < slot_bytes
      → room_after slots room count used e text ≡ room
  room_unslotted a h = sym (unslotted slots room count used e text a h).2
