-- `second_pass::add_rom_fall_back_singles`: what is left of the starts does what all of them do, and each fallback has the next number.
use mathlib.Core.List.{List}
use mathlib.Core.Path.{◌≡◌}
use Prim.Native.Nat.{ℕ, ◌+◌, ◌-◌, ◌*◌, ◌≤◌}
use lib.ListN.{length, drop}
use Rattle.definition.specs.Limits.{most_bytes}
use Rattle.definition.specs.Utf8.{encoded}
use Rattle.definition.specs.Building.{each, fall}
use Rattle.definition.specs.Call.{tables_of}
use Rattle.edge.specs.Slots.{edges_of}
use Rattle.words.specs.Given.{World, kinds, size}
use Rattle.passes.specs.Reached.{Over, state_of}
use Rattle.passes.proofs.Passing.{Going}
use Rattle.second_pass.specs.Fallback.{chars_in}
use Rattle.second_pass.proofs.Falling.{Behind}
use Rattle.second_pass.proofs.add_rom_fall_back_singles.Given as goal

abbrev pub invariant-loop-p : goal.invariant-loop-p
invariant-loop-p l =
    ((vowels : List ℕ) (w : World) → Over w l.dicts.ready.now l.line l.initial.slots l.initial.room l.initial.places (record { count = l.first; used = l.fn.filled.used; since = 0 })
    → Going (each (fall (tables_of w.choices l.dicts.rules.now w.classes vowels l.dicts.code.now) w.text) (l.n - l.p) l.p) (kinds w) (size w) l.initial.slots l.initial.room
    (each (fall (tables_of w.choices l.dicts.rules.now w.classes vowels l.dicts.code.now) w.text) (size w) 0 (state_of w l.initial.places)) l.slots l.room l.places l.taken.count l.taken.used)
    × Behind (edges_of l.initial.room l.first l.initial.slots) l.n l.slots l.room l.taken.count l.p l.starts
    × (l.taken.used ≤ l.fn.filled.used + l.p * most_bytes) × (drop l.at l.text ≡ encoded (drop l.p (chars_in l.line))) × (l.at ≤ l.p * 4)
    × (length l.slots ≡ length l.initial.slots) × (length l.room ≡ length l.initial.room) × (length l.places ≡ length l.initial.places) × (length l.starts ≡ length l.initial.starts)
