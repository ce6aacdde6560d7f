-- `first_pass::add_from`: what is left of the rising ends does what all of them do.
use mathlib.Core.Path.{◌≡◌}
use Prim.Native.Nat.{◌+◌, ◌-◌, ◌*◌, ◌≤◌}
use lib.ListN.{length}
use Rattle.definition.specs.Limits.{most_source, most_bytes}
use Rattle.definition.specs.Building.{build}
use Rattle.definition.specs.Call.{tables_of}
use Rattle.words.specs.Given.{World, kinds, size}
use Rattle.passes.specs.Reached.{Over, state_of}
use Rattle.passes.proofs.Passing.{Going}
use Rattle.first_pass.specs.Rises.{rises}
use Rattle.first_pass.specs.Fresh.{Fresh}
use Rattle.first_pass.proofs.add_from.Given as goal

abbrev pub invariant-loop-e : goal.invariant-loop-e
invariant-loop-e l =
    ((w : World) → Over w l.dicts.ready.now l.line l.initial.slots l.initial.room l.initial.places l.fn.filled
    → Going (rises (tables_of w.choices l.dicts.rules.now w.classes l.dicts.vowels.now l.dicts.code.now) w.text l.s l.e (l.s + 1 + most_source - l.e)) (kinds w) (size w)
    l.initial.slots l.initial.room (build (tables_of w.choices l.dicts.rules.now w.classes l.dicts.vowels.now l.dicts.code.now) w.text l.s (state_of w l.initial.places))
    l.slots l.room l.places l.taken.count l.taken.used)
    × Fresh l.s l.slots l.room (record { count = l.taken.count; used = l.taken.used; since = l.fn.filled.since })
    × (l.taken.used + (l.s + 1 + most_source - l.e) * most_bytes ≤ l.fn.filled.used + most_source * most_bytes)
    × (length l.slots ≡ length l.initial.slots) × (length l.room ≡ length l.initial.room) × (length l.places ≡ length l.initial.places)
