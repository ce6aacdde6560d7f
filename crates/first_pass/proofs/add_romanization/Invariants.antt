-- `first_pass::add_romanization`: what is left of the stretch does what all of it does.
use mathlib.Core.Path.{◌≡◌}
use Prim.Native.Nat.{◌+◌, ◌-◌, ◌*◌, ◌≤◌}
use lib.ListN.{length, set}
use Rattle.base.specs.Alls.{All}
use Rattle.definition.specs.Limits.{most_source, most_bytes}
use Rattle.definition.specs.Building.{each, build}
use Rattle.definition.specs.Call.{tables_of}
use Rattle.edge.specs.Slots.{edges_of}
use Rattle.words.specs.Given.{World, kinds, size, size_in}
use Rattle.standing.specs.Begun.{Begun}
use Rattle.standing.specs.Stands.{Ahead}
use Rattle.passes.specs.Reached.{Over, state_of}
use Rattle.passes.proofs.Passing.{Going}
use Rattle.first_pass.specs.FirstPass.{filled_of}
use Rattle.first_pass.proofs.add_romanization.Given as goal

abbrev pub invariant-loop-s : goal.invariant-loop-s
invariant-loop-s l =
    let x = l.fn.stretch in
    ((w : World) → Over w l.dicts.ready.now l.line l.initial.slots l.initial.room l.initial.places (filled_of x)
    → Going (each (build (tables_of w.choices l.dicts.rules.now w.classes l.dicts.vowels.now l.dicts.code.now) w.text) (x.to - l.s) l.s) (kinds w) (size w) l.initial.slots l.initial.room
    (each (build (tables_of w.choices l.dicts.rules.now w.classes l.dicts.vowels.now l.dicts.code.now) w.text) (x.to - x.from) x.from (state_of w l.initial.places))
    l.slots l.room l.places l.taken.count l.taken.used)
    × Begun (edges_of l.room l.taken.count l.slots) l.s (set l.starts l.s l.taken.count) × (length l.starts ≡ size_in l.line + 1)
    × All (λ x. Ahead (size_in l.line) x.from x.to) (edges_of l.room l.taken.count l.slots)
    × (l.taken.count ≤ x.count + (l.s - x.from) * most_source) × (l.taken.used ≤ x.used + (l.s - x.from) * (most_source * most_bytes))
    × (length l.slots ≡ length l.initial.slots) × (length l.room ≡ length l.initial.room) × (length l.places ≡ length l.initial.places) × (length l.starts ≡ length l.initial.starts)
