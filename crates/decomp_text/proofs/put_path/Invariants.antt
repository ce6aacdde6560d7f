-- `decomp_text::put_path`: what was spelled and what is left of the path spell the whole path.
use Prim.Native.Nat.{ℕ, ◌-◌, ◌≤◌}
use mathlib.Core.List.{◌++◌}
use Rattle.base.specs.Alls.{All}
use Rattle.definition.specs.Texts.{Text}
use Rattle.definition.specs.Paths.{joined, path_from}
use Rattle.definition.specs.Bounds.{Ruled}
use Rattle.edge.specs.Slots.{edges_of}
use Rattle.standing.specs.Stands.{Stands}
use Rattle.words.specs.Given.{World, kinds, Told, Lined}
use Rattle.decomp_text.specs.Spelling.{Spells, Held, shaped}
use Rattle.decomp_text.specs.Walking.{Walked}
use Rattle.decomp_text.proofs.put_path.Given as goal

abbrev pub invariant-loop-p : goal.invariant-loop-p
invariant-loop-p l =
    ((w : World) (t : Text) (count : ℕ) → Told w l.ready → Lined w l.line → Spells (kinds w) l.initial.bytes l.initial.made t → Stands l.slots l.starts count
    → All (Ruled w.text) (edges_of l.room count l.slots)
    → Walked (kinds w) l.number l.bytes l.made (path_from (l.n - l.p) l.p (edges_of l.room count l.slots)) (t ++ shaped l.number (joined (path_from l.n 0 (edges_of l.room count l.slots)))))
    × Held l.bytes l.made × (l.p ≤ l.n)

abbrev pub decreases-loop-p : goal.decreases-loop-p
decreases-loop-p l = l.n - l.p
