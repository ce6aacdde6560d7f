-- Mode 2's list inside the stretch is that of the stretch, moved.
use Rattle.std.proofs.Math.Path.{◌≡◌}
use mathlib.Core.List.{List, map}
use Prim.Native.Nat.{ℕ}
use Rattle.std.proofs.Math.ListN.{length}
use Rattle.base.specs.Lists.{keep}
use Rattle.definition.specs.Texts.{Text}
use Rattle.definition.specs.Tables.{Decomposition, Tables}
use Rattle.definition.specs.Paths.{reads, with_alternatives_of}
use Rattle.definition.specs.Decomposing.{lattice, path, with_alternatives}
use Rattle.stretches.specs.Demand.{First_if, within, shift}
use Rattle.stretches.specs.Given.{FairTables, Stretch}
use Rattle.stretches.specs.Walks.{see_edges}
use Rattle.stretches.proofs.Lattice.{lattice-inside}
use Rattle.stretches.proofs.Path.{path_inside}
use Rattle.stretches.specs.Alternatives.{by_edges-inside}

pub listed-inside : {D : Tables} {ds : List Decomposition} → FairTables D ds → {T st : Text} {a : ℕ} → Stretch T st a
    → First_if D.choices st
    → keep (within a (length st)) (with_alternatives D ds T) ≡ map (shift a) (with_alternatives D ds st)
unfolding with_alternatives with_alternatives_of path
listed-inside {D} {ds} fair {T} {st} {a} h first =
    let r = lattice-inside fair h first in
    let p = path_inside fair h first in
    let g = see_edges fair h first r.edges in
    (by_edges-inside fair.lexicon h g (reads D.choices) (path D ds T) (path D ds st) (path D ds T) (path D ds st)
    (lattice D ds T).1 (lattice D ds st).1 p p r.memory).cut
