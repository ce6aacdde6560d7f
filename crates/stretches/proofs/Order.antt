-- Mode 3's order inside the stretch is that of the stretch, moved.
use Rattle.std.specs.Prelude.{◌≡◌, length}
use Rattle.std.proofs.Math.Path.{ap}
use Rattle.std.proofs.Common.{◌∙◌}
use mathlib.Core.List.{List, map}
use Prim.Native.Nat.{ℕ, ◌+◌, ◌-◌}
use native.Mathlib.Omega.{arith}
use Rattle.base.specs.Lists.{keep}
use Rattle.definition.specs.Texts.{Text}
use Rattle.definition.specs.Tables.{Decomposition, Tables}
use Rattle.definition.specs.Paths.{sorted, all_edges_of}
use Rattle.definition.specs.Decomposing.{lattice, all_edges}
use Rattle.stretches.specs.Demand.{First_if, within, shift}
use Rattle.stretches.specs.Given.{FairTables, Stretch}
use Rattle.stretches.proofs.Lattice.{lattice-inside}
use Rattle.stretches.specs.Order.{sorted-keep, sorted_toward}

pub all_edges-inside : {D : Tables} {ds : List Decomposition} → FairTables D ds → {T st : Text} {a : ℕ}
    → Stretch T st a → First_if D.choices st
    → keep (within a (length st)) (all_edges D ds T) ≡ map (shift a) (all_edges D ds st)
unfolding all_edges all_edges_of
all_edges-inside {D} {ds} fair {T} {st} {a} h first =
    let r = (lattice-inside fair h first).edges in
    let j = length T - (a + length st) in
    let e : length T ≡ a + (j + length st) = omega arith in
    sorted-keep (within a (length st)) (lattice D ds T).0 (length T) 0
    ∙ ap (λ es. sorted es (length T) 0) r.cut
    ∙ ap (λ k. sorted (map (shift a) (lattice D ds st).0) k 0) e
    ∙ sorted_toward a (length st) (lattice D ds st).0 r.full a j 0 (omega arith)
