-- The path inside the stretch is the path of the stretch, moved.
use Rattle.std.specs.Prelude.{length}
use Rattle.std.proofs.Common.{arith}
use mathlib.Core.List.{List}
use Prim.Native.Nat.{ℕ}
use Rattle.definition.specs.Texts.{Text}
use Rattle.definition.specs.Tables.{Decomposition, Tables}
use Rattle.definition.specs.Paths.{path_of}
use Rattle.definition.specs.Decomposing.{lattice, path}
use Rattle.definition.specs.Alternatives.{path_sound}
use Rattle.stretches.specs.Demand.{First_if}
use Rattle.stretches.specs.Given.{FairTables, Stretch}
use Rattle.stretches.specs.Building.{Inside}
use Rattle.stretches.specs.Edges.{Clear, Same}
use Rattle.stretches.proofs.Lattice.{lattice-inside}
use Rattle.stretches.specs.Path.{toward}

-- As edges of both
pub path_inside : {D : Tables} {ds : List Decomposition} → FairTables D ds → {T st : Text} {a : ℕ} → Stretch T st a
    → First_if D.choices st
    → Same a (length st) (path D ds T) (path D ds st)
unfolding path path_of
path_inside {D} {ds} fair {T} {st} {a} h first =
    let r = (lattice-inside fair h first).edges in
    record {
      cut = toward r (length T) 0 (omega arith) (omega arith);
      clear = path_sound (Clear a (length st)) (length T) 0 (lattice D ds T).0 r.clear;
      full = path_sound (Inside 0 (length st)) (length st) 0 (lattice D ds st).0 r.full;
    }
