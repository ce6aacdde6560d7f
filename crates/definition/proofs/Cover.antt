-- Every character of a text is covered, and the path of an accepted text covers it.
use Rattle.std.specs.Prelude.{true, length}
use Rattle.std.proofs.Math.Path.{◌≡◌}
use Rattle.std.proofs.Math.Option.{none}
use Prim.Native.Nat.{ℕ, ◌<◌}
use native.Mathlib.Omega.{arith}
use Rattle.definition.specs.Texts.{Text}
use Rattle.definition.specs.Tables.{Tables}
use Rattle.definition.specs.Edges.{State, covered}
use Rattle.definition.specs.Building.{fall, lattice_by}
use Rattle.definition.specs.Paths.{path_of}
use Rattle.definition.specs.Decomposing.{start, lattice, edges, path}
use Rattle.definition.specs.Call.{Inputs, tables, decompositions, characters, refusal}
use Rattle.definition.specs.Growth.{fall-grown}
use Rattle.definition.specs.Covers.{each_covers, fall_covers}
use Rattle.definition.proofs.Promises.{formed_edges}
use Rattle.definition.specs.Cover.{Abut, path_abuts, widths, widths_abut}

-- Every character is covered, whatever the first pass adds
pub lattice_covers : (D : Tables) (t : Text) (step : ℕ → State → State) (p : ℕ) → p < length t → covered (lattice_by D t step).0 p ≡ true
unfolding lattice_by
lattice_covers D t step p l =
    each_covers (fall D t) (λ p st. (fall-grown D t p st).added) (λ q. Unit {0}) (λ q st w. fall_covers D t q st) (length t) 0 _ p (omega arith) (omega arith) tt

-- The path of an accepted text goes from its start to its end, each edge starting where the one before it ends
pub path-whole : (i : Inputs) → refusal i ≡ none → Abut 0 (length (characters i)) (path (tables i) (decompositions i) (characters i))
unfolding path path_of lattice edges
path-whole i e = path_abuts (length (characters i)) (lattice (tables i) (decompositions i) (characters i)).0 (formed_edges i e)
    (lattice_covers (tables i) (characters i) (start (tables i) (decompositions i) (characters i))) (length (characters i)) 0 (omega arith) (omega arith)

pub widths-whole : (i : Inputs) → refusal i ≡ none → widths (path (tables i) (decompositions i) (characters i)) ≡ length (characters i)
widths-whole i e =
    let r = widths_abut 0 (length (characters i)) (path (tables i) (decompositions i) (characters i)) (path-whole i e) in
    omega arith
