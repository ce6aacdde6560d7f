-- The longest edge that starts somewhere, or that ends there, is of its span the one that the Rust ranks first.
use Rattle.std.specs.Prelude.{◌≡◌, ℕ}
use Rattle.std.proofs.Common.{subst}
use mathlib.Core.List.{List, ◌++◌}
use Rattle.base.specs.Alls.{Opt}
use Rattle.definition.specs.Texts.{Text}
use Rattle.definition.specs.Tables.{Decomposition, Tables}
use Rattle.definition.specs.Edges.{Edge, right_best, left_best}
use Rattle.definition.specs.Decomposing.{lattice}
use Rattle.definition.specs.Ranking.{Ranked, ranked_front}
use Rattle.definition.proofs.Ranking.{lattice-ranked}
use Rattle.definition.specs.RankedNeighbours.{Taken, left-ranked, right-ranked}

-- So it is in the lattice, and at any time while it is built
module _ (D : Tables) (ds : List Decomposition) (t : Text) (es more : List Edge) (e : (lattice D ds t).0 ≡ es ++ more) where
  so_far : Ranked es
  so_far = ranked_front es more (subst Ranked e (lattice-ranked D ds t))

  pub right-taken : (p : ℕ) → Opt (Taken es) (right_best es p)
  right-taken p = right-ranked es so_far p

  pub left-taken : (p : ℕ) → Opt (Taken es) (left_best es p)
  left-taken p = left-ranked es so_far p
