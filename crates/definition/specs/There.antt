-- What stands at `o` of a row.
use Rattle.std.specs.Prelude.{ℕ, ◌≡◌, List, get_or, drop}
use Rattle.std.proofs.Common.{add-zero, get_or-drop}
use Rattle.base.specs.Big.{be3}
use Rattle.definition.specs.RuleRows.{three_at}

pub three-there : (s : List ℕ) (o : ℕ) → be3 s o ≡ three_at (drop o s)
unfolding three_at
three-there s o = simp (get_or-drop, add-zero)

pub byte_there : (s : List ℕ) (o : ℕ) → get_or s o 0 ≡ get_or (drop o s) 0 0
byte_there s o = simp (get_or-drop, add-zero)
