-- The walk back behind O ang ends at the same place from wherever it comes to.
use Rattle.std.specs.Prelude.{Bool, ◌≡◌, eqb}
use Rattle.std.proofs.Math.Bool.{true, false}
use Rattle.std.proofs.Math.Path.{refl}
use Prim.Native.Nat.{ℕ, ◌≤◌}
use Rattle.base.specs.Pick.{pick}
use Rattle.definition.specs.Texts.{Text}
use Rattle.definition.specs.Tables.{Choices}
use Rattle.definition.specs.Expansion.{stretch_start, walk_start}
use Rattle.definition.specs.OAng.{start-same}

pub walk_same : (c : Choices) (t : Text) (q p : ℕ) → q ≤ p → walk_start c t p ≤ q → walk_start c t q ≡ walk_start c t p
unfolding walk_start pick
walk_same c t q p h l = go (eqb c.o_ang 1) l
  where
    go : (b : Bool) → pick b (stretch_start t p) 0 ≤ q → pick b (stretch_start t q) 0 ≡ pick b (stretch_start t p) 0
    go true m = start-same t q p h m
    go false m = refl
