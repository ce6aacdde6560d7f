-- Each space has its own single edge, and no other reaches over it.
-- (Proved in proofs/Spaces.)
use Rattle.std.specs.Prelude.{true, false, ◌≡◌, ◌⊎◌, leb}
use Rattle.std.proofs.Math.Bool.{and-false}
use Rattle.std.proofs.Math.Path.{ap}
use Rattle.std.proofs.Common.{◌∙◌}
use mathlib.Core.List.{◌++◌, append-nil}
use Rattle.std.proofs.Math.Logic.{inl, inr}
use Prim.Native.Nat.{ℕ, ◌+◌, ◌≤◌, ◌<◌}
use native.Mathlib.Omega.{arith}
use borrow.Author.Tests.{lt-ltb, le-ltb, le-leb, lt-leb}
use Rattle.base.specs.Lists.{keep}
use Rattle.base.specs.ListLaws.{keep_append, keep-none}
use Rattle.definition.specs.Edges.{Edge, State}
use Rattle.stretches.specs.Demand.{over}
use Rattle.stretches.specs.Building.{Inside}
use Rattle.stretches.specs.Elsewhere.{Near}

over-left : (q : ℕ) (x : Edge) → x.to ≤ q → over q x ≡ false
unfolding over
over-left q x l = rw (le-ltb q x.to l) (and-false (leb x.from q))

over-right : (q : ℕ) (x : Edge) → q < x.from → over q x ≡ false
unfolding over
over-right q x l = rw (lt-leb x.from q l)

pub over-own : (q : ℕ) (x : Edge) → x.from ≡ q → x.to ≡ q + 1 → over q x ≡ true
unfolding over
over-own q x e f = rw (le-leb x.from q (omega arith), lt-ltb q x.to (omega arith))

-- A step in a stretch that `q` is not in adds no edge over it
pub near-over : {b k : ℕ} {S R : State} (q : ℕ) → (b + k ≤ q) ⊎ (q < b) → Near b k S R
    → keep (over q) R.0 ≡ keep (over q) S.0
near-over {b} {k} {S} {R} q d x =
    ap (keep (over q)) x.added.is
    ∙ keep_append (over q) S.0 x.added.more
    ∙ ap (λ l. keep (over q) S.0 ++ l)
    (keep-none (Inside b k) (over q) x.added.more x.added.all (λ y l. far d y l))
    ∙ append-nil (keep (over q) S.0)
  where
    far : (b + k ≤ q) ⊎ (q < b) → (y : Edge) → Inside b k y → over q y ≡ false
    far (inl e) y l = over-left q y (omega arith)
    far (inr e) y l = over-right q y (omega arith)
