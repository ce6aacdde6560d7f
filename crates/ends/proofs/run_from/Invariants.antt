-- `ends::run_from`: the run before where the loop stands starts where the run before `to` does.
use Rattle.std.proofs.Common.{◌≡◌, ℕ, Bool, ◌<◌}
use Rattle.ends.specs.Back.{run}
use Rattle.ends.proofs.run_from.Given as goal

abbrev pub invariant-loop-at : goal.invariant-loop-at
invariant-loop-at g l =
    (q : ℕ → Bool) → ((c : ℕ) (b : Bool) → c < 256 → goal.F-post g l.passes c b → b ≡ q c) → run q l.s l.at ≡ run q l.s l.to
