-- What adding an edge answers: how many edges there are now and how much room they take, or which edge did not fit.
use Rattle.std.specs.Prelude.{ℕ, ◌≡◌, Result, Ok, Err}
use Rattle.std.proofs.Math.Path.{ap}
use Rattle.edge.specs.declared.Taken.{Taken}
use Rattle.edge.specs.declared.Full.{Full}

abbrev pub Answer : Type 0
Answer = Result Taken Full

abbrev pub fits : ℕ → ℕ → Answer
fits count used = Ok record { count = count; used = used }

-- the numbers of two equal answers
module _ {a b count used : ℕ} (q : fits a b ≡ fits count used) where
  pub fits-count : a ≡ count
  fits-count = ap (λ (r : Answer). elim r as (λ _. ℕ) [ Ok t ↦ t.count | Err f ↦ 0 ]) q

  pub fits-used : b ≡ used
  fits-used = ap (λ (r : Answer). elim r as (λ _. ℕ) [ Ok t ↦ t.used | Err f ↦ 0 ]) q
