-- `second_pass::single`: the numbers as they are.
use mathlib.Core.Path.{refl}
use Rattle.second_pass.specs.Fallback.{single_numbers}
use Rattle.second_pass.proofs.single.Goals as goal

pub returns : goal.returns
unfolding single_numbers
returns c = refl
