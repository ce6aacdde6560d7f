-- `sample::digit`: a decimal digit, or a letter.
use native.Mathlib.Omega.{arith}
use Rattle.sample.proofs.Digits.{decimal, letter}
use Rattle.sample.proofs.digit.Goals as goal

pub returns-then-x-lt10 : goal.returns-then-x-lt10
returns-then-x-lt10 c = decimal _ (omega arith)

pub returns : goal.returns
returns c = letter _ (omega arith) (omega arith)
