-- `jettyfig::is_uncounted`: what has rows is measured with its header.
use mathlib.Core.Path.{sym}
use native.Mathlib.Omega.{arith}
use Rattle.definition.specs.Endings.{string-counted}
use Rattle.jettyfig.specs.Calls.{counted-by}
use Rattle.jettyfig.proofs.is_uncounted.Goals as goal

pub returns-then-mode-eq0 : goal.returns-then-mode-eq0
returns-then-mode-eq0 c = λ w e. sym (string-counted c.args.mode w (omega arith))

pub returns : goal.returns
returns c = λ w e. counted-by c.args.mode w c.args.needed e (λ z. omega arith)
