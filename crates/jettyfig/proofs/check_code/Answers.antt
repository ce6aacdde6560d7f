-- `jettyfig::check_code`: one law for each way out.
use mathlib.Core.Path.{sym, ◌∙◌}
use native.Mathlib.Omega.{arith}
use Rattle.jettyfig.specs.Verdicts.{no_code, lettered-code, other-letters, other_length}
use Rattle.jettyfig.proofs.check_code.Goals as goal

pub returns-then-code-eq0 : goal.returns-then-code-eq0
returns-then-code-eq0 c = no_code c.args.code.now (omega arith)

pub returns-then-code-ne-CODE_LETTERS : goal.returns-then-code-ne-CODE_LETTERS
returns-then-code-ne-CODE_LETTERS c = other_length c.args.code.now (λ k. omega arith) (λ k. omega arith)

pub returns-then-all_small : goal.returns-then-all_small
returns-then-all_small c = lettered-code c.args.code.now (omega arith) (sym c.all_small.ensures ∙ c.if-all_small.true)

pub returns : goal.returns
returns c = other-letters c.args.code.now (omega arith) (sym c.all_small.ensures ∙ c.if-all_small.false)
