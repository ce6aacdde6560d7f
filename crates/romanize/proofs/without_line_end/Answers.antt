-- `romanize::without_line_end`: a line end at the end is left off.
use native.Mathlib.Omega.{arith}
use Rattle.romanize.proofs.Cases.{no_text, ended, not_ended}
use Rattle.romanize.proofs.without_line_end.Goals as goal

pub returns-then-n-eq0 : goal.returns-then-n-eq0
returns-then-n-eq0 c = no_text c.args.text.now (omega arith)

pub returns-then-text-n-eq10 : goal.returns-then-text-n-eq10
returns-then-text-n-eq10 c = ended c.args.text.now (omega arith) (omega arith)

pub returns : goal.returns
returns c = not_ended c.args.text.now (omega arith) (λ e. omega arith)
