-- `replay::are_numbers`: one number after the other, up to one that differs.
use mathlib.Core.Path.{◌∙◌}
use native.Mathlib.Omega.{arith}
use Rattle.replay.proofs.Cases.{other-number, other_place, other_length, by_edges}
use Rattle.replay.proofs.are_numbers.Goals as goal

pub returns-then-answer-number-2 : goal.returns-then-answer-number-2
returns-then-answer-number-2 c =
    by_edges c.args.input.now c.args.at c.args.answer
    (◌∙◌ {b = c.byte.result} (omega arith) c.byte.ensures.0)
    (◌∙◌ {b = c.number.result} (omega arith) c.number.ensures.0)
    (◌∙◌ {b = c.number-then-answer-number.result} (omega arith) c.number-then-answer-number.ensures.0)
    c.number-then-answer-number-2.result c.number-then-answer-number-2.ensures.0

pub returns-else-answer-number-2 : goal.returns-else-answer-number-2
returns-else-answer-number-2 c =
    other_length c.args.input.now c.args.at c.args.answer
    (◌∙◌ {b = c.byte.result} (omega arith) c.byte.ensures.0)
    (◌∙◌ {b = c.number.result} (omega arith) c.number.ensures.0)
    c.number-then-answer-number.result c.number-then-answer-number.ensures.0 (λ e. omega arith)

pub returns-else-answer-number : goal.returns-else-answer-number
returns-else-answer-number c =
    other_place c.args.input.now c.args.at c.args.answer
    (◌∙◌ {b = c.byte.result} (omega arith) c.byte.ensures.0)
    c.number.result c.number.ensures.0 (λ e. omega arith)

pub returns-else-answer-byte : goal.returns-else-answer-byte
returns-else-answer-byte c =
    other-number c.args.input.now c.args.at c.args.answer
    c.byte.result c.byte.ensures.0 (λ e. omega arith)
