-- `tables_vectors::is_right`: a fifth kind, or what the check answers.
use mathlib.Core.Path.{ap, ◌∙◌}
use native.Mathlib.Omega.{arith}
use Rattle.tables_vectors.specs.Given.{judged_means, fault_of}
use Rattle.tables_vectors.proofs.Cases.{fifth, by_answer}
use Rattle.tables_vectors.proofs.is_right.Goals as goal

pub returns-then-kind-gt3 : goal.returns-then-kind-gt3
returns-then-kind-gt3 c = fifth c.args.input.now c.args.kind c.args.at c.args.len (omega arith)

pub returns : goal.returns
returns c =
    c.is_answer.ensures
    ∙ by_answer c.args.input.now c.args.kind c.args.at c.args.len (omega arith)
    (judged_means c.checked-judged.result) c.byte.result c.three.result
    (c.checked-judged.ensures ∙ ap (fault_of c.args.kind) c.part.ensures)
    c.byte.ensures.0 c.three.ensures.0
