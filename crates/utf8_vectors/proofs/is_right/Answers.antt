-- `utf8_vectors::is_right`: the answer is not as given, or the places decide.
use mathlib.Core.Path.{sym, ◌∙◌}
use Rattle.utf8_vectors.proofs.Cases.{told, wrong_answer, right_answer}
use Rattle.utf8_vectors.proofs.is_right.Goals as goal

pub returns-then-is_answer : goal.returns-then-is_answer
returns-then-is_answer c =
    c.are_chars.ensures ∙ right_answer c.args.input.now c.args.at c.args.len
    (told c.args.input.now c.args.at c.args.len _ _ _ _ _ (sym c.if-is_answer.true ∙ c.is_answer.ensures)
    c.part.ensures c.decode-answer.ensures.answer c.byte.ensures.0 c.byte-2.ensures.0)
    c.byte-then-is_answer.result _ _ c.byte-then-is_answer.ensures.0 c.part.ensures c.decode-answer.ensures.room

pub returns-else-is_answer : goal.returns-else-is_answer
returns-else-is_answer c =
    c.if-is_answer.false ∙ wrong_answer c.args.input.now c.args.at c.args.len
    (told c.args.input.now c.args.at c.args.len _ _ _ _ _ (sym c.if-is_answer.false ∙ c.is_answer.ensures)
    c.part.ensures c.decode-answer.ensures.answer c.byte.ensures.0 c.byte-2.ensures.0)
