-- `replay::is_right`: one test after the other, up to one that fails.
use mathlib.Core.Path.{refl, sym, ap, ◌∙◌}
use Rattle.base.specs.Loans.{lent-end}
use Rattle.lent_bytes.specs.Library.{same_texts}
use native.Mathlib.Omega.{arith}
use Rattle.replay.specs.Given.{zeros}
use Rattle.replay.proofs.Cases.{compared, short, other-numbers, other-bytes, other-rest, other-slots, by-room}
use Rattle.replay.proofs.is_right.Goals as goal

pub returns-then-out-len : goal.returns-then-out-len
returns-then-out-len c =
    short c.args.input.now c.args.at c.args.answer c.args.slots.now c.args.room.now c.args.out.now c.number-len.result c.number-len.ensures.0 (omega arith)

pub returns-then-are_zero-2 : goal.returns-then-are_zero-2
returns-then-are_zero-2 c =
    c.are_zero-then-are_zero-2.ensures ∙ by-room c.args.input.now c.args.at c.args.answer c.args.slots.now c.args.room.now c.args.out.now c.number-len.result c.number-len.ensures.0 (omega arith)
    (sym c.if-are_numbers.true ∙ c.are_numbers.ensures)
    (compared c.args.input.now c.args.at c.args.answer c.args.slots.now c.args.room.now c.args.out.now c.number-len.result c.number-len.ensures.0 _ _ _
    (sym c.if-eq.true ∙ (c.eq.ensures ∙ same_texts _ _)) c.part_or_none.ensures refl)
    (sym c.if-are_zero.true ∙ c.are_zero.ensures ∙ ap zeros (lent-end c.args.out.now c.number-len.result)) (sym c.if-are_zero-2.true ∙ c.are_zero-then-are_zero.ensures)

pub returns-else-are_zero-2 : goal.returns-else-are_zero-2
returns-else-are_zero-2 c =
    c.if-are_zero-2.false ∙ other-slots c.args.input.now c.args.at c.args.answer c.args.slots.now c.args.room.now c.args.out.now c.number-len.result c.number-len.ensures.0 (omega arith)
    (sym c.if-are_numbers.true ∙ c.are_numbers.ensures)
    (compared c.args.input.now c.args.at c.args.answer c.args.slots.now c.args.room.now c.args.out.now c.number-len.result c.number-len.ensures.0 _ _ _
    (sym c.if-eq.true ∙ (c.eq.ensures ∙ same_texts _ _)) c.part_or_none.ensures refl)
    (sym c.if-are_zero.true ∙ c.are_zero.ensures ∙ ap zeros (lent-end c.args.out.now c.number-len.result)) (sym c.if-are_zero-2.false ∙ c.are_zero-then-are_zero.ensures)

pub returns-else-are_zero : goal.returns-else-are_zero
returns-else-are_zero c =
    c.if-are_zero.false ∙ other-rest c.args.input.now c.args.at c.args.answer c.args.slots.now c.args.room.now c.args.out.now c.number-len.result c.number-len.ensures.0 (omega arith)
    (sym c.if-are_numbers.true ∙ c.are_numbers.ensures)
    (compared c.args.input.now c.args.at c.args.answer c.args.slots.now c.args.room.now c.args.out.now c.number-len.result c.number-len.ensures.0 _ _ _
    (sym c.if-eq.true ∙ (c.eq.ensures ∙ same_texts _ _)) c.part_or_none.ensures refl)
    (sym c.if-are_zero.false ∙ c.are_zero.ensures ∙ ap zeros (lent-end c.args.out.now c.number-len.result))

pub returns-else-eq : goal.returns-else-eq
returns-else-eq c =
    c.if-eq.false ∙ other-bytes c.args.input.now c.args.at c.args.answer c.args.slots.now c.args.room.now c.args.out.now c.number-len.result c.number-len.ensures.0 (omega arith)
    (sym c.if-are_numbers.true ∙ c.are_numbers.ensures)
    (compared c.args.input.now c.args.at c.args.answer c.args.slots.now c.args.room.now c.args.out.now c.number-len.result c.number-len.ensures.0 _ _ _
    (sym c.if-eq.false ∙ (c.eq.ensures ∙ same_texts _ _)) c.part_or_none.ensures refl)

pub returns-else-are_numbers : goal.returns-else-are_numbers
returns-else-are_numbers c =
    c.if-are_numbers.false ∙ other-numbers c.args.input.now c.args.at c.args.answer c.args.slots.now c.args.room.now c.args.out.now c.number-len.result c.number-len.ensures.0 (omega arith)
    (sym c.if-are_numbers.false ∙ c.are_numbers.ensures)
