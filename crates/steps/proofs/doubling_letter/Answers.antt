-- `steps::doubling_letter`: ch, or a first letter that is in the set.
use mathlib.Core.Path.{sym, ap, ◌∙◌}
use native.Mathlib.Omega.{arith}
use Rattle.rom.specs.Sets.{in_doubling}
use Rattle.steps.specs.Works.{letter_of}
use Rattle.steps.proofs.Letters.{ch_by-c, ch_by-t, first-doubled, none-doubled, nothing-doubled}
use Rattle.steps.proofs.doubling_letter.Goals as goal

pub returns-then-c-eq-ADDAK : goal.returns-then-c-eq-ADDAK
returns-then-c-eq-ADDAK c =
    ch_by-c c.args.c c.args.text.now (sym c.starts_with.ensures ∙ c.if-starts_with.true) (omega arith)

pub returns-else-c-eq-ADDAK : goal.returns-else-c-eq-ADDAK
returns-else-c-eq-ADDAK c =
    ch_by-t c.args.c c.args.text.now (sym c.starts_with.ensures ∙ c.if-starts_with.true) (λ e. omega arith)

pub returns-in_err-letter : goal.returns-in_err-letter
returns-in_err-letter c =
    ap letter_of c.from_residual.ensures
    ∙ nothing-doubled c.args.c c.args.text.now (sym c.starts_with.ensures ∙ c.if-starts_with.false) c.in_err-letter.ensures.value

pub returns-then-is_in : goal.returns-then-is_in
returns-then-is_in c =
    let b = c.in_ok-letter.field-0.now in
    first-doubled c.args.c c.args.text.now b (sym c.starts_with.ensures ∙ c.if-starts_with.false) c.in_ok-letter.ensures.value
    (sym (in_doubling b) ∙ sym c.is_in.ensures ∙ c.if-is_in.true)

pub returns : goal.returns
returns c =
    let b = c.in_ok-letter.field-0.now in
    none-doubled c.args.c c.args.text.now b (sym c.starts_with.ensures ∙ c.if-starts_with.false) c.in_ok-letter.ensures.value
    (sym (in_doubling b) ∙ sym c.is_in.ensures ∙ c.if-is_in.false)
