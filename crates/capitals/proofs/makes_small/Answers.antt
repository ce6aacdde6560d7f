-- `capitals::makes_small`: one law for each way out.
use mathlib.Core.Path.{sym, ◌∙◌}
use native.Mathlib.Omega.{arith}
use Rattle.words.specs.Given.{kinds, kind_at, line-size}
use Rattle.words.specs.Choosing.{choices_of}
use Rattle.capitals.specs.Spans.{over}
use Rattle.capitals.specs.Ways.{not_chosen, not_one, not_lower, before-lower}
use Rattle.capitals.proofs.makes_small.Goals as goal
use Rattle.capitals.proofs.makes_small.Goals.{then-choices-ne1-via-then-choices-ne1, then-choices-ne1-via-else-choices-ne1+then-span}

pub returns-then-choices-ne1 : goal.returns-then-choices-ne1
returns-then-choices-ne1 c =
    let w = over c.args.span c.args.text.now in
    λ x g. elim c.then-choices-ne1.branch [
      | then-choices-ne1-via-then-choices-ne1 v ↦ not_chosen (choices_of c.args.choices) (kinds x) x.text w (λ e. v.if-choices-ne1.true e)
      | then-choices-ne1-via-else-choices-ne1+then-span v ↦ not_one (choices_of c.args.choices) (kinds x) x.text w (λ e. v.if-span.true e)
    ]

pub returns-then-is_lower_at : goal.returns-then-is_lower_at
returns-then-is_lower_at c =
    λ x g.
    c.is_upper_case.ensures
    ∙ before-lower (choices_of c.args.choices) (kinds x) x.text (over c.args.span c.args.text.now) (omega arith) (omega arith)
    (sym c.if-is_lower_at.true ∙ c.is_lower_at.ensures ∙ (kind_at g c.args.span.to (omega (arith, c.requires, line-size g))).lowercase)

pub returns-else-is_lower_at : goal.returns-else-is_lower_at
returns-else-is_lower_at c =
    λ x g. c.if-is_lower_at.false ∙ not_lower (choices_of c.args.choices) (kinds x) x.text (over c.args.span c.args.text.now)
    (sym c.if-is_lower_at.false ∙ c.is_lower_at.ensures ∙ (kind_at g c.args.span.to (omega (arith, c.requires, line-size g))).lowercase)
