-- `second_pass::falls_on_letter`: by what was answered.
use mathlib.Core.Bool.{Bool}
use mathlib.Core.Path.{sym, ap, ◌∙◌}
use Rattle.base.specs.Pick.{pick}
use Prim.Native.Nat.{◌+◌}
use Rattle.rule_choice.specs.Chosen.{has-chosen}
use Rattle.words.specs.Given.{kind_in, alpha_kind}
use Rattle.passes.specs.Endings.{last_letter}
use Rattle.second_pass.proofs.falls_on_letter.Goals as goal

pub returns-then-is_some : goal.returns-then-is_some
unfolding pick
returns-then-is_some c =
    let letter : (b : Bool) → Bool = λ b. pick b (last_letter c.args.ready.now c.args.text.now) (alpha_kind (kind_in c.args.line.now (c.args.p + 1))) in
    λ rules.
    c.ends_in_letter.ensures ∙ ap (letter) (sym c.if-is_some.true ∙ c.is_some.ensures ∙ has-chosen rules c.args.chosen)

pub returns : goal.returns
unfolding pick
returns c =
    let letter : (b : Bool) → Bool = λ b. pick b (last_letter c.args.ready.now c.args.text.now) (alpha_kind (kind_in c.args.line.now (c.args.p + 1))) in
    λ rules.
    c.is_alpha_at.ensures ∙ ap (letter) (sym c.if-is_some.false ∙ c.is_some.ensures ∙ has-chosen rules c.args.chosen)
