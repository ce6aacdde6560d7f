-- `plain::is_untouched`: what was asked, of the text that the line stands for.
use Rattle.std.proofs.Common.{◌∙◌, ◌+◌, ◌≤◌, arith, length, take}
use Rattle.std.proofs.lemmas.Bool.{not-true}
use Rattle.words.specs.Given.{line-size}
use Rattle.words.specs.Characters.{script-here}
use Rattle.words.specs.Choosing.{choices_of}
use Rattle.plain.specs.Ways.{untouched}
use Rattle.plain.proofs.is_untouched.Goals as goal

pub returns-then-not-is_met : goal.returns-then-not-is_met
returns-then-not-is_met c =
    λ e x g.
    let h : c.args.span.from ≤ length x.text + 1 = omega (arith, c.args.span.forward, c.requires.1, line-size g) in
    let k = script-here g c.args.span.from h c.kind_at.ensures c.script-script.ensures in
    untouched x c.args.span.from c.args.span.to (choices_of c.args.choices) (take c.args.n c.args.bytes.now) (λ z. omega (arith, z)) (λ z. c.if-script-eq-THAI.false (k ∙ z))
    (c.is_met.ensures c.if-not-is_met.true x g) (c.is_spaced.ensures (not-true c.is_spaced.result e))
