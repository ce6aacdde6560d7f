-- `vowel_step::is_bare`: the Khmer yo, or the two classes from `e` on.
use mathlib.Core.Path.{sym, ap, ◌∙◌}
use native.Mathlib.Omega.{arith}
use Prim.Native.Nat.{ℕ, ◌+◌}
use lib.Seq.{slice}
use Rattle.words.specs.Given.{kind_in, line-size}
use Rattle.vowel_step.specs.Ways.{silent}
use Rattle.vowel_step.proofs.Tests.{or_here, or_next}
use Rattle.vowel_step.proofs.Bare.{bare-told}
use Rattle.vowel_step.proofs.is_bare.Goals as goal

pub returns-then-is_before_yo : goal.returns-then-is_before_yo
returns-then-is_before_yo c =
    let base = slice c.args.from c.args.to c.args.bytes.now in
    λ w g. c.if-is_before_yo.true ∙ or_here _ _ (sym c.is_before_yo.ensures ∙ c.if-is_before_yo.true) ∙ bare-told g c.args.e base (omega (arith, c.requires.3, line-size g))

pub returns-else-is_before_yo : goal.returns-else-is_before_yo
returns-else-is_before_yo c =
    let base = slice c.args.from c.args.to c.args.bytes.now in
    λ w g. or_next _ _ (sym c.is_before_yo.ensures ∙ c.if-is_before_yo.false)
    (c.is_silent.ensures ∙ ap (λ (k : ℕ). silent k c.kind_at-else-is_before_yo.result) c.kind_at.ensures
    ∙ ap (silent (kind_in c.args.line.now (c.args.e + 1))) c.kind_at-else-is_before_yo.ensures)
    ∙ bare-told g c.args.e base (omega (arith, c.requires.3, line-size g))
