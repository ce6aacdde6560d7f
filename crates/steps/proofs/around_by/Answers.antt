-- `steps::around_by`: the rules of the pattern are those with one source, which the line's numbers are.
use mathlib.Core.Path.{refl, sym, ◌∙◌}
use native.Mathlib.Omega.{arith}
use Rattle.definition.specs.RuleRows.{rules_of}
use Rattle.steps.specs.Works.{work_in}
use Rattle.steps.proofs.Frames.{frame_past, frame_first}
use Rattle.words.specs.Given.{line-size}
use Rattle.steps.proofs.around_by.Goals as goal

pub returns-then-text_len-end : goal.returns-then-text_len-end
returns-then-text_len-end c =
    let R = rules_of c.args.dicts.now.rules.now in (
      (λ u h. sym (frame_past h R c.args.k (work_in c.args.bytes.now c.args.g) (omega (arith, c.requires, line-size h)) (omega (arith, line-size h, c.text_len.ensures)))),
      refl,
    )

pub returns : goal.returns
returns c =
    let I = c.if-text_len-end.false in
    let N = c.text_len.ensures in
    let C = c.number_at-vowel.ensures in
    let X = c.number_at-one.ensures in
    let Y = c.number_at-two.ensures in
    let Z = c.number_at-three.ensures in
    let R = rules_of c.args.dicts.now.rules.now in (
      (λ u h.
          let e = frame_first h R c.args.k (work_in c.args.bytes.now c.args.g) _ C X Y Z
          (omega (arith, c.requires, line-size h)) (omega (arith, c.requires, line-size h)) (omega (arith, c.requires, line-size h)) (omega (arith, I, line-size h, N)) c.romanization_by_first_rule-target.ensures.0 in
          c.put_behind.ensures.0 c.args.k refl ∙ sym e),
      c.put_behind.ensures.1,
    )
