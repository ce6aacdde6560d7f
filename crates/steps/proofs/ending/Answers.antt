-- `steps::ending`: one law for each way out.
use mathlib.Core.Path.{sym, ◌∙◌}
use Prim.Native.Nat.{◌+◌, ◌≤◌}
use native.Mathlib.Omega.{arith}
use lib.ListN.{take}
use Rattle.steps.specs.Works.{work_in}
use Rattle.steps.proofs.Letters.{long-vowel}
use Rattle.words.specs.Characters.{script-prev, flag_here}
use Rattle.steps.proofs.Outcomes.{long-told, lengthened, absorbed, neither}
use Rattle.words.specs.Given.{kinds, size, line-size, char_at}
use Rattle.steps.proofs.ending.Goals as goal

pub lengthen-requires : goal.lengthen-requires
lengthen-requires c =
    (c.requires.0, c.requires.1, long-vowel _ _ (take c.args.g.len c.args.bytes.now) (sym c.lengthens.ensures ∙ c.if-lengthens.true))

pub returns-then-lengthens : goal.returns-then-lengthens
returns-then-lengthens c =
    let w = work_in c.args.bytes.now c.args.g in
    let K = c.kind_at.ensures in
    let S = c.script-script.ensures in
    let C = c.number_at.ensures in
    let G = c.lengthens.ensures in
    let I = c.if-lengthens.true in (
      (λ u g.
          let h : c.args.g.to ≤ size u + 1 = omega (arith, c.requires, line-size g) in
          let here = C ∙ char_at g c.args.g.to h in
          let p = script-prev g c.args.g.to (omega (arith, h, line-size g)) K S in
          let e = sym (long-told (kinds u) u.text w here p G) ∙ I in
          c.lengthen.ensures.0 ∙ lengthened (kinds u) u.text w e),
      c.lengthen.ensures.1,
      omega (arith, c.lengthen.ensures.2),
    )

pub returns-then-class_flag : goal.returns-then-class_flag
returns-then-class_flag c =
    let w = work_in c.args.bytes.now c.args.g in
    let K = c.kind_at.ensures in
    let S = c.script-script.ensures in
    let C = c.number_at.ensures in
    let G = c.lengthens.ensures in
    let I = c.if-lengthens.false in
    let M = c.kind_at-2.ensures in
    let F = c.class_flag.ensures in
    let J = c.if-class_flag.true in (
      (λ u g.
          let h : c.args.g.to ≤ size u + 1 = omega (arith, c.requires, line-size g) in
          let here = C ∙ char_at g c.args.g.to h in
          let p = script-prev g c.args.g.to (omega (arith, h, line-size g)) K S in
          let e = sym (long-told (kinds u) u.text w here p G) ∙ I in
          let f = sym (flag_here g c.args.g.to h M 3 (λ k. k.virama) (λ m k z. z.virama) F) ∙ J in
          absorbed (kinds u) u.text w e f),
      c.requires.0,
      omega arith,
    )

pub returns : goal.returns
returns c =
    let w = work_in c.args.bytes.now c.args.g in
    let K = c.kind_at.ensures in
    let S = c.script-script.ensures in
    let C = c.number_at.ensures in
    let G = c.lengthens.ensures in
    let I = c.if-lengthens.false in
    let M = c.kind_at-2.ensures in
    let F = c.class_flag.ensures in
    let J = c.if-class_flag.false in (
      (λ u g.
          let h : c.args.g.to ≤ size u + 1 = omega (arith, c.requires, line-size g) in
          let here = C ∙ char_at g c.args.g.to h in
          let p = script-prev g c.args.g.to (omega (arith, h, line-size g)) K S in
          let e = sym (long-told (kinds u) u.text w here p G) ∙ I in
          let f = sym (flag_here g c.args.g.to h M 3 (λ k. k.virama) (λ m k z. z.virama) F) ∙ J in
          c.trim.ensures.0 u g ∙ neither (kinds u) u.text w e f),
      c.trim.ensures.1,
      omega (arith, c.trim.ensures.2),
    )
