-- `o_ang::is_silent`: one law for each way out.
use mathlib.Core.Path.{◌≡◌, sym, ◌∙◌}
use mathlib.Core.Bool.{true≢false}
use borrow.Author.Tests.{ne_eqb}
use native.Mathlib.Omega.{arith}
use Rattle.definition.specs.RuleRows.{rules_of}
use Rattle.definition.specs.Texts.{at, o_ang}
use Rattle.definition.specs.Expansion.{work}
use Rattle.o_ang.proofs.Ways.{no_o_ang, not_alone, alone}
use Rattle.words.specs.Given.{kinds, seen, line-size, char_at}
use Rattle.words.specs.Choosing.{choices_of}
use Rattle.o_ang.proofs.is_silent.Goals as goal
use Rattle.o_ang.proofs.is_silent.Goals.{then-number_at-eq-O_ANG, else-number_at-eq-O_ANG}

pub returns-then-g : goal.returns-then-g
returns-then-g c =
    λ x w h. let z = line-size h.text in
    elim c.if-number_at-eq-O_ANG.branch [
      | then-number_at-eq-O_ANG v ↦
          let here : at x.text c.args.o ≡ o_ang = omega (arith, char_at h.text c.args.o (omega arith), c.number_at.ensures, v.if-number_at-eq-O_ANG.true) in
          alone (choices_of c.args.choices) (rules_of c.args.dicts.now.rules.now) (kinds x) x.text (work w c.args.g.from c.args.g.to c.args.g.note) (seen x) c.args.o here
          (sym v.value-is ∙ c.if-g.true) (sym (c.is_between.ensures x w h))
      | else-number_at-eq-O_ANG v ↦ absurd (true≢false (sym c.if-g.true ∙ v.value-is ∙ ne_eqb _ _ v.if-number_at-eq-O_ANG.false))
    ]

pub returns-else-g : goal.returns-else-g
returns-else-g c =
    λ x w h. let z = line-size h.text in
    c.if-g.false ∙ elim c.if-number_at-eq-O_ANG.branch [
      | then-number_at-eq-O_ANG v ↦
          let here : at x.text c.args.o ≡ o_ang = omega (arith, char_at h.text c.args.o (omega arith), c.number_at.ensures, v.if-number_at-eq-O_ANG.true) in
          not_alone (choices_of c.args.choices) (rules_of c.args.dicts.now.rules.now) (kinds x) x.text (work w c.args.g.from c.args.g.to c.args.g.note) (seen x) c.args.o here
          (sym v.value-is ∙ c.if-g.false)
      | else-number_at-eq-O_ANG v ↦
          no_o_ang (choices_of c.args.choices) (rules_of c.args.dicts.now.rules.now) (kinds x) x.text (work w c.args.g.from c.args.g.to c.args.g.note) (seen x) c.args.o
          (λ e. omega (arith, e, char_at h.text c.args.o (omega arith), c.number_at.ensures, v.if-number_at-eq-O_ANG.false))
    ]
