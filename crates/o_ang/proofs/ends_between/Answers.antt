-- `o_ang::ends_between`: by the choice.
use mathlib.Core.Path.{sym, ap, ◌∙◌}
use native.Mathlib.Omega.{arith}
use lib.Dec.{ltb}
use borrow.Author.Tests.{le-ltb, ne_eqb}
use Rattle.definition.specs.Expansion.{walk_start}
use Rattle.words.specs.Choosing.{choices_of}
use Rattle.definition.specs.OAng.{walk-stretch, walk-whole}
use Rattle.o_ang.proofs.ends_between.Goals as goal

pub returns-then-choices-eq1 : goal.returns-then-choices-eq1
returns-then-choices-eq1 c =
    λ x h. c.has_space.ensures x h ∙ ap (ltb c.args.from) (walk-stretch (choices_of c.args.choices) x.text c.args.to c.if-choices-eq1.true)

pub returns-else-choices-eq1 : goal.returns-else-choices-eq1
returns-else-choices-eq1 c =
    let k = choices_of c.args.choices in
    λ x h. ne_eqb c.args.choices.o_ang 1 c.if-choices-eq1.false ∙ sym (le-ltb c.args.from (walk_start k x.text c.args.to) (omega (arith, walk-whole k x.text c.args.to c.if-choices-eq1.false)))
