-- `expand::by_script`
use native.Mathlib.Omega.{arith}
use borrow.Author.Tests.{eq-eqb, ne_eqb}
use Rattle.definition.specs.Texts.{at}
use Rattle.definition.specs.Tables.{script_thai}
use Rattle.definition.specs.Classes.{script}
use Rattle.definition.specs.Expansion.{thai, by_script}
use Rattle.words.specs.Given.{kinds, seen, line-size}
use Rattle.words.specs.Choosing.{choices_of}
use Rattle.words.specs.Characters.{script-here}
use Rattle.rule_choice.specs.Lent.{lexicon_of}
use Rattle.steps.specs.Works.{work_in}
use Rattle.expand.specs.Tests.{in_thai, elsewhere}
use Rattle.expand.proofs.Ways.{opens_as}
use Rattle.expand.proofs.by_script.Goals as goal

pub returns-then-script-ne-THAI : goal.returns-then-script-ne-THAI
returns-then-script-ne-THAI c = (
  (λ u code h.
      let L = lexicon_of c.args.dicts.now.rules.now u code in
      let k = script-here h.text c.args.o (omega (arith, c.requires.3, c.requires.5, line-size h.text)) c.kind_at.ensures c.script.ensures in
      elsewhere L u.text (seen u) (choices_of c.args.choices) c.args.o (work_in c.args.bytes.now c.args.g)
      (ne_eqb (script (kinds u) (at u.text c.args.o)) script_thai (λ d. omega (arith, d, k)))),
  (c.requires.0, c.requires.1, omega (arith, c.requires.2), c.requires.3, c.requires.4, c.requires.5),
)

pub returns : goal.returns
returns c =
    let C = choices_of c.args.choices in
    let w = work_in c.args.bytes.now c.args.g in
    opens_as c.args.dicts.now.rules.now c.args.dicts.now.ready.now c.args.line.now c.args.places.now c.args.o
    (λ L t v. thai L t v C c.args.o w) (λ L t v. by_script L t v C c.args.o w) c.thai.new.bytes c.thai.result
    (λ u code h.
    let L = lexicon_of c.args.dicts.now.rules.now u code in
    let k = script-here h.text c.args.o (omega (arith, c.requires.3, c.requires.5, line-size h.text)) c.kind_at.ensures c.script.ensures in
    in_thai L u.text (seen u) C c.args.o w
    (eq-eqb (script (kinds u) (at u.text c.args.o)) script_thai (omega (arith, k))))
    c.thai.ensures
