-- `vowel_step::shape_of`: the forms are those of the definition, whatever the vowel.
use Prim.Native.Nat.{◌+◌}
use lib.Dec.{eqb}
use Rattle.definition.specs.Vowels.{bases}
use Rattle.ends.specs.Shown.{shown}
use Rattle.edge_places.specs.Shows.{memory}
use Rattle.words.specs.Given.{seen, size}
use Rattle.rule_choice.specs.Lent.{lexicon_of}
use Rattle.vowel_step.specs.Ways.{by-forms}
use Rattle.vowel_step.proofs.shape_of.Goals as goal

pub returns : goal.returns
returns c =
    let t = c.args.text.now in (
      c.bases-forms.ensures.0,
      λ x w e g. let A = c.form-which.ensures x w e g in record {
        did = by-forms (lexicon_of c.args.dicts.now.rules.now w c.args.dicts.now.code.now) w.text (seen w) c.args.tail c.args.span.from c.args.span.to
            (memory (size w) c.args.places.now) (shown t x c.bases-forms.result) (bases c.args.ao x t (eqb (c.args.span.from + 1) c.args.span.to)) (c.bases-forms.ensures.1 x) A.did;
        kept = A.kept;
      },
    )
