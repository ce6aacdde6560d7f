-- `spans::edge_of`: without a vowel step, or the vowel step, then the expansion of what came of it.
use mathlib.Core.Path.{refl, ap, ◌∙◌}
use native.Mathlib.Omega.{arith}
use lib.ListN.{take}
use Rattle.definition.specs.Texts.{Text}
use Rattle.definition.specs.Building.{grown}
use Rattle.definition.specs.Call.{tables_of}
use Rattle.edge_places.specs.Shows.{memory}
use Rattle.rom.specs.Rom.{text, len_by, text-rom}
use Rattle.words.specs.Did.{did_by}
use Rattle.words.specs.Given.{seen, size, lent-after}
use Rattle.steps.specs.Works.{work_in}
use Rattle.spans.specs.Ways.{edge-done}
use Rattle.spans.proofs.edge_of.Goals as goal

pub returns-then-is_voiceless : goal.returns-then-is_voiceless
returns-then-is_voiceless c =
    c.voiceless_edge.ensures c.args.dicts.now.vowels.now (c.is_voiceless.ensures c.if-is_voiceless.true)

pub put_expanded-x-requires : goal.put_expanded-x-requires
put_expanded-x-requires c =
    (c.voiced-v.ensures.1, omega (arith, c.voiced-v.ensures.2, c.requires.1, len_by c.args.w.now refl), c.requires.2, c.requires.3)

pub returns : goal.returns
unfolding tables_of
returns c =
    let w = c.args.w.now in
    let new = text c.voiced-v.result.rom in
    let b = c.put_expanded-x.new.bytes in
    let grows = c.voiced-v.ensures.3 ∙ ap (λ (u : Text). grown u new) (text-rom w (omega (arith, c.requires.1))) in
    let E = c.as_edge.ensures w new (take c.put_expanded-x.result.len b) grows refl in (
      λ u told lent.
          let A = c.voiced-v.ensures.0 u told lent in
          let Z = c.put_expanded-x.ensures.0 u told (lent-after _ lent A.kept) in
          let D = tables_of u.choices c.args.dicts.now.rules.now u.classes c.args.dicts.now.vowels.now c.args.dicts.now.code.now in
          record {
            did = did_by E (edge-done D u.text (seen u) c.args.tail w new (work_in b c.put_expanded-x.result) c.args.span.from c.args.span.to
                (memory (size u) c.args.places.now) A.did Z.did);
            kept = Z.kept ∙ A.kept;
          },
      c.put_expanded-x.ensures.1,
    )
