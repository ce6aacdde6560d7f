-- `spans::put_span_edge`: by what full search answers, whose bytes are few.
use mathlib.Core.Path.{refl, sym, ap, ◌∙◌}
use native.Mathlib.Omega.{arith}
use lib.ListN.{length}
use Rattle.std.specs.Prelude.{Some, None}
use Rattle.definition.specs.Call.{tables_of}
use Rattle.edge_places.specs.Shows.{memory}
use Rattle.words.specs.Given.{seen, size, lent-after}
use Rattle.rule_choice.specs.Chosen.{chosen_means, has-chosen}
use Rattle.steps.proofs.Tries.{said-short}
use Rattle.spans.specs.Ways.{span_untold, span_told, plus_few}
use Rattle.spans.proofs.put_span_edge.Goals as goal

pub edge_of-requires : goal.edge_of-requires
edge_of-requires c =
    let S = c.in_ok-target.ensures in
    let few = said-short c.args.dicts.now.rules.now (Some c.in_ok-target.target) S.1 in
    (c.requires.0, omega (arith, few, ap length c.chosen_text-w.ensures, ap length c.without_plus.ensures, plus_few c.chosen_text-w.result.now), c.requires.1.inside, c.requires.2)

pub returns-in_err-target : goal.returns-in_err-target
unfolding tables_of
returns-in_err-target c =
    let R = c.args.dicts.now.rules.now in
    let S = c.in_err-target.ensures in
    rw c.from_residual.ensures (
      (λ z known lent.
          let A = S.0 z known lent in
          let D = tables_of z.choices R z.classes c.args.dicts.now.vowels.now c.args.dicts.now.code.now in
          record {
            did = span_untold D z.text (seen z) c.args.look.span.from c.args.look.span.to (memory (size z) c.args.places.now) (chosen_means R None) A.did refl;
            kept = A.kept;
          }),
      refl,
    )

pub returns : goal.returns
unfolding tables_of
returns c =
    let R = c.args.dicts.now.rules.now in
    let S = c.in_ok-target.ensures in
    let x = Some c.in_ok-target.target in (
      λ z known lent.
          let A = S.0 z known lent in
          let X = c.edge_of.ensures.0 z known (lent-after _ lent A.kept) in
          let D = tables_of z.choices R z.classes c.args.dicts.now.vowels.now c.args.dicts.now.code.now in
          record {
            did = span_told D z.text (seen z) c.args.look.span.from c.args.look.span.to (memory (size z) c.args.places.now) (chosen_means R x) A.did
                (sym (has-chosen R x)) c.chosen_text-w.result.now c.chosen_text-w.ensures c.is_tail.result c.without_plus.result.now c.is_tail.ensures c.without_plus.ensures X.did;
            kept = X.kept ∙ A.kept;
          },
      c.edge_of.ensures.1,
    )
