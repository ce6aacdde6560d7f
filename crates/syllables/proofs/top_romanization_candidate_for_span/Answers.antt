-- `syllables::top_romanization_candidate_for_span`: one law for each way out.
use mathlib.Core.Path.{sym, ap, ◌∙◌, subst}
use lib.ListN.{drop}
use Rattle.base.specs.Pick.{pick}
use Rattle.base.specs.Lists.{bind}
use Rattle.definition.specs.RuleRows.{rule_of, text_where, text_of, end_target_at}
use Rattle.edge_places.specs.Shows.{memory}
use Rattle.words.specs.Did.{did_by}
use Rattle.words.specs.Given.{seen, size, lent-after}
use Rattle.rule_choice.specs.Chosen.{choice_means, chosen_means, Rowed, Said}
use Rattle.rule_choice.specs.Lent.{lexicon_of}
use Rattle.syllables.specs.Tests.{no_rule, no_end_target, at_end, inside}
use Rattle.syllables.proofs.top_romanization_candidate_for_span.Goals as goal
use Rattle.syllables.proofs.top_romanization_candidate_for_span.Goals.{else-flag-via-then-flag+else-is_at_end_of_syllable, else-flag-via-else-flag}

pub returns-in_err-row : goal.returns-in_err-row
returns-in_err-row c = (
  λ w e g. let L = lexicon_of c.args.dicts.now.rules.now w c.args.dicts.now.code.now in
      let A = c.top_rule-best.ensures.0 w e g in
      record {
        did = did_by (ap (chosen_means c.args.dicts.now.rules.now) c.from_residual.ensures) (no_rule L w.text (seen w) c.args.look.span.from c.args.look.span.to
            (memory (size w) c.args.places.now) (did_by (sym (ap (choice_means c.args.dicts.now.rules.now) c.in_err-row.was)) A.did));
        kept = A.kept;
      },
  subst (Said c.args.dicts.now.rules.now) (sym c.from_residual.ensures) tt,
)

pub returns-then-is_at_end_of_syllable : goal.returns-then-is_at_end_of_syllable
unfolding rule_of text_where pick
returns-then-is_at_end_of_syllable c =
    let R = c.args.dicts.now.rules.now in
    let s = drop c.in_ok-row.row R in
    let flag = sym c.flag.ensures ∙ c.if-flag.true in
    let ended = ap (λ x. text_where x (drop (end_target_at s) s)) flag in (
      λ w e g. let L = lexicon_of c.args.dicts.now.rules.now w c.args.dicts.now.code.now in
          let A = c.top_rule-best.ensures.0 w e g in
          let d = did_by (sym (ap (choice_means R) c.in_ok-row.was)) A.did in
          let B = c.is_at_end_of_syllable.ensures w e (lent-after _ g A.kept) in
          record {
            did = at_end L w.text (seen w) c.args.look.span.from c.args.look.span.to (memory (size w) c.args.places.now) (rule_of s) d (text_of (drop (end_target_at s) s)) ended
                (did_by (sym c.if-is_at_end_of_syllable.true) B.did);
            kept = B.kept ∙ A.kept;
          },
      (subst (Rowed R) c.in_ok-row.was c.top_rule-best.ensures.1, flag),
    )

pub returns : goal.returns
unfolding rule_of text_where pick
returns c =
    let R = c.args.dicts.now.rules.now in
    let s = drop c.in_ok-row.row R in
    let rule = ap (choice_means R) c.in_ok-row.was in
    let target = c.target_of.ensures.0 ∙ ap (λ o. bind o (λ x. x.target)) rule in (
      elim c.else-flag.branch [
        | else-flag-via-then-flag+else-is_at_end_of_syllable v ↦ λ w e g.
            let L = lexicon_of R w c.args.dicts.now.code.now in
            let A = c.top_rule-best.ensures.0 w e g in
            let B = v.is_at_end_of_syllable.ensures w e (lent-after _ g A.kept) in
            let ended = ap (λ x. text_where x (drop (end_target_at s) s)) (sym c.flag.ensures ∙ v.if-flag.true) in
            rw v.places-is record {
              did = did_by target (inside L w.text (seen w) c.args.look.span.from c.args.look.span.to (memory (size w) c.args.places.now) (rule_of s)
                  (did_by (sym rule) A.did) (text_of (drop (end_target_at s) s)) ended (did_by (sym v.if-is_at_end_of_syllable.false) B.did));
              kept = B.kept ∙ A.kept;
            }
        | else-flag-via-else-flag v ↦ λ w e g.
            let L = lexicon_of R w c.args.dicts.now.code.now in
            let A = c.top_rule-best.ensures.0 w e g in
            let ended = ap (λ x. text_where x (drop (end_target_at s) s)) (sym c.flag.ensures ∙ v.if-flag.false) in
            rw v.places-is record {
              did = did_by target (no_end_target L w.text (seen w) c.args.look.span.from c.args.look.span.to (memory (size w) c.args.places.now) (rule_of s)
                  (did_by (sym rule) A.did) ended);
              kept = A.kept;
            }
      ],
      c.target_of.ensures.1,
    )
