-- `rule_choice::simple_top_romanization_candidate_for_span`: past the text nothing, else the winner's target.
use mathlib.Core.Option.{none}
use mathlib.Core.Path.{refl, sym, ap}
use native.Mathlib.Omega.{arith}
use Rattle.edge_places.specs.Shows.{memory}
use Rattle.words.specs.declared.given.Span.{Span}
use Rattle.words.specs.Did.{did, asked-none}
use Rattle.words.specs.Given.{seen, size, line-size}
use Rattle.rule_choice.specs.Lent.{lexicon_of}
use Rattle.rule_choice.specs.Chosen.{choice_means}
use Rattle.rule_choice.proofs.Targets.{simply}
use Rattle.rule_choice.proofs.Walking.{past}
use Rattle.rule_choice.proofs.simple_top_romanization_candidate_for_span.Goals as goal

pub returns-then-text_len-span : goal.returns-then-text_len-span
returns-then-text_len-span c =
    let s = c.args.span.from in
    let e = c.args.span.to in (
      λ w o g. let z = line-size g.text in
          let L = lexicon_of c.args.dicts.now.rules.now w c.args.dicts.now.code.now in
          let m = memory (size w) c.args.places.now in
          asked-none (simply L w.text (seen w) s e s e refl refl m m none
          (did (sym (past L w.text (seen w) s e m c.args.span.forward (omega arith)))) none refl),
      tt,
    )

pub returns : goal.returns
returns c = (
  λ w e g. let A = c.top_rule-best.ensures.0 w e g in record {
    did = simply (lexicon_of c.args.dicts.now.rules.now w c.args.dicts.now.code.now) w.text (seen w) _ _ c.args.span.from c.args.span.to (ap (λ (s : Span). s.from) c.look_up-look.ensures.1) (ap (λ (s : Span). s.to) c.look_up-look.ensures.1)
        (memory (size w) c.args.places.now) _ (choice_means c.args.dicts.now.rules.now c.top_rule-best.result) A.did _ c.target_of.ensures.0;
    kept = A.kept;
  },
  c.target_of.ensures.1,
)
