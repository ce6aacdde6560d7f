-- `expand::small_target`: one law for each way out.
use mathlib.Core.Path.{sym, ap, ◌∙◌}
use mathlib.Core.Bool.{true≢false}
use mathlib.Core.List.{[], ◌∷◌}
use Prim.Native.Nat.{ℕ}
use native.Mathlib.Omega.{arith}
use lib.Dec.{eqb}
use Rattle.base.specs.Bools.{and_left}
use Rattle.definition.specs.Texts.{letter_i}
use Rattle.definition.specs.RuleRows.{rules_of}
use Rattle.definition.specs.Rules.{first_rule}
use Rattle.definition.specs.Expansion.{work}
use Rattle.words.specs.Given.{kinds, line-size, char_at}
use Rattle.steps.proofs.Letters.{not_empty}
use Rattle.expand.proofs.Ways.{not_next, no_i, small-ruled-by}
use Rattle.expand.proofs.small_target.Goals as goal
use Rattle.expand.proofs.small_target.Goals.{else-is_small_next-via-then-is_small_next+else-ends_in_i, else-is_small_next-via-else-is_small_next}

pub returns-then-ends_in_i : goal.returns-then-ends_in_i
returns-then-ends_in_i c =
    let w = work c.args.text.now c.args.g.from c.args.g.to c.args.g.note in
    let I = c.if-is_small_next.true in
    let i = sym c.ends_in_i.ensures ∙ c.if-ends_in_i.true in (
      (λ u h.
          c.romanization_by_first_rule.ensures.0 ∙ ap (λ (k : ℕ). first_rule (rules_of c.args.dicts.now.rules.now) (k ∷ []))
          (c.number_at-small.ensures ∙ char_at h c.args.g.to (omega (arith, c.requires.1, line-size h)))
          ∙ small-ruled-by (rules_of c.args.dicts.now.rules.now) (kinds u) u.text w (sym (c.is_small_next.ensures.0 u h) ∙ I) i),
      c.romanization_by_first_rule.ensures.1,
      (λ h. (c.is_small_next.ensures.1 I, not_empty (eqb letter_i) c.args.text.now (and_left _ _ i))),
    )

pub returns : goal.returns
returns c =
    let w = work c.args.text.now c.args.g.from c.args.g.to c.args.g.note in (
      (λ u h. elim c.else-is_small_next.branch [
        | else-is_small_next-via-then-is_small_next+else-ends_in_i v ↦
            no_i (rules_of c.args.dicts.now.rules.now) (kinds u) u.text w (sym (c.is_small_next.ensures.0 u h) ∙ v.if-is_small_next.true) (sym v.ends_in_i.ensures ∙ v.if-ends_in_i.false)
        | else-is_small_next-via-else-is_small_next v ↦
            not_next (rules_of c.args.dicts.now.rules.now) (kinds u) u.text w (sym (c.is_small_next.ensures.0 u h) ∙ v.if-is_small_next.false)
      ]),
      tt,
      (λ h. absurd (true≢false (sym h))),
    )
