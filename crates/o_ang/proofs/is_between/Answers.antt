-- `o_ang::is_between`: one law for each way out.
use mathlib.Core.Path.{sym, ap, ◌∙◌}
use mathlib.Core.List.{[], ◌∷◌}
use Prim.Native.Nat.{ℕ}
use native.Mathlib.Omega.{arith}
use Rattle.base.specs.Lists.{is}
use Rattle.definition.specs.RuleRows.{rules_of}
use Rattle.definition.specs.Rules.{first_rule}
use Rattle.definition.specs.Expansion.{work}
use Rattle.o_ang.specs.Sides.{beside}
use Rattle.o_ang.proofs.Ways.{not_in_thai, not_behind, by_next}
use Rattle.words.specs.Given.{kinds, seen, line-size, char_at}
use Rattle.words.specs.Choosing.{choices_of}
use Rattle.o_ang.proofs.is_between.Goals as goal
use Rattle.o_ang.proofs.is_between.Goals.{then-is_in_thai, else-is_in_thai}

pub returns-then-is_after_side : goal.returns-then-is_after_side
returns-then-is_after_side c =
    λ x w h. let z = line-size h.text in
    let R = rules_of c.args.dicts.now.rules.now in
    elim c.if-is_in_thai.branch [
      | then-is_in_thai v ↦ c.starts_beside.ensures
          ∙ ap (λ (y : ℕ). is beside (first_rule R (y ∷ []))) (c.number_at.ensures ∙ char_at h.text c.args.g.to (omega arith))
          ∙ by_next (choices_of c.args.choices) R (kinds x) x.text (work w c.args.g.from c.args.g.to c.args.g.note) (seen x)
          (sym (c.is_in_thai.ensures x h.text) ∙ v.if-is_in_thai.true) (sym (v.is_after_side.ensures x h) ∙ sym v.value-is ∙ c.if-is_after_side.true)
      | else-is_in_thai v ↦ let e = v.value-is in let f = c.if-is_after_side.true in cc
    ]

pub returns-else-is_after_side : goal.returns-else-is_after_side
returns-else-is_after_side c =
    λ x w h. let R = rules_of c.args.dicts.now.rules.now in
    c.if-is_after_side.false ∙ elim c.if-is_in_thai.branch [
      | then-is_in_thai v ↦ not_behind (choices_of c.args.choices) R (kinds x) x.text (work w c.args.g.from c.args.g.to c.args.g.note) (seen x)
          (sym (c.is_in_thai.ensures x h.text) ∙ v.if-is_in_thai.true) (sym (v.is_after_side.ensures x h) ∙ sym v.value-is ∙ c.if-is_after_side.false)
      | else-is_in_thai v ↦ not_in_thai (choices_of c.args.choices) R (kinds x) x.text (work w c.args.g.from c.args.g.to c.args.g.note) (seen x)
          (sym (c.is_in_thai.ensures x h.text) ∙ v.if-is_in_thai.false)
    ]
