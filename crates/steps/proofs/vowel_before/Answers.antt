-- `steps::vowel_before`: one law for each way out; at the front of the text a space stands before, which has no flag.
use mathlib.Core.List.{[], ◌∷◌}
use mathlib.Core.Path.{refl, sym, ap, ◌∙◌, subst}
use Prim.Native.Nat.{ℕ, ◌+◌, ◌≤◌}
use native.Mathlib.Nat.{add-zero}
use native.Mathlib.Omega.{arith}
use Rattle.definition.specs.Limits.{most_target}
use Rattle.definition.specs.RuleRows.{rules_of}
use Rattle.definition.specs.Rules.{first_rule}
use Rattle.definition.specs.Expansion as expansion
use Rattle.rule_choice.specs.Chosen.{chosen_means}
use Rattle.steps.specs.declared.Growing.{Growing}
use Rattle.steps.specs.Works.{work_in, Held}
use Rattle.words.specs.Characters.{script-prev, flag_prev}
use Rattle.steps.proofs.Tries.{behind-there, blank_pre, not_before, by_rule, unflagged_before, or_same, or-held}
use Rattle.words.specs.Given.{kinds, size, line-size, char_before}
use Rattle.steps.proofs.vowel_before.Goals as goal
use Rattle.steps.proofs.vowel_before.Goals.{then-from-eq0-via-then-from-eq0, then-from-eq0-via-else-from-eq0+then-not-is_before}

pub returns-then-from-eq0 : goal.returns-then-from-eq0
returns-then-from-eq0 c =
    let w = work_in c.args.bytes.now c.args.g in
    let R = rules_of c.args.dicts.now.rules.now in (
      (λ u h. elim c.then-from-eq0.branch [
        | then-from-eq0-via-then-from-eq0 v ↦
            not_before R (kinds u) u.text w refl refl (unflagged_before _ (blank_pre u.classes h.fine u.text c.args.g.from v.if-from-eq0.true) _ w.rom)
        | then-from-eq0-via-else-from-eq0+then-not-is_before v ↦
            let l : c.args.g.from ≤ size u + 2 = omega (arith, c.requires, line-size h) in
            let p = flag_prev h c.args.g.from l v.kind_at.ensures 6 (λ k. k.pre) (λ m k z. z.pre) refl in
            let q = script-prev h c.args.g.from l v.kind_at.ensures refl in
            not_before R (kinds u) u.text w p q (sym v.is_before.ensures ∙ v.if-not-is_before.true)
      ]),
      c.requires.0,
      omega arith,
      omega arith,
      refl,
    )

pub returns : goal.returns
returns c =
    let b = c.args.bytes.now in
    let d = c.put_behind.new.bytes in
    let m = c.args.g.len + most_target in
    let K = c.kind_at.ensures in
    let T = c.is_before.ensures in
    let I = c.if-not-is_before.false in
    let C = c.number_at-vowel.ensures in
    let w = work_in b c.args.g in
    let o = chosen_means c.args.dicts.now.rules.now c.romanization_by_first_rule-target.result in
    let B = behind-there w o in
    let R = rules_of c.args.dicts.now.rules.now in
    let e = ap (λ (x : Growing). work_in d x) c.unwrap_or.ensures
    ∙ or_same b d c.args.g m c.put_behind.result (c.put_behind.ensures.0 0 (sym (add-zero c.args.g.to))) c.put_behind.ensures.1 in
    let held = subst (λ (x : Growing). Held d x × (x.len ≤ m)) (sym c.unwrap_or.ensures)
    (or-held b d c.args.g m c.requires.0 (omega arith) c.put_behind.result c.put_behind.ensures.1) in (
      (λ u g.
          let h : c.args.g.from ≤ size u + 2 = omega (arith, c.requires, line-size g) in
          let p = flag_prev g c.args.g.from h K 6 (λ k. k.pre) (λ m k z. z.pre) refl in
          let q = script-prev g c.args.g.from h K refl in
          let r = c.romanization_by_first_rule-target.ensures.0 ∙ ap (λ (x : ℕ). first_rule R (x ∷ [])) (C ∙ char_before g c.args.g.from h) in
          e ∙ by_rule R (kinds u) u.text w p q (sym T ∙ I) o r),
      held.0,
      held.1,
      omega (arith, ap (λ (y : expansion.Work). y.from) e, B.0),
      ap (λ (y : expansion.Work). y.to) e ∙ B.1,
    )
