-- `steps::vowel_around`: the first of three tries that was done; at the front of the text a space stands before, which has no flag.
use mathlib.Core.List.{List}
use mathlib.Core.Path.{refl, sym, ap, ◌∙◌, subst}
use Prim.Native.Nat.{ℕ, ◌+◌}
use native.Mathlib.Omega.{arith}
use Rattle.definition.specs.RuleRows.{rules_of}
use Rattle.base.specs.Lists.{has}
use Rattle.definition.specs.Limits.{most_target}
use Rattle.definition.specs.Expansion.{around_by}
use Rattle.steps.specs.Works.{work_in, Left}
use Rattle.words.specs.Characters.{flag_prev}
use Rattle.steps.proofs.Tries.{on, blank_pre, not_framed, unflagged_frame, by_three, by_two, by_one}
use Rattle.words.specs.Given.{kinds, line-size}
use Rattle.steps.proofs.vowel_around.Goals as goal
use Rattle.steps.proofs.vowel_around.Goals.{then-from-eq0-via-then-from-eq0, then-from-eq0-via-else-from-eq0+then-not-is_framed}

pub returns-then-from-eq0 : goal.returns-then-from-eq0
returns-then-from-eq0 c =
    let w = work_in c.args.bytes.now c.args.g in
    let R = rules_of c.args.dicts.now.rules.now in (
      (λ u h. elim c.then-from-eq0.branch [
        | then-from-eq0-via-then-from-eq0 v ↦
            sym (not_framed R (kinds u) u.text w refl (unflagged_frame _ (blank_pre u.classes h.fine u.text c.args.g.from v.if-from-eq0.true) w))
        | then-from-eq0-via-else-from-eq0+then-not-is_framed v ↦
            let p = flag_prev h c.args.g.from (omega (arith, c.requires, line-size h)) v.kind_at.ensures 6 (λ k. k.pre) (λ m k z. z.pre) refl in
            sym (not_framed R (kinds u) u.text w p (sym v.is_framed.ensures ∙ v.if-not-is_framed.true))
      ]),
      refl,
    )

pub returns-in-Some : goal.returns-in-Some
returns-in-Some c =
    let K = c.kind_at.ensures in
    let d = sym c.is_framed.ensures ∙ c.if-not-is_framed.false in
    let X = c.in-Some.ensures in (
      (λ u h.
          let p = flag_prev h c.args.g.from (omega (arith, c.requires, line-size h)) K 6 (λ k. k.pre) (λ m k z. z.pre) refl in
          let x = X.0 u h in
          x ∙ by_three (rules_of c.args.dicts.now.rules.now) (kinds u) u.text (work_in c.args.bytes.now c.args.g) p d (sym (ap has x))),
      X.1,
    )

pub returns-in-Some-around_by : goal.returns-in-Some-around_by
returns-in-Some-around_by c =
    let R = rules_of c.args.dicts.now.rules.now in
    let K = c.kind_at.ensures in
    let d = sym c.is_framed.ensures ∙ c.if-not-is_framed.false in
    let X = c.in_default.ensures in
    let Y = c.in-Some-around_by.ensures in (
      (λ u h.
          let p = flag_prev h c.args.g.from (omega (arith, c.requires, line-size h)) K 6 (λ k. k.pre) (λ m k z. z.pre) refl in
          let y = on c.args.g (around_by R u.text 2) X.1 (Y.0 u h) in
          y ∙ by_two R (kinds u) u.text (work_in c.args.bytes.now c.args.g) p d (sym (ap has (X.0 u h))) (sym (ap has y))),
      Y.1,
    )

pub returns : goal.returns
returns c =
    let R = rules_of c.args.dicts.now.rules.now in
    let K = c.kind_at.ensures in
    let d = sym c.is_framed.ensures ∙ c.if-not-is_framed.false in
    let X = c.in_default.ensures in
    let Y = c.in_default-around_by.ensures in
    let kept = Y.1 ∙ X.1 in (
      (λ u h.
          let p = flag_prev h c.args.g.from (omega (arith, c.requires, line-size h)) K 6 (λ k. k.pre) (λ m k z. z.pre) refl in
          let y = on c.args.g (around_by R u.text 2) X.1 (Y.0 u h) in
          on c.args.g (around_by R u.text 1) kept (c.around_by-3.ensures.0 u h)
          ∙ by_one R (kinds u) u.text (work_in c.args.bytes.now c.args.g) p d (sym (ap has (X.0 u h))) (sym (ap has y))),
      subst (λ (l : List ℕ). Left (c.args.g.len + most_target) l c.around_by-3.new.bytes c.around_by-3.result) kept c.around_by-3.ensures.1,
    )
