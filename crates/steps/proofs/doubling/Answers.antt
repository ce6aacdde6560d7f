-- `steps::doubling`: one law for each way out; at the front of the text a space stands before, which is no small tsu.
use mathlib.Core.Path.{refl, sym, ap, ◌∙◌}
use Prim.Native.Nat.{ℕ}
use native.Mathlib.Omega.{arith}
use lib.ListN.{take}
use Rattle.definition.specs.Expansion.{small_tsu, doubled}
use Rattle.definition.specs.Expansion as expansion
use Rattle.steps.specs.Works.{work_in}
use Rattle.words.specs.Characters.{script-prev, script-here}
use Rattle.steps.proofs.Outcomes.{at_front, no_tsu, other-script, no_letter, a_letter}
use Rattle.words.specs.Given.{kinds, line-size, char_before}
use Rattle.steps.proofs.doubling.Goals as goal
use Rattle.steps.proofs.doubling.Goals.{else-is_small_tsu-via-then-is_small_tsu+else-script, else-is_small_tsu-via-else-is_small_tsu}

pub returns-then-o-eq0 : goal.returns-then-o-eq0
returns-then-o-eq0 c =
    ((λ u h. at_front (kinds u) u.text c.args.o (work_in c.args.bytes.now c.args.g) (omega arith)), c.requires.0, omega arith, omega arith, refl)

pub returns-in-Some : goal.returns-in-Some
returns-in-Some c =
    let C = c.number_at-c.ensures in
    let T = c.is_small_tsu.ensures in
    let I = c.if-is_small_tsu.true in
    let K = c.kind_at.ensures in
    let S = c.script.ensures in
    let L = c.kind_at-then-is_small_tsu.ensures in
    let R = c.script-then-is_small_tsu.ensures in
    let J = c.if-script.true in
    let X = c.in-Some.ensures in (
      (λ u h.
          let here = C ∙ char_before h c.args.o (omega (arith, c.requires, line-size h)) in
          let tsu = sym (T ∙ ap small_tsu here) ∙ I in
          let p = script-prev h c.args.o (omega (arith, c.requires, line-size h)) K S in
          let q = script-here h c.args.o (omega (arith, c.requires, line-size h)) L R in
          let d = X ∙ ap (λ (x : ℕ). doubled x (take c.args.g.len c.args.bytes.now)) here in
          c.put_front.ensures.0 ∙ a_letter (kinds u) u.text c.args.o (work_in c.args.bytes.now c.args.g) tsu (omega (arith, p, q, J)) c.in-Some.letter d),
      c.put_front.ensures.1,
      omega (arith, c.put_front.ensures.2),
      omega (arith, ap (λ (y : expansion.Work). y.from) c.put_front.ensures.0),
      ap (λ (y : expansion.Work). y.to) c.put_front.ensures.0,
    )

pub returns-in_default : goal.returns-in_default
returns-in_default c =
    let C = c.number_at-c.ensures in
    let T = c.is_small_tsu.ensures in
    let I = c.if-is_small_tsu.true in
    let K = c.kind_at.ensures in
    let S = c.script.ensures in
    let L = c.kind_at-then-is_small_tsu.ensures in
    let R = c.script-then-is_small_tsu.ensures in
    let J = c.if-script.true in
    let X = c.in_default.ensures in (
      (λ u h.
          let here = C ∙ char_before h c.args.o (omega (arith, c.requires, line-size h)) in
          let tsu = sym (T ∙ ap small_tsu here) ∙ I in
          let p = script-prev h c.args.o (omega (arith, c.requires, line-size h)) K S in
          let q = script-here h c.args.o (omega (arith, c.requires, line-size h)) L R in
          let d = X ∙ ap (λ (x : ℕ). doubled x (take c.args.g.len c.args.bytes.now)) here in
          no_letter (kinds u) u.text c.args.o (work_in c.args.bytes.now c.args.g) tsu (omega (arith, p, q, J)) d),
      c.requires.0,
      omega arith,
      omega arith,
      refl,
    )

pub returns-else-is_small_tsu : goal.returns-else-is_small_tsu
returns-else-is_small_tsu c =
    let C = c.number_at-c.ensures in
    let T = c.is_small_tsu.ensures in (
      (λ u h.
          let here = C ∙ char_before h c.args.o (omega (arith, c.requires, line-size h)) in
          elim c.else-is_small_tsu.branch [
            | else-is_small_tsu-via-then-is_small_tsu+else-script w ↦
                let p = script-prev h c.args.o (omega (arith, c.requires, line-size h)) w.kind_at.ensures w.script.ensures in
                let q = script-here h c.args.o (omega (arith, c.requires, line-size h)) w.kind_at-then-is_small_tsu.ensures w.script-then-is_small_tsu.ensures in
                other-script (kinds u) u.text c.args.o (work_in c.args.bytes.now c.args.g) (sym (T ∙ ap small_tsu here) ∙ w.if-is_small_tsu.true)
                (λ e. w.if-script.false (omega (arith, e, p, q)))
            | else-is_small_tsu-via-else-is_small_tsu w ↦
                no_tsu (kinds u) u.text c.args.o (work_in c.args.bytes.now c.args.g) (sym (T ∙ ap small_tsu here) ∙ w.if-is_small_tsu.false)
          ]),
      c.requires.0,
      omega arith,
      omega arith,
      refl,
    )
