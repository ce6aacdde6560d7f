-- `expand::has_grave`: past the text there is none.
use mathlib.Core.Bool.{false, true, true≢false}
use mathlib.Core.Path.{◌≡◌, sym, ap, ◌∙◌}
use Prim.Native.Nat.{ℕ}
use native.Mathlib.Omega.{arith}
use lib.Dec.{eqb}
use borrow.Author.Tests.{le-ltb}
use Rattle.definition.specs.Texts.{at, coptic_grave}
use Rattle.definition.specs.Tables.{script_coptic}
use Rattle.words.specs.Given.{kinds, line-size, char_at}
use Rattle.words.specs.Characters.{script-prev}
use Rattle.expand.specs.Tests.{has_grave}
use Rattle.expand.proofs.Ways.{no_grave-past}
use Rattle.expand.proofs.has_grave.Goals as goal
use Rattle.expand.proofs.has_grave.Goals.{then-to-text_len, else-to-text_len}

pub returns-then-number_at-eq-GRAVE : goal.returns-then-number_at-eq-GRAVE
unfolding has_grave
returns-then-number_at-eq-GRAVE c =
    let to = c.args.to in
    let i = c.if-number_at-eq-GRAVE.true in
    elim c.if-to-text_len.branch [
      | then-to-text_len w ↦ (
        (λ u g.
            let n = line-size g in
            let here = w.number_at.ensures ∙ char_at g to (omega (arith, c.requires.1, n)) in
            let k : eqb (at u.text to) coptic_grave ≡ true = sym (ap (λ (x : ℕ). eqb x coptic_grave) here) ∙ (sym w.value-is ∙ i) in
            ap (λ (x : ℕ). eqb x script_coptic) (script-prev g to (omega (arith, c.requires.1, n)) c.kind_at.ensures c.script.ensures) ∙ sym (rw k)),
        (λ h. omega (arith, c.text_len.ensures, w.if-to-text_len.true)),
      )
      | else-to-text_len w ↦ absurd (true≢false (sym i ∙ w.value-is ∙ le-ltb to c.text_len.result w.if-to-text_len.false))
    ]

pub returns-else-number_at-eq-GRAVE : goal.returns-else-number_at-eq-GRAVE
unfolding has_grave
returns-else-number_at-eq-GRAVE c =
    let to = c.args.to in
    let i = c.if-number_at-eq-GRAVE.false in (
      (λ u g.
          let n = line-size g in
          elim c.if-to-text_len.branch [
            | then-to-text_len w ↦
                let here = w.number_at.ensures ∙ char_at g to (omega (arith, c.requires.1, n)) in
                let k : eqb (at u.text to) coptic_grave ≡ false = sym (ap (λ (x : ℕ). eqb x coptic_grave) here) ∙ (sym w.value-is ∙ i) in
                i ∙ sym (rw k)
            | else-to-text_len w ↦ i ∙ no_grave-past (kinds u) u.text to (omega (arith, n, c.text_len.ensures, w.if-to-text_len.false))
          ]),
      (λ h. absurd (true≢false (sym h ∙ i))),
    )
