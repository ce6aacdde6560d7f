-- `expand::is_small_next`: past the text there is none.
use mathlib.Core.Bool.{true≢false}
use mathlib.Core.Path.{sym, ap, ◌∙◌}
use Prim.Native.Nat.{ℕ}
use native.Mathlib.Omega.{arith}
use lib.Dec.{eqb}
use borrow.Author.Tests.{le-ltb}
use Rattle.definition.specs.Classes.{script}
use Rattle.definition.specs.Expansion.{small_ya}
use Rattle.words.specs.Given.{kinds, line-size, char_at}
use Rattle.words.specs.Characters.{script-prev, script-here}
use Rattle.expand.specs.Sides.{small_here}
use Rattle.expand.proofs.Ways.{no_small-past}
use Rattle.expand.proofs.is_small_next.Goals as goal
use Rattle.expand.proofs.is_small_next.Goals.{then-to-text_len, else-to-text_len}

pub returns-then-is_small_ya : goal.returns-then-is_small_ya
unfolding small_here
returns-then-is_small_ya c =
    let to = c.args.to in
    let i = c.if-is_small_ya.true in
    elim c.if-to-text_len.branch [
      | then-to-text_len w ↦ (
        (λ u g.
            let n = line-size g in
            let d = script-prev g to (omega (arith, c.requires.1, n)) c.kind_at.ensures c.script.ensures in
            let e = script-here g to (omega (arith, c.requires.1, n)) c.kind_at-then-is_small_ya.ensures c.script-then-is_small_ya.ensures in
            let k = sym (w.is_small_ya.ensures ∙ ap small_ya (w.number_at.ensures ∙ char_at g to (omega (arith, c.requires.1, n)))) ∙ (sym w.value-is ∙ i) in
            ap (λ (x : ℕ). eqb x c.script-then-is_small_ya.result) d ∙ ap (eqb (script (kinds u) _)) e ∙ sym (rw k)),
        (λ h. omega (arith, c.text_len.ensures, w.if-to-text_len.true)),
      )
      | else-to-text_len w ↦ absurd (true≢false (sym i ∙ w.value-is ∙ le-ltb to c.text_len.result w.if-to-text_len.false))
    ]

pub returns-else-is_small_ya : goal.returns-else-is_small_ya
unfolding small_here
returns-else-is_small_ya c =
    let to = c.args.to in
    let i = c.if-is_small_ya.false in (
      (λ u g.
          let n = line-size g in
          elim c.if-to-text_len.branch [
            | then-to-text_len w ↦
                let k = sym (w.is_small_ya.ensures ∙ ap small_ya (w.number_at.ensures ∙ char_at g to (omega (arith, c.requires.1, n)))) ∙ (sym w.value-is ∙ i) in
                i ∙ sym (rw k)
            | else-to-text_len w ↦ i ∙ no_small-past (kinds u) u.text to (omega (arith, n, c.text_len.ensures, w.if-to-text_len.false))
          ]),
      (λ h. absurd (true≢false (sym h ∙ i))),
    )
