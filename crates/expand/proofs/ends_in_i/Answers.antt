-- `expand::ends_in_i`: the two last bytes.
use mathlib.Core.Bool.{false, true≢false}
use mathlib.Core.Path.{◌≡◌, sym, ◌∙◌}
use borrow.Author.Tests.{eqb-true, eq-eqb, lt-leb}
use Rattle.rom.specs.Sets.{in_consonants}
use Rattle.expand.specs.Sides.{after_consonant}
use Rattle.expand.proofs.Sounds.{too_short, other_last, i_last}
use Rattle.expand.proofs.ends_in_i.Goals as goal
use Rattle.expand.proofs.ends_in_i.Goals.{then-n-ge2, else-n-ge2}

pub returns-then-text-n-eq105 : goal.returns-then-text-n-eq105
returns-then-text-n-eq105 c =
    let i = c.if-text-n-eq105.true in
    elim c.if-n-ge2.branch [
      | then-n-ge2 w ↦ c.is_in.ensures ∙ in_consonants _ ∙ i_last c.args.text.now w.if-n-ge2.true (eqb-true _ 105 (sym w.value-is ∙ i))
      | else-n-ge2 w ↦ absurd (true≢false (sym i ∙ w.value-is ∙ lt-leb 2 _ w.if-n-ge2.false))
    ]

pub returns-else-text-n-eq105 : goal.returns-else-text-n-eq105
returns-else-text-n-eq105 c =
    let i = c.if-text-n-eq105.false in
    let other : false ≡ after_consonant c.args.text.now = elim c.if-n-ge2.branch [
      | then-n-ge2 w ↦ other_last c.args.text.now w.if-n-ge2.true (λ e. true≢false (sym (eq-eqb _ 105 e) ∙ (sym w.value-is ∙ i)))
      | else-n-ge2 w ↦ too_short c.args.text.now w.if-n-ge2.false
    ] in
    i ∙ other
