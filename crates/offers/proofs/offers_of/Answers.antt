-- `offers::offers_of`: by the flag of the target, and by whether it is the edge's text, its core, or neither.
use mathlib.Core.Bool.{true, ◌&&◌, ◌||◌}
use mathlib.Core.List.{List}
use mathlib.Core.Path.{◌≡◌, refl, sym, ap, ◌∙◌}
use Prim.Native.Nat.{ℕ, ◌≤◌}
use native.Mathlib.Omega.{arith}
use lib.ListN.{length, drop}
use Rattle.lent_bytes.specs.Library.{same_texts}
use Rattle.base.specs.Pick.{pick}
use Rattle.base.specs.Lists.{has, same}
use Rattle.base.specs.Alls.{All}
use Rattle.definition.specs.Shorts.{Low}
use Rattle.definition.specs.RuleRows.{rule_flag, target_bit, rule_of}
use Rattle.definition.specs.Paths.{cored}
use Rattle.edge.specs.Slots.{edge_by}
use Rattle.rule_row.specs.Others.{others}
use Rattle.offers.proofs.Telling.{W, taken-by, read_by, target-short, tells, tells_nothing}
use Rattle.offers.proofs.offers_of.Goals as goal
use Rattle.offers.proofs.offers_of.Goals.{then-whole, else-whole, then-taken, else-taken, then-whole-2, else-whole-2}

pub returns-then-not-flag : goal.returns-then-not-flag
returns-then-not-flag c =
    let a = c.args in
    (tells_nothing (drop a.row a.rules.now) a.readings (edge_by a.e a.text.now) _ (sym c.flag.ensures ∙ c.if-not-flag.true) refl refl refl refl, omega arith)

pub returns : goal.returns
unfolding edge_by pick
returns c =
    let a = c.args in
    let S : List ℕ = drop a.row a.rules.now in
    let x = edge_by a.e a.text.now in
    let whole = c.eq-whole.result in
    let core = c.is_core-cored.result in
    let flagged : rule_flag S target_bit ≡ true = sym c.flag.ensures ∙ c.if-not-flag.false in
    let low : All Low (W S) = (target-short S c.requires.0.spoken flagged).low in
    let text : whole ≡ same (W S) a.text.now = c.eq-whole.ensures ∙ same_texts _ _ ∙ ap (λ w. same w a.text.now) c.target_text-w.ensures in
    let inner : core ≡ cored x (W S) = c.is_core-cored.ensures ∙ ap (cored x) c.target_text-w.ensures in
    let taken : c.if-whole.taken ≡ (whole || core) = elim c.if-whole.branch [
      | then-whole w ↦ rw w.if-whole.true (w.taken-is ∙ w.if-whole.true)
      | else-whole w ↦ rw w.if-whole.false w.taken-is
    ] in
    let few : c.if-taken.others ≤ 255 = elim c.if-taken.branch [
      | then-taken w ↦ omega (arith, w.others-is, w.others_count-others.ensures)
      | else-taken w ↦ omega (arith, w.others-is)
    ] in
    let count : c.if-taken.others ≡ pick c.if-whole.taken (length (others S)) 0 = elim c.if-taken.branch [
      | then-taken w ↦ rw w.if-taken.true (w.others-is ∙ w.others_count-others.ensures.0)
      | else-taken w ↦ rw w.if-taken.false w.others-is
    ] in
    let read : c.if-whole-2.reading ≡ (whole && (a.readings && has (rule_of S).end_target)) = elim c.if-whole-2.branch [
      | then-whole-2 w ↦ rw w.if-whole-2.true (w.reading-is ∙ w.is_read-reading.ensures)
      | else-whole-2 w ↦ rw w.if-whole-2.false (w.reading-is ∙ w.if-whole-2.false)
    ] in (
      tells S a.readings x _ flagged _ (taken-by a.e a.text.now (W S) c.requires.1 low whole core (sym text) (sym inner)) (count ∙ ap (λ t. pick t (length (others S)) 0) taken) inner
          (read ∙ read_by a.e a.text.now (W S) c.requires.1 low a.readings whole (sym text) (has (rule_of S).end_target))
          c.is_at_end-target.ensures,
      few,
    )
