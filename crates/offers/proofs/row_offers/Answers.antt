-- `offers::row_offers`: the texts still to come have it where all have.
use mathlib.Core.Bool.{true, false}
use mathlib.Core.List.{List, []}
use mathlib.Core.Path.{sym, ap, ◌∙◌}
use native.Mathlib.Omega.{arith}
use lib.ListN.{take, drop, length-take}
use lib.Seq.{get_or-take}
use Rattle.base.specs.Lists.{same}
use Rattle.definition.specs.Texts.{Text}
use Rattle.definition.specs.RuleRows.{rule_of}
use Rattle.definition.specs.Offers.{offers}
use Rattle.edge.specs.Slots.{edge_by}
use Rattle.offers.specs.Texts.{texts, texts-count, texts_few}
use Rattle.offers.proofs.Seeking.{looked-over, looked_on}
use Rattle.offers.proofs.row_offers.Goals as goal

pub returns-then-is_offer : goal.returns-then-is_offer
returns-then-is_offer c =
    let a = c.args in
    let t = c.offers_of-o.ensures in
    let L : List Text = texts (offers a.readings (edge_by a.e a.text.now) (rule_of (drop a.row a.rules.now))) in (
      looked_on a.w.now (take a.most L) c.loop-k.k (omega (arith, texts-count t.0, length-take a.most L)) true
          (sym c.if-is_offer.true ∙ c.is_offer.ensures a.readings t.0 ∙ ap (same a.w.now) (sym (get_or-take a.most L c.loop-k.k [] (omega arith)))) ∙ c.loop-k.invariant,
      texts_few t.0 t.1,
    )

pub loop-k-preserved : goal.loop-k-preserved
loop-k-preserved c =
    let a = c.args in
    let t = c.offers_of-o.ensures in
    let L : List Text = texts (offers a.readings (edge_by a.e a.text.now) (rule_of (drop a.row a.rules.now))) in
    looked_on a.w.now (take a.most L) c.loop-k.k (omega (arith, texts-count t.0, length-take a.most L)) false
    (sym c.if-is_offer.false ∙ c.is_offer.ensures a.readings t.0 ∙ ap (same a.w.now) (sym (get_or-take a.most L c.loop-k.k [] (omega arith)))) ∙ c.loop-k.invariant

pub returns : goal.returns
returns c =
    let a = c.args in
    let L : List Text = texts (offers a.readings (edge_by a.e a.text.now) (rule_of (drop a.row a.rules.now))) in
    let n = texts-count c.offers_of-o.ensures.0 in
    (looked-over a.w.now (take a.most L) c.loop-k.k (omega (arith, n, length-take a.most L)) ∙ c.loop-k.invariant, texts_few c.offers_of-o.ensures.0 c.offers_of-o.ensures.1)
