-- `rule_row_test::texts_right`: the targets and the alternatives, each walked to its end or not.
use native.Mathlib.Omega.{arith}
use mathlib.Core.Path.{refl}
use lib.ListN.{drop}
use Rattle.rule_row_test.specs.Fields.{target_late, targets_wrong, no_count, others-wrong, others-told}
use Rattle.rule_row_test.proofs.texts_right.Goals as goal

pub at_there-flags-requires : goal.at_there-flags-requires
at_there-flags-requires c =
    let a = c.args in
    let q = c.requires in
    omega (arith, q.0, q.2, q.3, target_late (drop a.row a.s.now))

pub returns-in_default : goal.returns-in_default
returns-in_default c =
    let a = c.args in
    let q = c.requires in
    targets_wrong a.s.now a.row a.target a.end q.4 q.0 q.1 _ c.at_there-flags.ensures.0 c.in_default.ensures

pub returns-then-end-others : goal.returns-then-end-others
returns-then-end-others c =
    let a = c.args in
    let q = c.requires in
    no_count a.s.now a.row a.target a.end q.4 q.0 q.1 _ c.at_there-flags.ensures.0 _ c.in-Some.ensures (omega arith)

pub returns-in_default-past_texts : goal.returns-in_default-past_texts
returns-in_default-past_texts c =
    let a = c.args in
    let q = c.requires in
    others-wrong a.s.now a.row a.target a.end q.4 q.0 q.1 _ c.at_there-flags.ensures.0 _ c.in-Some.ensures
    _ c.at_there-count.ensures.0 _ refl c.in_default-past_texts.ensures

pub returns : goal.returns
returns c =
    let a = c.args in
    let q = c.requires in
    others-told a.s.now a.row a.target a.end q.4 q.0 q.1 _ c.at_there-flags.ensures.0 _ c.in-Some.ensures
    _ c.at_there-count.ensures.0 _ refl (omega arith) _ c.in-Some-past_texts.ensures
