-- `table_classes::kind_of`: the row's numbers packed, or the default.
use mathlib.Core.Path.{◌∙◌}
use Rattle.table_classes.proofs.Answers.{absent_is, row_ranged, row_is}
use Rattle.table_classes.proofs.kind_of.Goals as goal

pub returns-in-None : goal.returns-in-None
returns-in-None c =
    let t = c.class_of in
    c.plain_kind.ensures ∙ absent_is _ t.result _ t.ensures.0 c.in-None.is

pub pack-requires : goal.pack-requires
pack-requires c =
    let t = c.class_of in
    row_ranged _ t.result _ t.ensures.0 _ c.in-Some.is t.ensures.1

pub returns-in-Some : goal.returns-in-Some
returns-in-Some c =
    let t = c.class_of in
    c.pack.ensures ∙ row_is _ t.result _ t.ensures.0 _ c.in-Some.is t.ensures.1
