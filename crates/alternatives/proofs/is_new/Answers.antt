-- `alternatives::is_new`: the text itself, the filter, and where that does not know the walk.
use mathlib.Core.List.{◌++◌}
use mathlib.Core.Path.{◌≡◌, sym, ◌∙◌}
use lib.ListN.{take, drop}
use Rattle.base.specs.Lists.{any, same}
use Rattle.definition.specs.RuleRows.{rule_of}
use Rattle.definition.specs.Offers.{offers}
use Rattle.edge.specs.Slots.{edge_by}
use Rattle.lent_bytes.specs.Library.{same_texts}
use Rattle.offers.specs.Texts.{texts}
use Rattle.alternatives.specs.News.{offered}
use Rattle.alternatives.proofs.Turns.{other_again}
use Rattle.alternatives.proofs.is_new.Goals as goal
use Rattle.alternatives.proofs.is_new.Goals.{then-may_hold, else-may_hold}

pub returns : goal.returns
returns c =
    let x = edge_by c.args.e c.args.text.now in
    let ws = offered x c.args.dicts.now.code.now c.args.asked c.args.dicts.now.rules.now c.args.before ++ take c.args.k (texts (offers c.args.asked.readings x (rule_of (drop c.args.row c.args.dicts.now.rules.now)))) in
    let again : c.if-may_hold.result ≡ any (same c.args.w.now) ws = elim c.if-may_hold.branch [
      | then-may_hold w ↦ w.result-is ∙ w.is_offered.ensures
      | else-may_hold w ↦ w.result-is ∙ w.if-may_hold.false ∙ sym (c.may_hold.ensures ws c.requires.4 w.if-may_hold.false)
    ] in
    other_again c.args.e c.args.text.now c.args.w.now c.requires.2 c.requires.3 ws (sym (c.eq.ensures ∙ same_texts _ _) ∙ c.if-eq.false) c.if-may_hold.result again
