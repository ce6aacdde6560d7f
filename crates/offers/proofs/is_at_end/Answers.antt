-- `offers::is_at_end`: no end-of-syllable target, so none that is the text.
use mathlib.Core.Path.{sym, ◌∙◌}
use lib.ListN.{drop}
use Rattle.offers.proofs.Telling.{end_not}
use Rattle.offers.proofs.is_at_end.Goals as goal

pub returns-else-flag : goal.returns-else-flag
returns-else-flag c =
    c.if-flag.false ∙ end_not (drop c.args.row c.args.rules.now) c.args.text.now (sym c.flag.ensures ∙ c.if-flag.false)
