-- `rule_memo::learn`: what was found of the character is put where it is kept.
use mathlib.Core.Path.{sym, subst}
use Rattle.rule_memo.specs.Kept.{Kept, kept-noted}
use Rattle.rule_memo.proofs.learn.Goals as goal

pub returns : goal.returns
returns c =
    let k = c in
    subst (Kept k.args.rules.now) (sym c.put.ensures)
    (kept-noted k.requires k.args.c c.look_up-found.ensures)
