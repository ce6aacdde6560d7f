-- `rule_memo::look_up`: a note with the character's own bits tells what a search would.
use native.Mathlib.Omega.{arith}
use mathlib.Core.Path.{sym}
use lib.Seq.{length-take-le}
use Rattle.rule_table.specs.Index.{index_entries}
use Rattle.rule_memo.specs.Kept.{kept-text}
use Rattle.rule_memo.proofs.look_up.Goals as goal

pub returns-then-note-c : goal.returns-then-note-c
returns-then-note-c c =
    let k = c in
    kept-text k.requires k.args.w.now (omega arith) c.place_of-at.result
    c.place_of-at.ensures.0 (omega arith) (omega arith)

pub slice_bounds-look_up-end : goal.slice_bounds-look_up-end
slice_bounds-look_up-end c =
    let s = c in
    sym (length-take-le index_entries s.args.index.now (omega (arith, s.requires.long)))
