-- `alternatives::put_rows`: what was written and what is left of the rows leave what all leave.
use mathlib.Core.Bool.{true}
use mathlib.Core.Path.{◌≡◌}
use Prim.Native.Nat.{◌+◌, ◌-◌, ◌*◌, ◌≤◌}
use lib.ListN.{drop}
use Rattle.definition.specs.Offers.{found_by}
use Rattle.edge.specs.Slots.{edge_by}
use Rattle.listing.specs.Items.{put_items}
use Rattle.rule_table.specs.Sorted.{rules_from}
use Rattle.words.specs.Found.{Rows}
use Rattle.marks.specs.Marked.{Marked}
use Rattle.offers.specs.Texts.{holding}
use Rattle.alternatives.specs.News.{offered, row_bytes}
use Rattle.alternatives.proofs.Turns.{left_news}
use Rattle.alternatives.proofs.put_rows.Given as goal

abbrev pub invariant-loop-before : goal.invariant-loop-before
invariant-loop-before l =
    let x = edge_by l.e l.text in record {
      written : put_items true (left_news x l.dicts.code.now l.asked l.dicts.rules.now l.before l.row (l.rows - l.before)) (l.to, l.out)
          ≡ put_items true (found_by l.asked.readings x (holding l.dicts.code.now l.asked.start l.asked.end l.dicts.rules.now l.asked.first l.rows)) (l.at, l.initial.out);
      here : rules_from l.dicts.rules.now l.row ≡ drop l.before (rules_from l.dicts.rules.now l.asked.first);
      rest : Rows l.dicts.rules.now l.row (l.rows - l.before);
      small : l.to ≤ l.at + row_bytes * l.before;
      marked : Marked (offered x l.dicts.code.now l.asked l.dicts.rules.now l.before) l.cells;
    }
