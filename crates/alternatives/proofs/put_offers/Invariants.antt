-- `alternatives::put_offers`: what was written and what is left of the offers leave what all leave.
use mathlib.Core.Bool.{true}
use mathlib.Core.List.{◌++◌}
use mathlib.Core.Path.{◌≡◌}
use Prim.Native.Nat.{◌+◌, ◌*◌, ◌≤◌}
use lib.ListN.{length, take, drop}
use Rattle.definition.specs.Limits.{most_alternative}
use Rattle.definition.specs.RuleRows.{rule_of}
use Rattle.definition.specs.Offers.{offers, news}
use Rattle.edge.specs.Slots.{edge_by}
use Rattle.listing.specs.Items.{put_items}
use Rattle.marks.specs.Marked.{Marked}
use Rattle.offers.specs.Texts.{texts}
use Rattle.alternatives.specs.News.{offered, earlier, offer_bytes}
use Rattle.alternatives.proofs.put_offers.Given as goal

abbrev pub invariant-loop-k : goal.invariant-loop-k
invariant-loop-k l =
    let x = edge_by l.e l.text in
    let ws = earlier x l.dicts.code.now l.asked l.dicts.rules.now l.before in
    let os = offers l.asked.readings x (rule_of (drop l.row l.dicts.rules.now)) in record {
      written : put_items true (news (ws ++ take l.k (texts os)) (drop l.k os)) (l.to, l.out) ≡ put_items true (news ws os) (l.at, l.initial.out);
      small : l.to ≤ l.at + offer_bytes * l.k;
      marked : Marked (offered x l.dicts.code.now l.asked l.dicts.rules.now l.before ++ take l.k (texts os)) l.cells;
      long : length l.bytes ≡ most_alternative;
    }
