-- `alternatives::put_alternatives`: what was written and what is left of the path leave what the whole path leaves.
use mathlib.Core.Bool.{true}
use mathlib.Core.Path.{◌≡◌}
use Prim.Native.Nat.{◌+◌, ◌-◌, ◌*◌, ◌≤◌}
use lib.ListN.{length, take}
use Rattle.definition.specs.Paths.{reads, path_from}
use Rattle.definition.specs.Recalled.{Recalls}
use Rattle.definition.specs.Offers.{found_all}
use Rattle.edge.specs.Slots.{edges_of}
use Rattle.listing.specs.Items.{put_items}
use Rattle.edge_places.specs.Shows.{memory, told}
use Rattle.words.specs.Given.{World, seen, size, Told, Lent}
use Rattle.rule_choice.specs.Lent.{lexicon_of}
use Rattle.alternatives.specs.News.{edge_bytes}
use Rattle.alternatives.proofs.put_alternatives.Given as goal

abbrev pub invariant-loop-p : goal.invariant-loop-p
invariant-loop-p l =
    let es = edges_of l.initial.room l.listed.count l.slots in record {
      written : (w : World) → Told w l.dicts.ready.now → Lent w l.line l.initial.places
          → (put_items true (found_all (reads w.choices) (lexicon_of l.dicts.rules.now w l.dicts.code.now) w.text (seen w) (memory (size w) l.initial.places) (path_from (l.n - l.p) l.p es)) (l.to, l.out)
          ≡ put_items true (found_all (reads w.choices) (lexicon_of l.dicts.rules.now w l.dicts.code.now) w.text (seen w) (memory (size w) l.initial.places) (path_from l.n 0 es)) (l.initial.to, l.initial.out))
          × Recalls (lexicon_of l.dicts.rules.now w l.dicts.code.now) w.text (seen w) (memory (size w) l.places) (memory (size w) l.initial.places) × (told l.places ≡ told l.initial.places);
      texts : take l.listed.used l.initial.room ≡ take l.listed.used l.room;
      inside : l.p ≤ l.n;
      small : l.to ≤ l.initial.to + edge_bytes * l.p;
      room : length l.initial.room ≡ length l.room;
    }

abbrev pub decreases-loop-p : goal.decreases-loop-p
decreases-loop-p l = l.n - l.p
