-- What places are after an edge was added, and after one that was there: named on `add_edge`, so that no answer there hangs
-- on the words of its condition.
use Prim.Native.Nat.{ℕ, ◌<◌, ◌≤◌}
use mathlib.Core.List.{List}
use mathlib.Core.Path.{◌≡◌, refl, sym}
use Rattle.edge.specs.declared.Numbers.{Numbers}
use Rattle.std.specs.Prelude.{Ok}
use Rattle.edge.specs.declared.Taken.{Taken}
use Rattle.edge_places.specs.declared.Ending.{Ending}
use Rattle.edge_places.specs.Shows.{noted_edge}
use Rattle.noting.specs.Noting.{places_after, after_more, after_same}

pub noted_where_more : (t : Taken) (count : ℕ) (e : Numbers) (end : Ending) (places : List ℕ) → count < t.count
    → places_after (Ok t) count e end places ≡ noted_edge e.from e.to end places
noted_where_more t count e end places h = sym (after_more count e end places (Ok t) t.count t.used refl h)

pub same_where_none_more : (t : Taken) (count : ℕ) (e : Numbers) (end : Ending) (places : List ℕ) → t.count ≤ count
    → places_after (Ok t) count e end places ≡ places
same_where_none_more t count e end places h = sym (after_same count e end places (Ok t) t.count t.used refl h)
