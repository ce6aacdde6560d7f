-- Alternatives as they are written, in every world that the lent slices stand for.
use Rattle.std.specs.Prelude.{true, List, ◌++◌, ◌≡◌, ℕ, ◌+◌, ◌≤◌, length, drop}
use Rattle.base.specs.Alls.{All, Opt}
use Rattle.definition.specs.Limits.{most_characters}
use Rattle.definition.specs.Texts.{Text}
use Rattle.definition.specs.Edges.{Edge}
use Rattle.definition.specs.Paths.{reads, path_from}
use Rattle.definition.specs.Recalled.{Recalls}
use Rattle.definition.specs.Bounds.{Sound}
use Rattle.definition.specs.Offers.{news}
use Rattle.definition.specs.Offers.{found_all}
use Rattle.edge.specs.declared.Numbers.{Numbers}
use Rattle.edge.specs.Slots.{edge_by, edges_of}
use Rattle.edge.specs.Stored.{Stored}
use Rattle.edge.specs.Best.{BestEdge, best_means, Found}
use Rattle.listing.specs.Sizes.{Countable}
use Rattle.listing.specs.Items.{Written, put_items}
use Rattle.edge_places.specs.Shows.{memory, told}
use Rattle.standing.specs.Stands.{Stands}
use Rattle.words.specs.Found.{Row, Rows}
use Rattle.words.specs.Given.{World, seen, size, size_in, Prepared, Told, Lent}
use Rattle.rule_choice.specs.Lent.{lexicon_of}
use Rattle.marks.specs.Marked.{Marked}
use Rattle.offers.specs.declared.Asked.{Asked}
use Rattle.offers.specs.Texts.{texts, Spoken}
use Rattle.alternatives.specs.declared.Listed.{Listed}
use Rattle.alternatives.specs.News.{offered, earlier, row_bytes, edge_bytes, path_bytes}

-- A row may be asked what it offers an edge, whose earlier rows' offers are marked
abbrev pub Offering : List ℕ → Text → Asked → ℕ → ℕ → Numbers → Text → ℕ → List ℕ → Type 0
Offering rules code a before row e text at cells =
    Rows rules a.first before × Row (drop row rules) × Spoken e text × Countable at row_bytes × Marked (offered (edge_by e text) code a rules before) cells

-- What is new of these offers is written behind `u`, which makes it `o`, and all of them are marked
abbrev pub Offered : List ℕ → Text → Asked → ℕ → Edge → List Edge → Written → Written → List ℕ → Type 0
Offered rules code a before x l u o cells =
    (o ≡ put_items true (news (earlier x code a rules before) l) u) × (o.0 ≤ u.0 + row_bytes) × Marked (offered x code a rules before ++ texts l) cells

-- The alternatives of an edge may be written behind `listed`: the tables are as they were checked, the edges are stored,
-- `best` is a slot of theirs or none, its edge is sound, and the bytes that its alternatives take at most can be counted
abbrev pub EdgeReady : List ℕ → List ℕ → List ℕ → List ℕ → List ℕ → Listed → BestEdge → Type 0
EdgeReady rules ready line slots room listed best =
    Prepared rules ready × Stored slots room listed.count listed.used × Found listed.count best
    × Opt (Sound (size_in line)) (best_means room slots best) × Countable listed.at edge_bytes

-- And those of a path: starts tell where the edges of each stand, all edges are sound, and the text is not too long
abbrev pub PathReady : List ℕ → List ℕ → List ℕ → List ℕ → List ℕ → List ℕ → Listed → Type 0
PathReady rules ready line slots room starts listed =
    Prepared rules ready × Stored slots room listed.count listed.used × Stands slots starts listed.count × (length starts ≡ size_in line + 1)
    × All (Sound (size_in line)) (edges_of room listed.count slots) × (size_in line ≤ most_characters) × Countable listed.at path_bytes

-- Those of some edges are written behind `u`, which makes it `o`; what is remembered afterwards answers as before, and the
-- places tell of the edges what they told
abbrev pub Alternatives : List ℕ → List ℕ → List ℕ → List ℕ → List ℕ → List ℕ → List Edge → Written → Written → Type 0
Alternatives rules ready code line before after xs u o =
    (w : World) → Told w ready → Lent w line before
    → (o ≡ put_items true (found_all (reads w.choices) (lexicon_of rules w code) w.text (seen w) (memory (size w) before) xs) u)
    × Recalls (lexicon_of rules w code) w.text (seen w) (memory (size w) after) (memory (size w) before) × (told after ≡ told before)

-- Those of the path through the edges
abbrev pub PathAlternatives : List ℕ → List ℕ → List ℕ → List ℕ → List ℕ → List Edge → Written → Written → Type 0
PathAlternatives rules ready code line places es u o =
    (w : World) → Told w ready → Lent w line places → es ≡ w.edges
    → o ≡ put_items true (found_all (reads w.choices) (lexicon_of rules w code) w.text (seen w) (memory (size w) places) (path_from (size w) 0 w.edges)) u
