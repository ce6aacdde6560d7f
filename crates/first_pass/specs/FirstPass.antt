-- What the first pass and its steps need of what they are lent, and what the whole of it promises.
use Rattle.std.specs.Prelude.{Ok, Err, ℕ, ◌+◌, ◌-◌, ◌*◌, ◌<◌, ◌≤◌, List, ◌≡◌, length, set}
use Rattle.base.specs.Alls.{All}
use Rattle.definition.specs.Limits.{most_source, most_edges, most_bytes}
use Rattle.definition.specs.Building.{each, build}
use Rattle.edge.specs.declared.Filled.{Filled}
use Rattle.edge.specs.Answers.{Answer}
use Rattle.edge.specs.Slots.{edges_of}
use Rattle.standing.specs.Starts.{begun as begun-at}
use Rattle.standing.specs.Begun.{Begun}
use Rattle.standing.specs.Stands.{Ahead}
use Rattle.table_vowels.specs.Told.{FineVowels}
use Rattle.words.specs.declared.Look.{Look}
use Rattle.words.specs.Given.{size_in, Prepared}
use Rattle.words.specs.Looks.{Looked}
use Rattle.passes.specs.Reached.{addressable, Somewhere, Rooms, Reaches}
use Rattle.first_pass.specs.declared.Stretch.{Stretch}
use Rattle.first_pass.specs.Fresh.{Fresh}

-- how many edges there are, and how much room they take, when the search comes to a stretch
abbrev pub filled_of : Stretch → Filled
filled_of x = record { count = x.count; used = x.used; since = x.count }

module _ (rules ready vowels line slots room places : List ℕ) where
  -- Edges can be searched from the start `s`, of which `Inside` says that it lies in the text: the tables are as they were
  -- checked, what is lent stands for a world, no edge found there equals one of the first `since`, and offsets up to
  -- `last` can be written
  abbrev pub Searchable : Type 0 → Filled → ℕ → ℕ → Type 0
  Searchable Inside filled s last =
      Prepared rules ready × FineVowels vowels × Inside × Somewhere ready line slots room places filled × Fresh s slots room filled × (last < addressable)

  -- for one span, which was looked up
  abbrev pub SpanReady : Filled → Look → Type 0
  SpanReady filled look = Searchable (Looked rules line look) filled look.span.from filled.used

  -- for all spans of one start
  abbrev pub StartReady : Filled → ℕ → Type 0
  StartReady filled s = Searchable (s < size_in line) filled s (filled.used + most_source * most_bytes)

  -- for the starts of a stretch: there are so many edges from those before it, which go forward within the text
  pub record PassReady (starts : List ℕ) (x : Stretch) : Type 0 where
    pub table : Prepared rules ready
    pub inherent : FineVowels vowels
    pub forward : x.from ≤ x.to
    pub inside : x.to ≤ size_in line
    pub somewhere : Somewhere ready line slots room places (filled_of x)
    pub begun : Begun (edges_of room x.count slots) x.from (set starts x.from x.count)
    pub ahead : All (λ y. Ahead (size_in line) y.from y.to) (edges_of room x.count slots)
    pub sized : length starts ≡ size_in line + 1
    pub few : x.count ≤ x.from * most_edges
    pub little : x.used ≤ x.from * (most_edges * most_bytes)

-- The pass over a stretch: it reaches where the definition's `build` of each of its starts leads
abbrev pub FirstPass : List ℕ → List ℕ → List ℕ → List ℕ → List ℕ → Rooms → Rooms → Stretch → Answer → Type 0
FirstPass rules ready vowels code line before after x r =
    Reaches rules ready vowels code line before after (filled_of x) (x.used + (x.to - x.from) * (most_source * most_bytes))
    (λ D t. each (build D t) (x.to - x.from) x.from) r

-- What starts tell then: each of the stretch has begun, the entry behind it is the number of edges, each of which goes forward
-- within the text of `n` characters; and there are not too many
abbrev pub BeganTo : List ℕ → List ℕ → ℕ → List ℕ → Stretch → Answer → Type 0
BeganTo slots room n starts x (Ok t) =
    Begun (edges_of room t.count slots) x.to starts × (begun-at starts x.to ≡ t.count) × (length starts ≡ n + 1)
    × All (λ y. Ahead n y.from y.to) (edges_of room t.count slots) × (t.count ≤ x.count + (x.to - x.from) * most_source)
BeganTo slots room n starts x (Err f) = Unit {0}
