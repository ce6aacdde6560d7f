-- A lattice that is built, and what is promised of showing it.
use Rattle.std.specs.Prelude.{ℕ, ◌+◌, ◌*◌, ◌≤◌, true, List, ◌≡◌, length}
use Rattle.std.proofs.Common.{arith}
use Rattle.base.specs.Alls.{All}
use Rattle.definition.specs.Limits.{most_characters, most_edges}
use Rattle.definition.specs.Bounds.{Sound}
use Rattle.definition.specs.Tables.{Tables}
use Rattle.definition.specs.Texts.{Text}
use Rattle.definition.specs.Edges.{State}
use Rattle.definition.specs.Listing.{shown}
use Rattle.definition.specs.Call.{tables_of}
use Rattle.edge.specs.Slots.{edges_of}
use Rattle.edge.specs.Stored.{Stored}
use Rattle.edge.specs.Asked.{stored_readable}
use Rattle.edge_places.specs.Shows.{memory}
use Rattle.standing.specs.Stands.{Stands}
use Rattle.paths.specs.Laid.{Laid}
use Rattle.words.specs.Given.{World, size, size_in, Prepared, Told, Lent}
use Rattle.listing.specs.Items.{put_items}
use Rattle.output.specs.Shows.{Shows, listed}
use Rattle.output.specs.declared.Built.{Built}

-- its edges stand in slots and room, starts tell where, and all are sound
pub record Whole (rules ready line slots room places starts : List ℕ) (built : Built) : Type 0 where
  pub table : Prepared rules ready
  pub stored : Stored slots room built.count built.used
  pub stands : Stands slots starts built.count
  pub sized : length starts ≡ size_in line + 1
  pub sound : All (Sound (size_in line)) (edges_of room built.count slots)
  pub short : size_in line ≤ most_characters
  pub few : built.count ≤ most_edges * most_characters
  pub mode : built.mode ≤ 3
  -- there is a world that is lent with these edges
  pub world : World
  pub told : Told world ready
  pub lent : Lent world line places
  pub edges : edges_of room built.count slots ≡ world.edges

-- a path goes over them
pub whole_laid : {rules ready line slots room places starts : List ℕ} {built : Built} → Whole rules ready line slots room places starts built
    → Laid slots room starts built.count
whole_laid {rules} {ready} {line} {slots} {room} {places} {starts} {built} h =
    let n = h.short in
    let long = h.sized in record {
      read = stored_readable slots room built.count built.used h.stored;
      stands = h.stands;
      short = omega (arith, n, long);
    }

-- of every world that is lent with these edges
abbrev Of : List ℕ → List ℕ → List ℕ → List ℕ → List ℕ → List ℕ → List ℕ → Built → (Tables → Text → State → Type 0) → Type 0
Of rules ready code line slots room places built P =
    (vowels : List ℕ) (w : World) → Told w ready → Lent w line places → edges_of room built.count slots ≡ w.edges
    → P (tables_of w.choices rules w.classes vowels code) w.text (w.edges, memory (size w) places)

-- the rows of its mode are put behind the place of the header
abbrev pub RowsPut : List ℕ → List ℕ → List ℕ → List ℕ → List ℕ → List ℕ → List ℕ → Built → List ℕ → List ℕ → ℕ → Type 0
RowsPut rules ready code line slots room places built out out' r =
    Of rules ready code line slots room places built (λ D t st. (r, out') ≡ put_items true (listed D t built.mode st) (5, out))

-- and what it shows
abbrev pub ShownPut : List ℕ → List ℕ → List ℕ → List ℕ → List ℕ → List ℕ → List ℕ → Built → List ℕ → List ℕ → ℕ → Type 0
ShownPut rules ready code line slots room places built out out' r =
    Of rules ready code line slots room places built (λ D t st. Shows (shown D t built.mode st) out out' r)
