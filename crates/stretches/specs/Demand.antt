-- Demand 3, the statement. (proofs/Proved proves it; Applied meets its premises, and shows that the one on U+0E2D is needed.)
-- "Take an accepted text, and rules with no space (U+0020) in any source or target text. Each space has its own single
-- edge, and no other reaches over it. For each stretch between spaces or text ends in which U+0E2D stands, if at all,
-- only as the first character, the edges, path and alternatives inside it are exactly those the definition gives that
-- stretch as a whole text, same tables and language code, moved by its start." (The tables are four: rules, classes,
-- vowels, and the characters that stand for others.) Where the choice of O ang is 1, the condition on U+0E2D
-- is not asked.
use Rattle.std.specs.Prelude.{Bool, true, not, ◌&&◌, ◌≡◌, List, [], ◌∷◌, ◌++◌, map, ℕ, ◌+◌, ◌<◌, eqb, leb, ltb, length}
use Rattle.std.proofs.Math.Option.{Option, none, some}
use Rattle.base.specs.Pick.{pick}
use Rattle.base.specs.Lists.{keep, any, all}
use Rattle.definition.specs.Notes.{note_Zs, note_orig}
use Rattle.definition.specs.Texts.{Text, the_space, o_ang, at}
use Rattle.definition.specs.Tables.{Rule, Class, Decomposition, Choices, Tables}
use Rattle.definition.specs.Edges.{Edge}
use Rattle.definition.specs.Building.{single}
use Rattle.definition.specs.Decomposing.{edges, path, with_alternatives, alternatives, all_edges}
use Rattle.definition.specs.Call.{Inputs, tables, decompositions, characters, refusal}
use Rattle.definition.specs.Parts.{Accepts}

-- Take an accepted text (mode, choices, tables, code and text are bytes, and none of these is refused),
-- and rules with no space in any source or target text (a rule's alternatives may have some)
unfoldable pub spaceless : Text → Bool
spaceless w = all (λ c. not (eqb c the_space)) w

unfoldable pub spaceless_if : Option Text → Bool
spaceless_if none = true
spaceless_if (some w) = spaceless w

unfoldable pub spaceless_rule : Rule → Bool
spaceless_rule r = spaceless r.source && spaceless_if r.target && spaceless_if r.end_target

pub record Taken (i : Inputs) : Type 0 where
  pub accepted : refusal i ≡ none
  pub no_space : all spaceless_rule (tables i).rules ≡ true

-- an edge that starts at `q` or earlier and ends later: it reaches over the character at `q`
unfoldable pub over : ℕ → Edge → Bool
over q x = leb x.from q && ltb q x.to

-- A space's own edge: over that character alone, its text one space. It is annotated 10, "Zs", where the class table has
-- a row for U+0020, and 11, "orig", where it has none
unfoldable pub has_row : List Class → ℕ → Bool
has_row ks c = any (λ k. eqb k.char c) ks

unfoldable pub space_edge : List Class → ℕ → Edge
space_edge ks q = single q (pick (has_row ks the_space) note_Zs note_orig) (the_space ∷ [])

-- Each space has its own single edge, and no other reaches over it
abbrev pub Spaces : Inputs → Type 0
Spaces i = (q : ℕ) → q < length (characters i) → at (characters i) q ≡ the_space
    → keep (over q) (edges (tables i) (decompositions i) (characters i)) ≡ space_edge (tables i).classes q ∷ []

-- between spaces or text ends: what is before a stretch is nothing or ends in a space,
-- what is after it is nothing or starts with one
pub data Before : Text → Type 0 where
  start : Before []
  space : (x : Text) → Before (x ++ the_space ∷ [])

pub data After : Text → Type 0 where
  end : After []
  space : (y : Text) → After (the_space ∷ y)

-- U+0E2D stands, if at all, only as the first character
abbrev pub First : Text → Type 0
First st = (p : ℕ) → at st p ≡ o_ang → p ≡ 0

-- which is asked only where the walk back behind U+0E2D may leave the stretch: where the choice is 0
abbrev pub First_if : Choices → Text → Type 0
First_if c st = c.o_ang ≡ 0 → First st

-- an edge inside the stretch of length `n` from `a` on; an edge moved by `a`
unfoldable pub within : ℕ → ℕ → Edge → Bool
within a n x = leb a x.from && leb x.to (a + n)

unfoldable pub shift : ℕ → Edge → Edge
shift a x = record { from = a + x.from; to = a + x.to; note = x.note; core = x.core; text = x.text }

-- In the text `T`, the stretch `st` from `a` on: the edges in adding order, mode 1's list, mode 2's (the path, then
-- the alternatives), the alternatives alone, and mode 3's list
pub record Alone (D : Tables) (ds : List Decomposition) (T st : Text) (a : ℕ) : Type 0 where
  pub edges : keep (within a (length st)) (edges D ds T) ≡ map (shift a) (edges D ds st)
  pub path : keep (within a (length st)) (path D ds T) ≡ map (shift a) (path D ds st)
  pub with_alternatives : keep (within a (length st)) (with_alternatives D ds T)
      ≡ map (shift a) (with_alternatives D ds st)
  pub alternatives : keep (within a (length st)) (alternatives D ds T) ≡ map (shift a) (alternatives D ds st)
  pub all_edges : keep (within a (length st)) (all_edges D ds T) ≡ map (shift a) (all_edges D ds st)

-- For each stretch (one with spaces of its own is covered too); and the stretch is an accepted text, with the same
-- choices, tables and code
abbrev pub Stretches : Inputs → Type 0
Stretches i = (x st y : Text) → characters i ≡ x ++ (st ++ y) → Before x → After y → First_if (tables i).choices st
    → Alone (tables i) (decompositions i) (characters i) st (length x) × Accepts i st

pub record Demand (i : Inputs) : Type 0 where
  pub spaces : Spaces i
  pub stretches : Stretches i
