-- A character that stands for others (`decomp_rom`): its edge has the string of these, as a text of their own.
use Rattle.std.specs.Prelude.{Bool, List, [], ◌∷◌, ◌++◌, ℕ, ◌+◌, eqb, length, drop}
use Rattle.std.proofs.Math.Option.{Option, none, some}
use Rattle.base.specs.Pick.{pick}
use Rattle.base.specs.Lists.{maybe}
use Rattle.definition.specs.Notes.{note_decomp}
use Rattle.definition.specs.Texts.{Text, at, prev, the_space, slash, fraction_slash}
use Rattle.definition.specs.Tables.{Class, Decomposition, Tables, tag_other, category_number}
use Rattle.definition.specs.Classes.{class}
use Rattle.definition.specs.Edges.{Edge, State, add}
use Rattle.definition.specs.Building.{single, build, lattice_by, rule_lattice}
use Rattle.definition.specs.Paths.{joined, path_of, with_alternatives_of, all_edges_of}

-- the row of a character
unfoldable pub row_of : List Decomposition → ℕ → Option Decomposition
row_of [] c = none
row_of (d ∷ ds) c = pick (eqb d.char c) (some d) (row_of ds c)

-- the characters that one stands for, where its tag gives an edge
unfoldable pub stands_for : List Decomposition → ℕ → Option Text
stands_for ds c = maybe (row_of ds c) none (λ d. pick (eqb d.tag tag_other) (some d.into) none)

-- the same tables without language code
abbrev pub uncoded : Tables → Tables
uncoded D = record { choices = D.choices; rules = D.rules; classes = D.classes; vowels = D.vowels; code = [] }

-- The lattice of a row's characters. None of them has a row in an accepted table, so no edge comes from one
unfoldable pub inner_lattice : Tables → Text → State
inner_lattice D w = rule_lattice (uncoded D) w

-- the string of its path
unfoldable pub inner_string : Tables → Text → Text
inner_string D w = joined (path_of (uncoded D) w (inner_lattice D w))

-- a number (`char_has_numeric_value`)
unfoldable pub number : List Class → ℕ → Bool
number ks c = eqb (class ks c).category category_number

-- each fraction slash as a slash
unfoldable pub slashed : Text → Text
slashed [] = []
slashed (c ∷ w) = pick (eqb c fraction_slash) slash c ∷ slashed w

-- a space where there is a number
unfoldable pub parted : Bool → Text
parted b = pick b (the_space ∷ []) []

-- What a character that stands for `w` reads: their string; a number's with slashes, and parted from numbers beside it
unfoldable pub decomp_text : Tables → Text → ℕ → Text → Text
decomp_text D t p w =
    let ks = D.classes in
    pick (number ks (at t p))
    (parted (number ks (prev t p)) ++ (slashed (inner_string D w) ++ parted (number ks (at t (p + 1)))))
    (inner_string D w)

module _ (D : Tables) (ds : List Decomposition) (t : Text) where
  -- its edge, where it has one
  unfoldable pub decomp_edge : ℕ → Option Edge
  decomp_edge p = maybe (stands_for ds (at t p)) none (λ w. some (single p note_decomp (decomp_text D t p w)))

  -- `add_romanization` at one start: the edges of its spans, then this one
  unfoldable pub start : ℕ → State → State
  start p st = let r = build D t p st in (add r.0 (decomp_edge p), r.1)

  -- The lattice of a text
  unfoldable pub lattice : State
  lattice = lattice_by D t start

  -- Its edges as added, and their number
  unfoldable pub edges : List Edge
  edges = lattice.0

  unfoldable pub edge_count : ℕ
  edge_count = length edges

  -- mode 1's list, mode 2's, the alternatives alone, mode 3's
  unfoldable pub path : List Edge
  path = path_of D t lattice

  unfoldable pub with_alternatives : List Edge
  with_alternatives = with_alternatives_of D t lattice

  unfoldable pub alternatives : List Edge
  alternatives = drop (length path) with_alternatives

  unfoldable pub all_edges : List Edge
  all_edges = all_edges_of D t lattice
