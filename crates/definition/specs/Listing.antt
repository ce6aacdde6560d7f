-- Output bytes: a string, or a listing of edges.
use Rattle.std.specs.Prelude.{List, [], ◌∷◌, ◌++◌, ℕ, zero, suc, ◌+◌, length}
use Rattle.base.specs.Big.{two, four}
use Rattle.definition.specs.Texts.{Text}
use Rattle.definition.specs.Tables.{Tables}
use Rattle.definition.specs.Utf8.{encoded}
use Rattle.definition.specs.Blocks.{version_1}
use Rattle.definition.specs.Edges.{Edge, State}
use Rattle.definition.specs.Paths.{joined, path_of, with_alternatives_of, all_edges_of}

-- bytes of a row before its text
abbrev pub row_head_bytes : ℕ
row_head_bytes = 8

-- An edge's row: length of the rest 2, start 2, end 2, annotation 1, core length 1, text
unfoldable pub edge_row : Edge → List ℕ → List ℕ
edge_row x w = two (6 + length w) ++ (two x.from ++ (two x.to ++ (x.note ∷ x.core ∷ w)))

unfoldable pub edge_rows : List Edge → List ℕ
edge_rows [] = []
edge_rows (x ∷ l) = edge_row x (encoded x.text) ++ edge_rows l

-- a block: its version, the length of all that follows, the rows
unfoldable pub block : List ℕ → List ℕ
block rows = version_1 ∷ (four (length rows) ++ rows)

unfoldable pub listing : List Edge → List ℕ
listing l = block (edge_rows l)

-- Mode 0 the path's string, 1 path edges, 2 path edges then alternatives, 3 all edges
unfoldable pub shown : Tables → Text → ℕ → State → List ℕ
shown D t zero st = encoded (joined (path_of D t st))
shown D t (suc zero) st = listing (path_of D t st)
shown D t (suc (suc zero)) st = listing (with_alternatives_of D t st)
shown D t (suc (suc (suc m))) st = listing (all_edges_of D t st)
