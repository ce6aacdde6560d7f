-- A row is put as its head, and its text behind that.
use Prim.Native.Nat.{ℕ, ◌+◌, ◌≤◌}
use mathlib.Core.List.{List, ◌++◌}
use mathlib.Core.Path.{◌≡◌, refl, sym, ap, ◌∙◌}
use native.Mathlib.Omega.{arith}
use lib.ListN.{length}
use Rattle.definition.specs.Listing.{edge_row}
use Rattle.lent_bytes.specs.Puts.{put_at, put_next}
use Rattle.edge.specs.declared.Numbers.{Numbers}
use Rattle.edge.specs.Slots.{edge_by}
use Rattle.definition.specs.Listing.{row_head_bytes}
use Rattle.listing.specs.Rows.{row_head, head-length, row_is}

pub row_put : (at : ℕ) (e : Numbers) (len : ℕ) (w b out : List ℕ) → len ≡ length b → at ≤ length out
    → put_at (at + row_head_bytes) b (put_at at (row_head e len) out) ≡ put_at at (edge_row (edge_by e w) b) out
row_put at e len w b out l h =
    let head = row_head e len in
    put_next at (at + row_head_bytes) head b out (put_at at head out) (omega (arith, head-length e len)) h refl
    ∙ ap (λ n. put_at at (row_head e n ++ b) out) l ∙ ap (λ r. put_at at r out) (sym (row_is e w b))
