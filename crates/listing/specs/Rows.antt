-- Rows of a listing: what one is made of, how long they are, and what each step of writing them leaves.
use Rattle.std.specs.Prelude.{ℕ, ◌+◌, ◌≤◌, List, [], ◌∷◌, ◌++◌, ◌≡◌, refl, length}
use Rattle.std.proofs.Common.{append_assoc, append-nil, sym, ap, ◌∙◌, arith, length-append}
use Rattle.base.specs.Big.{two, three, four}
use Rattle.definition.specs.Utf8.{encoded}
use Rattle.definition.specs.Edges.{Edge}
use Rattle.definition.specs.Capacity.{bytes}
use Rattle.definition.specs.Listing.{edge_row, edge_rows, block, listing}
use Rattle.utf8.specs.Encodings.{TextBytes}
use Rattle.lent_bytes.specs.Puts.{put_at, put_next}
use Rattle.edge.specs.declared.Numbers.{Numbers}
use Rattle.edge.specs.Slots.{length_of, bytes_of, edge_by, numbers_of, edge_of}
use Rattle.edge.specs.Stored.{Slot, slot-length}
use Rattle.definition.specs.Listing.{row_head_bytes}

-- An edge's row as it stands in a listing, and how many bytes it takes
abbrev pub row_of : Edge → List ℕ
row_of x = edge_row x (encoded x.text)

unfoldable pub row_size : Edge → ℕ
row_size x = row_head_bytes + bytes x

-- the first eight of them, before a text of `len` bytes
unfoldable pub row_head : Numbers → ℕ → List ℕ
row_head e len = two (6 + len) ++ (two e.from ++ (two e.to ++ (e.note ∷ e.core ∷ [])))

pub head-length : (e : Numbers) (len : ℕ) → length (row_head e len) ≡ row_head_bytes
unfolding row_head two
head-length e len = refl

-- a row is its head and the bytes behind it, whatever text the edge itself has
pub row_is : (e : Numbers) (w b : List ℕ) → edge_row (edge_by e w) b ≡ row_head e (length b) ++ b
unfolding edge_row edge_by row_head two
row_is e w b = refl

-- a text that is UTF-8 stands in its edge's row as it is
pub row_by : (e : Numbers) (w : List ℕ) → TextBytes w → row_of (edge_by e w) ≡ edge_row (edge_by e w) w
unfolding edge_by
row_by e w h = ap (edge_row (edge_by e w)) h.whole

pub size-by : (e : Numbers) (w : List ℕ) → TextBytes w → row_size (edge_by e w) ≡ row_head_bytes + length w
unfolding row_size bytes edge_by
size-by e w h = ap (λ b. row_head_bytes + length b) h.whole

pub row_length : (x : Edge) → length (row_of x) ≡ row_size x
unfolding edge_row row_size bytes two
row_length x = omega arith

-- the row of the edge in a slot
module _ (room s : List ℕ) (h : Slot room (length room) s) where
  pub slot-row_size : row_size (edge_of room s) ≡ row_head_bytes + length_of s
  slot-row_size =
      size-by (numbers_of s) (bytes_of room s) h.text
      ∙ ap (λ n. row_head_bytes + n) (slot-length room s (length room) h (omega arith))

  pub slot_row_length : length (row_of (edge_of room s)) ≡ row_head_bytes + length_of s
  slot_row_length = row_length (edge_of room s) ∙ slot-row_size

-- Some rows
unfoldable pub rows_size : List Edge → ℕ
rows_size [] = 0
rows_size (x ∷ l) = row_size x + rows_size l

pub rows-length : (l : List Edge) → length (edge_rows l) ≡ rows_size l
unfolding edge_rows rows_size
rows-length [] = refl
rows-length (x ∷ l) = let k = rows-length l in omega (arith, length-append (row_of x) (edge_rows l), row_length x)

pub rows_append : (l k : List Edge) → edge_rows (l ++ k) ≡ edge_rows l ++ edge_rows k
unfolding edge_rows
rows_append [] k = refl
rows_append (x ∷ l) k = ap (◌++◌ (row_of x)) (rows_append l k) ∙ sym (append_assoc (row_of x) (edge_rows l) (edge_rows k))

-- one row more
pub next-size : (l : List Edge) (x : Edge) → rows_size (l ++ x ∷ []) ≡ rows_size l + row_size x
unfolding rows_size
next-size [] x = omega arith
next-size (y ∷ l) x = let e = next-size l x in omega arith

pub listing-length : (l : List Edge) → length (listing l) ≡ 5 + rows_size l
unfolding listing block three four two
listing-length l = let k = rows-length l in omega arith

-- Writing a listing: the header, then each row behind those before it, from `at` on
pub next_row : (done : List Edge) (x : Edge) (first out : List ℕ) (at : ℕ) → at ≡ 5 + rows_size done → 5 ≤ length first
    → out ≡ put_at 5 (edge_rows done) first → put_at at (row_of x) out ≡ put_at 5 (edge_rows (done ++ x ∷ [])) first
unfolding edge_rows
next_row done x first out at k h e =
    put_next 5 at (edge_rows done) (row_of x) first out (omega (arith, rows-length done)) h e
    ∙ ap (λ l. put_at 5 (edge_rows done ++ l) first) (sym (append-nil (row_of x)))
    ∙ ap (λ l. put_at 5 l first) (sym (rows_append done (x ∷ [])))

pub whole-listing : (l : List Edge) (s : List ℕ)
    → put_at 5 (edge_rows l) (put_at 0 (1 ∷ four (rows_size l)) s) ≡ put_at 0 (listing l) s
unfolding listing block three four two
whole-listing l s =
    put_next 0 5 (1 ∷ four (rows_size l)) (edge_rows l) s (put_at 0 (1 ∷ four (rows_size l)) s) refl (omega arith) refl
    ∙ ap (λ n. put_at 0 (1 ∷ (four n ++ edge_rows l)) s) (sym (rows-length l))
