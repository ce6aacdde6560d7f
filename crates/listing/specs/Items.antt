-- Edges written one behind the other where they fit: what does not fit is counted, and leaves the bytes as they were.
use Rattle.std.specs.Prelude.{ℕ, ◌+◌, ◌<◌, ◌≤◌, Bool, true, false, List, [], ◌∷◌, ◌++◌, ◌≡◌, refl, leb}
use Rattle.std.proofs.Math.Path.{sym}
use Rattle.std.proofs.Common.{ap, ◌∙◌, arith, length-append, le-leb, leb-true}
use Rattle.std.proofs.Math.ListN.{length}
use Rattle.std.proofs.lemmas.Bool.{lt-leb}
use Rattle.base.specs.Pick.{pick, pick_ind}
use Rattle.definition.specs.Utf8.{encoded}
use Rattle.definition.specs.Edges.{Edge}
use Rattle.definition.specs.Paths.{joined}
use Rattle.definition.specs.Listing.{edge_rows}
use Rattle.definition.specs.Roundtrip.{encoded-append}
use Rattle.lent_bytes.specs.Puts.{put_at, put-length, put-none, put-put}
use Rattle.listing.specs.Rows.{row_of}

-- an edge as it is written: its row, or in a string its text alone
unfoldable pub item : Bool → Edge → List ℕ
item rows x = pick rows (row_of x) (encoded x.text)

unfoldable pub items : Bool → List Edge → List ℕ
items rows [] = []
items rows (x ∷ l) = item rows x ++ items rows l

-- what was written: up to where, and the whole output
abbrev pub Written : Type 0
Written = ℕ × List ℕ

-- some bytes more, where they fit
unfoldable pub put_bytes : List ℕ → Written → Written
put_bytes w o = (o.0 + length w, pick (leb (o.0 + length w) (length o.1)) (put_at o.0 w o.1) o.1)

-- some edges more
unfoldable pub put_items : Bool → List Edge → Written → Written
put_items rows [] o = o
put_items rows (x ∷ l) o = put_items rows l (put_bytes (item rows x) o)

-- some edges were put, in so many bytes at most
abbrev pub Puts : Bool → List Edge → ℕ → Written → Written → Type 0
Puts rows l most o p = (p ≡ put_items rows l o) × (p.0 ≤ o.0 + most)

-- A listing's rows, and the texts of a string
pub items-rows : (l : List Edge) → items true l ≡ edge_rows l
unfolding items item pick edge_rows
items-rows [] = refl
items-rows (x ∷ l) = ap (◌++◌ (row_of x)) (items-rows l)

pub items-texts : (l : List Edge) → items false l ≡ encoded (joined l)
unfolding items item pick joined encoded
items-texts [] = refl
items-texts (x ∷ l) = ap (◌++◌ (encoded x.text)) (items-texts l) ∙ sym (encoded-append x.text (joined l))

-- The two ways to write some bytes: they fit, and stand there; or they do not, and nothing is written
module _ (w : List ℕ) (at end : ℕ) (out : List ℕ) (e : end ≡ at + length w) where
  pub put-fits : (after : List ℕ) → end ≤ length out → after ≡ put_at at w out → (end, after) ≡ put_bytes w (at, out)
  unfolding put_bytes pick
  put-fits after h k = sym (rw (le-leb (at + length w) (length out) (omega arith)) (rw (e, k)))

  pub put_misses : length out < end → (end, out) ≡ put_bytes w (at, out)
  unfolding put_bytes pick
  put_misses h = sym (rw (lt-leb (at + length w) (length out) (omega arith)) (rw e))

-- what is written of an edge, by the two kinds of output
module _ (rows : Bool) (x : Edge) where
  pub row_item : rows ≡ true → row_of x ≡ item rows x
  unfolding item pick
  row_item e = sym (rw e)

  pub text-item : rows ≡ false → encoded x.text ≡ item rows x
  unfolding item pick
  text-item e = sym (rw e)

-- Some edges, then some more
pub put_items-append : (rows : Bool) (l k : List Edge) (o : Written)
    → put_items rows (l ++ k) o ≡ put_items rows k (put_items rows l o)
unfolding put_items
put_items-append rows [] k o = refl
put_items-append rows (x ∷ l) k o = put_items-append rows l k (put_bytes (item rows x) o)

-- where the writing ends, and that the output keeps its length
pub put_items-end : (rows : Bool) (l : List Edge) (o : Written) → (put_items rows l o).0 ≡ o.0 + length (items rows l)
unfolding put_items items put_bytes
put_items-end rows [] o = omega arith
put_items-end rows (x ∷ l) o =
    let k = put_items-end rows l (put_bytes (item rows x) o) in
    omega (arith, k, length-append (item rows x) (items rows l))

put_bytes-length : (w : List ℕ) (o : Written) → length (put_bytes w o).1 ≡ length o.1
unfolding put_bytes
put_bytes-length w o = pick_ind (λ l. length l ≡ length o.1) (leb (o.0 + length w) (length o.1)) (put_at o.0 w o.1) o.1
    (λ e. put-length o.0 w o.1 (leb-true (o.0 + length w) (length o.1) e)) (λ e. refl)

pub put_items-length : (rows : Bool) (l : List Edge) (o : Written) → length (put_items rows l o).1 ≡ length o.1
unfolding put_items
put_items-length rows [] o = refl
put_items-length rows (x ∷ l) o = put_items-length rows l (put_bytes (item rows x) o) ∙ put_bytes-length (item rows x) o

-- where all fits, it is all there
pub put_items-all : (rows : Bool) (l : List Edge) (o : Written) → o.0 + length (items rows l) ≤ length o.1
    → (put_items rows l o).1 ≡ put_at o.0 (items rows l) o.1
unfolding put_items items
put_items-all rows [] o h = sym (put-none o.0 o.1)
put_items-all rows (x ∷ l) o h =
    let w = item rows x in
    let k = length-append w (items rows l) in
    let m = put-length o.0 w o.1 (omega (arith, h, k)) in
    let n : Written = (o.0 + length w, put_at o.0 w o.1) in
    ap (λ p. (put_items rows l p).1) (sym (put-fits w o.0 (o.0 + length w) o.1 refl (put_at o.0 w o.1) (omega (arith, h, k)) refl))
    ∙ put_items-all rows l n (omega (arith, h, k, m))
    ∙ put-put o.0 w (items rows l) o.1 (omega (arith, h))
