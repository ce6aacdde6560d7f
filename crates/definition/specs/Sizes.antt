-- How many bytes a listing's rows have, of any accepted call: in modes 1 and 3 never more than four bytes can tell; in mode 2
-- 19 comes just where it is more. So the length that a block begins with is exact.
-- (Proved in proofs/Sizes.)
use Rattle.std.specs.Prelude.{true, ◌≡◌, ltb, drop}
use Rattle.std.proofs.Common.{eq-eqb, ne_eqb}
use Rattle.std.proofs.Math.Path.{refl}
use mathlib.Core.List.{List, [], ◌∷◌, ◌++◌}
use Prim.Native.Nat.{ℕ, suc, ◌+◌, ◌*◌, ◌/◌, ◌%◌, ◌≤◌, ◌<◌}
use native.Mathlib.Omega.{arith}
use Rattle.std.proofs.Math.ListN.{length, length-append}
use Rattle.base.specs.Lists.{holds}
use Rattle.base.specs.Big.{be4, two, three, four}
use Rattle.base.specs.Alls.{All}
use Rattle.definition.specs.Limits.{most_characters, most_alternatives, most_target, most_alternative, most_bytes, most_edges, most_listed}
use Rattle.definition.specs.Blocks.{head_bytes, version_1, headed}
use Rattle.definition.specs.Utf8.{encoded}
use Rattle.definition.specs.Edges.{Edge}
use Rattle.definition.specs.Decomposing.{lattice, path}
use Rattle.definition.specs.Listing.{row_head_bytes, edge_row, edge_rows, block, listing, shown}
use Rattle.definition.specs.Capacity.{bytes}
use Rattle.definition.specs.Call.{Inputs, tables, decompositions, characters, uncounted}
use Rattle.definition.specs.Counts.{for_edge}

-- The most bytes that rows of edges of a lattice can have, in modes 1 and 3: 42,754,048
abbrev pub most_edges_listed : ℕ
most_edges_listed = (row_head_bytes + most_bytes) * (most_edges * most_characters)

-- and in mode 2 rows of a path with an edge for each character, and of all its alternatives
abbrev pub most_alternatives_listed : ℕ
most_alternatives_listed = (row_head_bytes + most_bytes) * most_characters + (row_head_bytes + most_alternative) * (for_edge * most_characters)

-- The bytes of some rows, as a sum: of each edge a row's head and its text
unfoldable pub listed_bytes : List Edge → ℕ
listed_bytes [] = 0
listed_bytes (x ∷ l) = row_head_bytes + bytes x + listed_bytes l

row_length : (x : Edge) → length (edge_row x (encoded x.text)) ≡ row_head_bytes + bytes x
unfolding edge_row bytes two
row_length x = omega arith

pub rows_are : (l : List Edge) → length (edge_rows l) ≡ listed_bytes l
unfolding edge_rows listed_bytes
rows_are [] = refl
rows_are (x ∷ l) =
    let r = row_length x in
    let k = rows_are l in
    omega (arith, length-append (edge_row x (encoded x.text)) (edge_rows l))

pub listed-append : (l k : List Edge) → listed_bytes (l ++ k) ≡ listed_bytes l + listed_bytes k
unfolding listed_bytes
listed-append [] k = omega arith
listed-append (x ∷ l) k = let e = listed-append l k in omega arith

-- n * (k + 1), for a number n that is not written out
times_suc : (n k : ℕ) → n * suc k ≡ n + n * k
times_suc n k = omega arith

-- Rows with texts of `b` bytes at most, and with texts of just as many
pub listed-most : (b : ℕ) (l : List Edge) → All (λ x. bytes x ≤ b) l → listed_bytes l ≤ (row_head_bytes + b) * length l
unfolding listed_bytes
listed-most b [] h = omega arith
listed-most b (x ∷ l) h =
    let a = h.0 in
    let k = listed-most b l h.1 in
    let m : (row_head_bytes + b) * suc (length l) ≡ (row_head_bytes + b) + (row_head_bytes + b) * length l = times_suc (row_head_bytes + b) (length l) in
    omega arith

pub listed-alike : (b : ℕ) (l : List Edge) → All (λ x. bytes x ≡ b) l → listed_bytes l ≡ (row_head_bytes + b) * length l
unfolding listed_bytes
listed-alike b [] h = omega arith
listed-alike b (x ∷ l) h =
    let a = h.0 in
    let k = listed-alike b l h.1 in
    let m : (row_head_bytes + b) * suc (length l) ≡ (row_head_bytes + b) + (row_head_bytes + b) * length l = times_suc (row_head_bytes + b) (length l) in
    omega arith

-- 4,096 characters with 640 rules each, of eight alternatives of 200 bytes: the alternatives alone pass what four bytes tell
pub alternatives_pass : (path others : List Edge) → All (λ x. bytes x ≡ most_target) others → length others ≡ most_characters * (640 * most_alternatives)
    → most_listed < listed_bytes (path ++ others)
alternatives_pass path others h n = omega (arith, listed-append path others, listed-alike most_target others h)

-- The length that a block begins with, read back: it is that of what follows
pub block-length : (rows : List ℕ) → length rows ≤ most_listed → be4 (block rows) 1 ≡ length (drop head_bytes (block rows))
unfolding block two three four
block-length rows l =
    let n = length rows in
    let a : n / 16777216 ≡ n / 65536 / 256 = omega arith in
    let b : n / 65536 ≡ n / 256 / 256 = omega arith in
    let c : n / 16777216 % 256 ≡ n / 16777216 = omega arith in
    let d : n / 16777216 % 256 * 256 + n / 65536 % 256 ≡ n / 65536 = omega (arith, a, c) in
    let e : (n / 16777216 % 256 * 256 + n / 65536 % 256) * 256 + n / 256 % 256 ≡ n / 256 = omega (arith, b, d) in
    omega (arith, e)

pub block-headed : (rows : List ℕ) → be4 (block rows) 1 ≡ length (drop head_bytes (block rows)) → headed version_1 (block rows) ≡ true
unfolding headed holds block two three four
block-headed rows e = eq-eqb (head_bytes + be4 (block rows) 1) (length (block rows)) (omega (arith, e))

-- A listing is counted in modes 1 to 3 just where its rows are so few
pub lists : (m : ℕ) (l : List Edge) → 0 < m → uncounted m (listing l) ≡ ltb most_listed (length (edge_rows l))
unfolding uncounted listing block two three four
lists m l h = rw (ne_eqb m 0 (λ e. omega arith))

-- what a mode shows of a call's text
abbrev pub shown_in : Inputs → ℕ → List ℕ
shown_in i m = shown (tables i) (characters i) m (lattice (tables i) (decompositions i) (characters i))
