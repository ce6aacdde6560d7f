-- The sparse index of a decomposition table: the offset of every 16th row, as a rule table has it.
use Rattle.std.specs.Prelude.{◌≡◌, refl, List, [], ◌∷◌, ℕ, ◌+◌, ◌*◌, ◌/◌, ◌≤◌, ◌<◌, length, drop, replicate}
use Rattle.std.proofs.Math.Path.{sym, ap}
use Rattle.std.proofs.Common.{◌∙◌, length-drop, drop-drop}
use native.Mathlib.Omega.{arith}
use Rattle.base.specs.Rows.{rows, rows_nil, rows_cons}
use Rattle.definition.specs.Limits.{most_rows}
use Rattle.definition.specs.Blocks.{head_bytes}
use Rattle.definition.specs.DecompositionRows.{decomposition_size}
use Rattle.definition.specs.DecompositionLaws.{RightRows, decomposition_moves}
use Rattle.rule_table.specs.Index.{index_step, index_entries, offsets, entered, indexed, entered-length, indexed-full}

-- the offsets of the rows from an offset on, of all rows
unfoldable pub offsets_from : List ℕ → ℕ → List ℕ
offsets_from b at = offsets at (rows decomposition_size decomposition_size (drop at b))

unfoldable pub row_offsets : List ℕ → List ℕ
row_offsets b = offsets_from b head_bytes

-- the index of a table
unfoldable pub index_of : List ℕ → List ℕ
index_of b = indexed 0 (row_offsets b) (replicate index_entries 0)

-- What is checked and filled before a row is looked for. The header is not asked for: the part of a table that is right by
-- itself has rows and an index too
pub record Ready (b x : List ℕ) : Type 0 where
  pub rows : RightRows most_rows 0 (drop head_bytes b)
  pub is : x ≡ index_of b

pub offsets-over : (b : List ℕ) (at : ℕ) → length b ≤ at → offsets_from b at ≡ []
unfolding offsets_from offsets
offsets-over b at l = rw (rows_nil decomposition_size decomposition_size (drop at b) (omega (arith, length-drop at b)))

pub offsets-next : (b : List ℕ) (at : ℕ) → at < length b
    → offsets_from b at ≡ at ∷ offsets_from b (at + decomposition_size (drop at b))
unfolding offsets_from offsets
offsets-next b at l =
    ap (offsets at) (rows_cons decomposition_size decomposition_size decomposition_moves (drop at b) (omega (arith, length-drop at b)))
    ∙ ap (λ s. at ∷ offsets (at + decomposition_size (drop at b)) (rows decomposition_size decomposition_size s))
    (drop-drop (decomposition_size (drop at b)) at b)

-- what was all 0 and was filled is the index
pub index_filled : (b x l : List ℕ) → l ≡ replicate index_entries 0 → x ≡ indexed 0 (row_offsets b) l → x ≡ index_of b
unfolding index_of
index_filled b x l z e = e ∙ ap (indexed 0 (row_offsets b)) z

-- A walk that has come to row `n` at `at`: what is still to be put leads where the whole leads
pub record Filled (b before l : List ℕ) (at n : ℕ) : Type 0 where
  pub whole : indexed n (offsets_from b at) l ≡ indexed 0 (row_offsets b) before
  pub same_size : length l ≡ length before
  pub near : at ≤ 5 + 770 * n

pub fill_begun : (b l : List ℕ) → Filled b l l head_bytes 0
fill_begun b l = record { whole = unfold row_offsets in refl; same_size = refl; near = omega arith }

module _ {b before l : List ℕ} {at n : ℕ} (f : Filled b before l at n) where
  pub fill_over : length b ≤ at → l ≡ indexed 0 (row_offsets b) before
  unfolding indexed
  fill_over h = sym (ap (λ os. indexed n os l) (offsets-over b at h)) ∙ f.whole

  pub fill_full : length l ≤ n / index_step → l ≡ indexed 0 (row_offsets b) before
  fill_full h = sym (indexed-full n (offsets_from b at) l h) ∙ f.whole

  pub fill_next : at < length b → (z : ℕ) → z ≡ decomposition_size (drop at b) → z ≤ 770
      → Filled b before (entered n at l) (at + z) (n + 1)
  unfolding indexed
  fill_next h z e m = record {
    whole = ap (λ z. indexed (n + 1) (offsets_from b (at + z)) (entered n at l)) e
        ∙ sym (ap (λ os. indexed n os l) (offsets-next b at h)) ∙ f.whole;
    same_size = entered-length n at l ∙ f.same_size;
    near = let k = f.near in omega arith;
  }
