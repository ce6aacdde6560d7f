-- The cases of a turn of the walk over the vowel rows.
use Prim.Native.Nat.{ℕ, ◌+◌, ◌-◌, ◌≤◌, ◌<◌}
use mathlib.Core.List.{List, ◌∷◌}
use mathlib.Core.Option.{Option, none, some}
use mathlib.Core.Path.{◌≡◌, refl, sym, ap}
use native.Mathlib.Omega.{arith}
use lib.Dec.{eqb}
use lib.ListN.{length, take, drop, length-drop}
use lib.Seq.{drop-drop}
use borrow.Author.Tests.{eq-eqb, ne_eqb}
use Rattle.base.specs.Lists.{head, keep}
use Rattle.base.specs.Rows.{Each, each_map, each_here, each_next, rows, rows_nil, rows_cons}
use Rattle.definition.specs.Tables.{Vowel}
use Rattle.definition.specs.VowelRows.{vowel_script, vowel_type, vowel_length, vowel_size, vowel_next, vowel_right, vowel_of, vowels_of}
use Rattle.definition.specs.Vowels.{vowel_row}
use Rattle.definition.specs.BlockTurns.{chain-each}
use Rattle.definition.specs.Checked.{vowel-checked}
use Rattle.definition.specs.Accepted.{vowel_moves, vowels-chain}
use Rattle.table_vowels.specs.Told.{FineVowels}
use Rattle.table_vowels.proofs.VowelTests.{letters_at}

pub record Kept (s : List ℕ) : Type 0 where
  pub inside : 3 + vowel_length s ≤ length s
  pub most : vowel_length s ≤ 4

-- the rows from a place on are as checked
pub record From (at : ℕ) (b : List ℕ) : Type 0 where
  pub each : Each Kept vowel_size (drop at b)

pub all-rows : (b : List ℕ) → FineVowels b → From 5 b
unfolding vowel_size
all-rows b e = record {
  each = each_map (λ s q.
      let w = vowel-checked q.0 s q.1 in record { inside = w.inside; most = w.most })
      (chain-each vowel_size vowel_next vowel_right (vowels-chain b e));
}

-- the row of a script among those from a place on
unfoldable pub row_from : ℕ → List ℕ → ℕ → Option Vowel
row_from at b k = vowel_row (rows vowel_of vowel_size (drop at b)) k

pub row_start : (b : List ℕ) (k : ℕ) → row_from 5 b k ≡ vowel_row (vowels_of b) k
unfolding row_from vowels_of
row_start b k = refl

module _ (b : List ℕ) (k at : ℕ) where
  pub row_over : length b ≤ at → none ≡ row_from at b k
  unfolding row_from vowel_row head keep
  row_over h =
      sym (ap (λ (l : List Vowel). vowel_row l k)
      (rows_nil vowel_of vowel_size (drop at b) (omega (arith, length-drop at b))))

  module _ (h : at < length b) (f : From at b) where
    some_left : 0 < length (drop at b)
    some_left = omega (arith, length-drop at b)

    first : rows vowel_of vowel_size (drop at b) ≡ vowel_of (drop at b) ∷ rows vowel_of vowel_size
        (drop (vowel_size (drop at b)) (drop at b))
    first = rows_cons vowel_of vowel_size vowel_moves (drop at b) some_left

    pub row_kept : Kept (drop at b)
    row_kept = each_here f.each some_left

    pub row_inside : at + 3 + vowel_length (drop at b) ≤ length b
    row_inside = let q = row_kept.inside in omega (arith, length-drop at b)

    pub row_hit : vowel_script (drop at b) ≡ k → (t from to : ℕ) → t ≡ vowel_type (drop at b)
        → from ≡ at + 3 → to ≡ from + vowel_length (drop at b)
        → some (record { script = k; ao = eqb t 1; letters = take (to - from) (drop from b) }) ≡ row_from at b k
    unfolding row_from vowel_row head keep vowel_of
    row_hit e t from to p q r =
        rw (first, letters_at b at from to q r, p, eq-eqb (vowel_script (drop at b)) k e, sym e)

    pub row_miss : (vowel_script (drop at b) ≡ k → ⊥) → (to : ℕ) → to ≡ at + 3 + vowel_length (drop at b)
        → (row_from to b k ≡ row_from at b k) × From to b
    unfolding row_from vowel_row head keep vowel_of vowel_size
    row_miss e to q =
        let z : to ≡ at + (3 + vowel_length (drop at b)) = omega arith in (
          rw (first, ne_eqb (vowel_script (drop at b)) k e, z, drop-drop),
          record { each = rw (z, ← drop-drop) (each_next f.each some_left) },
        )
