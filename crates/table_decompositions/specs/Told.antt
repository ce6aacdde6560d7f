-- What an offset that a search answers says, in the definition's terms.
use Rattle.std.specs.Prelude.{true, false, ◌≡◌, List, ℕ, ◌≤◌, ◌<◌, eqb, length, drop}
use Rattle.std.proofs.Math.Path.{refl, sym}
use Rattle.std.proofs.Common.{ap, ◌∙◌, arith}
use Rattle.std.proofs.Math.Option.{Option, none, some}
use borrow.Author.Tests.{eq-eqb, ne_eqb}
use Rattle.base.specs.Pick.{pick}
use Rattle.base.specs.Lists.{has, maybe}
use Rattle.definition.specs.Texts.{Text}
use Rattle.definition.specs.Tables.{Decomposition, tag_other}
use Rattle.definition.specs.DecompositionRows.{decomposition_char, decomposition_tag, decomposition_size, decomposition_into, decomposition_right, decomposition_of, decompositions_of, has_row}
use Rattle.definition.specs.DecompositionRows.{right_part, decomposition_fault}
use Rattle.definition.specs.Decomposing.{row_of, stands_for}
use Rattle.definition.specs.DecompositionLaws.{row_has, decomposition_checked, unnested, own-rows}
use Rattle.table_decompositions.specs.Index.{index_of, Ready}
use Rattle.table_decompositions.specs.Search.{sorted-right, row_hit, row_over, row_above, Begun, below_all}

-- a row by its offset, and the characters that it holds; 0 is no row
unfoldable pub row_means : List ℕ → ℕ → Option Decomposition
row_means b r = pick (eqb r 0) none (some (decomposition_of (drop r b)))

unfoldable pub into_means : List ℕ → ℕ → Option Text
into_means b r = pick (eqb r 0) none (some (decomposition_into (drop r b)))

-- a row that is right by itself, within the table
pub record Placed (b : List ℕ) (r : ℕ) : Type 0 where
  pub low : ℕ
  pub right : decomposition_right low (drop r b) ≡ true
  pub inside : decomposition_size (drop r b) ≤ length (drop r b)

-- The row of a character
pub record Found (b : List ℕ) (c r : ℕ) : Type 0 where
  pub means : row_means b r ≡ row_of (decompositions_of b) c
  pub within : r ≤ length b
  pub placed : 0 < r → Placed b r

-- where it gives an edge
pub record EdgeFound (b : List ℕ) (c r : ℕ) : Type 0 where
  pub means : into_means b r ≡ stands_for (decompositions_of b) c
  pub within : r ≤ length b
  pub placed : 0 < r → Placed b r

module _ (b : List ℕ) (c : ℕ) where
  pub found_none : row_of (decompositions_of b) c ≡ none → Found b c 0
  unfolding row_means pick
  found_none e = record { means = sym e; within = omega arith; placed = λ l. absurd (omega arith) }

  pub found_below : {x : List ℕ} → Ready b x → (d : ℕ) → d ≡ decomposition_char (drop 5 b) → c < d → Found b c 0
  found_below r d e l = found_none (below_all b c r.rows (omega arith))

  module _ (at : ℕ) (w : Begun b c at) where
    pub found-over : length b ≤ at → Found b c 0
    found-over l = found_none (sym w.same ∙ row_over b c at l)

    module _ (l : at < length b) (d : ℕ) (e : d ≡ decomposition_char (drop at b)) where
      pub found-past : c < d → Found b c 0
      found-past h = found_none (sym w.same ∙ row_above b c at l w.sorted (omega arith))

      pub found_here : d ≡ c → Found b c at
      unfolding row_means pick
      found_here h =
          let k = sorted-right l w.sorted in
          let a = w.above in
          record {
            means = rw (ne_eqb at 0 (λ z. omega arith)) (sym (row_hit b c at l (omega arith)) ∙ w.same);
            within = omega arith;
            placed = λ z. record { low = k.0; right = k.1; inside = (decomposition_checked k.0 (drop at b) k.1).inside };
          }

  -- what the row says of the character
  module _ (r : ℕ) (f : Found b c r) where
    none-there : r ≡ 0 → row_of (decompositions_of b) c ≡ none
    unfolding row_means pick
    none-there e = sym f.means ∙ rw (eq-eqb r 0 e) refl

    one-there : 0 < r → row_of (decompositions_of b) c ≡ some (decomposition_of (drop r b))
    unfolding row_means pick
    one-there l = sym f.means ∙ rw (ne_eqb r 0 (λ z. omega arith)) refl

    pub has-none : r ≡ 0 → has_row (decompositions_of b) c ≡ false
    has-none e = sym (row_has (decompositions_of b) c) ∙ ap has (none-there e)

    pub has_one : 0 < r → has_row (decompositions_of b) c ≡ true
    has_one l = sym (row_has (decompositions_of b) c) ∙ ap has (one-there l)

    nothing : stands_for (decompositions_of b) c ≡ none → EdgeFound b c 0
    unfolding into_means pick
    nothing e = record { means = sym e; within = omega arith; placed = λ l. absurd (omega arith) }

    pub edge_none : r ≡ 0 → EdgeFound b c 0
    unfolding stands_for maybe
    edge_none e = nothing (rw (none-there e) refl)

    module _ (l : 0 < r) (t : ℕ) (q : t ≡ decomposition_tag (drop r b)) where
      pub edge_other : (t ≡ tag_other → ⊥) → EdgeFound b c 0
      unfolding stands_for maybe pick decomposition_of
      edge_other n = nothing (rw (one-there l, ne_eqb (decomposition_tag (drop r b)) tag_other (λ e. n (q ∙ e))) refl)

      pub edge_here : t ≡ tag_other → EdgeFound b c r
      unfolding into_means stands_for maybe pick decomposition_of
      edge_here e = record {
        means = rw (ne_eqb r 0 (λ z. omega arith), one-there l, eq-eqb (decomposition_tag (drop r b)) tag_other (sym q ∙ e)) refl;
        within = f.within;
        placed = f.placed;
      }

-- A table that was checked is the part that is right by itself, and may be looked into
pub checked_ready : (b : List ℕ) → decomposition_fault b ≡ none → (right_part b ≡ b) × Ready b (index_of b)
checked_ready b e = let u = unnested b e in (u.whole, record { rows = own-rows b u.own; is = refl })
