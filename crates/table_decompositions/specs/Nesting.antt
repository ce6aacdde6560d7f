-- The walk over rows that looks for one which holds a character with a row: the cases of a turn.
use Rattle.std.specs.Prelude.{Bool, true, false, ◌≡◌, List, ℕ, suc, ◌+◌, ◌-◌, ◌≤◌, ◌<◌, length, drop}
use Rattle.std.proofs.Math.Bool.{not}
use Rattle.std.proofs.Math.Path.{refl, sym, ap}
use Rattle.std.proofs.Common.{◌∙◌, subst, arith, length-drop, drop-drop}
use Rattle.std.proofs.Math.Option.{none, some}
use Rattle.base.specs.Lists.{any}
use Rattle.definition.specs.Limits.{most_rows}
use Rattle.definition.specs.Blocks.{head_bytes}
use Rattle.definition.specs.BlockTurns.{ended, linked}
use Rattle.definition.specs.Checking.{from, found_from, over, next, wrong}
use Rattle.definition.specs.DecompositionRows.{decomposition_size, decomposition_next, decomposition_into, decompositions_of, has_row, into_final, own_fault, right_part, nested_fault, decomposition_fault}
use Rattle.definition.specs.DecompositionLaws.{RightRows, decomposition_moves}

-- does a row hold a character that has one?
abbrev pub holds_rows : List ℕ → List ℕ → Bool
holds_rows b s = any (has_row (decompositions_of b)) (decomposition_into s)

unfoldable pub final_in : List ℕ → ℕ → List ℕ → Bool
final_in b low s = into_final (decompositions_of b) s

-- The walk that has come to `at`; how many rows may still come is known by those that there are
pub record Nesting (b : List ℕ) (at : ℕ) : Type 0 where
  pub left : ℕ
  pub mark : ℕ
  pub rows : RightRows left mark (drop at b)
  pub whole : from decomposition_size decomposition_next (final_in b) at left mark b ≡ nested_fault b

pub nesting_first : (b : List ℕ) → RightRows most_rows 0 (drop head_bytes b) → Nesting b head_bytes
nesting_first b r = record { left = most_rows; mark = 0; rows = r; whole = unfold found_from nested_fault final_in in refl }

record Link (left : ℕ) (s : List ℕ) : Type 0 where
  more : 0 < left
  rest : RightRows (left - 1) (decomposition_next s) (drop (decomposition_size s) s)

link : {n k : ℕ} {s : List ℕ} → 0 < length s → RightRows n k s → Link n s
link l (ended e) = absurd (omega arith)
link l (linked {n} {k} p c) =
    let e : suc n - 1 ≡ n = omega arith in
    record { more = omega arith; rest = rw e c }

module _ (b : List ℕ) (at : ℕ) (w : Nesting b at) where
  pub nesting_over : length b ≤ at → none ≡ nested_fault b
  nesting_over l = over decomposition_size decomposition_next (final_in b) decomposition_moves b at w.left w.mark l ∙ w.whole

  module _ (l : at < length b) where
    pub nesting_here : true ≡ holds_rows b (drop at b) → some at ≡ nested_fault b
    nesting_here e =
        wrong decomposition_size decomposition_next (final_in b) decomposition_moves b at w.left w.mark l
        (unfold final_in into_final in ap not e) ∙ w.whole

    pub nesting_next : false ≡ holds_rows b (drop at b) → (z : ℕ) → z ≡ decomposition_size (drop at b) → Nesting b (at + z)
    nesting_next e z q =
        let k = link (omega (arith, length-drop at b)) w.rows in
        record {
          left = w.left - 1;
          mark = decomposition_next (drop at b);
          rows = rw q (subst (RightRows (w.left - 1) (decomposition_next (drop at b))) (drop-drop (decomposition_size (drop at b)) at b) k.rest);
          whole = next decomposition_size decomposition_next (final_in b) decomposition_moves b at w.left w.mark l k.more
              (unfold final_in into_final in ap not e) (at + z) (w.left - 1) (decomposition_next (drop at b)) (ap (λ (y : ℕ). at + y) q) refl refl
              ∙ w.whole;
        }

-- The table's first fault is a row of the part that is right by itself, or else where that ends
module _ (b p : List ℕ) (e : right_part b ≡ p) where
  pub fault_nested : (o : ℕ) → nested_fault p ≡ some o → some o ≡ decomposition_fault b
  unfolding decomposition_fault
  fault_nested o q = sym (rw (e, q) refl)

  pub fault-own : nested_fault p ≡ none → own_fault b ≡ decomposition_fault b
  unfolding decomposition_fault
  fault-own q = sym (rw (e, q) refl)
