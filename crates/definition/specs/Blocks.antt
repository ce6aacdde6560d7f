-- Blocks: a version byte, a 4-byte length of all that follows, the rows. Where a block is faulty.
-- A row is read from the bytes that begin with it.
use Rattle.std.specs.Prelude.{Bool, ◌&&◌, List, ℕ, suc, ◌+◌, ◌-◌, eqb, leb, ltb, length, get_or, drop}
use Rattle.std.proofs.Math.Option.{Option, none, some}
use Rattle.base.specs.Pick.{pick}
use Rattle.base.specs.Turn.{Turn, again, stop, turns}
use Rattle.base.specs.Big.{be4}
use Rattle.base.specs.Lists.{empty, holds, maybe}

-- bytes of the header
abbrev pub head_bytes : ℕ
head_bytes = 5

-- the version that tables and listings have
abbrev pub version_1 : ℕ
version_1 = 1

-- a block of version `v` fills its slice exactly
unfoldable pub headed : ℕ → List ℕ → Bool
headed v b = holds head_bytes b && eqb (get_or b 0 0) v && eqb (head_bytes + be4 b 1) (length b)

-- A walk over rows: the offset of a row, how many rows may still come,
-- the mark that the row before it left (the order is asked of it), and the bytes from the row on
pub record Walk (K : Type 0) : Type 0 where
  pub at : ℕ
  pub left : ℕ
  pub mark : K
  pub rest : List ℕ

-- `size` is a row's size, `mark` what it leaves for the next
module _ {K : Type 0} (size : List ℕ → ℕ) (mark : List ℕ → K) where
  unfoldable pub past : Walk K → Walk K
  past x = record {
    at = x.at + size x.rest;
    left = x.left - 1;
    mark = mark x.rest;
    rest = drop (size x.rest) x.rest;
  }

  -- the walk over all rows of a block
  abbrev pub begin : ℕ → K → List ℕ → Walk K
  begin most first b = record { at = head_bytes; left = most; mark = first; rest = drop head_bytes b }

  -- `found` is what is wrong with the row at which a walk stands, where anything is
  module _ {F : Type 0} (found : Walk K → Option F) where
    unfoldable pub row_turn : Walk K → Turn (Walk K) (Option F)
    row_turn x = pick (empty x.rest) (stop none) (maybe (found x) (again (past x)) (λ f. stop (some f)))

    unfoldable pub fault_from : Walk K → Option F
    fault_from x = turns row_turn (λ y. none) (suc (length x.rest)) x

    -- What is wrong with a block: its header, or else what is found of its first faulty row
    unfoldable pub fault : ℕ → F → ℕ → K → List ℕ → Option F
    fault v header most first b = pick (headed v b) (fault_from (begin most first b)) (some header)

-- What is found of a row that is not right after its mark, or past the most allowed: its offset
unfoldable pub offset_where : {K : Type 0} → (K → List ℕ → Bool) → Walk K → Option ℕ
offset_where right x = pick (ltb 0 x.left && right x.mark x.rest) none (some x.at)

-- The offset of a block's first faulty row; 0 for the header
abbrev pub faulty_row : {K : Type 0} → (List ℕ → ℕ) → (List ℕ → K) → (K → List ℕ → Bool) → ℕ → K → List ℕ → Option ℕ
faulty_row size mark right most first b = fault size mark (offset_where right) version_1 0 most first b

-- a-z
unfoldable pub small : ℕ → Bool
small c = leb 97 c && leb c 122
