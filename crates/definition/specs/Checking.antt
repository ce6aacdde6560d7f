-- A block checked from an offset on: the cases of a turn of the loop, for any kind of rows.
use Rattle.std.specs.Prelude.{ℕ, ◌+◌, ◌-◌, ◌≤◌, ◌<◌, Bool, true, false, List, ◌≡◌, length, drop}
use Rattle.std.proofs.Math.Bool.{and-false}
use Rattle.std.proofs.Math.Option.{Option, none, some}
use Rattle.std.proofs.Math.Path.{sym}
use Rattle.std.proofs.Common.{◌∙◌, arith, drop-drop, le-ltb, lt-ltb}
use Rattle.std.proofs.Math.ListN.{length-drop}
use Rattle.base.specs.Pick.{pick}
use Rattle.definition.specs.Blocks.{Walk, head_bytes, version_1, headed, past, fault_from, fault, offset_where, faulty_row}
use Rattle.definition.specs.BlockTurns.{fault-over, fault-next, fault-here, none_found, one_found}

-- a walk that has come to an offset
abbrev pub walk_at : {K : Type 0} → ℕ → ℕ → K → List ℕ → Walk K
walk_at at left low b = record { at = at; left = left; mark = low; rest = drop at b }

-- Whatever is found of a row
module _ {K F : Type 0} (size : List ℕ → ℕ) (mark : List ℕ → K) (found : Walk K → Option F) where
  -- the first fault from a row on
  unfoldable pub found_from : ℕ → ℕ → K → List ℕ → Option F
  found_from at left low b = fault_from size mark found (walk_at at left low b)

  module _ (header : F) (most : ℕ) (first : K) (b : List ℕ) where
    pub begun : true ≡ headed version_1 b → found_from head_bytes most first b ≡ fault size mark found version_1 header most first b
    unfolding found_from fault pick
    begun h = rw (sym h)

    pub unheaded : false ≡ headed version_1 b → some header ≡ fault size mark found version_1 header most first b
    unfolding fault pick
    unheaded h = rw (sym h)

  module _ (moves : (s : List ℕ) → 0 < size s) (b : List ℕ) (at left : ℕ) (low : K) where
    some_left : at < length b → 0 < length (drop at b)
    some_left h = omega (arith, length-drop at b)

    pub done : length b ≤ at → none ≡ found_from at left low b
    unfolding found_from
    done h = sym (fault-over size mark found moves (walk_at at left low b) (omega (arith, length-drop at b)))

    pub onward : at < length b → found (walk_at at left low b) ≡ none
        → (at' left' : ℕ) (low' : K) → at' ≡ at + size (drop at b) → left' ≡ left - 1 → low' ≡ mark (drop at b)
        → found_from at' left' low' b ≡ found_from at left low b
    unfolding found_from past
    onward h e at' left' low' p q r =
        rw (p, q, r) (sym (fault-next size mark found moves (walk_at at left low b) (some_left h) e ∙ simp drop-drop))

    pub halted : at < length b → (f : F) → found (walk_at at left low b) ≡ some f → some f ≡ found_from at left low b
    unfolding found_from
    halted h f e = sym (fault-here size mark found moves (walk_at at left low b) (some_left h) f e)

-- Where the offset of a row that is not right is found
module _ {K : Type 0} (size : List ℕ → ℕ) (mark : List ℕ → K) (right : K → List ℕ → Bool) where
  abbrev pub from : ℕ → ℕ → K → List ℕ → Option ℕ
  from = found_from size mark (offset_where right)

  module _ (most : ℕ) (first : K) (b : List ℕ) where
    pub started : true ≡ headed version_1 b → from head_bytes most first b ≡ faulty_row size mark right most first b
    started h = begun size mark (offset_where right) 0 most first b h

    pub no_header : false ≡ headed version_1 b → some 0 ≡ faulty_row size mark right most first b
    no_header h = unheaded size mark (offset_where right) 0 most first b h

  module _ (moves : (s : List ℕ) → 0 < size s) (b : List ℕ) (at left : ℕ) (low : K) where
    pub over : length b ≤ at → none ≡ from at left low b
    over h = done size mark (offset_where right) moves b at left low h

    pub next : at < length b → 0 < left → true ≡ right low (drop at b)
        → (at' left' : ℕ) (low' : K) → at' ≡ at + size (drop at b) → left' ≡ left - 1 → low' ≡ mark (drop at b)
        → from at' left' low' b ≡ from at left low b
    next h k e = onward size mark (offset_where right) moves b at left low h
        (none_found right (walk_at at left low b) (simp (lt-ltb 0 left k, sym e)))

    pub spent : at < length b → left ≡ 0 → some at ≡ from at left low b
    spent h k = halted size mark (offset_where right) moves b at left low h at
        (one_found right (walk_at at left low b) (simp (le-ltb 0 left (omega arith))))

    pub wrong : at < length b → false ≡ right low (drop at b) → some at ≡ from at left low b
    wrong h e = halted size mark (offset_where right) moves b at left low h at
        (one_found right (walk_at at left low b) (simp (sym e, and-false)))
