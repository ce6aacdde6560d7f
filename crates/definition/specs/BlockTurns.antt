-- A block checked row by row: one law for each way that the walk can turn, and what a block without fault has.
use Rattle.std.specs.Prelude.{Bool, ◌&&◌, List, [], ◌∷◌}
use Rattle.std.proofs.Math.Bool.{true, false}
use Rattle.std.proofs.Math.Path.{◌≡◌, refl, sym}
use Rattle.std.proofs.Common.{ap, ◌∙◌}
use Rattle.std.proofs.Math.Option.{Option, none, some}
use Prim.Native.Nat.{ℕ, zero, suc, ◌-◌, ◌≤◌, ◌<◌}
use native.Mathlib.Omega.{arith}
use Rattle.std.proofs.Math.Dec.{ltb}
use Rattle.std.proofs.Math.ListN.{length, drop, length-drop}
use borrow.Author.Tests.{lt-ltb, ltb-true, eq-eqb, ne_eqb}
use Rattle.base.specs.Pick.{pick, pick_ind}
use Rattle.base.specs.Bools.{and_left, and_right}
use Rattle.base.specs.Turn.{Turn, again, stop, Lower, whole_again, whole-stop}
use Rattle.base.specs.Lists.{empty, maybe}
use Rattle.base.specs.ListLaws.{empty-is, none_left, some_left}
use Rattle.base.specs.Rows.{Each, no_row, row_then, rows, rows_nil, rows_cons}
use Rattle.base.specs.Alls.{All, All-map, Ordered}
use Rattle.definition.specs.Blocks.{Walk, head_bytes, version_1, headed, past, begin, row_turn, fault_from, fault, offset_where}

-- One law for each way that a walk can turn, whatever is found of a row, where each row has a size
module _ {K F : Type 0} (size : List ℕ → ℕ) (mark : List ℕ → K) (found : Walk K → Option F) (moves : (s : List ℕ) → 0 < size s) where
  left_of : Walk K → ℕ
  left_of x = length x.rest

  falls : (x : Walk K) → Lower (row_turn size mark found) (λ y. none) left_of (left_of x) (row_turn size mark found x)
  unfolding row_turn left_of past maybe
  falls x = pick_ind P _ _ _ (λ e. tt) (λ e. go e (found x))
    where
      P : Turn (Walk K) (Option F) → Type 0
      P = Lower (row_turn size mark found) (λ y. none) left_of (length x.rest)

      go : empty x.rest ≡ false → (o : Option F) → P (maybe o (again (past size mark x)) (λ f. stop (some f)))
      go e none =
          let m = moves x.rest in
          let d = length-drop (size x.rest) x.rest in
          let z = some_left x.rest e in omega arith
      go e (some f) = tt

  -- the walk is over; nothing is found of the row and the walk goes on past it; or the row is at fault
  pub fault-over : (x : Walk K) → length x.rest ≡ 0 → fault_from size mark found x ≡ none
  unfolding fault_from row_turn left_of pick
  fault-over x e = whole-stop (row_turn size mark found) (λ y. none) left_of falls x none
      (rw (empty-is x.rest ∙ eq-eqb (length x.rest) 0 e))

  pub fault-next : (x : Walk K) → 0 < length x.rest → found x ≡ none
      → fault_from size mark found x ≡ fault_from size mark found (past size mark x)
  unfolding fault_from row_turn left_of pick maybe
  fault-next x l e = whole_again (row_turn size mark found) (λ y. none) left_of falls x (past size mark x)
      (rw (empty-is x.rest ∙ ne_eqb (length x.rest) 0 (λ z. omega arith), e))

  pub fault-here : (x : Walk K) → 0 < length x.rest → (f : F) → found x ≡ some f → fault_from size mark found x ≡ some f
  unfolding fault_from row_turn left_of pick maybe
  fault-here x l f e = whole-stop (row_turn size mark found) (λ y. none) left_of falls x (some f)
      (rw (empty-is x.rest ∙ ne_eqb (length x.rest) 0 (λ z. omega arith), e))

  -- What is found is found of a row: `P` holds where the walk stands there, if it holds at first and is kept past each row
  -- of which nothing is found
  module _ (P : Walk K → Type 0)
      (kept : (x : Walk K) → P x → 0 < length x.rest → found x ≡ none → P (past size mark x)) (f : F) where
    abbrev pub FoundAt : Type 0
    FoundAt = (y : Walk K) × P y × (0 < length y.rest) × (found y ≡ some f)

    pub found_at : (n : ℕ) (x : Walk K) → length x.rest ≤ n → P x → fault_from size mark found x ≡ some f → FoundAt
    unfolding past
    found_at zero x l p e =
        let z = fault-over x (omega arith) in
        absurd (let w : ◌≡◌ {A = ℕ} 0 1 = cc in omega arith)
    found_at (suc n) x l p e = go (empty x.rest) (found x) refl refl (found_at n (past size mark x))
      where
        go : (b : Bool) (o : Option F) → empty x.rest ≡ b → found x ≡ o
            → (length (drop (size x.rest) x.rest) ≤ n → P (past size mark x)
            → fault_from size mark found (past size mark x) ≡ some f → FoundAt)
            → FoundAt
        go true o q r ih =
            let z = fault-over x (none_left x.rest q) in
            absurd (let w : ◌≡◌ {A = ℕ} 0 1 = cc in omega arith)
        go false none q r ih =
            let h = some_left x.rest q in
            let m = moves x.rest in
            let d = length-drop (size x.rest) x.rest in
            ih (omega arith) (kept x p h r) (sym (fault-next x h r) ∙ e)
        go false (some g) q r ih =
            let h = some_left x.rest q in
            (x, p, h, r ∙ sym (fault-here x h g r) ∙ e)

-- May the row at which a walk stands be there, and is it right?
abbrev pub fine : {K : Type 0} → (K → List ℕ → Bool) → Walk K → Bool
fine right x = ltb 0 x.left && right x.mark x.rest

-- `found` finds nothing of such a row, and something of any other
pub record Tells {K F : Type 0} (right : K → List ℕ → Bool) (found : Walk K → Option F) : Type 0 where
  pub nothing : (x : Walk K) → fine right x ≡ true → found x ≡ none
  pub something : (x : Walk K) → fine right x ≡ false → (f : F) × (found x ≡ some f)

-- as the offset does of a row that is not right
module _ {K : Type 0} (right : K → List ℕ → Bool) where
  pub none_found : (x : Walk K) → fine right x ≡ true → offset_where right x ≡ none
  unfolding offset_where pick
  none_found x e = rw e

  pub one_found : (x : Walk K) → fine right x ≡ false → offset_where right x ≡ some x.at
  unfolding offset_where pick
  one_found x e = rw e

  pub offset_tells : Tells right (offset_where right)
  offset_tells = record { nothing = none_found; something = λ x e. (x.at, one_found x e) }

module _ {K : Type 0} (size : List ℕ → ℕ) (mark : List ℕ → K) (right : K → List ℕ → Bool) where
  -- At most `n` rows, each right after the mark of the one before it, the first after `k`
  pub data Chain : ℕ → K → List ℕ → Type 0 where
    ended : {n : ℕ} {k : K} {s : List ℕ} → length s ≡ 0 → Chain n k s
    linked : {n : ℕ} {k : K} {s : List ℕ} → right k s ≡ true → Chain n (mark s) (drop (size s) s) → Chain (suc n) k s

  -- so each row is right after some mark
  abbrev pub Right : List ℕ → Type 0
  Right s = (k : K) × (right k s ≡ true)

  pub chain-each : {n : ℕ} {k : K} {s : List ℕ} → Chain n k s → Each Right size s
  chain-each (ended e) = no_row e
  chain-each (linked {n} {k} p c) = row_then (k, p) (chain-each c)

  -- a row has a size
  module _ (moves : (s : List ℕ) → 0 < size s) where
    some_row : (n : ℕ) → 0 < n → (m : ℕ) × (n ≡ suc m)
    some_row zero h = absurd (omega arith)
    some_row (suc m) h = (m, refl)

    -- A walk without fault is a chain
    module _ {F : Type 0} (found : Walk K → Option F) (tells : Tells right found) where
      abbrev from : Walk K → Option F
      from = fault_from size mark found

      walk-chain : (f : ℕ) (x : Walk K) → length x.rest ≤ f → from x ≡ none → Chain x.left x.mark x.rest
      unfolding past
      walk-chain zero x l e = let z : length x.rest ≡ 0 = omega arith in ended z
      walk-chain (suc f) x l e =
          go (empty x.rest) (fine right x) refl refl (walk-chain f (past size mark x))
        where
          go : (b c : Bool) → empty x.rest ≡ b → fine right x ≡ c
              → (length (drop (size x.rest) x.rest) ≤ f → from (past size mark x) ≡ none
              → Chain (x.left - 1) (mark x.rest) (drop (size x.rest) x.rest))
              → Chain x.left x.mark x.rest
          go true c p q ih = ended (none_left x.rest p)
          go false true p q ih =
              let h = some_left x.rest p in
              let n = some_row x.left (ltb-true 0 x.left (and_left _ _ q)) in
              let r = and_right (ltb 0 x.left) _ q in
              let m = moves x.rest in
              let d = length-drop (size x.rest) x.rest in
              let y = ih (omega arith) (sym (fault-next size mark found moves x h (tells.nothing x q)) ∙ e) in
              let i : x.left - 1 ≡ n.0 = let z = n.1 in omega arith in
              rw n.1 (linked r (rw i at y))
          go false false p q ih =
              let s = tells.something x q in
              let z = sym (fault-here size mark found moves x (some_left x.rest p) s.0 s.1) ∙ e in
              absurd (let w : ◌≡◌ {A = ℕ} 0 1 = cc in omega arith)

      -- and a chain is walked without fault
      chain-walk : {n : ℕ} {k : K} {s : List ℕ} → Chain n k s → (x : Walk K) → x.left ≡ n → x.mark ≡ k → x.rest ≡ s → from x ≡ none
      unfolding past
      chain-walk (ended e) x p q r = fault-over size mark found moves x (ap length r ∙ e)
      chain-walk (linked {n} {k} {s} f c) x p q r =
          go (empty x.rest) refl
          (chain-walk c (past size mark x) (omega arith) (ap mark r) (ap (λ t. drop (size t) t) r))
        where
          go : (b : Bool) → empty x.rest ≡ b → from (past size mark x) ≡ none → from x ≡ none
          go true e ih = fault-over size mark found moves x (none_left x.rest e)
          go false e ih =
              let l : ltb 0 x.left ≡ true = lt-ltb 0 x.left (omega arith) in
              fault-next size mark found moves x (some_left x.rest e) (tells.nothing x (rw (l, q, r) f)) ∙ ih

      pub fault_sound : (header : F) (most : ℕ) (first : K) (b : List ℕ) → headed version_1 b ≡ true → Chain most first (drop head_bytes b)
          → fault size mark found version_1 header most first b ≡ none
      unfolding fault pick
      fault_sound header most first b h c = rw h (chain-walk c (begin size mark most first b) refl refl refl)

      pub fault-headed : (header : F) (most : ℕ) (first : K) (b : List ℕ) → fault size mark found version_1 header most first b ≡ none
          → headed version_1 b ≡ true
      unfolding fault pick
      fault-headed header most first b e = go (headed version_1 b) refl e
        where
          go : (h : Bool) → headed version_1 b ≡ h → pick h (from (begin size mark most first b)) (some header) ≡ none
              → headed version_1 b ≡ true
          go true p e = p
          go false p e = absurd (let w : ◌≡◌ {A = ℕ} 0 1 = cc in omega arith)

      pub fault-none : (header : F) (most : ℕ) (first : K) (b : List ℕ) → fault size mark found version_1 header most first b ≡ none
          → Chain most first (drop head_bytes b)
      unfolding fault pick
      fault-none header most first b e = go (headed version_1 b) e
        where
          x : Walk K
          x = begin size mark most first b

          go : (h : Bool) → pick h (from x) (some header) ≡ none → Chain most first (drop head_bytes b)
          go true e = walk-chain (length (drop head_bytes b)) x (omega arith) e
          go false e = absurd (let w : ◌≡◌ {A = ℕ} 0 1 = cc in omega arith)

    -- The rows that a chain stands for: no more than allowed, and in order. `After k` is what is said of all that
    -- come after the mark `k`, and `R` of an earlier row and a later
    module _ {A : Type 0} (one : List ℕ → A) where
      pub chain_few : {n : ℕ} {k : K} {s : List ℕ} → Chain n k s → length (rows one size s) ≤ n
      chain_few (ended {n} {k} {s} e) = rw (rows_nil one size s e) (omega arith)
      chain_few (linked {n} {k} {s} p c) = go s (chain_few c)
        where
          go : (s : List ℕ) → length (rows one size (drop (size s) s)) ≤ n → length (rows one size s) ≤ suc n
          go [] h = rw (rows_nil one size [] refl) (omega arith)
          go (x ∷ s) h = rw (rows_cons one size moves (x ∷ s) (omega arith)) (omega arith)

      module _ (After : K → A → Type 0) (R : A → A → Type 0)
          (here : (k : K) (s : List ℕ) → right k s ≡ true → After k (one s))
          (later : (k : K) (s : List ℕ) (y : A) → right k s ≡ true → After (mark s) y → After k y)
          (pair : (s : List ℕ) (y : A) → After (mark s) y → R (one s) y) where
        pub chain_ordered : {n : ℕ} {k : K} {s : List ℕ} → Chain n k s → All (After k) (rows one size s) × Ordered R (rows one size s)
        chain_ordered (ended {n} {k} {s} e) = rw (rows_nil one size s e) (tt, tt)
        chain_ordered (linked {n} {k} {s} p c) = go s p (chain_ordered c)
          where
            go : (s : List ℕ) → right k s ≡ true → All (After (mark s)) (rows one size (drop (size s) s)) × Ordered R (rows one size (drop (size s) s))
                → All (After k) (rows one size s) × Ordered R (rows one size s)
            go [] p h = rw (rows_nil one size [] refl) (tt, tt)
            go (x ∷ s) p h = rw (rows_cons one size moves (x ∷ s) (omega arith)) (
              (here k (x ∷ s) p, All-map (λ y a. later k (x ∷ s) y p a) (rows one size (drop (size (x ∷ s)) (x ∷ s))) h.0),
              (All-map (pair (x ∷ s)) (rows one size (drop (size (x ∷ s)) (x ∷ s))) h.0, h.1),
            )
