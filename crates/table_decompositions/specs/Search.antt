-- Looking for a character in rows that rise: where a walk may begin, and each way that its turns can go.
use Rattle.std.specs.Prelude.{Bool, true, false, ◌&&◌, ◌≡◌, refl, List, [], ◌∷◌, eqb, length, get_or, replicate}
use Rattle.std.proofs.Math.Bool.{not}
use Rattle.std.proofs.Common.{true≢false, ◌∙◌, subst, drop-drop}
use Rattle.std.proofs.Math.Path.{sym, ap}
use Rattle.std.proofs.Math.Option.{Option, none, some}
use Prim.Native.Nat.{ℕ, zero, suc, ◌+◌, ◌-◌, ◌≤◌, ◌<◌}
use native.Mathlib.Omega.{arith}
use Rattle.std.proofs.Math.Decide.{dec_lt}
use Rattle.std.proofs.Math.Dec.{leb}
use Rattle.std.proofs.Math.ListN.{drop, length-drop}
use borrow.Author.Tests.{eq-eqb, ne_eqb, leb-true, le-leb, eqb-true, eqb-false, not-true}
use Rattle.base.specs.Pick.{pick}
use Rattle.base.specs.Bools.{and_left, and_right}
use Rattle.base.specs.Rows.{rows, rows_nil, rows_cons}
use Rattle.base.specs.Alls.{All, All-map, All_getD}
use Rattle.definition.specs.Limits.{most_rows}
use Rattle.definition.specs.Tables.{Decomposition}
use Rattle.definition.specs.Blocks.{head_bytes}
use Rattle.definition.specs.BlockTurns.{ended, linked, chain_ordered}
use Rattle.definition.specs.DecompositionRows.{decomposition_char, decomposition_size, decomposition_next, decomposition_right, decomposition_of, decompositions_of}
use Rattle.definition.specs.Decomposing.{row_of}
use Rattle.definition.specs.DecompositionLaws.{RightRows, decomposition_moves, decomposition_checked}
use Rattle.rule_table.specs.Index.{index_entries}
use Rattle.rule_table.specs.Entries.{indexed-all, replicate-all}
use Rattle.table_decompositions.specs.Index.{offsets_from, row_offsets, index_of, Ready, offsets-over, offsets-next}

-- the row of a character among those from an offset on
unfoldable pub row_from : List ℕ → ℕ → ℕ → Option Decomposition
row_from b at c = row_of (rows decomposition_of decomposition_size (drop at b)) c

pub row_start : (b : List ℕ) (c : ℕ) → row_from b head_bytes c ≡ row_of (decompositions_of b) c
unfolding row_from decompositions_of
row_start b c = refl

-- The rows from an offset on are right by themselves, one after another
pub record Sorted (b : List ℕ) (at : ℕ) : Type 0 where
  pub most : ℕ
  pub mark : ℕ
  pub rows : RightRows most mark (drop at b)

-- what a chain that goes on begins with
record First (s : List ℕ) : Type 0 where
  most : ℕ
  mark : ℕ
  right : decomposition_right mark s ≡ true
  rest : RightRows most (decomposition_next s) (drop (decomposition_size s) s)

chain_first : {n k : ℕ} {s : List ℕ} → 0 < length s → RightRows n k s → First s
chain_first l (ended e) = absurd (omega arith)
chain_first l (linked {n} {k} p c) = record { most = n; mark = k; right = p; rest = c }

module _ {b : List ℕ} {at : ℕ} (l : at < length b) (s : Sorted b at) where
  first : First (drop at b)
  first = chain_first (omega (arith, length-drop at b)) s.rows

  pub sorted-right : (k : ℕ) × (decomposition_right k (drop at b) ≡ true)
  unfolding first
  sorted-right = (first.mark, first.right)

  rest-there : RightRows first.most (decomposition_next (drop at b)) (drop (at + decomposition_size (drop at b)) b)
  rest-there = subst (RightRows first.most (decomposition_next (drop at b)))
      (drop-drop (decomposition_size (drop at b)) at b) first.rest

  pub sorted-next : Sorted b (at + decomposition_size (drop at b))
  sorted-next = record { most = first.most; mark = decomposition_next (drop at b); rows = rest-there }

  -- every later character is higher
  pub sorted-later : All (λ y. decomposition_char (drop at b) < y.char)
      (rows decomposition_of decomposition_size (drop (at + decomposition_size (drop at b)) b))
  unfolding decomposition_of decomposition_next
  sorted-later = All-map (λ (y : Decomposition) q. omega arith) (rows decomposition_of decomposition_size (drop (at + decomposition_size (drop at b)) b))
      (chain_ordered decomposition_size decomposition_next decomposition_right decomposition_moves decomposition_of
      (λ k y. k ≤ y.char) (λ x y. x.char < y.char)
      (λ k s p. (decomposition_checked k s p).risen)
      (λ k s y p q. let l = (decomposition_checked k s p).risen in omega arith)
      (λ s y q. omega arith) rest-there).0

  -- the next row's among them
  pub sorted_risen : at + decomposition_size (drop at b) < length b
      → decomposition_char (drop at b) < decomposition_char (drop (at + decomposition_size (drop at b)) b)
  unfolding decomposition_of
  sorted_risen k =
      let next = drop (at + decomposition_size (drop at b)) b in
      (subst (All (λ y. decomposition_char (drop at b) < y.char))
      (rows_cons decomposition_of decomposition_size decomposition_moves next (omega (arith, length-drop (at + decomposition_size (drop at b)) b)))
      sorted-later).0

-- Rows that are all higher have none
row_none : (ds : List Decomposition) (c : ℕ) → All (λ y. c < y.char) ds → row_of ds c ≡ none
unfolding row_of pick
row_none [] c h = refl
row_none (d ∷ ds) c h = let l = h.0 in rw (ne_eqb d.char c (λ e. omega arith)) (row_none ds c h.1)

-- A turn of the walk
module _ (b : List ℕ) (c at : ℕ) where
  pub row_over : length b ≤ at → row_from b at c ≡ none
  unfolding row_from row_of
  row_over h = rw (rows_nil decomposition_of decomposition_size (drop at b) (omega (arith, length-drop at b)))

  module _ (h : at < length b) where
    here : rows decomposition_of decomposition_size (drop at b)
        ≡ decomposition_of (drop at b) ∷ rows decomposition_of decomposition_size (drop (at + decomposition_size (drop at b)) b)
    here =
        rows_cons decomposition_of decomposition_size decomposition_moves (drop at b) (omega (arith, length-drop at b))
        ∙ ap (λ s. decomposition_of (drop at b) ∷ rows decomposition_of decomposition_size s) (drop-drop (decomposition_size (drop at b)) at b)

    pub row_hit : decomposition_char (drop at b) ≡ c → row_from b at c ≡ some (decomposition_of (drop at b))
    unfolding row_from row_of pick decomposition_of
    row_hit e = rw (here, eq-eqb (decomposition_char (drop at b)) c e)

    pub row_miss : (decomposition_char (drop at b) ≡ c → ⊥) → row_from b (at + decomposition_size (drop at b)) c ≡ row_from b at c
    unfolding row_from row_of pick decomposition_of
    row_miss e = sym (rw (here, ne_eqb (decomposition_char (drop at b)) c e))

    pub row_above : Sorted b at → c < decomposition_char (drop at b) → row_from b at c ≡ none
    unfolding row_from decomposition_of
    row_above s l =
        let later = rows decomposition_of decomposition_size (drop (at + decomposition_size (drop at b)) b) in
        rw here (row_none (decomposition_of (drop at b) ∷ later) c (l, All-map (λ (y : Decomposition) q. omega arith) later (sorted-later h s)))

-- Where a walk has come to: the character's row is there or later, if it has one
pub record Begun (b : List ℕ) (c at : ℕ) : Type 0 where
  pub same : row_from b at c ≡ row_of (decompositions_of b) c
  pub sorted : Sorted b at
  pub above : 0 < at

pub begun_first : (b : List ℕ) (c : ℕ) → RightRows most_rows 0 (drop head_bytes b) → Begun b c head_bytes
begun_first b c r = record { same = row_start b c; sorted = record { most = most_rows; mark = 0; rows = r }; above = omega arith }

pub begun-next : (b : List ℕ) (c at z : ℕ) → at < length b → (decomposition_char (drop at b) ≡ c → ⊥) → z ≡ decomposition_size (drop at b)
    → Begun b c at → Begun b c (at + z)
begun-next b c at z l n e w = rw e (record {
  same = row_miss b c at l n ∙ w.same;
  sorted = sorted-next l w.sorted;
  above = let k = w.above in omega arith;
})

-- what is below the first row's character has no row
pub below_all : (b : List ℕ) (c : ℕ) → RightRows most_rows 0 (drop head_bytes b) → c < decomposition_char (drop head_bytes b)
    → row_of (decompositions_of b) c ≡ none
below_all b c r l = go (dec_lt head_bytes (length b))
  where
    w : Begun b c head_bytes
    w = begun_first b c r

    go : Dec (head_bytes < length b) → row_of (decompositions_of b) c ≡ none
    go (yes h) = sym w.same ∙ row_above b c head_bytes h w.sorted l
    go (no h) = sym w.same ∙ row_over b c head_bytes (omega arith)

-- is there an entry, and is its row's character not above `c`? Past the table's last row the index is 0
unfoldable pub entry_low : List ℕ → ℕ → ℕ → Bool
entry_low b c o = not (eqb o 0) && leb (decomposition_char (drop o b)) c

module _ (b : List ℕ) (c o : ℕ) where
  pub entry_none : o ≡ 0 → false ≡ entry_low b c o
  unfolding entry_low
  entry_none e = ap (λ t. not t && leb (decomposition_char (drop o b)) c) (sym (eq-eqb o 0 e))

  pub entry_some : (o ≡ 0 → ⊥) → (d : ℕ) → d ≡ decomposition_char (drop o b) → leb d c ≡ entry_low b c o
  unfolding entry_low
  entry_some n d e = rw e (ap (λ t. not t && leb (decomposition_char (drop o b)) c) (sym (ne_eqb o 0 n)))

module _ (b : List ℕ) (c : ℕ) where
  abbrev Low : ℕ → Type 0
  Low o = decomposition_char (drop o b) ≤ c

  -- a walk may begin at `o` and leave out what lies between `at` and it
  record Skips (at o : ℕ) : Type 0 where
    low : Low at
    same : row_from b o c ≡ row_from b at c
    sorted : Sorted b o

  -- characters rise, so the row before one that is not above is below
  skip : (at : ℕ) → Sorted b at
      → (at < length b → Sorted b (at + decomposition_size (drop at b))
      → All (λ o. Low o → Skips (at + decomposition_size (drop at b)) o) (offsets_from b (at + decomposition_size (drop at b))))
      → All (λ o. Low o → Skips at o) (offsets_from b at)
  skip at s later = go (dec_lt at (length b))
    where
      next : ℕ
      next = at + decomposition_size (drop at b)

      rest : at < length b → Dec (next < length b) → All (λ o. Low o → Skips at o) (offsets_from b next)
      rest l (no m) = rw (offsets-over b next (omega arith)) tt
      rest l (yes k) = All-map (λ o f e.
          let r = f e in
          let i = sorted_risen l s k in
          let j = r.low in
          record { low = omega arith; same = r.same ∙ row_miss b c at l (λ z. omega arith); sorted = r.sorted })
          (offsets_from b next) (later l (sorted-next l s))

      go : Dec (at < length b) → All (λ o. Low o → Skips at o) (offsets_from b at)
      go (no m) = rw (offsets-over b at (omega arith)) tt
      go (yes l) = rw (offsets-next b at l) (λ e. record { low = e; same = refl; sorted = s }, rest l (dec_lt next (length b)))

  skips : (f at : ℕ) → length b ≤ at + f → Sorted b at → All (λ o. Low o → Skips at o) (offsets_from b at)
  skips zero at h s = skip at s (λ l q. absurd (omega arith))
  skips (suc f) at h s = skip at s (λ l q. let m = decomposition_moves (drop at b) in skips f (at + decomposition_size (drop at b)) (omega arith) q)

  -- so it may begin at every entry that is there and whose row is not above
  abbrev Begins : ℕ → Type 0
  Begins o = entry_low b c o ≡ true → Begun b c o

  begins_not : Begins 0
  unfolding entry_low
  begins_not e = absurd (true≢false (sym e))

  begins_row : (o : ℕ) → (Low o → Skips head_bytes o) → Begins o
  unfolding entry_low
  begins_row o f e =
      let n = eqb-false o 0 (not-true (eqb o 0) (and_left _ _ e)) in
      let s = f (leb-true (decomposition_char (drop o b)) c (and_right (not (eqb o 0)) _ e)) in
      record { same = s.same ∙ row_start b c; sorted = s.sorted; above = positive o n }
    where
      positive : (o : ℕ) → (o ≡ 0 → ⊥) → 0 < o
      positive zero n = absurd (n refl)
      positive (suc o) n = omega arith

  begins-all : RightRows most_rows 0 (drop head_bytes b) → All Begins (index_of b)
  unfolding index_of row_offsets
  begins-all r = indexed-all Begins 0 (offsets_from b head_bytes) (replicate index_entries 0)
      (All-map begins_row (offsets_from b head_bytes) (skips (length b) head_bytes (omega arith) (begun_first b c r).sorted))
      (replicate-all Begins index_entries 0 begins_not)

  -- it is the last of the first `n` entries
  pub entry_begins : {x : List ℕ} → Ready b x → (k : ℕ) → entry_low b c (get_or x k 0) ≡ true → (n : ℕ) → n ≡ k + 1
      → Begun b c (get_or x (n - 1) 0)
  entry_begins {x} r k e n h =
      let q : n - 1 ≡ k = omega arith in
      rw q (All_getD Begins x k 0 (subst (All Begins) (sym r.is) (begins-all r.rows)) begins_not e)

-- the least character that a walk from an offset on can find: from the first row on any, else that of the row there
unfoldable pub low_of : List ℕ → ℕ → ℕ
low_of b at = pick (eqb at head_bytes) 0 (decomposition_char (drop at b))

pub low_first : (b : List ℕ) (at : ℕ) → eqb at head_bytes ≡ true → low_of b at ≡ 0
unfolding low_of pick
low_first b at e = rw e refl

pub low-own : (b : List ℕ) (at : ℕ) → eqb at head_bytes ≡ false → low_of b at ≡ decomposition_char (drop at b)
unfolding low_of pick
low-own b at e = rw e refl

-- it is not above that of the row there
pub low_below : (b : List ℕ) (at : ℕ) → low_of b at ≤ decomposition_char (drop at b)
low_below b at = go (eqb at head_bytes) refl
  where
    go : (f : Bool) → eqb at head_bytes ≡ f → low_of b at ≤ decomposition_char (drop at b)
    go true e = let z = low_first b at e in omega (arith, z)
    go false e = let z = low-own b at e in omega (arith, z)

-- A walk to a character may begin there, and one to any other that is not below
pub record Walks (b : List ℕ) (c at : ℕ) : Type 0 where
  pub low : low_of b at ≤ c
  pub begun : (x : ℕ) → low_of b at ≤ x → Begun b x at

pub walks_first : (b : List ℕ) (c : ℕ) → RightRows most_rows 0 (drop head_bytes b) → Walks b c head_bytes
unfolding low_of pick
walks_first b c r = record { low = omega arith; begun = λ x l. begun_first b x r }

pub entry_walks : (b : List ℕ) (c : ℕ) {x : List ℕ} → Ready b x → (k : ℕ) → entry_low b c (get_or x k 0) ≡ true → (n : ℕ) → n ≡ k + 1
    → Walks b c (get_or x (n - 1) 0)
unfolding entry_low
entry_walks b c {x} r k e n h =
    let q : n - 1 ≡ k = omega arith in
    rw q (walks (eqb (get_or x k 0) head_bytes) refl)
  where
    o : ℕ
    o = get_or x k 0

    there : not (eqb o 0) ≡ true
    there = and_left (not (eqb o 0)) (leb (decomposition_char (drop o b)) c) e

    near : decomposition_char (drop o b) ≤ c
    near = leb-true (decomposition_char (drop o b)) c (and_right (not (eqb o 0)) (leb (decomposition_char (drop o b)) c) e)

    from : (y : ℕ) → decomposition_char (drop o b) ≤ y → Begun b y o
    from y l =
        subst (Begun b y) (ap (λ (i : ℕ). get_or x i 0) {x = suc k - 1} {y = k} (omega arith))
        (entry_begins b y r k (ap (λ (t : Bool). t && leb (decomposition_char (drop o b)) y) there ∙ le-leb (decomposition_char (drop o b)) y l) (suc k) (omega arith))

    walks : (f : Bool) → eqb o head_bytes ≡ f → Walks b c o
    walks true f = record {
      low = let z = low_first b o f in omega (arith, z);
      begun = λ y l. subst (Begun b y) (sym (eqb-true o head_bytes f)) (begun_first b y r.rows);
    }
    walks false f = let z = low-own b o f in record { low = omega (arith, z, near); begun = λ y l. from y (omega (arith, z, l)) }
