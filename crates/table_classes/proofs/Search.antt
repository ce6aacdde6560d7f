-- The class rows by their index, and what one row tells of a character: rows rise, so a comparison settles a side.
use Prim.Native.Nat.{ℕ, zero, suc, ◌+◌, ◌-◌, ◌*◌, ◌/◌, ◌≤◌, ◌<◌}
use mathlib.Core.Bool.{Bool, true, false}
use mathlib.Core.List.{List, [], ◌∷◌}
use mathlib.Core.Option.{Option, none, some}
use mathlib.Core.Path.{◌≡◌, refl, sym, ap, ◌∙◌}
use native.Mathlib.Omega.{arith}
use native.Mathlib.Numerals.{add-one}
use lib.ListN.{length, get_or, drop, length-drop, drop_of_length-le}
use lib.Seq.{drop-drop}
use borrow.Author.Tests.{eq-eqb, ne_eqb}
use Rattle.base.specs.Pick.{pick}
use Rattle.base.specs.Bools.{and_left}
use Rattle.base.specs.ListLaws.{holds-length}
use Rattle.base.specs.Alls.{All, Ordered, All-at}
use Rattle.base.specs.Rows.{Each, no_row, row_then, each_map, rows, rows_nil, rows_cons}
use Rattle.definition.specs.Tables.{Class}
use Rattle.definition.specs.Blocks.{head_bytes, version_1, headed, fault}
use Rattle.definition.specs.ClassRows.{class_char, class_category, class_script, class_flags, class_size, class_next, class_right, class_by, class_of, class_fault, classes_of}
use Rattle.definition.specs.Classes.{plain, class}
use Rattle.definition.specs.BlockTurns.{chain-each}
use Rattle.definition.specs.Checked.{class-checked}
use Rattle.definition.specs.Accepted.{class_moves, classes-chain}
use Rattle.definition.proofs.Risen.{classes-rise}
use Rattle.table_classes.specs.Told.{Fine}

-- A list of classes
miss : (k : Class) (ks : List Class) (c : ℕ) → (k.char ≡ c → ⊥) → class (k ∷ ks) c ≡ class ks c
unfolding class
miss k ks c h = ap (λ (b : Bool). elim b as (λ _. Class) [ true ↦ k | false ↦ class ks c ]) (ne_eqb k.char c h)

meet : (k : Class) (ks : List Class) (c : ℕ) → k.char ≡ c → class (k ∷ ks) c ≡ k
unfolding class
meet k ks c h = ap (λ (b : Bool). elim b as (λ _. Class) [ true ↦ k | false ↦ class ks c ]) (eq-eqb k.char c h)

absent : (ks : List Class) (c : ℕ) → All (λ k. c < k.char) ks → class ks c ≡ plain c
unfolding class
absent [] c a = refl
absent (k ∷ ks) c a = let z = a.0 in miss k ks c (λ e. omega arith) ∙ absent ks c a.1

all_above : (ks : List Class) (n c : ℕ) → c < n → All (λ k. n < k.char) ks → All (λ k. c < k.char) ks
all_above [] n c h a = tt
all_above (k ∷ ks) n c h a = let z = a.0 in (omega arith, all_above ks n c h a.1)

-- the row `i` is the character's; stands before it; stands after it
found : (ks : List Class) (i c : ℕ) (d : Class) → Ordered (λ x y. x.char < y.char) ks → i < length ks
    → (get_or ks i d).char ≡ c → get_or ks i d ≡ class ks c
found [] i c d o h e = absurd (omega arith)
found (k ∷ ks) zero c d o h e = sym (meet k ks c e)
found (k ∷ ks) (suc i) c d o h e =
    let w : k.char < (get_or ks i d).char = All-at (λ y. k.char < y.char) ks i d o.0 (omega arith) in
    found ks i c d o.1 (omega arith) e ∙ sym (miss k ks c (λ z. omega arith))

before : (ks : List Class) (i c : ℕ) (d : Class) → Ordered (λ x y. x.char < y.char) ks → i < length ks
    → (get_or ks i d).char < c → class (drop (suc i) ks) c ≡ class ks c
before [] i c d o h e = absurd (omega arith)
before (k ∷ ks) zero c d o h e = sym (miss k ks c (λ z. omega arith))
before (k ∷ ks) (suc i) c d o h e =
    let w : k.char < (get_or ks i d).char = All-at (λ y. k.char < y.char) ks i d o.0 (omega arith) in
    before ks i c d o.1 (omega arith) e ∙ sym (miss k ks c (λ z. omega arith))

after : (ks : List Class) (i c : ℕ) (d : Class) → Ordered (λ x y. x.char < y.char) ks → i < length ks
    → c < (get_or ks i d).char → class (drop i ks) c ≡ plain c
after [] i c d o h e = absurd (omega arith)
after (k ∷ ks) zero c d o h e = absent (k ∷ ks) c (e, all_above ks k.char c e o.0)
after (k ∷ ks) (suc i) c d o h e = after ks i c d o.1 (omega arith) e

-- Rows of 6 bytes by their index
pub record Kept (s : List ℕ) : Type 0 where
  pub inside : 6 ≤ length s
  pub category : class_category s ≤ 7
  pub script : class_script s ≤ 127

count : {s : List ℕ} → Each Kept class_size s → length s ≡ length (rows class_of class_size s) * 6
unfolding class_size
count (no_row {s} e) = rw (rows_nil class_of class_size s e) e
count (row_then {s} p r) =
    let w = count r in
    let l = length-drop 6 s in
    let q = p.inside in
    rw (rows_cons class_of class_size class_moves s (omega arith)) (omega arith)

row_at : {s : List ℕ} (i : ℕ) (d : Class) → Each Kept class_size s → i < length (rows class_of class_size s)
    → (get_or (rows class_of class_size s) i d ≡ class_of (drop (i * 6) s)) × Kept (drop (i * 6) s)
unfolding class_size
row_at i d (no_row {s} e) h = absurd (let w = ap length (rows_nil class_of class_size s e) in omega arith)
row_at zero d (row_then {s} p r) h =
    let q = p.inside in
    (rw (rows_cons class_of class_size class_moves s (omega arith)), p)
row_at (suc i) d (row_then {s} p r) h =
    let q = p.inside in
    let f = rows_cons class_of class_size class_moves s (omega arith) in
    let g = row_at i d r (let w = ap length f in omega arith) in
    let e : suc i * 6 ≡ 6 + i * 6 = omega arith in
    (rw (f, e) (g.0 ∙ ap class_of (drop-drop (i * 6) 6 s)), rw e (rw drop-drop at g.1))

-- What a search has settled: no row below `low` is the character's, and none from `high` on
pub record Between (b : List ℕ) (c low high : ℕ) : Type 0 where
  pub order : low ≤ high
  pub within : high ≤ length (classes_of b)
  pub below : class (drop low (classes_of b)) c ≡ class (classes_of b) c
  pub above : class (drop high (classes_of b)) c ≡ plain c

module _ (b : List ℕ) (fine : Fine b) where
  kept : Each Kept class_size (drop 5 b)
  kept = each_map (λ s q. let w = class-checked q.0 s q.1 in
      record { inside = w.inside; category = w.category; script = w.script })
      (chain-each class_size class_next class_right (classes-chain b fine))

  pub rows-count : length b - 5 ≡ length (classes_of b) * 6
  unfolding classes_of
  rows-count = sym (length-drop 5 b) ∙ count kept

  module _ (i row c : ℕ) (h : i < length (classes_of b)) (at : row ≡ 5 + i * 6) where
    row_is : (get_or (classes_of b) i (plain 0) ≡ class_of (drop row b)) × Kept (drop row b)
    unfolding classes_of
    row_is = rw at (rw drop-drop at (row_at {s = drop 5 b} i (plain 0) kept h))

    char_is : (get_or (classes_of b) i (plain 0)).char ≡ class_char (drop row b)
    char_is = ap (λ (k : Class). k.char) row_is.0 ∙ (unfold class_of class_by in refl)

    pub row_kept : Kept (drop row b)
    row_kept = row_is.1

    pub row_found : class_char (drop row b) ≡ c → (k n f : ℕ)
        → k ≡ class_category (drop row b) → n ≡ class_script (drop row b) → f ≡ class_flags (drop row b)
        → class_by c k n f ≡ class (classes_of b) c
    unfolding class_of
    row_found e k n f p q r =
        ap (λ (x : ℕ). class_by x k n f) (sym e) ∙ rw (p, q, r) (sym row_is.0)
        ∙ found (classes_of b) i c (plain 0) (classes-rise b fine) h (char_is ∙ e)

    pub row_before : class_char (drop row b) < c → class (drop (i + 1) (classes_of b)) c ≡ class (classes_of b) c
    row_before e =
        let w = char_is in
        rw add-one (before (classes_of b) i c (plain 0) (classes-rise b fine) h (omega arith))

    pub row_after : c < class_char (drop row b) → class (drop i (classes_of b)) c ≡ plain c
    row_after e = let w = char_is in after (classes_of b) i c (plain 0) (classes-rise b fine) h (omega arith)

-- a table that was checked has a header
headed_if : (h : Bool) (o : Option ℕ) → pick h o (some 0) ≡ none → h ≡ true
unfolding pick
headed_if true o e = refl
headed_if false o e = absurd (let w : ◌≡◌ {A = ℕ} 0 1 = cc in omega arith)

pub head-there : (b : List ℕ) → Fine b → 5 ≤ length b
unfolding class_fault fault headed
head-there b e = holds-length head_bytes b (and_left _ _ (and_left _ _ (headed_if (headed version_1 b) _ e)))

-- the search begins with all rows, and ends with none
pub all-rows : (b : List ℕ) → Fine b → (c : ℕ) → Between b c 0 ((length b - 5) / 6)
unfolding class
all-rows b fine c =
    let n = rows-count b fine in
    let e : (length b - 5) / 6 ≡ length (classes_of b) = omega arith in
    record {
      order = omega arith;
      within = omega arith;
      below = refl;
      above = ap (λ (l : List Class). class l c)
          (drop_of_length-le (classes_of b) {i = (length b - 5) / 6} (omega arith));
    }

pub no_row_left : (b : List ℕ) (c low high : ℕ) → Between b c low high → high ≤ low → plain c ≡ class (classes_of b) c
no_row_left b c low high w h =
    let o = w.order in
    let e : low ≡ high = omega arith in
    sym w.above ∙ ap (λ (n : ℕ). class (drop n (classes_of b)) c) (sym e) ∙ w.below
