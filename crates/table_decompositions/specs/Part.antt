-- The part of a table up to its first row that is not right by itself: the rows before that are right there too, since a row is read from its own bytes alone.
use Rattle.std.specs.Prelude.{Bool, true, false, ◌&&◌, ◌≡◌, List, [], ◌∷◌, ℕ, zero, suc, ◌+◌, ◌-◌, ◌*◌, ◌≤◌, ◌<◌, eqb, ltb, length, take, drop}
use Rattle.std.proofs.Math.Bool.{not}
use Rattle.std.proofs.Math.Path.{refl, sym, ap}
use Rattle.std.proofs.Common.{◌∙◌, arith, length-drop, ltb-true}
use Rattle.std.proofs.Math.Option.{Option, none, some}
use Rattle.std.proofs.Math.Dec.{leb}
use Rattle.std.proofs.Math.Seq.{get_or-take}
use Rattle.base.specs.Pick.{pick}
use Rattle.base.specs.Bools.{and_left, and_right}
use Rattle.base.specs.Big.{be3}
use Rattle.base.specs.Lists.{all, holds, empty, maybe}
use Rattle.base.specs.ListLaws.{holds-length, none_left, some_left, drop-take}
use Rattle.definition.specs.Limits.{most_rows, most_into}
use Rattle.definition.specs.Texts.{the_space, left_out}
use Rattle.definition.specs.Utf8.{scalar}
use Rattle.definition.specs.Tables.{tag_other}
use Rattle.definition.specs.Blocks.{Walk, head_bytes, version_1, headed, past, begin, fault_from, fault, offset_where}
use Rattle.definition.specs.BlockTurns.{ended, linked, fine, fault-over, fault-next, fault-here, none_found, one_found}
use Rattle.definition.specs.DecompositionRows.{decomposition_char, decomposition_tag, decomposition_count, decomposition_size, threes}
use Rattle.definition.specs.DecompositionRows.{decomposition_into, decomposition_next, decomposition_fits, into_right, decomposition_right, own_fault, right_part}
use Rattle.definition.specs.DecompositionLaws.{decomposition_moves, decomposition_checked, RightRows, own-rows, part-whole}

-- A row is read from its own bytes alone
be3-take : (n i : ℕ) (s : List ℕ) → i + 2 < n → be3 (take n s) i ≡ be3 s i
be3-take n i s h =
    rw (get_or-take n s i 0 (omega arith), get_or-take n s (i + 1) 0 (omega arith), get_or-take n s (i + 2) 0 (omega arith))

holds-take : (k n : ℕ) (s : List ℕ) → k ≤ n → holds k (take n s) ≡ holds k s
unfolding holds
holds-take zero n s h = refl
holds-take (suc k) zero s h = absurd (omega arith)
holds-take (suc k) (suc n) [] h = refl
holds-take (suc k) (suc n) (x ∷ s) h = holds-take k n s (omega arith)

past-take : (k n : ℕ) (s : List ℕ) → k ≤ n → drop k (take n s) ≡ take (n - k) (drop k s)
past-take k n s h =
    let e : n ≡ k + (n - k) = omega arith in
    ap (λ (m : ℕ). drop k (take m s)) e ∙ drop-take k (n - k) s

threes-take : (k n : ℕ) (s : List ℕ) → 3 * k ≤ n → threes k (take n s) ≡ threes k s
unfolding threes
threes-take zero n s h = refl
threes-take (suc k) n s h =
    ap (λ (c : ℕ). c ∷ threes k (drop 3 (take n s))) (be3-take n 0 s (omega arith))
    ∙ ap (λ (l : List ℕ). be3 s 0 ∷ l) (ap (threes k) (past-take 3 n s (omega arith)) ∙ threes-take k (n - 3) (drop 3 s) (omega arith))

module _ (s : List ℕ) (n : ℕ) (h : decomposition_size s ≤ n) where
  count-take : decomposition_count (take n s) ≡ decomposition_count s
  unfolding decomposition_size
  count-take = get_or-take n s 4 0 (omega arith)

  char-take : decomposition_char (take n s) ≡ decomposition_char s
  unfolding decomposition_size
  char-take = be3-take n 0 s (omega arith)

  tag-take : decomposition_tag (take n s) ≡ decomposition_tag s
  unfolding decomposition_size
  tag-take = get_or-take n s 3 0 (omega arith)

  size-take : decomposition_size (take n s) ≡ decomposition_size s
  unfolding decomposition_size
  size-take = ap (λ (k : ℕ). 5 + 3 * k) count-take

  next-take : decomposition_next (take n s) ≡ decomposition_next s
  unfolding decomposition_next
  next-take = ap (λ (k : ℕ). k + 1) char-take

  into-take : decomposition_into (take n s) ≡ decomposition_into s
  unfolding decomposition_into decomposition_size
  into-take =
      ap (λ (k : ℕ). threes k (drop 5 (take n s))) count-take
      ∙ ap (threes (decomposition_count s)) (past-take 5 n s (omega arith))
      ∙ threes-take (decomposition_count s) (n - 5) (drop 5 s) (omega arith)

  fits-parts : (low z c t : ℕ) (u : List ℕ) → z ≡ decomposition_size u → c ≡ decomposition_char u → t ≡ decomposition_tag u
      → decomposition_fits low u ≡ (holds z u && scalar c && leb low c && not (eqb c the_space) && leb t tag_other)
  unfolding decomposition_fits
  fits-parts low z c t u p q r = rw (p, q, r)

  into-parts : (k : ℕ) (l u : List ℕ) → k ≡ decomposition_count u → l ≡ decomposition_into u
      → into_right u ≡ (leb 1 k && leb k most_into && all (λ c. scalar c && not (left_out c)) l)
  unfolding into_right
  into-parts k l u p q = rw (p, q)

  pub right-take : (low : ℕ) → decomposition_right low (take n s) ≡ decomposition_right low s
  unfolding decomposition_right
  right-take low =
      let z = decomposition_size s in
      let c = decomposition_char s in
      let t = decomposition_tag s in
      let f = fits-parts low z c t (take n s) (sym size-take) (sym char-take) (sym tag-take)
      ∙ ap (λ (b : Bool). b && scalar c && leb low c && not (eqb c the_space) && leb t tag_other) (holds-take z n s h)
      ∙ sym (fits-parts low z c t s refl refl refl) in
      let i = into-parts (decomposition_count s) (decomposition_into s) (take n s) (sym count-take) (sym into-take)
      ∙ sym (into-parts (decomposition_count s) (decomposition_into s) s refl refl) in
      ap (λ (b : Bool). b && into_right (take n s)) f ∙ ap (λ (b : Bool). decomposition_fits low s && b) i

-- The walk over rows up to the first that is wrong
abbrev right_from : Walk ℕ → Option ℕ
right_from = fault_from decomposition_size decomposition_next (offset_where decomposition_right)

-- the rows before that one are right
record Before (x : Walk ℕ) (o : ℕ) : Type 0 where
  above : x.at ≤ o
  within : o ≤ x.at + length x.rest
  rows : RightRows x.left x.mark (take (o - x.at) x.rest)

one_more : (left low n : ℕ) (s : List ℕ) → 0 < left → decomposition_right low s ≡ true → decomposition_size s ≤ n
    → RightRows (left - 1) (decomposition_next s) (take (n - decomposition_size s) (drop (decomposition_size s) s)) → RightRows left low (take n s)
one_more zero low n s l e h c = absurd (omega arith)
one_more (suc m) low n s l e h c =
    let k : suc m - 1 ≡ m = omega arith in
    linked {n = m} (right-take s n h low ∙ e)
    (rw (next-take s n h, size-take s n h, past-take (decomposition_size s) n s h) (rw k at c))

before : (f : ℕ) (x : Walk ℕ) → length x.rest ≤ f → (o : ℕ) → right_from x ≡ some o → Before x o
unfolding past
before zero x l o e =
    let z = fault-over decomposition_size decomposition_next (offset_where decomposition_right) decomposition_moves x (omega arith) in
    absurd (let w : ◌≡◌ {A = ℕ} 0 1 = cc in omega arith)
before (suc f) x l o e = go (empty x.rest) (fine decomposition_right x) refl refl (before f (past decomposition_size decomposition_next x))
  where
    z : ℕ
    z = decomposition_size x.rest

    go : (b c : Bool) → empty x.rest ≡ b → fine decomposition_right x ≡ c
        → (length (drop z x.rest) ≤ f → (o : ℕ) → right_from (past decomposition_size decomposition_next x) ≡ some o
        → Before (past decomposition_size decomposition_next x) o) → Before x o
    go true c p q ih =
        let w = fault-over decomposition_size decomposition_next (offset_where decomposition_right) decomposition_moves x (none_left x.rest p) in
        absurd (let y : ◌≡◌ {A = ℕ} 0 1 = cc in omega arith)
    go false false p q ih =
        let w = sym (fault-here decomposition_size decomposition_next (offset_where decomposition_right) decomposition_moves x (some_left x.rest p) x.at
        (one_found decomposition_right x q)) ∙ e in
        let i : o ≡ x.at = cc in
        let j : o - x.at ≡ 0 = omega arith in
        record { above = omega arith; within = omega arith; rows = rw j (ended refl) }
    go false true p q ih =
        let h = some_left x.rest p in
        let m = decomposition_moves x.rest in
        let d = length-drop z x.rest in
        let r = and_right (ltb 0 x.left) _ q in
        let y = ih (omega arith) o
        (sym (fault-next decomposition_size decomposition_next (offset_where decomposition_right) decomposition_moves x h (none_found decomposition_right x q)) ∙ e) in
        let k = (decomposition_checked x.mark x.rest r).inside in
        let a = y.above in
        let w = y.within in
        let j : o - (x.at + z) ≡ o - x.at - z = omega arith in
        record {
          above = omega arith;
          within = omega arith;
          rows = one_more x.left x.mark (o - x.at) x.rest (ltb-true 0 x.left (and_left _ _ q)) r (omega arith) (rw j at y.rows);
        }

-- The part of a table up to its first row that is not right by itself
pub record OwnPart (b : List ℕ) (o : ℕ) : Type 0 where
  pub within : o ≤ length b
  pub rows : RightRows most_rows 0 (drop head_bytes (take o b))

head-there : (b : List ℕ) → headed version_1 b ≡ true → head_bytes ≤ length b
unfolding headed
head-there b h = holds-length head_bytes b (and_left _ _ (and_left _ _ h))

pub own-part : (b : List ℕ) (o : ℕ) → own_fault b ≡ some o → OwnPart b o
unfolding own_fault fault pick
own-part b o e = go (headed version_1 b) refl e
  where
    x : Walk ℕ
    x = begin decomposition_size decomposition_next most_rows 0 b

    go : (h : Bool) → headed version_1 b ≡ h → pick h (right_from x) (some 0) ≡ some o → OwnPart b o
    go false p q =
        let i : o ≡ 0 = cc in
        rw i (record { within = omega arith; rows = ended refl })
    go true p q =
        let y = before (length (drop 5 b)) x (omega arith) o q in
        let a = y.above in
        let w = y.within in
        let d = length-drop 5 b in
        let l = head-there b p in
        record { within = omega arith; rows = rw (past-take 5 o b a) y.rows }

module _ (b : List ℕ) where
  pub part_up_to : (o : ℕ) → own_fault b ≡ some o → right_part b ≡ take o b
  unfolding right_part maybe
  part_up_to o e = rw e

  pub part-rows : RightRows most_rows 0 (drop head_bytes (right_part b))
  part-rows = go (own_fault b) refl
    where
      go : (o : Option ℕ) → own_fault b ≡ o → RightRows most_rows 0 (drop head_bytes (right_part b))
      go none e = rw (part-whole b e) (own-rows b e)
      go (some o) e = rw (part_up_to o e) (own-part b o e).rows
