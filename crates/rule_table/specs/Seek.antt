-- Looking for a text in sorted rows: the first row that is not below it, and how many equal it from there on.
use Rattle.std.specs.Prelude.{Bool, ◌≡◌, List, [], ◌∷◌, ◌++◌, take, drop}
use Rattle.std.proofs.Math.Bool.{true, false}
use Rattle.std.proofs.Common.{true≢false, ◌∙◌, arith, drop_of_length-le}
use Rattle.std.proofs.Math.Path.{refl, sym, ap, subst}
use Rattle.std.proofs.Math.Option.{none}
use Prim.Native.Nat.{ℕ, zero, suc, ◌+◌, ◌≤◌, ◌<◌}
use Rattle.std.proofs.Math.Decide.{dec_lt}
use Rattle.std.proofs.Math.Numerals.{add-one}
use Rattle.std.proofs.Math.ListN.{length}
use Rattle.base.specs.Pick.{pick}
use Rattle.base.specs.Lists.{starts}
use Rattle.base.specs.ListLaws.{same_true}
use Rattle.definition.specs.Texts.{Text}
use Rattle.definition.specs.Blocks.{head_bytes}
use Rattle.definition.specs.BlockTurns.{Chain}
use Rattle.definition.specs.RuleRows.{rises, rule_size, rule_source, rule_right, rule_of, rules_of}
use Rattle.definition.specs.RuleFaults.{rule_fault}
use Rattle.definition.specs.RuleTurns.{rule_moves}
use Rattle.rule_table.specs.Order.{compared, equal_same, risen_not_below, equal_starts}
use Rattle.rule_table.specs.Sorted.{rules_from, Sorted, sorted-next, sorted_risen, rules-over, rules-next}
use Rattle.rule_table.specs.Doors.{with_source, is_start, Sought, sought_start, sought_next, sought_source, sought_start_of, none_over, no_start-over, none_above, start_equal, start_above, one_equal}
use Rattle.rule_table.specs.Index.{offsets_from, row_offsets, offsets-over, offsets-next}
use Rattle.std.specs.Ordering.{is_lt, is_eq}
use Rattle.std.specs.declared.cmp.Ordering.{Ordering}
use Rattle.std.specs.declared.cmp.Ordering.TheVariants.{Less, Equal, Greater}

unfoldable pub is_below : Ordering → Bool
is_below Less = true
is_below Equal = false
is_below Greater = false

unfoldable pub is_equal : Ordering → Bool
is_equal Less = false
is_equal Equal = true
is_equal Greater = false

-- as the library asks it
pub lt_is : (o : Ordering) → is_lt o ≡ is_below o
unfolding is_below
lt_is Less = refl
lt_is Equal = refl
lt_is Greater = refl

pub eq_is : (o : Ordering) → is_eq o ≡ is_equal o
unfolding is_equal
eq_is Less = refl
eq_is Equal = refl
eq_is Greater = refl

-- how the row at an offset stands to a text
unfoldable pub order_at : List ℕ → Text → ℕ → Ordering
order_at b w at = compared (rule_source (drop at b)) w

-- the offset of the first row of these that is not below, or the end of the table
unfoldable pub seek : List ℕ → Text → List ℕ → ℕ
seek b w [] = length b
seek b w (o ∷ os) = pick (is_below (order_at b w o)) (seek b w os) o

-- how many of these are equal, one after another
unfoldable pub run : List ℕ → Text → List ℕ → ℕ
run b w [] = 0
run b w (o ∷ os) = pick (is_equal (order_at b w o)) (run b w os + 1) 0

-- of a whole table
unfoldable pub first_at : List ℕ → Text → ℕ
first_at b w = seek b w (row_offsets b)

unfoldable pub equal_rows : List ℕ → Text → ℕ
equal_rows b w = run b w (offsets_from b (first_at b w))

-- A turn of each walk
module _ (b : List ℕ) (w : Text) (at : ℕ) where
  pub seek-over : length b ≤ at → length b ≡ seek b w (offsets_from b at)
  unfolding seek
  seek-over h = sym (rw (offsets-over b at h))

  pub run-over : length b ≤ at → run b w (offsets_from b at) ≡ 0
  unfolding run
  run-over h = rw (offsets-over b at h)

  module _ (h : at < length b) where
    pub seek-past : is_below (order_at b w at) ≡ true → seek b w (offsets_from b (at + rule_size (drop at b))) ≡ seek b w (offsets_from b at)
    unfolding seek pick
    seek-past e = sym (rw (offsets-next b at h, e))

    pub seek-here : is_below (order_at b w at) ≡ false → at ≡ seek b w (offsets_from b at)
    unfolding seek pick
    seek-here e = sym (rw (offsets-next b at h, e))

    pub run_on : is_equal (order_at b w at) ≡ true → run b w (offsets_from b at) ≡ run b w (offsets_from b (at + rule_size (drop at b))) + 1
    unfolding run pick
    run_on e = rw (offsets-next b at h, e)

    pub run_ends : is_equal (order_at b w at) ≡ false → run b w (offsets_from b at) ≡ 0
    unfolding run pick
    run_ends e = rw (offsets-next b at h, e)

-- The three ways a row can stand
pub below_is : (o : Ordering) → is_below o ≡ true → o ≡ Less
unfolding is_below
below_is Less e = refl
below_is Equal e = absurd (true≢false (sym e))
below_is Greater e = absurd (true≢false (sym e))

pub equal_is : (o : Ordering) → is_equal o ≡ true → o ≡ Equal
unfolding is_equal
equal_is Less e = absurd (true≢false (sym e))
equal_is Equal e = refl
equal_is Greater e = absurd (true≢false (sym e))

pub above_is : (o : Ordering) → is_below o ≡ false → is_equal o ≡ false → o ≡ Greater
unfolding is_below is_equal
above_is Less e f = absurd (true≢false e)
above_is Equal e f = absurd (true≢false f)
above_is Greater e f = refl

-- a search may stop at the end of the table, even where a row's size reaches past it
sorted-over : (b : List ℕ) (at : ℕ) → length b ≤ at → Sorted b at → Sorted b (length b)
sorted-over b at l s = record {
  most = s.most;
  mark = s.mark;
  rows = subst (λ r. Chain rule_size rule_source rule_right s.most s.mark r)
      (drop_of_length-le b {i = at} l ∙ sym (drop_of_length-le b {i = length b} (omega arith))) s.rows;
}

sought_over : (b w : List ℕ) (at : ℕ) → length b ≤ at → Sought b w at → Sought b w (length b)
sought_over b w at l s = record {
  sorted = sorted-over b at l s.sorted;
  skipped = s.skipped;
  is = s.is ∙ ap (λ r. s.skipped ++ r) (rules-over b at l ∙ sym (rules-over b (length b) (omega arith)));
  lower = s.lower;
}

-- Where a search stops: what it passed is below, and what it stands at is not
pub record Stopped (b w : List ℕ) (at : ℕ) : Type 0 where
  pub sought : Sought b w at
  pub not_below : at < length b → is_below (order_at b w at) ≡ false

module _ (b w : List ℕ) where
  step : (at : ℕ) → Sought b w at
      → (at < length b → Sought b w (at + rule_size (drop at b)) → Stopped b w (seek b w (offsets_from b (at + rule_size (drop at b)))))
      → Stopped b w (seek b w (offsets_from b at))
  unfolding order_at
  step at s later = go (dec_lt at (length b)) (is_below (order_at b w at)) refl
    where
      go : Dec (at < length b) → (c : Bool) → is_below (order_at b w at) ≡ c → Stopped b w (seek b w (offsets_from b at))
      go (no n) c e = subst (Stopped b w) (seek-over b w at (omega arith))
          (record { sought = sought_over b w at (omega arith) s; not_below = λ l. absurd (omega arith) })
      go (yes l) false e = subst (Stopped b w) (seek-here b w at l e) (record { sought = s; not_below = λ l. e })
      go (yes l) true e = subst (Stopped b w) (seek-past b w at l e) (later l (sought_next b w at l (below_is (order_at b w at) e) s))

  stops : (f at : ℕ) → length b ≤ at + f → Sought b w at → Stopped b w (seek b w (offsets_from b at))
  stops zero at h s = step at s (λ l q. absurd (omega arith))
  stops (suc f) at h s = step at s (λ l q. let m = rule_moves (drop at b) in stops f (at + rule_size (drop at b)) (omega arith) q)

  pub first_stops : rule_fault b ≡ none → Stopped b w (first_at b w)
  unfolding first_at row_offsets
  first_stops e = stops (length b) head_bytes (omega arith) (sought_start b w e)

-- What the row where a search stopped says of the whole table
module _ (b w : List ℕ) (e : rule_fault b ≡ none) (at : ℕ) (h : at ≡ first_at b w) where
  q : Stopped b w at
  q = subst (Stopped b w) (sym h) (first_stops b w e)

  -- whether the text starts a source
  pub start-over : length b ≤ at → false ≡ is_start w (rules_of b)
  start-over l = sym (sought_start_of b w at q.sought ∙ no_start-over b w at l)

  pub start-there : at < length b → starts w (rule_source (drop at b)) ≡ is_start w (rules_of b)
  unfolding order_at
  start-there l = sym (sought_start_of b w at q.sought ∙ go (is_equal (order_at b w at)) refl)
    where
      go : (c : Bool) → is_equal (order_at b w at) ≡ c → is_start w (rules_from b at) ≡ starts w (rule_source (drop at b))
      go true i = let o = equal_is (order_at b w at) i in
          start_equal b w at l q.sought.sorted o ∙ sym (equal_starts (rule_source (drop at b)) w o)
      go false i = start_above b w at l q.sought.sorted (above_is (order_at b w at) (q.not_below l) i)

-- the rows found are those with that source
module _ (b w : List ℕ) where
  abbrev Rest : ℕ → Type 0
  Rest at = take (run b w (offsets_from b at)) (rules_from b at) ≡ with_source w (rules_from b at)

  -- past an equal row nothing is below
  pub next_not_below : (at : ℕ) → at < length b → Sorted b at → order_at b w at ≡ Equal
      → at + rule_size (drop at b) < length b → is_below (order_at b w (at + rule_size (drop at b))) ≡ false
  unfolding order_at
  next_not_below at l s e k = go (is_below (order_at b w next)) refl
    where
      next : ℕ
      next = at + rule_size (drop at b)

      go : (c : Bool) → is_below (order_at b w next) ≡ c → c ≡ false
      go false i = refl
      go true i = absurd (risen_not_below (rule_source (drop next b)) w (below_is (order_at b w next) i)
          (subst (λ a. rises a (rule_source (drop next b)) ≡ true) (same_true (rule_source (drop at b)) w (equal_same (rule_source (drop at b)) w e)) (sorted_risen l s k)))

  counts : (at : ℕ) → Sorted b at → (at < length b → is_below (order_at b w at) ≡ false)
      → (at < length b → Sorted b (at + rule_size (drop at b))
      → (at + rule_size (drop at b) < length b → is_below (order_at b w (at + rule_size (drop at b))) ≡ false)
      → Rest (at + rule_size (drop at b)))
      → Rest at
  unfolding order_at
  counts at s n later = go (dec_lt at (length b)) (is_equal (order_at b w at)) refl
    where
      go : Dec (at < length b) → (c : Bool) → is_equal (order_at b w at) ≡ c → Rest at
      go (no l) c i = rw (run-over b w at (omega arith)) (sym (none_over b w at (omega arith)))
      go (yes l) false i = rw (run_ends b w at l i) (sym (none_above b w at l s (above_is (order_at b w at) (n l) i)))
      go (yes l) true i = let o = equal_is (order_at b w at) i in
          rw (run_on b w at l i, add-one, rules-next b at l)
          (ap (◌∷◌ (rule_of (drop at b))) (later l (sorted-next l s) (next_not_below at l s o)) ∙ sym (one_equal b w at l s o)
          ∙ ap (with_source w) (rules-next b at l))

  counted_rows : (f at : ℕ) → length b ≤ at + f → Sorted b at → (at < length b → is_below (order_at b w at) ≡ false) → Rest at
  counted_rows zero at h s n = counts at s n (λ l q m. absurd (omega arith))
  counted_rows (suc f) at h s n = counts at s n
      (λ l q m. let k = rule_moves (drop at b) in counted_rows f (at + rule_size (drop at b)) (omega arith) q m)

  pub rows-found : rule_fault b ≡ none → take (equal_rows b w) (rules_from b (first_at b w)) ≡ with_source w (rules_of b)
  unfolding equal_rows
  rows-found e = let q = first_stops b w e in
      counted_rows (length b) (first_at b w) (omega arith) q.sought.sorted q.not_below
      ∙ sym (sought_source b w (first_at b w) q.sought)
