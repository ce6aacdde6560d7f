-- The index tells where a walk may begin: an entry whose row is below a text leaves out only rows that are below it too.
use Rattle.std.specs.Prelude.{Bool, ◌&&◌, ◌≡◌, refl, ℕ, zero, suc, ◌+◌, ◌-◌, ◌/◌, ◌%◌, ◌≤◌, ◌<◌, eqb, length, get_or, set, drop, replicate}
use Rattle.std.proofs.Math.Bool.{true, false, not}
use Rattle.std.proofs.Common.{true≢false, sym, ◌∙◌, subst, arith, eq-eqb, ne_eqb}
use Rattle.std.proofs.Math.Path.{ap}
use mathlib.Core.List.{List, [], ◌∷◌}
use Rattle.std.proofs.Math.Option.{none}
use Rattle.std.proofs.Math.Decide.{dec_lt}
use Rattle.base.specs.Pick.{pick}
use Rattle.base.specs.Bools.{and_right}
use Rattle.base.specs.Alls.{All, All-map, All_getD}
use Rattle.definition.specs.Texts.{Text}
use Rattle.definition.specs.Blocks.{head_bytes}
use Rattle.definition.specs.RuleRows.{rule_size, rule_source}
use Rattle.definition.specs.RuleFaults.{rule_fault}
use Rattle.definition.specs.RuleTurns.{rule_moves}
use Rattle.rule_table.specs.Order.{below_earlier}
use Rattle.rule_table.specs.Sorted.{Sorted, sorted-start, sorted-next, sorted_risen}
use Rattle.rule_table.specs.Index.{index_step, index_entries, offsets_from, row_offsets, entered, indexed, index_of, Ready, offsets-over, offsets-next}
use Rattle.rule_table.specs.Seek.{is_below, order_at, seek, first_at, seek-past, below_is}

-- is there an entry, and is its row below a text? Past the table's last row the index is 0
unfoldable pub entry_below : List ℕ → Text → ℕ → Bool
entry_below b w o = not (eqb o 0) && is_below (order_at b w o)

module _ (b : List ℕ) (w : Text) (o : ℕ) where
  pub entry_none : o ≡ 0 → false ≡ entry_below b w o
  unfolding entry_below
  entry_none e = ap (λ c. not c && is_below (order_at b w o)) (sym (eq-eqb o 0 e))

  pub entry_some : (o ≡ 0 → ⊥) → is_below (order_at b w o) ≡ entry_below b w o
  unfolding entry_below
  entry_some n = ap (λ c. not c && is_below (order_at b w o)) (sym (ne_eqb o 0 n))

-- What holds of the offsets and of what was there, holds of what they are put into, in the index of any table
module _ (P : ℕ → Type 0) where
  set_all : (l : List ℕ) (i o : ℕ) → P o → All P l → All P (set l i o)
  set_all [] i o p h = tt
  set_all (x ∷ l) zero o p h = (p, h.1)
  set_all (x ∷ l) (suc i) o p h = (h.0, set_all l i o p h.1)

  entered_all : (n o : ℕ) (l : List ℕ) → P o → All P l → All P (entered n o l)
  unfolding entered pick
  entered_all n o l p h = go (eqb (n % index_step) 0)
    where
      go : (c : Bool) → All P (pick c (set l (n / index_step) o) l)
      go true = set_all l (n / index_step) o p h
      go false = h

  pub indexed-all : (n : ℕ) (os l : List ℕ) → All P os → All P l → All P (indexed n os l)
  unfolding indexed
  indexed-all n [] l p h = h
  indexed-all n (o ∷ os) l p h = indexed-all (n + 1) os (entered n o l) p.1 (entered_all n o l p.0 h)

  pub replicate-all : (n o : ℕ) → P o → All P (replicate n o)
  replicate-all zero o p = tt
  replicate-all (suc n) o p = (p, replicate-all n o p)

module _ (b w : List ℕ) where
  abbrev Low : ℕ → Type 0
  Low o = is_below (order_at b w o) ≡ true

  -- a walk may begin at `o` and leave out what lies between `at` and it
  abbrev Skips : ℕ → ℕ → Type 0
  Skips at o = Low o → Low at × (seek b w (offsets_from b o) ≡ seek b w (offsets_from b at))

  -- sources rise, so the row before one that is below is below
  low_before : (at : ℕ) → at < length b → Sorted b at → at + rule_size (drop at b) < length b
      → Low (at + rule_size (drop at b)) → Low at
  unfolding order_at is_below
  low_before at l s k e =
      let next = at + rule_size (drop at b) in
      ap is_below (below_earlier (rule_source (drop at b)) (rule_source (drop next b)) w (below_is (order_at b w next) e) (sorted_risen l s k))

  skip : (at : ℕ) → Sorted b at
      → (at < length b → Sorted b (at + rule_size (drop at b))
      → All (Skips (at + rule_size (drop at b))) (offsets_from b (at + rule_size (drop at b))))
      → All (Skips at) (offsets_from b at)
  skip at s later = go (dec_lt at (length b))
    where
      next : ℕ
      next = at + rule_size (drop at b)

      rest : at < length b → Dec (next < length b) → All (Skips at) (offsets_from b next)
      rest l (no m) = rw (offsets-over b next (omega arith)) tt
      rest l (yes k) = All-map (λ o f e. let r = f e in let p = low_before at l s k r.0 in (p, r.1 ∙ seek-past b w at l p))
          (offsets_from b next) (later l (sorted-next l s))

      go : Dec (at < length b) → All (Skips at) (offsets_from b at)
      go (no m) = rw (offsets-over b at (omega arith)) tt
      go (yes l) = rw (offsets-next b at l) (λ e. (e, refl), rest l (dec_lt next (length b)))

  skips : (f at : ℕ) → length b ≤ at + f → Sorted b at → All (Skips at) (offsets_from b at)
  skips zero at h s = skip at s (λ l q. absurd (omega arith))
  skips (suc f) at h s = skip at s (λ l q. let m = rule_moves (drop at b) in skips f (at + rule_size (drop at b)) (omega arith) q)

  -- so it may begin at every entry that is there and whose row is below
  abbrev Begins : ℕ → Type 0
  Begins o = entry_below b w o ≡ true → seek b w (offsets_from b o) ≡ first_at b w

  begins_not : Begins 0
  unfolding entry_below
  begins_not e = absurd (true≢false (sym e))

  begins_row : (o : ℕ) → Skips head_bytes o → Begins o
  unfolding entry_below first_at row_offsets
  begins_row o f e = (f (and_right (not (eqb o 0)) _ e)).1

  begins-all : rule_fault b ≡ none → All Begins (index_of b)
  unfolding index_of row_offsets
  begins-all e = indexed-all Begins 0 (offsets_from b head_bytes) (replicate index_entries 0)
      (All-map begins_row (offsets_from b head_bytes) (skips (length b) head_bytes (omega arith) (sorted-start b e)))
      (replicate-all Begins index_entries 0 begins_not)

  -- it is the last of the first `n` entries
  pub entry_begins : {x : List ℕ} → Ready b x → (k : ℕ) → entry_below b w (get_or x k 0) ≡ true → (n : ℕ) → n ≡ k + 1
      → seek b w (offsets_from b (get_or x (n - 1) 0)) ≡ first_at b w
  entry_begins {x} r k e n h =
      let q : n - 1 ≡ k = omega arith in
      rw q (All_getD Begins x k 0 (subst (All Begins) (sym r.is) (begins-all r.accepted)) begins_not e)
