-- The sparse index of a rule table: the offset of every 16th row.
use Rattle.std.specs.Prelude.{Bool, ◌≡◌, List, [], ◌∷◌, ℕ, zero, suc, ◌+◌, ◌*◌, ◌/◌, ◌%◌, ◌≤◌, ◌<◌, eqb, set, drop, replicate}
use Rattle.std.proofs.Math.Bool.{true, false}
use Rattle.std.proofs.Math.Path.{refl, sym, ap}
use Rattle.std.proofs.Common.{◌∙◌, length-drop, drop-drop, eq-eqb, ne_eqb}
use Rattle.std.proofs.Math.Option.{none}
use native.Mathlib.Omega.{arith}
use Rattle.std.proofs.Math.ListN.{length, length-set}
use Rattle.base.specs.Pick.{pick}
use Rattle.base.specs.Rows.{rows, rows_nil, rows_cons}
use Rattle.definition.specs.Limits.{most_rows}
use Rattle.definition.specs.Blocks.{head_bytes}
use Rattle.definition.specs.RuleRows.{rule_size}
use Rattle.definition.specs.RuleFaults.{rule_fault}
use Rattle.definition.specs.RuleTurns.{rule_moves}

-- rows between two entries, and how many entries there are
abbrev pub index_step : ℕ
index_step = 16

abbrev pub index_entries : ℕ
index_entries = most_rows / index_step

-- the offsets of rows of these sizes, the first at `o`
unfoldable pub offsets : ℕ → List ℕ → List ℕ
offsets o [] = []
offsets o (z ∷ l) = o ∷ offsets (o + z) l

-- of the rows from an offset on
unfoldable pub offsets_from : List ℕ → ℕ → List ℕ
offsets_from b at = offsets at (rows rule_size rule_size (drop at b))

-- of all rows of a table
unfoldable pub row_offsets : List ℕ → List ℕ
row_offsets b = offsets_from b head_bytes

-- the offset of row `n` put into a list, if it is a 16th one
unfoldable pub entered : ℕ → ℕ → List ℕ → List ℕ
entered n o l = pick (eqb (n % index_step) 0) (set l (n / index_step) o) l

-- those of rows one after another, the first being row `n`
unfoldable pub indexed : ℕ → List ℕ → List ℕ → List ℕ
indexed n [] l = l
indexed n (o ∷ os) l = indexed (n + 1) os (entered n o l)

-- the index of a table
unfoldable pub index_of : List ℕ → List ℕ
index_of b = indexed 0 (row_offsets b) (replicate index_entries 0)

-- What the call has checked and filled before it looks for a rule
pub record Ready (b x : List ℕ) : Type 0 where
  pub accepted : rule_fault b ≡ none
  pub is : x ≡ index_of b

pub offsets-over : (b : List ℕ) (at : ℕ) → length b ≤ at → offsets_from b at ≡ []
unfolding offsets_from offsets
offsets-over b at l = rw (rows_nil rule_size rule_size (drop at b) (omega (arith, length-drop at b)))

pub offsets-next : (b : List ℕ) (at : ℕ) → at < length b
    → offsets_from b at ≡ at ∷ offsets_from b (at + rule_size (drop at b))
unfolding offsets_from offsets
offsets-next b at l =
    ap (offsets at) (rows_cons rule_size rule_size rule_moves (drop at b) (omega (arith, length-drop at b)))
    ∙ ap (λ s. at ∷ offsets (at + rule_size (drop at b)) (rows rule_size rule_size s)) (drop-drop (rule_size (drop at b)) at b)

-- nothing is put past the end of the list
set-over : (l : List ℕ) (i a : ℕ) → length l ≤ i → set l i a ≡ l
set-over [] i a h = refl
set-over (x ∷ l) zero a h = absurd (omega arith)
set-over (x ∷ l) (suc i) a h = ap (◌∷◌ x) (set-over l i a (omega arith))

module _ (n o : ℕ) (l : List ℕ) where
  pub entered_here : n % index_step ≡ 0 → set l (n / index_step) o ≡ entered n o l
  unfolding entered pick
  entered_here e = sym (ap (λ c. pick c (set l (n / index_step) o) l) (eq-eqb (n % index_step) 0 e))

  pub entered-over : length l ≤ n / index_step → l ≡ entered n o l
  unfolding entered pick
  entered-over h = go (eqb (n % index_step) 0)
    where
      go : (c : Bool) → l ≡ pick c (set l (n / index_step) o) l
      go true = sym (set-over l (n / index_step) o h)
      go false = refl

  pub entered-none : (n % index_step ≡ 0 → ⊥) → l ≡ entered n o l
  unfolding entered pick
  entered-none e = sym (ap (λ c. pick c (set l (n / index_step) o) l) (ne_eqb (n % index_step) 0 e))

  pub entered-length : length (entered n o l) ≡ length l
  unfolding entered pick
  entered-length = go (eqb (n % index_step) 0)
    where
      go : (c : Bool) → length (pick c (set l (n / index_step) o) l) ≡ length l
      go true = length-set l (n / index_step) o
      go false = refl

-- a full list stays as it is
pub indexed-full : (n : ℕ) (os l : List ℕ) → length l ≤ n / index_step → indexed n os l ≡ l
unfolding indexed
indexed-full n [] l h = refl
indexed-full n (o ∷ os) l h = ap (indexed (n + 1) os) (sym (entered-over n o l h)) ∙ indexed-full (n + 1) os l (omega arith)

-- A walk that has come to row `n` at `at`: what is still to be put leads where the whole leads
pub record Filled (b before l : List ℕ) (at n : ℕ) : Type 0 where
  pub whole : indexed n (offsets_from b at) l ≡ indexed 0 (row_offsets b) before
  pub same_size : length l ≡ length before
  pub near : at ≤ 5 + 65537 * n

pub fill_begun : (b l : List ℕ) → Filled b l l head_bytes 0
fill_begun b l = record { whole = unfold row_offsets in refl; same_size = refl; near = omega arith }

module _ {b before l : List ℕ} {at n : ℕ} (f : Filled b before l at n) where
  pub fill_over : length b ≤ at → l ≡ indexed 0 (row_offsets b) before
  unfolding indexed
  fill_over h = sym (ap (λ os. indexed n os l) (offsets-over b at h)) ∙ f.whole

  pub fill_full : length l ≤ n / index_step → l ≡ indexed 0 (row_offsets b) before
  fill_full h = sym (indexed-full n (offsets_from b at) l h) ∙ f.whole

  pub fill_next : at < length b → (z : ℕ) → z ≡ rule_size (drop at b) → z ≤ 65537 → Filled b before (entered n at l) (at + z) (n + 1)
  unfolding indexed
  fill_next h z e m = record {
    whole = ap (λ z. indexed (n + 1) (offsets_from b (at + z)) (entered n at l)) e
        ∙ sym (ap (λ os. indexed n os l) (offsets-next b at h)) ∙ f.whole;
    same_size = entered-length n at l ∙ f.same_size;
    near = let k = f.near in omega arith;
  }
