-- A row's fields are without fault just where all that is asked of the row holds, but for the order of rows.
-- (Proved in proofs/FieldsRight.)
use Rattle.std.specs.Prelude.{Bool, ◌&&◌, List, [], ◌∷◌, length}
use Rattle.std.proofs.Math.Bool.{true, false}
use Rattle.std.proofs.Common.{true≢false}
use Rattle.std.proofs.Math.Path.{◌≡◌, refl, sym, ap}
use Prim.Native.Nat.{ℕ, zero, suc, ◌+◌, ◌≤◌}
use native.Mathlib.Omega.{arith}
use Rattle.std.proofs.Math.Dec.{leb}
use Rattle.std.proofs.Math.ListN.{get_or, take}
use borrow.Author.Tests.{leb-true, le-leb, eq-eqb}
use Rattle.base.specs.Pick.{pick}
use Rattle.base.specs.Lists.{all, holds}
use Rattle.base.specs.Rows.{counted}
use Rattle.definition.specs.Limits.{most_source}
use Rattle.definition.specs.Texts.{Text}
use Rattle.definition.specs.Utf8.{scalar}
use Rattle.definition.specs.RuleRows.{fits_from}
use Rattle.definition.specs.RuleRows.{rule_size, rule_flag, zero_bit}
use Rattle.definition.specs.RuleRows.{source_count, others_at, others_end}
use Rattle.definition.specs.RuleRows.{others_right, rule_source, rises, source_right, codes_right, target_right}
use Rattle.definition.specs.RuleRows.{end_target_right, rule_right}
use Rattle.definition.specs.Refusals.{refused_length}
use Rattle.definition.specs.RuleFields.{Cursor, next, wrong, and_then, field}

-- Reading goes on past a field just where it lies in the row and passes
pub record Passed (o n z e : ℕ) (ok : Bool) : Type 0 where
  pub ends : e ≡ o + n
  pub inside : e ≤ z
  pub right : ok ≡ true

pub then_next : (c : Cursor) (f : ℕ → Cursor) (e : ℕ) → and_then c f ≡ next e → (o : ℕ) × (c ≡ next o) × (f o ≡ next e)
unfolding and_then
then_next (next o) f e h = (o, refl, h)
then_next (wrong k o) f e h = absurd (let z : ◌≡◌ {A = ℕ} 0 1 = cc in omega arith)

pub then_is : (c : Cursor) (f : ℕ → Cursor) (o e : ℕ) → c ≡ next o → f o ≡ next e → and_then c f ≡ next e
unfolding and_then
then_is c f o e p q = rw p q

pub field_next : (z o n : ℕ) (k : ℕ) (ok : Bool) (e : ℕ) → field z o n k ok ≡ next e → Passed o n z e ok
unfolding field pick
field_next z o n k ok e h = go (leb (o + n) z) ok refl refl h
  where
    go : (a b : Bool) → leb (o + n) z ≡ a → ok ≡ b → pick a (pick b (next (o + n)) (wrong k o)) (wrong refused_length o) ≡ next e → Passed o n z e ok
    go true true p q h =
        let l = leb-true (o + n) z p in
        let i : o + n ≡ e = cc in
        record { ends = sym i; inside = omega arith; right = q }
    go true false p q h = absurd (let z : ◌≡◌ {A = ℕ} 0 1 = cc in omega arith)
    go false b p q h = absurd (let z : ◌≡◌ {A = ℕ} 0 1 = cc in omega arith)

pub field_is : (z o n : ℕ) (k : ℕ) (ok : Bool) (e : ℕ) → Passed o n z e ok → field z o n k ok ≡ next e
unfolding field pick
field_is z o n k ok e p = let i = p.ends in let l = p.inside in rw (le-leb (o + n) z (omega arith), p.right) (ap next (sym i))

-- Texts
pub counted-take : (n : ℕ) (l : List ℕ) → n ≤ length l → counted (λ x. get_or x 0 0) 1 n l ≡ take n l
unfolding counted
counted-take zero l h = refl
counted-take (suc n) [] h = absurd (omega arith)
counted-take (suc n) (x ∷ l) h = ap (λ r. x ∷ r) (counted-take n l (omega arith))

-- The whole row
pub both_ways : (x y : Bool) → (x ≡ true → y ≡ true) → (y ≡ true → x ≡ true) → x ≡ y
both_ways true y f g = sym (f refl)
both_ways false true f g = g refl
both_ways false false f g = refl

-- is there no faulty field?
unfoldable pub rightly : Cursor → Bool
rightly (next o) = true
rightly (wrong k o) = false

pub rightly-next : (c : Cursor) → rightly c ≡ true → (e : ℕ) × (c ≡ next e)
unfolding rightly
rightly-next (next e) h = (e, refl)
rightly-next (wrong k o) h = absurd (true≢false (sym h))

-- what reading to the end has asked
pub record Read (s : List ℕ) : Type 0 where
  pub inside : holds (rule_size s) s ≡ true
  pub filled : others_end (others_at s) s ≡ rule_size s
  pub high_bit : rule_flag s zero_bit ≡ false
  pub count : (leb 1 (source_count s) && leb (source_count s) most_source) ≡ true
  pub scalars : all scalar (rule_source s) ≡ true
  pub codes : codes_right s ≡ true
  pub target : target_right s ≡ true
  pub end_target : end_target_right s ≡ true
  pub others : others_right (others_at s) s ≡ true

pub read_right : (old : Text) (s : List ℕ) → Read s → rises old (rule_source s) ≡ true → rule_right old s ≡ true
unfolding rule_right fits_from source_right
read_right old s r h = rw (
  r.inside,
  eq-eqb (others_end (others_at s) s) (rule_size s) r.filled,
  r.high_bit,
  r.count,
  r.scalars,
  h,
  r.codes,
  r.target,
  r.end_target,
  r.others,
)
