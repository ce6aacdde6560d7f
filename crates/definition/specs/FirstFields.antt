-- The fields of a rule row as a list, each by its own offset: the walk over a row is the walk over this list, and no field before
-- the place of a fault is faulty.
-- (Proved in proofs/FirstFields.)
use Rattle.std.specs.Prelude.{Bool, not, ◌&&◌, ◌≡◌, leb}
use Rattle.std.proofs.Math.Bool.{true, false}
use Rattle.std.proofs.Math.Path.{refl, ap}
use Rattle.std.proofs.Common.{leb-true}
use mathlib.Core.List.{List, [], ◌∷◌, ◌++◌}
use Prim.Native.Nat.{ℕ, zero, suc, ◌+◌, ◌≤◌, ◌<◌}
use native.Mathlib.Omega.{arith}
use Rattle.std.proofs.Math.ListN.{get_or, drop}
use Rattle.base.specs.Pick.{pick}
use Rattle.base.specs.Alls.{All, All-map}
use Rattle.definition.specs.Limits.{most_source, most_codes, most_alternatives, most_target}
use Rattle.definition.specs.Refusals.{refused_length, refused_range, refused_letter, refused_byte}
use Rattle.definition.specs.RuleRows.{rule_flag, zero_bit, target_bit, end_target_bit, source_count, codes_at, target_at, end_target_at, others_at, others_end, text_size}
use Rattle.definition.specs.RuleFields.{Cursor, next, wrong, and_then, field, character_right, code_small, byte_right}
use Rattle.definition.specs.RuleFields.{read_end}

-- A field: its offset in the row, its bytes, the number that refuses it, and whether it is right
pub record Field : Type 0 where
  pub at : ℕ
  pub size : ℕ
  pub number : ℕ
  pub right : Bool

-- `n` fields of a size from `o` on
unfoldable pub run : (List ℕ → Bool) → ℕ → ℕ → List ℕ → ℕ → ℕ → List Field
run right size k s zero o = []
run right size k s (suc n) o =
    record { at = o; size = size; number = k; right = right (drop o s) } ∷ run right size k s n (o + size)

-- a count at `o`
abbrev pub count_field : ℕ → Bool → Field
count_field o right = record { at = o; size = 1; number = refused_range; right = right }

-- a text at `o`, as many texts, and a text where there is one
unfoldable pub text_fields : List ℕ → ℕ → List Field
text_fields s o =
    count_field o (leb (get_or s o 0) most_target) ∷ run byte_right 1 refused_byte s (get_or s o 0) (o + 1)

unfoldable pub texts_fields : List ℕ → ℕ → ℕ → List Field
texts_fields s zero o = []
texts_fields s (suc n) o = text_fields s o ++ texts_fields s n (o + text_size (drop o s))

unfoldable pub text_fields_if : Bool → List ℕ → ℕ → List Field
text_fields_if there s o = pick there (text_fields s o) []

-- the parts of a row, each where the definition finds it
unfoldable pub flag_fields : List ℕ → List Field
flag_fields s =
    record { at = 2; size = 1; number = refused_range; right = not (rule_flag s zero_bit) }
    ∷ record { at = 3; size = 2; number = refused_range; right = true } ∷ []

unfoldable pub source_fields : List ℕ → List Field
source_fields s =
    count_field 5 (leb 1 (source_count s) && leb (source_count s) most_source)
    ∷ run character_right 3 refused_letter s (source_count s) 6

unfoldable pub codes_fields : List ℕ → ℕ → List Field
codes_fields s o =
    count_field o (leb (get_or s o 0) most_codes) ∷ run code_small 3 refused_letter s (get_or s o 0) (o + 1)

unfoldable pub others_fields : List ℕ → ℕ → List Field
others_fields s o = count_field o (leb (get_or s o 0) most_alternatives) ∷ texts_fields s (get_or s o 0) (o + 1)

unfoldable pub tail_fields : List ℕ → List Field
tail_fields s =
    text_fields_if (rule_flag s target_bit) s (target_at s)
    ++ (text_fields_if (rule_flag s end_target_bit) s (end_target_at s) ++ others_fields s (others_at s))

unfoldable pub row_fields : List ℕ → List Field
row_fields s = flag_fields s ++ (source_fields s ++ (codes_fields s (codes_at s) ++ tail_fields s))

-- A field that lies in a row of size `z` and is right
pub record Sound (z : ℕ) (f : Field) : Type 0 where
  pub inside : f.at + f.size ≤ z
  pub good : f.right ≡ true

-- The walk over the fields of a list: the first that is faulty, or else `c`
unfoldable pub walk_to : Cursor → ℕ → List Field → Cursor
walk_to c z [] = c
walk_to c z (f ∷ l) = and_then (field z f.at f.size f.number f.right) (λ o. walk_to c z l)

pub walk-append : (c : Cursor) (z : ℕ) (a b : List Field) → walk_to c z (a ++ b) ≡ walk_to (walk_to c z b) z a
unfolding walk_to
walk-append c z [] b = refl
walk-append c z (f ∷ a) b =
    ap (λ d. and_then (field z f.at f.size f.number f.right) (λ o. d)) (walk-append c z a b)

-- Each field begins where the one before it ends: the first at `o`, and the last ends at `e`
unfoldable pub Abut : ℕ → List Field → ℕ → Type 0
Abut o [] e = o ≡ e
Abut o (f ∷ l) e = (f.at ≡ o) × (0 < f.size) × Abut (o + f.size) l e

pub abut_append : (a b : List Field) (o m e : ℕ) → Abut o a m → Abut m b e → Abut o (a ++ b) e
unfolding Abut
abut_append [] b o m e h k = rw h k
abut_append (f ∷ a) b o m e h k = (h.0, h.1, abut_append a b (o + f.size) m e h.2 k)

-- A cursor that reads the fields of a list from `o` to `e`, whatever follows
pub record Part (z : ℕ) (c : Cursor) (l : List Field) (o e : ℕ) : Type 0 where
  pub reads : (h : ℕ → Cursor) → and_then c h ≡ walk_to (h e) z l
  pub abut : Abut o l e

pub then-then : (c : Cursor) (f g : ℕ → Cursor) → and_then (and_then c f) g ≡ and_then c (λ o. and_then (f o) g)
unfolding and_then
then-then (next o) f g = refl
then-then (wrong k o) f g = refl

module _ (z : ℕ) where
  module _ (s : List ℕ) where
    -- The walk over a row is the walk over its fields, and then over what is left
    abbrev pub rest : Cursor
    rest = read_end z (others_end (others_at s) s)

-- Fields that begin at `o` or behind it
not_before : (l : List Field) (o e : ℕ) → Abut o l e → All (λ f. o ≤ f.at) l
unfolding Abut
not_before [] o e h = tt
not_before (f ∷ l) o e h =
    let i = h.0 in
    (omega arith, All-map (λ g j. omega arith) l (not_before l (o + f.size) e h.2))

-- No field before the place of a fault is faulty
module _ (z : ℕ) (c : Cursor) (k p : ℕ) where
  unfoldable pub Before : Field → Type 0
  Before f = f.at < p → Sound z f

  pub first_faulty : (l : List Field) (o e : ℕ) → Abut o l e → walk_to c z l ≡ wrong k p → All Before l
  unfolding Abut walk_to field and_then pick Before
  first_faulty [] o e h w = tt
  first_faulty (f ∷ l) o e h w = go (leb (f.at + f.size) z) f.right refl refl w (first_faulty l (o + f.size) e h.2)
    where
      later : f.at ≡ p → All Before (f ∷ l)
      later i = (
        λ j. absurd (omega arith),
        All-map (λ g j q. absurd (let m = h.0 in let n = h.1 in omega arith)) l (not_before l (o + f.size) e h.2),
      )

      go : (a b : Bool) → leb (f.at + f.size) z ≡ a → f.right ≡ b
          → and_then (pick a (pick b (next (f.at + f.size)) (wrong f.number f.at)) (wrong refused_length f.at)) (λ o. walk_to c z l) ≡ wrong k p
          → (walk_to c z l ≡ wrong k p → All Before l) → All Before (f ∷ l)
      go true true r q w ih = (λ j. record { inside = leb-true (f.at + f.size) z r; good = q }, ih w)
      go true false r q w ih = later (let i : f.at ≡ p = cc in i)
      go false b r q w ih = later (let i : f.at ≡ p = cc in i)
