-- A field and the tests of its bytes, case by case.
use mathlib.Core.Bool.{Bool, true, false, ◌&&◌}
use mathlib.Core.Path.{◌≡◌, refl, sym, ap, ◌∙◌}
use mathlib.Core.List.{List, [], ◌∷◌}
use Prim.Native.Nat.{ℕ, ◌+◌, ◌<◌, ◌≤◌}
use native.Mathlib.Omega.{arith}
use native.Mathlib.Nat.{add-zero}
use lib.ListN.{length, get_or, take, drop, length-drop}
use lib.Seq.{get_or-drop}
use borrow.Author.Tests.{le-leb, lt-leb}
use Rattle.base.specs.Pick.{pick}
use Rattle.base.specs.Lists.{all}
use Rattle.base.specs.Big.{be3}
use Rattle.definition.specs.Refusals.{refused_length}
use Rattle.definition.specs.Utf8.{scalar}
use Rattle.definition.specs.Blocks.{small}
use Rattle.definition.specs.RuleRows.{printable, code_of}
use Rattle.definition.specs.There.{three-there, byte_there}
use Rattle.definition.specs.RuleFields.{next, wrong, field, character_right, code_small, byte_right}

-- a field that does not fit, one that is right and one that is not
module _ (z o n k : ℕ) where
  pub field_past : (ok : Bool) → z < o + n → field z o n k ok ≡ wrong refused_length o
  unfolding field pick
  field_past ok h = rw (lt-leb (o + n) z h)

  pub field-right : (ok : Bool) → o + n ≤ z → ok ≡ true → field z o n k ok ≡ next (o + n)
  unfolding field pick
  field-right ok h e = rw (le-leb (o + n) z h, e)

  pub field-wrong : (ok : Bool) → o + n ≤ z → ok ≡ false → field z o n k ok ≡ wrong k o
  unfolding field pick
  field-wrong ok h e = rw (le-leb (o + n) z h, e)

-- what is asked of a character and of a text's byte, `x` being the code's answer on the number `c` that it read
module _ (s : List ℕ) (o c : ℕ) (x : Bool) where
  pub is_character : x ≡ scalar c → c ≡ be3 s o → x ≡ character_right (drop o s)
  unfolding character_right
  is_character f e = f ∙ ap scalar (e ∙ three-there s o)

  pub is_byte : x ≡ printable c → c ≡ get_or s o 0 → x ≡ byte_right (drop o s)
  unfolding byte_right
  is_byte f e = f ∙ ap printable (e ∙ byte_there s o)

-- three letters
first_three : (s : List ℕ) → 3 ≤ length s → take 3 s ≡ get_or s 0 0 ∷ get_or s 1 0 ∷ get_or s 2 0 ∷ []
first_three [] h = absurd (omega arith)
first_three (x ∷ []) h = absurd (omega arith)
first_three (x ∷ y ∷ []) h = absurd (omega arith)
first_three (x ∷ y ∷ w ∷ s) h = refl

and_true : (b : Bool) → (b && true) ≡ b
and_true true = refl
and_true false = refl

module _ (s : List ℕ) (o : ℕ) (h : o + 3 ≤ length s) where
  pub letters : code_small (drop o s)
      ≡ (small (get_or s o 0) && (small (get_or s (o + 1) 0) && small (get_or s (o + 2) 0)))
  unfolding code_small code_of all
  letters =
      let l : 3 ≤ length (drop o s) = omega (arith, length-drop o s) in
      rw (
        first_three (drop o s) l,
        and_true (small (get_or (drop o s) 2 0)),
        get_or-drop o s 0 0,
        get_or-drop o s 1 0,
        get_or-drop o s 2 0,
        add-zero o,
      )

  pub not_first : small (get_or s o 0) ≡ false → false ≡ code_small (drop o s)
  not_first e = sym (letters ∙ rw e)

  pub not_second : small (get_or s o 0) ≡ true → small (get_or s (o + 1) 0) ≡ false → false ≡ code_small (drop o s)
  not_second e f = sym (letters ∙ rw (e, f))

  pub by_third : small (get_or s o 0) ≡ true → small (get_or s (o + 1) 0) ≡ true
      → small (get_or s (o + 2) 0) ≡ code_small (drop o s)
  by_third e f = sym (letters ∙ rw (e, f))
