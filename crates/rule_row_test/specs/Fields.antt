-- The fields of a row, each where the one before it ends: what is told of them, and why a row is not right.
use Prim.Native.Nat.{ℕ, zero, suc, ◌+◌, ◌-◌, ◌*◌, ◌/◌, ◌%◌, ◌≤◌, ◌<◌}
use Rattle.std.specs.Prelude.{Bool, not, ◌&&◌, ◌||◌, List, [], ◌≡◌, eqb, leb, length, get_or, drop}
use Rattle.std.proofs.Math.Bool.{true, false}
use Rattle.std.proofs.Common.{true≢false, ◌∙◌, drop-drop}
use Rattle.std.proofs.Math.Path.{refl, sym, ap}
use native.Mathlib.Omega.{arith}
use borrow.Author.Tests.{leb-true, eqb-true, eq-eqb, ne_eqb, le-leb, lt-ltb}
use Rattle.base.specs.Big.{be3}
use Rattle.base.specs.Bits.{flagged, bit}
use Rattle.base.specs.Bools.{and_left, and_right}
use Rattle.base.specs.Lists.{all}
use Rattle.base.specs.Rows.{counted, counted_some}
use Rattle.definition.specs.Limits.{most_source, most_codes, most_alternatives}
use Rattle.definition.specs.Utf8.{scalar}
use Rattle.definition.specs.Blocks.{small}
use Rattle.definition.specs.RuleRows.{codes_count_from, codes_from, codes_right_from, end_target_from, end_target_right_from, fits_from, others_from, target_from, target_right_from}
use Rattle.definition.specs.RuleRows.{text_size, text_right, texts_size, texts_right, rule_size, rule_flag, target_bit, end_target_bit}
use Rattle.definition.specs.RuleRows.{source_count, codes_at, codes_count, target_at, past_text, others_at, others_end, others_right}
use Rattle.definition.specs.RuleRows.{three_at, code_of, rule_source, rule_codes, rises, source_right, codes_right, target_right, end_target_right}
use Rattle.definition.specs.RuleRows.{rule_right}
use Rattle.definition.specs.Checked.{RuleChecked, rule-checked}
use Rattle.definition.specs.Places.{Placed, rule_placed}
use Rattle.table_blocks.specs.Held.{held}
use Rattle.definition.specs.There.{three-there, byte_there}
use Rattle.rule_row_test.specs.Texts.{Passed, Refused}

-- yes to something of a row, or the row is not right
pub record Told (P : Type 0) (s : List ℕ) (r : Bool) : Type 0 where
  pub yes : r ≡ true → P
  pub no : r ≡ false → rule_right [] s ≡ false

-- its texts are right and fill it; and so are its codes
pub record Tail (s : List ℕ) : Type 0 where
  pub filled : others_end (others_at s) s ≡ rule_size s
  pub target : target_right s ≡ true
  pub end_target : end_target_right s ≡ true
  pub others : others_right (others_at s) s ≡ true

pub record Coded (s : List ℕ) : Type 0 where
  pub codes : codes_right s ≡ true
  pub tail : Tail s

-- a right row has passed every test
module _ (s : List ℕ) where
  refuted : (RuleChecked [] s → Placed s → true ≡ false) → rule_right [] s ≡ false
  refuted f = go (rule_right [] s) (λ e. f (rule-checked [] s e) (rule_placed [] s e))
    where
      go : (x : Bool) → (x ≡ true → true ≡ false) → x ≡ false
      go true f = f refl
      go false f = refl

  pub told_no : {P : Type 0} → (RuleChecked [] s → Placed s → true ≡ false) → Told P s false
  told_no f = record { yes = λ e. absurd (true≢false (sym e)); no = λ e. refuted f }

here : (b : List ℕ) (row o p : ℕ) → p ≡ row + o → drop p b ≡ drop o (drop row b)
here b row o p e = ap (λ i. drop i b) e ∙ sym (drop-drop o row b)

byte_here : (b : List ℕ) (row o p : ℕ) → p ≡ row + o → get_or (drop p b) 0 0 ≡ get_or (drop row b) o 0
byte_here b row o p e = ap (λ l. get_or l 0 0) (here b row o p e) ∙ sym (byte_there (drop row b) o)

pub target_late : (s : List ℕ) → 7 ≤ target_at s
unfolding target_from codes_at
target_late s = omega arith

-- Both targets as texts one after another, as many as the flags tell
abbrev pub both : ℕ → ℕ
both x = x / 32 % 2 + x / 64

and_true : (x : Bool) → (x && true) ≡ x
and_true true = refl
and_true false = refl

as_bit : (n : ℕ) → n < 2 → n ≡ bit (eqb n 1)
as_bit zero l = refl
as_bit (suc zero) l = refl
as_bit (suc (suc n)) l = absurd (omega arith)

two-texts : (p q : Bool) (o : ℕ) (s : List ℕ)
    → (texts_right (bit p + bit q) (drop o s) ≡ ((not p || text_right (drop o s)) && (not q || text_right (drop (past_text p o s) s))))
    × (o + texts_size (bit p + bit q) (drop o s) ≡ past_text q (past_text p o s) s)
unfolding texts_right texts_size past_text
two-texts true true o s =
    let d = drop-drop (text_size (drop o s)) o s in
    (ap (λ x. text_right (drop o s) && x) (and_true _ ∙ ap text_right d), let e = ap text_size d in omega arith)
two-texts true false o s = (refl, omega arith)
two-texts false true o s = (and_true _, omega arith)
two-texts false false o s = (refl, omega arith)

module _ (s : List ℕ) (low : get_or s 2 0 < 128) where
  both_is : both (get_or s 2 0) ≡ bit (rule_flag s target_bit) + bit (rule_flag s end_target_bit)
  unfolding rule_flag flagged
  both_is =
      let e = as_bit (get_or s 2 0 / 32 % 2) (omega arith) in
      let f = as_bit (get_or s 2 0 / 64 % 2) (omega arith) in
      omega arith

  targets : texts_right (both (get_or s 2 0)) (drop (target_at s) s) ≡ (target_right s && end_target_right s)
  unfolding target_right_from end_target_right_from end_target_from
  targets = rw both_is (two-texts (rule_flag s target_bit) (rule_flag s end_target_bit) (target_at s) s).0

  targets_end : target_at s + texts_size (both (get_or s 2 0)) (drop (target_at s) s) ≡ others_at s
  unfolding others_from end_target_from
  targets_end = rw both_is (two-texts (rule_flag s target_bit) (rule_flag s end_target_bit) (target_at s) s).1

-- The texts of a row: `x` are its flags, the targets begin at `target`, and the row ends at `end`
module _ (b : List ℕ) (row target end : ℕ) (low : get_or (drop row b) 2 0 < 128)
    (e : target ≡ row + target_at (drop row b)) (z : end ≡ row + rule_size (drop row b)) (x : ℕ) (f : x ≡ get_or (drop row b) 2 0) where
  abbrev S : List ℕ
  S = drop row b

  targets_size : target + texts_size (both x) (drop target b) ≡ row + others_at S
  targets_size =
      let d = ap (texts_size (both x)) (here b row (target_at S) target e) in
      let m = ap (λ i. texts_size (both i) (drop (target_at S) S)) f in
      omega (arith, d, m, targets_end S low)

  targets_right : texts_right (both x) (drop target b) ≡ (target_right S && end_target_right S)
  targets_right =
      ap (texts_right (both x)) (here b row (target_at S) target e)
      ∙ ap (λ i. texts_right (both i) (drop (target_at S) S)) f ∙ targets S low

  pub targets_wrong : Refused b end (both x) target → Told (Tail (drop row b)) (drop row b) false
  targets_wrong w = told_no S (λ c p.
      let k = p.others in
      let y : (target_right S && end_target_right S) ≡ true = rw (c.target, c.end_target) refl in
      sym (targets_right ∙ y) ∙ w.wrong (omega (arith, targets_size)))

  module _ (others : ℕ) (w : Passed b end (both x) target others) where
    others-place : others ≡ row + others_at S
    others-place = w.ends ∙ targets_size

    pub no_count : end ≤ others → Told (Tail (drop row b)) (drop row b) false
    no_count l = told_no S (λ c p. let k = p.others in absurd (omega (arith, others-place)))

    module _ (n : ℕ) (g : n ≡ get_or (drop others b) 0 0) where
      count-is : n ≡ get_or S (others_at S) 0
      count-is = g ∙ byte_here b row (others_at S) others others-place

      pub too_many : most_alternatives < n → Told (Tail (drop row b)) (drop row b) false
      unfolding others_right
      too_many l = told_no S (λ c p.
          let k = leb-true (get_or S (others_at S) 0) most_alternatives (and_left _ _ c.others) in
          absurd (omega (arith, count-is)))

      module _ (from : ℕ) (q : from ≡ others + 1) where
        others-here : drop from b ≡ drop (others_at S + 1) S
        others-here = here b row (others_at S + 1) from (omega (arith, others-place))

        others-size : from + texts_size n (drop from b) ≡ row + others_end (others_at S) S
        unfolding others_end
        others-size =
            let d = ap (texts_size n) others-here in
            let m = ap (λ i. texts_size i (drop (others_at S + 1) S)) count-is in
            omega (arith, d, m, others-place)

        others-is : texts_right n (drop from b) ≡ texts_right (get_or S (others_at S) 0) (drop (others_at S + 1) S)
        others-is = ap (texts_right n) others-here ∙ ap (λ i. texts_right i (drop (others_at S + 1) S)) count-is

        pub others-wrong : Refused b end n from → Told (Tail (drop row b)) (drop row b) false
        unfolding others_right
        others-wrong v = told_no S (λ c p.
            sym (others-is ∙ and_right (leb (get_or S (others_at S) 0) most_alternatives) _ c.others)
            ∙ v.wrong (omega (arith, others-size, c.filled)))

        pub others-told : n ≤ most_alternatives → (r : ℕ) → Passed b end n from r → Told (Tail (drop row b)) (drop row b) (eqb r end)
        unfolding others_right
        others-told l r v = record {
          yes = λ t.
              let i = eqb-true r end t in
              record {
                filled = omega (arith, v.ends, others-size);
                target = and_left _ _ (sym targets_right ∙ w.right);
                end_target = and_right (target_right S) _ (sym targets_right ∙ w.right);
                others = rw (le-leb (get_or S (others_at S) 0) most_alternatives (omega (arith, count-is))) (sym others-is ∙ v.right);
              };
          no = λ t. refuted S (λ c p. sym (eq-eqb r end (omega (arith, v.ends, others-size, c.filled))) ∙ t);
        }

-- Its codes: `n` of them, their count at `codes`
module _ (b : List ℕ) (row codes end : ℕ) (e : codes ≡ row + codes_at (drop row b)) (z : end ≡ row + rule_size (drop row b))
    (n : ℕ) (g : n ≡ get_or (drop codes b) 0 0) where
  abbrev R : List ℕ
  R = drop row b

  codes-number : n ≡ codes_count R
  unfolding codes_count_from
  codes-number = g ∙ byte_here b row (codes_at R) codes e

  pub many_codes : most_codes < n → Told (Coded (drop row b)) (drop row b) false
  many_codes l = told_no R (λ c p. let k = c.few_codes in absurd (omega (arith, codes-number)))

  module _ (target : ℕ) (f : target ≡ codes + 1 + 3 * n) where
    pub target-place : target ≡ row + target_at (drop row b)
    unfolding target_from
    target-place = omega (arith, codes-number)

    pub no_texts : end ≤ target → Told (Coded (drop row b)) (drop row b) false
    no_texts l = told_no R (λ c p.
        let i = p.target in
        let j = p.end_target in
        let k = p.others in
        absurd (omega (arith, target-place)))

    module _ (from : ℕ) (q : from ≡ codes + 1) (x : Bool)
        (y : x ≡ all (all small) (counted code_of 3 ((target - from) / 3) (drop from b))) where
      codes_are : all (all small) (rule_codes R) ≡ x
      unfolding codes_from
      codes_are =
          let d : (target - from) / 3 ≡ codes_count R = omega (arith, codes-number) in
          sym (y ∙ ap (λ i. all (all small) (counted code_of 3 i (drop from b))) d
          ∙ ap (λ l. all (all small) (counted code_of 3 (codes_count R) l)) (here b row (codes_at R + 1) from (omega arith)))

      pub wrong-codes : x ≡ false → Told (Coded (drop row b)) (drop row b) false
      wrong-codes i = told_no R (λ c p. sym c.codes ∙ codes_are ∙ i)

      pub codes-told : n ≤ most_codes → x ≡ true → (r : Bool) → Told (Tail (drop row b)) (drop row b) r → Told (Coded (drop row b)) (drop row b) r
      unfolding codes_right_from
      codes-told l i r k = record {
        yes = λ t. record {
          codes = rw (le-leb (codes_count R) most_codes (omega (arith, codes-number))) (codes_are ∙ i);
          tail = k.yes t;
        };
        no = k.no;
      }

-- Its source: the characters from `r` on are still to be asked
pub record Asked (s : List ℕ) (row r : ℕ) : Type 0 where
  pub skipped : ℕ
  pub few : skipped ≤ 1
  pub place : r ≡ row + (6 + 3 * skipped)
  pub same : (n : ℕ) → 0 < n → all scalar (counted three_at 3 (n - skipped) (drop (6 + 3 * skipped) s)) ≡ all scalar (counted three_at 3 n (drop 6 s))

pub from_first : (s : List ℕ) (row : ℕ) → Asked s row (row + 6)
from_first s row = record {
  skipped = 0;
  few = omega arith;
  place = omega arith;
  same = λ n h. let e : n - 0 ≡ n = omega arith in rw e refl;
}

pub from_second : (s : List ℕ) (row c : ℕ) → c ≡ be3 s 6 → c < 0xD800 → Asked s row (row + 9)
from_second s row c e l = record {
  skipped = 1;
  few = omega arith;
  place = omega arith;
  same = λ n h. sym (ap (all scalar) (counted_some three_at 3 n 6 s h) ∙ (unfold all in rw known refl));
}
  where
    known : scalar (three_at (drop 6 s)) ≡ true
    known = ap scalar (sym (e ∙ three-there s 6)) ∙ (unfold scalar in rw (lt-ltb c 0xD800 l) refl)

-- A row with a wrong head
module _ (s : List ℕ) where
  not_right : (RuleChecked [] s → Placed s → true ≡ false) → false ≡ rule_right [] s
  not_right f = sym (refuted s f)

  ends_late : Placed s → 11 ≤ rule_size s
  ends_late p =
      let d = p.source in
      let e = p.least in
      let f = p.codes in
      let g = p.target in
      let h = p.end_target in
      let i = p.others in
      omega arith

  pub short_row : length s < 11 → false ≡ rule_right [] s
  short_row l = not_right (λ c p. let i = c.inside in let j = ends_late p in absurd (omega arith))

  pub cut_row : length s < rule_size s → false ≡ rule_right [] s
  cut_row l = not_right (λ c p. let i = c.inside in absurd (omega arith))

  pub high_flag : (x : ℕ) → x ≡ get_or s 2 0 → x < 256 → 127 < x → false ≡ rule_right [] s
  unfolding rule_flag flagged
  high_flag x e l h = not_right (λ c p. sym (eq-eqb (get_or s 2 0 / 128 % 2) 1 (omega arith)) ∙ c.high_bit)

  module _ (n : ℕ) (e : n ≡ get_or s 5 0) where
    pub no_source : n ≡ 0 → false ≡ rule_right [] s
    unfolding source_count
    no_source h = not_right (λ c p. let i = c.least in absurd (omega arith))

    pub long-source : most_source < n → false ≡ rule_right [] s
    unfolding source_count
    long-source h = not_right (λ c p. let i = c.most in absurd (omega arith))

    pub no_codes : rule_size s ≤ 6 + 3 * n → false ≡ rule_right [] s
    unfolding source_count codes_at
    no_codes h = not_right (λ c p.
        let f = p.codes in
        let g = p.target in
        let i = p.end_target in
        let j = p.others in
        absurd (omega arith))

-- The whole row, its parts told
module _ (b : List ℕ) (row n : ℕ) (g : n ≡ get_or (drop row b) 5 0) (h : 0 < n) where
  abbrev Q : List ℕ
  Q = drop row b

  module _ (codes : ℕ) (e : codes ≡ row + 6 + 3 * n) where
    pub codes-place : codes ≡ row + codes_at (drop row b)
    unfolding codes_at source_count
    codes-place = omega arith

    module _ (from : ℕ) (a : Asked (drop row b) row from) (x : Bool)
        (y : x ≡ all scalar (counted three_at 3 ((codes - from) / 3) (drop from b))) where
      scalars : all scalar (rule_source Q) ≡ x
      unfolding rule_source source_count
      scalars =
          let i = a.few in
          let j = a.place in
          let d : (codes - from) / 3 ≡ n - a.skipped = omega arith in
          sym (y ∙ ap (λ i. all scalar (counted three_at 3 i (drop from b))) d
          ∙ ap (λ l. all scalar (counted three_at 3 (n - a.skipped) l)) (here b row (6 + 3 * a.skipped) from j)
          ∙ a.same n h ∙ ap (λ i. all scalar (counted three_at 3 i (drop 6 Q))) g)

      pub wrong-source : x ≡ false → false ≡ rule_right [] (drop row b)
      wrong-source i = not_right (drop row b) (λ c p. sym c.scalars ∙ scalars ∙ i)

      pub row_told : x ≡ true → n ≤ most_source → rule_size (drop row b) ≤ length (drop row b) → get_or (drop row b) 2 0 < 128
          → (r : Bool) → Told (Coded (drop row b)) (drop row b) r → r ≡ rule_right [] (drop row b)
      unfolding rule_right fits_from source_right source_count rises rule_flag flagged
      row_told i m l u true k =
          let o = k.yes refl in
          let t = o.tail in
          sym (rw (
            held (rule_size Q) Q l,
            eq-eqb (others_end (others_at Q) Q) (rule_size Q) t.filled,
            ne_eqb (get_or Q 2 0 / 128 % 2) 1 (λ e. omega arith),
            le-leb 1 (get_or Q 5 0) (omega arith),
            le-leb (get_or Q 5 0) most_source (omega arith),
            scalars ∙ i,
            o.codes,
            t.target,
            t.end_target,
            t.others,
          ) refl)
      row_told i m l u false k = sym (k.no refl)
