-- Rows of the commonest kind: one character, no codes, a target, no alternatives. What is asked of them is a handful of
-- tests; such a row is right.
use Rattle.std.specs.Prelude.{true, false, ◌≡◌, ℕ, ◌+◌, ◌/◌, ◌%◌, ◌-◌, ◌<◌, ◌≤◌, length, get_or, take, drop}
use Rattle.std.proofs.Math.Path.{refl, sym, ap}
use Rattle.std.proofs.Common.{◌∙◌, arith, length-drop}
use mathlib.Core.List.{List, [], ◌∷◌}
use Rattle.std.proofs.Math.Seq.{drop-drop}
use borrow.Author.Tests.{le-leb, lt-ltb, eq-eqb, ne_eqb}
use Rattle.base.specs.Big.{be3}
use Rattle.base.specs.Bits.{flagged}
use Rattle.base.specs.Lists.{all}
use Rattle.base.specs.Rows.{counted}
use Rattle.definition.specs.Limits.{most_target}
use Rattle.definition.specs.Texts.{Text}
use Rattle.definition.specs.Utf8.{scalar}
use Rattle.definition.specs.RuleRows.{codes_count_from, codes_from, codes_right_from, end_target_from, end_target_right_from, fits_from, others_from, target_from, target_right_from}
use Rattle.definition.specs.RuleRows.{printable, text_size, text_of, text_right, texts_size, texts_right, rule_size, rule_flag, zero_bit, target_bit}
use Rattle.definition.specs.RuleRows.{end_target_bit, source_count, codes_at, codes_count, target_at, past_text, end_target_at, others_at, others_end, others_right}
use Rattle.definition.specs.RuleRows.{rule_source, rule_fits, source_right, codes_right, target_right, end_target_right, rule_right}
use Rattle.rule_table_check.specs.Marks.{Rising}
use Rattle.table_blocks.specs.Held.{held}
use Rattle.definition.specs.There.{three-there, byte_there}

-- a plain row, and its end
pub record Plain (low : ℕ) (s : List ℕ) (row past : ℕ) : Type 0 where
  pub passed : past ≡ row + (12 + get_or s 10 0)
  pub long : 12 + get_or s 10 0 ≤ length s
  pub size : rule_size s ≡ 12 + get_or s 10 0
  pub one : source_count s ≡ 1
  pub codes : get_or s 9 0 ≡ 0
  pub flags : get_or s 2 0 / 32 ≡ 1
  pub most : get_or s 10 0 ≤ most_target
  pub others : get_or s (11 + get_or s 10 0) 0 ≡ 0
  pub least : low ≤ be3 s 6
  pub char : scalar (be3 s 6) ≡ true
  pub bytes : all printable (take (get_or s 10 0) (drop 11 s)) ≡ true

module _ (low : ℕ) (s : List ℕ) (row past : ℕ) (p : Plain low s row past) where
  source : rule_source s ≡ be3 s 6 ∷ []
  unfolding rule_source counted
  source = rw p.one (ap (λ c. c ∷ []) (sym (three-there s 6)))

  codes-place : codes_at s ≡ 9
  unfolding codes_at
  codes-place = rw p.one refl

  no_codes : codes_count s ≡ 0
  unfolding codes_count_from
  no_codes = rw codes-place p.codes

  target-place : target_at s ≡ 10
  unfolding target_from
  target-place = rw (no_codes, codes-place) refl

  on : rule_flag s target_bit ≡ true
  unfolding rule_flag flagged
  on = let f = p.flags in eq-eqb (get_or s 2 0 / 32 % 2) 1 (omega arith)

  no_end : rule_flag s end_target_bit ≡ false
  unfolding rule_flag flagged
  no_end = let f = p.flags in ne_eqb (get_or s 2 0 / 64 % 2) 1 (λ e. omega arith)

  no_high : rule_flag s zero_bit ≡ false
  unfolding rule_flag flagged
  no_high = let f = p.flags in ne_eqb (get_or s 2 0 / 128 % 2) 1 (λ e. omega arith)

  end-place : end_target_at s ≡ 11 + get_or s 10 0
  unfolding end_target_from past_text text_size
  end-place = rw (on, target-place) (let b = byte_there s 10 in omega arith)

  others-place : others_at s ≡ 11 + get_or s 10 0
  unfolding others_from past_text
  others-place = rw no_end end-place

  filled : others_end (others_at s) s ≡ rule_size s
  unfolding others_end texts_size
  filled = rw (others-place, p.others) (let z = p.size in omega arith)

  fits : rule_fits s ≡ true
  unfolding fits_from
  fits =
      let l = p.long in
      let z = p.size in
      rw (held (rule_size s) s (omega arith), eq-eqb (others_end (others_at s) s) (rule_size s) filled, no_high) refl

  sourced : (old : Text) → Rising old low → source_right old s ≡ true
  unfolding source_right all
  sourced old r = rw (p.one, source, p.char, r.above (be3 s 6) [] p.least) refl

  coded : codes_right s ≡ true
  unfolding codes_right_from codes_from counted all
  coded = rw no_codes refl

  targeted : target_right s ≡ true
  unfolding target_right_from text_right text_of
  targeted =
      rw (on, target-place, sym (byte_there s 10), drop-drop 1 10 s, le-leb (get_or s 10 0) most_target p.most) p.bytes

  ended : end_target_right s ≡ true
  unfolding end_target_right_from
  ended = rw no_end refl

  othered : others_right (others_at s) s ≡ true
  unfolding others_right texts_right
  othered = rw (others-place, p.others) refl

  pub plain-right : (old : Text) → Rising old low → true ≡ rule_right old s
  unfolding rule_right
  plain-right old r = sym (rw (fits, sourced old r, coded, targeted, ended, othered) refl)

-- 0 says nothing
pub not_plain : {low : ℕ} {s : List ℕ} {row : ℕ} → 0 < 0 → Plain low s row 0
not_plain e = absurd (omega arith)

-- a row is plain where the tests say so, each of what was read
module _ (b : List ℕ) (row low n c : ℕ) where
  pub told : n ≡ get_or (drop row b) 10 0 → 12 + n ≤ length b - row → rule_size (drop row b) ≡ 12 + n
      → source_count (drop row b) ≡ 1 → get_or (drop row b) 9 0 ≡ 0 → get_or (drop row b) 2 0 / 32 ≡ 1 → n ≤ most_target
      → get_or (drop row b) (11 + n) 0 ≡ 0 → low ≤ c → c ≡ be3 (drop row b) 6 → c < 0xD800
      → (from to : ℕ) → from ≡ row + 11 → to ≡ from + n
      → true ≡ all printable (take (to - from) (drop from b)) → Plain low (drop row b) row (to + 1)
  told e l z o k f m t w h g from to i j u =
      let d : to - from ≡ get_or (drop row b) 10 0 = omega arith in
      let y : drop from b ≡ drop 11 (drop row b) = ap (λ x. drop x b) i ∙ sym (drop-drop 11 row b) in
      record {
        passed = omega arith;
        long = omega (arith, length-drop row b);
        size = omega arith;
        one = o;
        codes = k;
        flags = f;
        most = omega arith;
        others = ap (λ x. get_or (drop row b) (11 + x) 0) (sym e) ∙ t;
        least = omega arith;
        char = ap scalar (sym h) ∙ (unfold scalar in rw (lt-ltb c 0xD800 g) refl);
        bytes = ap (λ x. all printable (take x (drop 11 (drop row b)))) (sym d)
            ∙ ap (λ x. all printable (take (to - from) x)) (sym y) ∙ sym u;
      }

pub plain-past : {low : ℕ} {s : List ℕ} {row past : ℕ} (old : Text) → Rising old low → Plain low s row past
    → (true ≡ rule_right old s) × (past ≡ row + rule_size s)
plain-past {low} {s} {row} {past} old h p =
    (plain-right low s row past p old h, p.passed ∙ ap (λ z. row + z) (sym p.size))
