-- What a right row has passed, test by test.
use Rattle.std.specs.Prelude.{true, false, not, ◌≡◌, List, [], ◌∷◌, ℕ, ◌≤◌, eqb, leb, length}
use Rattle.std.proofs.Common.{leb-true, eqb-true, eq-eqb}
use Rattle.std.proofs.lemmas.Bool.{not-true}
use Rattle.base.specs.Bools.{or_not}
use Rattle.base.specs.Lists.{all, holds}
use Rattle.base.specs.ListLaws.{holds-length}
use Rattle.base.specs.Alls.{conj-all}
use Rattle.definition.specs.Limits.{most_source, most_codes, most_script, most_vowel}
use Rattle.definition.specs.Texts.{Text, latin, the_space}
use Rattle.definition.specs.Utf8.{scalar}
use Rattle.definition.specs.Tables.{category_letter, category_Zs, script_none}
use Rattle.definition.specs.Blocks.{small}
use Rattle.definition.specs.RuleRows.{codes_right_from, fits_from}
use Rattle.definition.specs.RuleRows.{rule_size, rule_flag, zero_bit, source_count, rule_source, codes_count, rule_codes, others_at, others_end, rises}
use Rattle.definition.specs.RuleRows.{rule_fits, source_right, codes_right, target_right, end_target_right, others_right, rule_right}
use Rattle.definition.specs.ClassRows.{class_char, class_category, class_script, class_flags, class_fits, space_right, latin_right, class_right}
use Rattle.definition.specs.VowelRows.{vowel_size, vowel_script, vowel_type, vowel_length, vowel_letters, vowel_fits, letters_right, vowel_right}

-- A rule row, after the source `old`
pub record RuleChecked (old : Text) (s : List ℕ) : Type 0 where
  pub inside : rule_size s ≤ length s
  pub filled : others_end (others_at s) s ≡ rule_size s
  pub high_bit : rule_flag s zero_bit ≡ false
  pub least : 1 ≤ source_count s
  pub most : source_count s ≤ most_source
  pub scalars : all scalar (rule_source s) ≡ true
  pub risen : rises old (rule_source s) ≡ true
  pub few_codes : codes_count s ≤ most_codes
  pub codes : all (all small) (rule_codes s) ≡ true
  pub target : target_right s ≡ true
  pub end_target : end_target_right s ≡ true
  pub others : others_right (others_at s) s ≡ true

pub rule-checked : (old : Text) (s : List ℕ) → rule_right old s ≡ true → RuleChecked old s
unfolding rule_right fits_from source_right codes_right_from
rule-checked old s e =
    let a = conj-all (rule_fits s) (source_right old s ∷ codes_right s ∷ target_right s ∷ end_target_right s ∷ others_right (others_at s) s ∷ []) e in
    let f = conj-all (holds (rule_size s) s) (eqb (others_end (others_at s) s) (rule_size s) ∷ not (rule_flag s zero_bit) ∷ []) a.0 in
    let c = conj-all (leb 1 (source_count s)) (leb (source_count s) most_source ∷ all scalar (rule_source s) ∷ rises old (rule_source s) ∷ []) a.1.0 in
    let k = conj-all (leb (codes_count s) most_codes) (all (all small) (rule_codes s) ∷ []) a.1.1.0 in
    record {
      inside = holds-length (rule_size s) s f.0;
      filled = eqb-true (others_end (others_at s) s) (rule_size s) f.1.0;
      high_bit = not-true (rule_flag s zero_bit) f.1.1.0;
      least = leb-true 1 (source_count s) c.0;
      most = leb-true (source_count s) most_source c.1.0;
      scalars = c.1.1.0;
      risen = c.1.1.1.0;
      few_codes = leb-true (codes_count s) most_codes k.0;
      codes = k.1.0;
      target = a.1.1.1.0;
      end_target = a.1.1.1.1.0;
      others = a.1.1.1.1.1.0;
    }

-- A class row, from the character `low` on
pub record ClassChecked (low : ℕ) (s : List ℕ) : Type 0 where
  pub inside : 6 ≤ length s
  pub scalars : scalar (class_char s) ≡ true
  pub risen : low ≤ class_char s
  pub category : class_category s ≤ category_Zs
  pub script : class_script s ≤ most_script
  -- U+0020's row is plain: category 7, script 0, no flags
  pub space : class_char s ≡ the_space → (class_category s ≡ category_Zs) × (class_script s ≡ script_none) × (class_flags s ≡ 0)
  -- A-Z and a-z are letters
  pub latin : latin (class_char s) ≡ true → class_category s ≡ category_letter

pub class-checked : (low : ℕ) (s : List ℕ) → class_right low s ≡ true → ClassChecked low s
unfolding class_right class_fits space_right latin_right
class-checked low s e =
    let a = conj-all (class_fits low s) (space_right s ∷ latin_right s ∷ []) e in
    let f = conj-all (holds 6 s) (scalar (class_char s) ∷ leb low (class_char s) ∷ leb (class_category s) category_Zs ∷ leb (class_script s) most_script ∷ []) a.0 in
    record {
      inside = holds-length 6 s f.0;
      scalars = f.1.0;
      risen = leb-true low (class_char s) f.1.1.0;
      category = leb-true (class_category s) category_Zs f.1.1.1.0;
      script = leb-true (class_script s) most_script f.1.1.1.1.0;
      space = λ q.
          let p = conj-all (eqb (class_category s) category_Zs) (eqb (class_script s) script_none ∷ eqb (class_flags s) 0 ∷ [])
          (or_not (eqb (class_char s) the_space) _ (eq-eqb (class_char s) the_space q) a.1.0) in
          (eqb-true (class_category s) category_Zs p.0, eqb-true (class_script s) script_none p.1.0, eqb-true (class_flags s) 0 p.1.1.0);
      latin = λ q. eqb-true (class_category s) category_letter (or_not (latin (class_char s)) _ q a.1.1.0);
    }

-- A vowel row, from the script `low` on
pub record VowelChecked (low : ℕ) (s : List ℕ) : Type 0 where
  pub inside : vowel_size s ≤ length s
  pub risen : low ≤ vowel_script s
  pub script : vowel_script s ≤ most_script
  pub type : vowel_type s ≤ 1
  pub least : 1 ≤ vowel_length s
  pub most : vowel_length s ≤ most_vowel
  pub letters : all small (vowel_letters s) ≡ true

pub vowel-checked : (low : ℕ) (s : List ℕ) → vowel_right low s ≡ true → VowelChecked low s
unfolding vowel_right vowel_fits letters_right
vowel-checked low s e =
    let a = conj-all (vowel_fits low s) (letters_right s ∷ []) e in
    let f = conj-all (holds (vowel_size s) s) (leb low (vowel_script s) ∷ leb (vowel_script s) most_script ∷ leb (vowel_type s) 1 ∷ []) a.0 in
    let l = conj-all (leb 1 (vowel_length s)) (leb (vowel_length s) most_vowel ∷ all small (vowel_letters s) ∷ []) a.1.0 in
    record {
      inside = holds-length (vowel_size s) s f.0;
      risen = leb-true low (vowel_script s) f.1.0;
      script = leb-true (vowel_script s) most_script f.1.1.0;
      type = leb-true (vowel_type s) 1 f.1.1.1.0;
      least = leb-true 1 (vowel_length s) l.0;
      most = leb-true (vowel_length s) most_vowel l.1.0;
      letters = l.1.1.0;
    }
