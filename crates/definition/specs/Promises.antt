-- What document 01 says of every accepted call: its text has 4,096 characters at most, its lattice 17 edges for each,
-- and each edge goes forward, lies within the text, and has a text of 606 bytes at most.
-- (Proved in proofs/Promises.)
use Rattle.std.specs.Prelude.{Bool, true, false, not, ◌&&◌, ◌||◌, ◌≡◌, List, ℕ, zero, suc, ◌/◌, ◌<◌, leb, get_or, drop}
use Rattle.std.proofs.Math.Option.{none}
use Rattle.std.proofs.Common.{arith, leb-true}
use Rattle.base.specs.Pick.{pick}
use Rattle.base.specs.Bools.{and_left, and_right}
use Rattle.base.specs.ListLaws.{take-most}
use Rattle.base.specs.Alls.{All, Opt, all-all}
use Rattle.definition.specs.Limits.{most_alternatives, most_target, most_vowel, slot_bytes}
use Rattle.definition.specs.Texts.{Text}
use Rattle.definition.specs.Blocks.{small}
use Rattle.definition.specs.RuleRows.{end_target_right_from, target_right_from}
use Rattle.definition.specs.RuleRows.{printable, text_of, text_right, texts_of, texts_right, rule_flag, target_bit, end_target_bit, target_at}
use Rattle.definition.specs.RuleRows.{end_target_at, others_at, others_of, others_right, text_where, rule_right}
use Rattle.definition.specs.RuleRows.{rule_of}
use Rattle.definition.specs.VowelRows.{vowel_length, vowel_letters, vowel_right, vowel_of}
use Rattle.definition.specs.Decomposing.{edges}
use Rattle.definition.specs.Capacity.{overflow}
use Rattle.definition.specs.Call.{Inputs, tables, decompositions, characters}
use Rattle.definition.specs.Checked.{rule-checked, vowel-checked}
use Rattle.definition.specs.Shorts.{Low, Short}
use Rattle.definition.specs.ExpandBounds.{Spoken}

-- Texts of a right row
below_128 : (low high c : ℕ) → high < 128 → (leb low c && leb c high) ≡ true → Low c
below_128 low high c l e = let z = leb-true c high (and_right (leb low c) _ e) in omega arith

text-short : (s : List ℕ) → text_right s ≡ true → Short most_target (text_of s)
unfolding text_right text_of printable
text-short s e = record {
  long = let z = leb-true (get_or s 0 0) most_target (and_left _ _ e) in let y = take-most (get_or s 0 0) (drop 1 s) in omega arith;
  low = all-all Low printable (λ c q. below_128 0x20 0x7E c (omega arith) q) _ (and_right (leb (get_or s 0 0) most_target) _ e);
}

texts-short : (n : ℕ) (s : List ℕ) → texts_right n s ≡ true → All (Short most_target) (texts_of n s)
unfolding texts_right texts_of
texts-short zero s e = tt
texts-short (suc n) s e = (text-short s (and_left _ _ e), texts-short n _ (and_right (text_right s) _ e))

where_short : (b : Bool) (s : List ℕ) → (not b || text_right s) ≡ true → Opt (Short most_target) (text_where b s)
unfolding text_where pick
where_short true s e = text-short s e
where_short false s e = tt

pub rule_spoken : (old : Text) (s : List ℕ) → rule_right old s ≡ true → Spoken (rule_of s)
unfolding rule_of target_right_from end_target_right_from others_right others_of
rule_spoken old s e =
    let c = rule-checked old s e in
    record {
      target = where_short (rule_flag s target_bit) (drop (target_at s) s) c.target;
      end_target = where_short (rule_flag s end_target_bit) (drop (end_target_at s) s) c.end_target;
      others = texts-short _ _ (and_right (leb (get_or s (others_at s) 0) most_alternatives) _ c.others);
    }

pub vowel-short : (low : ℕ) (s : List ℕ) → vowel_right low s ≡ true → Short most_vowel (vowel_of s).letters
unfolding vowel_of vowel_letters small
vowel-short low s e =
    let c = vowel-checked low s e in
    record {
      long = let z = c.most in let y = take-most (vowel_length s) (drop 3 s) in omega arith;
      low = all-all Low small (λ x q. below_128 97 122 x (omega arith) q) _ c.letters;
    }

-- A call whose edges find room: nothing overflows
abbrev pub Held : Inputs → Type 0
Held i = overflow (tables i) (decompositions i) (characters i) (i.slots / slot_bytes) i.room (edges (tables i) (decompositions i) (characters i)) ≡ none
