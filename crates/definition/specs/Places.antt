-- Where the parts of a right row lie: one after another, all within the row, and the row within the block.
use Rattle.std.specs.Prelude.{Bool, true, false, ◌≡◌, refl, List, ℕ, ◌+◌, ◌*◌, ◌≤◌, ◌<◌, length}
use Rattle.std.proofs.Common.{arith}
use Rattle.definition.specs.Limits.{most_source}
use Rattle.definition.specs.Texts.{Text}
use Rattle.definition.specs.RuleRows.{target_from, end_target_from, others_from}
use Rattle.definition.specs.RuleRows.{rule_size, rule_flag, target_bit, end_target_bit, source_count, codes_at, codes_count, target_at, past_text}
use Rattle.definition.specs.RuleRows.{end_target_at, others_at, others_end, rule_right}
use Rattle.definition.specs.Checked.{rule-checked}

past_far : (b : Bool) (o : ℕ) (s : List ℕ) → o ≤ past_text b o s
unfolding past_text
past_far true o s = omega arith
past_far false o s = omega arith

-- A rule row
pub record Placed (s : List ℕ) : Type 0 where
  pub row : rule_size s ≤ length s
  pub source : codes_at s ≡ 6 + 3 * source_count s
  pub least : 1 ≤ source_count s
  pub most : source_count s ≤ most_source
  pub codes : target_at s ≡ codes_at s + 1 + 3 * codes_count s
  pub target : target_at s ≤ end_target_at s
  pub end_target : end_target_at s ≤ others_at s
  pub others : others_at s < rule_size s
  pub last : others_end (others_at s) s ≡ rule_size s

others_far : (o : ℕ) (s : List ℕ) → o < others_end o s
unfolding others_end
others_far o s = omega arith

pub rule_placed : (old : Text) (s : List ℕ) → rule_right old s ≡ true → Placed s
rule_placed old s e =
    let c = rule-checked old s e in
    let y = others_far (others_at s) s in
    record {
      row = c.inside;
      source = unfold codes_at in refl;
      least = c.least;
      most = c.most;
      codes = unfold target_from in refl;
      target = unfold end_target_from in past_far (rule_flag s target_bit) (target_at s) s;
      end_target = unfold others_from in past_far (rule_flag s end_target_bit) (end_target_at s) s;
      others = let z = c.filled in omega arith;
      last = c.filled;
    }
