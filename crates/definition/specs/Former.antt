-- Tables that were made for a shorter limit: a rule table whose texts keep a limit is accepted under any that is no less. Which rules a
-- table has (`rules_of`) no limit tells, so these are the same.
-- (Proved in proofs/Former.)
use Rattle.std.specs.Prelude.{Bool, true, false, not, ◌&&◌, ◌||◌, ◌≡◌, List, [], ◌∷◌, leb, get_or, drop}
use Rattle.std.proofs.Math.Path.{refl}
use Rattle.std.proofs.Common.{ap, arith}
use Prim.Native.Nat.{ℕ, zero, suc, ◌+◌, ◌≤◌}
use borrow.Author.Tests.{leb-true, le-leb}
use Rattle.base.specs.Bools.{and_left, and_right}
use Rattle.base.specs.Lists.{all}
use Rattle.base.specs.Alls.{conj-all}
use Rattle.definition.specs.Limits.{most_rows, most_alternatives, most_target}
use Rattle.definition.specs.Texts.{Text}
use Rattle.definition.specs.Blocks.{head_bytes, version_1, headed}
use Rattle.definition.specs.RuleRows.{printable, text_size, text_of, text_right, texts_right, rule_flag, target_bit, end_target_bit, target_at, end_target_at, others_at}
use Rattle.definition.specs.RuleRows.{rule_fits, source_right, codes_right, target_right_from, end_target_right_from, others_right, rule_right, rule_size, rule_source}
use Rattle.definition.specs.BlockTurns.{Chain, ended, linked}

-- Bytes of a target text, at most, before document 02's tenth request
abbrev pub former_target : ℕ
former_target = 64

-- A right row (RuleRows) with texts of `most` bytes at most
unfoldable pub text_within : ℕ → List ℕ → Bool
text_within most s = leb (get_or s 0 0) most && all printable (text_of s)

unfoldable pub texts_within : ℕ → ℕ → List ℕ → Bool
texts_within most zero s = true
texts_within most (suc n) s = text_within most s && texts_within most n (drop (text_size s) s)

unfoldable pub rule_within : ℕ → Text → List ℕ → Bool
rule_within most old s =
    rule_fits s && source_right old s && codes_right s
    && (not (rule_flag s target_bit) || text_within most (drop (target_at s) s))
    && (not (rule_flag s end_target_bit) || text_within most (drop (end_target_at s) s))
    && (leb (get_or s (others_at s) 0) most_alternatives && texts_within most (get_or s (others_at s) 0) (drop (others_at s + 1) s))

-- A table that is accepted with texts of `most` bytes at most
pub record Accepted_within (most : ℕ) (b : List ℕ) : Type 0 where
  pub header : headed version_1 b ≡ true
  pub rows : Chain rule_size rule_source (rule_within most) most_rows [] (drop head_bytes b)

-- With the limit that there is now, a right row is just that
texts_now : (n : ℕ) (s : List ℕ) → texts_within most_target n s ≡ texts_right n s
unfolding texts_within texts_right text_within text_right
texts_now zero s = refl
texts_now (suc n) s = ap (λ (b : Bool). (leb (get_or s 0 0) most_target && all printable (text_of s)) && b) (texts_now n (drop (text_size s) s))

pub row_now : (old : Text) (s : List ℕ) → rule_within most_target old s ≡ rule_right old s
unfolding rule_within rule_right text_within text_right target_right_from end_target_right_from others_right
row_now old s = rw (texts_now (get_or s (others_at s) 0) (drop (others_at s + 1) s))

-- What keeps a limit keeps any that is no less
module _ (m n : ℕ) (l : m ≤ n) where
  text_wider : (s : List ℕ) → text_within m s ≡ true → text_within n s ≡ true
  unfolding text_within
  text_wider s e =
      let h = leb-true (get_or s 0 0) m (and_left _ _ e) in
      rw (le-leb (get_or s 0 0) n (omega arith)) (and_right (leb (get_or s 0 0) m) _ e)

  texts_wider : (k : ℕ) (s : List ℕ) → texts_within m k s ≡ true → texts_within n k s ≡ true
  unfolding texts_within
  texts_wider zero s e = refl
  texts_wider (suc k) s e = rw (text_wider s (and_left _ _ e)) (texts_wider k (drop (text_size s) s) (and_right (text_within m s) _ e))

  if_wider : (b : Bool) (s : List ℕ) → (not b || text_within m s) ≡ true → (not b || text_within n s) ≡ true
  if_wider true s e = text_wider s e
  if_wider false s e = refl

  pub row_wider : (old : Text) (s : List ℕ) → rule_within m old s ≡ true → rule_within n old s ≡ true
  unfolding rule_within
  row_wider old s e =
      let a = conj-all (rule_fits s) (source_right old s ∷ codes_right s ∷ (not (rule_flag s target_bit) || text_within m (drop (target_at s) s))
      ∷ (not (rule_flag s end_target_bit) || text_within m (drop (end_target_at s) s))
      ∷ (leb (get_or s (others_at s) 0) most_alternatives && texts_within m (get_or s (others_at s) 0) (drop (others_at s + 1) s)) ∷ []) e in
      let others = a.1.1.1.1.1.0 in
      rw (
        a.0,
        a.1.0,
        a.1.1.0,
        if_wider (rule_flag s target_bit) (drop (target_at s) s) a.1.1.1.0,
        if_wider (rule_flag s end_target_bit) (drop (end_target_at s) s) a.1.1.1.1.0,
        and_left (leb (get_or s (others_at s) 0) most_alternatives) (texts_within m (get_or s (others_at s) 0) (drop (others_at s + 1) s)) others,
      )
      (texts_wider (get_or s (others_at s) 0) (drop (others_at s + 1) s) (and_right (leb (get_or s (others_at s) 0) most_alternatives) _ others))

-- rows of one kind are rows of another that asks no more
pub chain_wider : (P Q : Text → List ℕ → Bool) → ((k : Text) (s : List ℕ) → P k s ≡ true → Q k s ≡ true)
    → {n : ℕ} {k : Text} {s : List ℕ} → Chain rule_size rule_source P n k s → Chain rule_size rule_source Q n k s
chain_wider P Q f (ended e) = ended e
chain_wider P Q f (linked {n} {k} {s} p c) = linked (f k s p) (chain_wider P Q f c)
