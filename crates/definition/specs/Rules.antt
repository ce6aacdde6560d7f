-- Choosing a rule (`rules.rs`).
use Rattle.std.specs.Prelude.{Bool, true, false, not, ◌&&◌, ◌||◌, List, [], ◌∷◌, ℕ, ◌+◌, ◌-◌, eqb, ltb, length}
use Rattle.std.proofs.Math.Option.{Option}
use Rattle.base.specs.Pick.{pick}
use Rattle.base.specs.Lists.{put, keep, any, head, or_else, has, bind, best, same}
use Rattle.definition.specs.Texts.{Text, fits, begins}
use Rattle.definition.specs.Tables.{Rule, Lexicon}
use Rattle.definition.specs.Edges.{View, M, ret, ◌>>=◌}
use Rattle.definition.specs.Boundaries.{word_start, word_end}

-- is the source just what stands from `s` to `e`? (so spans past the text have no rule)
unfoldable pub spans : Text → ℕ → ℕ → Rule → Bool
spans t s e r = eqb (s + length r.source) e && fits t r.source s

-- `is_s_prefix`: is what stands from `s` to `e` a prefix of a source?
unfoldable pub is_prefix : List Rule → Text → ℕ → ℕ → Bool
is_prefix rs t s e = any (λ r. begins t r.source s (e - s)) rs

-- a higher restriction count
unfoldable pub higher : Rule → Rule → Bool
higher x y = ltb y.count x.count

-- has the rule a target?
unfoldable pub targeted : Rule → Bool
targeted r = has r.target

-- the earliest of the highest count among those with a target; without any, among all
unfoldable pub winner : List Rule → Option Rule
winner rs = or_else (best higher (keep targeted rs)) (best higher rs)

-- `romanization_by_first_rule`: the target of the first row with this source, whatever its codes and flags
unfoldable pub first_rule : List Rule → Text → Option Text
first_rule rs w = bind (head (keep (λ r. same r.source w) rs)) (λ r. r.target)

-- `matches_lcode`: the rule has no codes, or the language code is one of them
unfoldable pub lang : Text → Rule → Bool
lang code r = not (any (λ c. true) r.codes) || any (same code) r.codes

-- does a flag ask the start of word?
unfoldable pub asks_start : Rule → Bool
asks_start r = r.start_only || r.not_start || r.whole_word

-- do code and word flags hold, where the span is at a start of word (`b`) and at an end (`w`)?
unfoldable pub holds_at : Text → Bool → Bool → Rule → Bool
holds_at code b w r =
    lang code r
    && (not r.start_only || b) && (not r.not_start || not b)
    && (not r.end_only || w) && (not r.not_end || not w)
    && (not r.whole_word || (b && w))

module _ (L : Lexicon) (t : Text) (v : View) where
  -- `cand_is_valid`. The start is asked, and so remembered, only where a flag asks it,
  -- but then also under a foreign language code. The end is remembered nowhere: it never changes
  unfoldable pub valid : ℕ → ℕ → Rule → M Bool
  valid s e r = do
    b ← pick (asks_start r) (word_start L.classes t v s) (ret false)
    ret (holds_at L.code b (word_end L.rules L.classes t e) r)

  unfoldable pub sift : ℕ → ℕ → List Rule → M (List Rule)
  sift s e [] = ret []
  sift s e (r ∷ rs) = do
    b ← valid s e r
    l ← sift s e rs
    ret (put b r l)

  -- the valid rules of a span, in row order
  unfoldable pub valids : ℕ → ℕ → M (List Rule)
  valids s e = sift s e (keep (spans t s e) L.rules)

  -- the rule that wins a span
  unfoldable pub choose : ℕ → ℕ → M (Option Rule)
  choose s e = do
    rs ← valids s e
    ret (winner rs)

  -- `simple_top_romanization_candidate_for_span`, simple search: the winner's target
  unfoldable pub simple : ℕ → ℕ → M (Option Text)
  simple s e = do
    o ← choose s e
    ret (bind o (λ r. r.target))
