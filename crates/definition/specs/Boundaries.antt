-- Start of word and end of word (`word_boundaries.rs`). End of syllable needs rule choice, and is in Syllables.
-- A position outside the text reads as a space, which in an accepted table is no letter or mark (Blank).
use Rattle.std.specs.Prelude.{Bool, not, ◌&&◌, List, ℕ, zero, suc, eqb, get_or}
use Rattle.base.specs.Lists.{any, is}
use Rattle.definition.specs.Texts.{Text, at, prev, fits}
use Rattle.definition.specs.Tables.{Rule, Class}
use Rattle.definition.specs.Classes.{alpha}
use Rattle.definition.specs.Edges.{View, M, ret, remember}

-- does a source stand here whose rule, unless it asks a start of word, brings a letter or mark?
-- (the Rust's rising ends reach the same sources, as none is empty)
unfoldable pub goes_on : List Class → Text → ℕ → Rule → Bool
goes_on ks t p r = not r.start_only && is (any (alpha ks)) r.target && fits t r.source p

-- `is_at_end_of_word`: no letter or mark next, and no source from here that brings one.
-- The Rust's loop over nuktas can't run: a nonspacing mark has already answered
unfoldable pub word_end : List Rule → List Class → Text → ℕ → Bool
word_end rs ks t p = not (alpha ks (at t p)) && not (any (goes_on ks t p) rs)

module _ (ks : List Class) (t : Text) (v : View) where
  -- no letter or mark before, and no edge ending here whose text ends in one
  unfoldable pub fresh : ℕ → Bool
  fresh p = not (alpha ks (prev t p)) && not (v.letter p)

  -- by what is remembered: 0 is asked now, and remembered
  unfoldable pub recall : ℕ → ℕ → M Bool
  recall p zero = remember p (fresh p)
  recall p (suc k) = ret (eqb k 0)

  -- `is_at_start_of_word`: worked out at first asking; a later edge doesn't change it
  unfoldable pub word_start : ℕ → M Bool
  word_start p = λ m. recall p (get_or m p 0) m
