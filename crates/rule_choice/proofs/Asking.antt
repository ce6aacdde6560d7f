-- Validity, where a flag asks a start of word and where none does: named on `cand_is_valid`, so that no answer there hangs
-- on the words of its condition.
use mathlib.Core.Bool.{true, false}
use mathlib.Core.Path.{◌≡◌}
use Prim.Native.Nat.{ℕ}
use Rattle.base.specs.Pick.{pick}
use Rattle.definition.specs.Texts.{Text}
use Rattle.definition.specs.Tables.{Rule, Lexicon}
use Rattle.definition.specs.Edges.{View, Mem, ret, ◌>>=◌}
use Rattle.definition.specs.Boundaries.{word_start, word_end}
use Rattle.definition.specs.Rules.{asks_start, holds_at, valid}

module _ (L : Lexicon) (t : Text) (v : View) (s e : ℕ) (r : Rule) (m : Mem) where
  pub valid_where_asked : asks_start r ≡ true → valid L t v s e r m
      ≡ (holds_at L.code (word_start L.classes t v s m).0 (word_end L.rules L.classes t e) r, (word_start L.classes t v s m).1)
  unfolding valid ret ◌>>=◌ pick
  valid_where_asked p = rw p

  pub valid_where_none_asked : asks_start r ≡ false → valid L t v s e r m
      ≡ (holds_at L.code false (word_end L.rules L.classes t e) r, m)
  unfolding valid ret ◌>>=◌ pick
  valid_where_none_asked p = rw p
