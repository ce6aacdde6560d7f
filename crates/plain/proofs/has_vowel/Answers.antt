-- `plain::has_vowel`: by the row that was found.
use Rattle.std.proofs.Common.{◌≡◌, ℕ, List, false, true≢false, refl, sym, ◌∙◌}
use Rattle.std.proofs.Math.Option.{none}
use Rattle.std.specs.Prelude as rust
use Rattle.std.specs.Option.{is_some}
use Rattle.table_vowels.specs.Told.{vowel_means}
use Rattle.table_vowels.specs.declared.VowelRow.{VowelRow}
use Rattle.plain.proofs.has_vowel.Goals as goal

without_row : (b : List ℕ) (k : ℕ) (o : rust.Option VowelRow) → is_some o ≡ false → vowel_means b k o ≡ none
unfolding vowel_means
without_row b k (rust.Some r) e = absurd (true≢false e)
without_row b k rust.None e = refl

pub returns : goal.returns
returns c =
    λ e. sym c.vowel_row.ensures.0 ∙ without_row c.args.vowels.now c.args.script c.vowel_row.result (sym c.is_some.ensures ∙ e)
