-- `table_vowels::vowel_right`: a row that fits has its letters inside.
use mathlib.Core.Path.{sym, ◌∙◌}
use lib.ListN.{drop}
use Rattle.table_vowels.proofs.VowelTests.{fits_inside}
use Rattle.table_vowels.proofs.vowel_right.Goals as goal

pub letters_right-requires : goal.letters_right-requires
letters_right-requires c =
    fits_inside (drop c.args.row c.args.vowels.now) c.args.low (sym c.if-vowel_fits.true ∙ c.vowel_fits.ensures)
