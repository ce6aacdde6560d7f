-- `syllables::starts_with_vowel`: no text starts with none, and another with its first byte.
use mathlib.Core.Path.{ap, ◌∙◌}
use native.Mathlib.Omega.{arith}
use Rattle.std.proofs.lemmas.Grind.{common_steps}
use mathlib.Core.Bool.{not}
use Rattle.definition.specs.Texts.{vowels}
use Rattle.rom.specs.Sets.{in_vowels}
use Rattle.syllables.specs.Sounds.{none-opens, first-opens}
use Rattle.syllables.proofs.starts_with_vowel.Goals as goal

pub returns-else-not-is_empty : goal.returns-else-not-is_empty
returns-else-not-is_empty c = ap not c.if-not-is_empty.false ∙ none-opens c.args.text.now (grind (arith, common_steps))

pub returns-then-not-is_empty : goal.returns-then-not-is_empty
returns-then-not-is_empty c =
    c.is_in.ensures ∙ in_vowels c.lower.result ∙ ap vowels c.lower.ensures
    ∙ first-opens c.args.text.now
