-- `plain::is_voiceless`: no vowel of the script that the line tells.
use Rattle.std.proofs.Common.{sym, ap, ◌∙◌, ◌+◌, ◌≤◌, arith, length}
use Rattle.std.proofs.lemmas.Bool.{not-true}
use Rattle.definition.specs.VowelRows.{vowels_of}
use Rattle.definition.specs.Vowels.{vowel_row}
use Rattle.words.specs.Given.{line-size}
use Rattle.words.specs.Characters.{script-here}
use Rattle.plain.specs.Ways.{voiceless}
use Rattle.plain.proofs.is_voiceless.Goals as goal

pub returns : goal.returns
returns c =
    let vs = vowels_of c.args.vowels.now in
    λ e x g.
    let h : c.args.span.from ≤ length x.text + 1 = omega (arith, c.args.span.forward, c.requires.1, line-size g) in
    let k = script-here g c.args.span.from h c.kind_at.ensures c.script-script.ensures in
    voiceless x c.args.span.from c.args.span.to vs (ap (vowel_row vs) (sym k) ∙ c.has_vowel.ensures (not-true c.has_vowel.result e))
