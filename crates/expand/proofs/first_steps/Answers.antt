-- `expand::first_steps`: where letters were made small none is doubled, and else doubling is asked of the romanization as it is.
use mathlib.Core.List.{List}
use mathlib.Core.Path.{refl, sym, ap, ◌∙◌}
use native.Mathlib.Omega.{arith}
use lib.ListN.{length, take}
use Prim.Native.Nat.{ℕ, ◌≤◌}
use Rattle.definition.specs.Limits.{most_bytes}
use Rattle.definition.specs.Notes.{note_none}
use Rattle.definition.specs.Expansion.{work, capitalized, double}
use Rattle.definition.specs.Capitals.{capitalized-length}
use Rattle.definition.proofs.Capitals.{capitals_undoubled}
use Rattle.rom.specs.Rom.{text-length, text-by, clean_by}
use Rattle.words.specs.Given.{kinds}
use Rattle.words.specs.Choosing.{choices_of}
use Rattle.capitals.specs.Spans.{over}
use Rattle.capitals.specs.Ways.{acts, stays}
use Rattle.expand.proofs.first_steps.Goals as goal

pub returns-then-makes_small : goal.returns-then-makes_small
returns-then-makes_small c =
    let old = take c.args.n c.args.bytes.now in
    let w = capitalized old in
    let M = c.make_small.ensures in
    let long : length w ≤ most_bytes = omega (arith, capitalized-length old, text-length c.requires.0, c.requires.1) in (
      (λ x h.
          let told = sym c.if-makes_small.true ∙ c.makes_small.ensures x h in
          ap (λ (v : List ℕ). work v c.args.span.from c.args.span.to note_none) (text-by w M long)
          ∙ sym (capitals_undoubled (choices_of c.args.choices) (kinds x) x.text c.args.span.from (over c.args.span old) (sym told))
          ∙ ap (double (kinds x) x.text c.args.span.from) (acts (choices_of c.args.choices) (kinds x) x.text (over c.args.span old) told)),
      clean_by w M long,
      omega arith,
      omega arith,
      refl,
    )

pub returns : goal.returns
returns c =
    let old = take c.args.n c.args.bytes.now in (
      (λ x h.
          let kept = stays (choices_of c.args.choices) (kinds x) x.text (over c.args.span old) (sym c.if-makes_small.false ∙ c.makes_small.ensures x h) in
          c.doubling.ensures.0 x h ∙ ap (double (kinds x) x.text c.args.span.from) kept),
      c.doubling.ensures.1,
      c.doubling.ensures.2,
      c.doubling.ensures.3,
      c.doubling.ensures.4,
    )
