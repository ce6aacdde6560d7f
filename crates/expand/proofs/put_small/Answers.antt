-- `expand::put_small`: a target has 200 bytes at most, and one letter goes.
use mathlib.Core.List.{◌++◌}
use mathlib.Core.Path.{refl, ap, ◌∙◌}
use Prim.Native.Nat.{◌≤◌, ◌<◌}
use native.Mathlib.Omega.{arith}
use lib.ListN.{length, take, length-append}
use Rattle.definition.specs.Limits.{most_bytes}
use Rattle.definition.specs.Texts.{Text, without_last}
use Rattle.definition.specs.Notes.{note_exp}
use Rattle.definition.specs.Expansion.{work}
use Rattle.rom.specs.Rom.{rom, bytes-length, text-by, len_by, clean_by}
use Rattle.rule_choice.specs.Chosen.{chosen_means, or_nothing}
use Rattle.steps.proofs.Tries.{said-short}
use Rattle.steps.proofs.Letters.{all_but_last, one_less}
use Rattle.expand.proofs.put_small.Goals as goal

pub put_behind-len-requires : goal.put_behind-len-requires
put_behind-len-requires c =
    let b = c.args.bytes.now in
    let n = c.args.g.len in
    let w = take n b in
    let p = c.requires.1 in
    let f = p.fits in
    let fits : n ≤ length b = omega (arith, f, bytes-length p) in
    let e = c.keep-short.ensures ∙ ap rom (all_but_last b n c.requires.2 fits) in
    let l = one_less b n c.requires.2 fits in
    let h : length (without_last w) ≤ most_bytes = omega (arith, l, c.requires.3) in (
      clean_by (without_last w) e h,
      omega (arith, l, len_by (without_last w) e, c.requires.3, ap length c.chosen_text.ensures, said-short c.args.rules.now c.args.target c.requires.0),
    )

pub returns : goal.returns
returns c =
    let b = c.args.bytes.now in
    let n = c.args.g.len in
    let w = take n b in
    let p = c.requires.1 in
    let f = p.fits in
    let fits : n ≤ length b = omega (arith, f, bytes-length p) in
    let e = c.keep-short.ensures ∙ ap rom (all_but_last b n c.requires.2 fits) in
    let l = one_less b n c.requires.2 fits in
    let h : length (without_last w) ≤ most_bytes = omega (arith, l, c.requires.3) in
    let o = chosen_means c.args.rules.now c.args.target in
    let new = without_last w ++ or_nothing o in
    let d = c.put_behind-len.ensures ∙ ap (λ (y : Text). rom (y ++ c.chosen_text.result.now)) (text-by (without_last w) e h)
    ∙ ap (λ (y : Text). rom (without_last w ++ y)) c.chosen_text.ensures in
    let k : length new < most_bytes = omega (arith, length-append (without_last w) (or_nothing o), l, c.requires.3, said-short c.args.rules.now c.args.target c.requires.0) in (
      ap (λ (y : Text). work y c.args.g.from c.args.to note_exp) (text-by new d (omega (arith, k))),
      clean_by new d (omega (arith, k)),
      omega (arith, k, len_by new d),
      refl,
      refl,
    )
