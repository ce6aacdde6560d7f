-- `expand::put_grave`
use mathlib.Core.List.{◌∷◌}
use mathlib.Core.Path.{refl, ap}
use native.Mathlib.Omega.{arith}
use lib.ListN.{take}
use Rattle.definition.specs.Texts.{Text, letter_e}
use Rattle.definition.specs.Notes.{note_exp}
use Rattle.definition.specs.Expansion.{work}
use Rattle.rom.specs.Rom.{text-length, text-by, len_by, clean_by}
use Rattle.expand.proofs.put_grave.Goals as goal

pub returns : goal.returns
returns c =
    let l = text-length c.requires.0 in
    let new = letter_e ∷ take c.args.g.len c.args.bytes.now in
    let e = c.put_front-len.ensures in
    (ap (λ (x : Text). work x c.args.g.from c.args.to note_exp) (text-by new e (omega arith)), clean_by new e (omega arith), omega (arith, len_by new e), refl, refl)
