-- `steps::put_front`
use mathlib.Core.List.{◌∷◌}
use mathlib.Core.Path.{ap}
use Prim.Native.Nat.{◌-◌}
use native.Mathlib.Omega.{arith}
use lib.ListN.{take}
use Rattle.definition.specs.Texts.{Text}
use Rattle.definition.specs.Notes.{note_exp}
use Rattle.definition.specs.Expansion.{work}
use Rattle.rom.specs.Rom.{text-length, text-by, len_by, clean_by}
use Rattle.steps.proofs.put_front.Goals as goal

pub returns : goal.returns
returns c =
    let l = text-length c.requires.0 in
    let new = c.args.letter ∷ take c.args.g.len c.args.bytes.now in
    let e = c.put_front-len.ensures in
    (ap (λ (x : Text). work x (c.args.g.from - 1) c.args.g.to note_exp) (text-by new e (omega arith)), clean_by new e (omega arith), omega (arith, len_by new e))
