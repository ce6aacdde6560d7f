-- `rom::bytes_of`: the text, and what is left of the zeros behind it.
use Rattle.rom.proofs.Writes.{over_zeros}
use Rattle.rom.proofs.bytes_of.Goals as goal

pub returns : goal.returns
returns c =
    let w = c.args.s.now in
    over_zeros _ w c.put_text.ensures
