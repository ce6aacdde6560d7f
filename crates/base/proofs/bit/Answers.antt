use Rattle.base.specs.Bits.{by-shift}
use Rattle.base.proofs.bit.Goals as goal

pub returns : goal.returns
returns c = by-shift c.args.flags c.args.k
