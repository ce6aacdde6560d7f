-- `rom::make_small`: all behind the first is made small.
use Rattle.std.proofs.Common.{refl, arith}
use Rattle.definition.specs.Expansion.{capitalized}
use Rattle.rom.specs.Rom.{bytes-length}
use Rattle.rom.proofs.Writes.{unchanged}
use Rattle.rom.proofs.Capitals.{made_small}
use Rattle.rom.proofs.make_small.Goals as goal

pub returns-then-n-eq0 : goal.returns-then-n-eq0
unfolding capitalized
returns-then-n-eq0 c = unchanged c.args.bytes.now c.args.n c.requires capitalized refl (omega arith)

pub slice_bounds-make_ascii_lowercase-end : goal.slice_bounds-make_ascii_lowercase-end
slice_bounds-make_ascii_lowercase-end c = omega (arith, c.requires.fits, bytes-length c.requires)

pub returns : goal.returns
returns c = made_small c.args.bytes.now c.args.n c.requires (omega arith) c.make_ascii_lowercase.new.self c.make_ascii_lowercase.ensures.after
