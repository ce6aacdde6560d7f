-- `rom::lower`: the library's small letter.
use Rattle.std.proofs.Common.{◌∙◌}
use Rattle.rom.proofs.Capitals.{lower_is}
use Rattle.rom.proofs.lower.Goals as goal

pub returns : goal.returns
returns c = c.to_ascii_lowercase.ensures.value ∙ lower_is c.args.c
