-- `plain::is_asked_behind`: none of the eight.
use Rattle.std.proofs.Common.{rules}
use Rattle.plain.specs.Ways.{none_asked}
use Rattle.plain.proofs.is_asked_behind.Goals as goal

pub returns-in_default : goal.returns-in_default
returns-in_default c =
    λ e. none_asked c.args.c (search rules) (search rules) (search rules) (search rules) (search rules) (search rules) (search rules) (search rules)
