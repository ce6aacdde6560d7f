-- `romanize::print_edges` is safe and ends: a row has its two bytes of length at least.
use Rattle.std.proofs.Common.{◌-◌, length}
use Rattle.romanize.proofs.print_edges.Given as goal

abbrev pub decreases-loop-at : goal.decreases-loop-at
decreases-loop-at g l = length l.listing - l.at
