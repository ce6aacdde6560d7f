-- `utf8_vectors::are_chars`: each place is as given, or one is not.
use mathlib.Core.Path.{◌≡◌}
use lib.ListN.{drop}
use Rattle.utf8_vectors.specs.Given.{are_places}
use Rattle.utf8_vectors.proofs.are_chars.Given as goal

abbrev pub invariant-loop-i : goal.invariant-loop-i
invariant-loop-i l = are_places l.input l.at l.count l.i (drop l.i l.chars) ≡ are_places l.input l.at l.count 0 l.chars
