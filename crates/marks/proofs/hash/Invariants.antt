-- `marks::hash`: from the hash so far, what is left gives the hash of the whole.
use Rattle.std.proofs.Common.{◌≡◌, ◌<◌, drop}
use Rattle.marks.specs.Marked.{hash_limit, hash_from, hash}
use Rattle.marks.proofs.hash.Given as goal

abbrev pub invariant-loop-b : goal.invariant-loop-b
invariant-loop-b l = (hash_from l.h (drop l.b-index l.w) ≡ hash l.w) × (l.h < hash_limit)
