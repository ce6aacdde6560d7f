-- `ends::stem`: the last byte is a hyphen or not, if there is one.
use native.Mathlib.Omega.{arith}
use Rattle.ends.specs.Ends.{stem-empty, stem-hyphen, stem-plain}
use Rattle.ends.proofs.stem.Goals as goal
use Rattle.ends.proofs.stem.Goals.{else-n-gt0-via-then-n-gt0+else-byte-eq45, else-n-gt0-via-else-n-gt0}

pub returns-then-byte-eq45 : goal.returns-then-byte-eq45
returns-then-byte-eq45 c = let s = c.args.s.now in (stem-hyphen s (omega arith) (omega arith), omega arith)

pub returns : goal.returns
returns c =
    let s = c.args.s.now in
    elim c.else-n-gt0.branch [
      | else-n-gt0-via-then-n-gt0+else-byte-eq45 w ↦ (stem-plain s (omega arith) (λ z. w.if-byte-eq45.false (omega arith)), omega arith)
      | else-n-gt0-via-else-n-gt0 w ↦ (stem-empty s (omega arith), omega arith)
    ]
