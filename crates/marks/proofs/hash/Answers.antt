-- `marks::hash`: from the hash so far, what is left gives the hash of the whole.
use Rattle.std.proofs.Common.{◌+◌, drop, sym, ap, ◌∙◌, arith}
use Rattle.marks.specs.Marked.{hash_from, hash-over, hash_on}
use Rattle.marks.proofs.hash.Goals as goal

pub loop-b-preserved : goal.loop-b-preserved
loop-b-preserved c =
    let w = c.args.w.now in
    let l = c.loop-b in
    let t = c.turn-h.ensures in
    (ap (λ h. hash_from h (drop (l.b-index + 1) w)) t.0 ∙ hash_on w l.h l.b-index (omega arith) ∙ l.invariant.0, t.1)

pub returns : goal.returns
returns c = sym (hash-over c.args.w.now c.loop-b.h c.loop-b.b-index (omega arith)) ∙ c.loop-b.invariant.0
