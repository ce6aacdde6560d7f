-- `decomp_line::lay_out`: the middle of the line is lent, and comes back with the characters; then spaces and classes.
use Prim.Native.Nat.{◌+◌, ◌-◌, ◌*◌}
use mathlib.Core.Path.{◌≡◌, sym, ◌∙◌}
use native.Mathlib.Omega.{arith}
use lib.ListN.{length, drop}
use Rattle.definition.specs.DecompositionRows.{decomposition_into}
use Rattle.definition.specs.DecompositionLaws.{into-length}
use Rattle.decomp_line.specs.Rows.{laid_out}
use Rattle.decomp_line.proofs.lay_out.Goals as goal

pub returns : goal.returns
returns c =
    let long : (c.count-n.result) ≡ length ((decomposition_into ((drop c.args.row c.args.table.now)))) = c.count-n.ensures.0 ∙ sym (into-length ((drop c.args.row c.args.table.now))) in
    let full : length c.args.line.now ≡ 2 * (c.count-n.result + 3) = omega (arith, c.requires.1, c.count-n.ensures.0) in
    laid_out c.args.line.now ((decomposition_into ((drop c.args.row c.args.table.now)))) c.put_characters.new.chars c.count-n.result (1 + c.count-n.result - 1) (long) (omega arith) (full) c.put_characters.ensures _ _ c.classify.ensures
