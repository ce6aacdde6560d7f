-- `listing::put_other`: the row where it fits, or its length alone.
use Prim.Native.Nat.{◌+◌}
use mathlib.Core.Path.{◌≡◌, sym, ap, ◌∙◌}
use native.Mathlib.Omega.{arith}
use lib.ListN.{length}
use Rattle.lent_bytes.specs.Puts.{put_at}
use Rattle.edge.specs.Slots.{edge_by}
use Rattle.definition.specs.Listing.{row_head_bytes}
use Rattle.listing.specs.Rows.{row_of, row_length, row_by, size-by}
use Rattle.listing.specs.Items.{put-fits, put_misses}
use Rattle.listing.proofs.put_other.Goals as goal

pub returns-then-out-end : goal.returns-then-out-end
returns-then-out-end c =
    let w = c.args.text.now in
    let x = edge_by c.args.e w in
    let end = c.args.at + row_head_bytes + length w in
    let e : end ≡ c.args.at + length (row_of x) = omega (arith, row_length x, size-by c.args.e w c.requires.1) in
    put_misses (row_of x) c.args.at end c.args.out.now e (omega arith)

pub returns : goal.returns
returns c =
    let w = c.args.text.now in
    let x = edge_by c.args.e w in
    put-fits (row_of x) c.args.at c.put_row.result c.args.out.now (omega (arith, c.put_row.ensures.end, row_length x, size-by c.args.e w c.requires.1))
    c.put_row.new.out (omega (arith, c.put_row.ensures.end))
    (c.put_row.ensures.row ∙ ap (λ b. put_at c.args.at b c.args.out.now) (sym (row_by c.args.e w c.requires.1)))
