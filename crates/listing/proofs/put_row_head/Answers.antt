-- `listing::put_row_head`: the eight bytes, put there.
use Rattle.base.specs.Big.{two}
use Rattle.listing.specs.Rows.{row_head}
use Rattle.listing.proofs.put_row_head.Goals as goal

pub returns : goal.returns
unfolding row_head two
returns c = c.put_at.ensures
