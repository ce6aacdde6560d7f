-- `listing::put_header`: the five bytes, put there.
use Rattle.base.specs.Big.{two, three, four}
use Rattle.listing.proofs.put_header.Goals as goal

pub returns : goal.returns
unfolding two three four
returns c = c.put_at.ensures
