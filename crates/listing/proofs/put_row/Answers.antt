-- `listing::put_row`: the text stands behind the head.
use Prim.Native.Nat.{◌+◌}
use mathlib.Core.Path.{refl, ap, ◌∙◌}
use native.Mathlib.Omega.{arith}
use lib.ListN.{length}
use Rattle.lent_bytes.specs.Puts.{put_at}
use Rattle.definition.specs.Listing.{row_head_bytes}
use Rattle.listing.proofs.Heads.{row_put}
use Rattle.listing.proofs.put_row.Goals as goal

pub returns : goal.returns
returns c =
    let text = c.args.text.now in record {
      end = refl;
      row = c.put_at.ensures ∙ ap (put_at (c.args.at + row_head_bytes) text) c.put_row_head.ensures
          ∙ row_put c.args.at c.args.e (length text) text text c.args.out.now refl (omega arith);
    }
