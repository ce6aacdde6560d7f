-- `listing::put_edge_text`: the bytes in the room are those of the text.
use Prim.Native.Nat.{ℕ, ◌+◌}
use mathlib.Core.List.{List}
use mathlib.Core.Path.{◌≡◌, sym, ap, ◌∙◌}
use native.Mathlib.Omega.{arith}
use lib.ListN.{length, drop}
use Rattle.definition.specs.Utf8.{encoded}
use Rattle.definition.specs.Capacity.{bytes}
use Rattle.lent_bytes.specs.Puts.{put_at}
use Rattle.edge.specs.Slots.{edge_of}
use Rattle.edge.specs.Stored.{slot-encoded}
use Rattle.listing.proofs.put_edge_text.Goals as goal

pub put_at-requires : goal.put_at-requires
unfolding bytes
put_at-requires c =
    let room = c.args.room.now in
    let s = drop c.args.slot c.args.slots.now in
    let e = c.edge_text-text.ensures ∙ sym (slot-encoded room s (length room) c.requires.0 (omega arith)) in
    omega (arith, c.requires.1, ap length e)

pub returns : goal.returns
unfolding bytes
returns c =
    let room = c.args.room.now in
    let s = drop c.args.slot c.args.slots.now in
    let w = c.edge_text-text.result.now in
    let e : w ≡ encoded (edge_of room s).text = c.edge_text-text.ensures ∙ sym (slot-encoded room s (length room) c.requires.0 (omega arith)) in record {
      end = ap (λ (l : List ℕ). c.args.at + length l) e;
      text = c.put_at.ensures ∙ ap (λ (l : List ℕ). put_at c.args.at l c.args.out.now) e;
    }
