-- `listing::put_edge_row`: the head with the numbers from the slot, and the text behind it.
use Prim.Native.Nat.{◌+◌}
use mathlib.Core.Path.{◌≡◌, sym, ap, ◌∙◌}
use native.Mathlib.Omega.{arith}
use lib.ListN.{length, drop}
use Rattle.definition.specs.Utf8.{encoded}
use Rattle.definition.specs.Capacity.{bytes}
use Rattle.lent_bytes.specs.Puts.{put_at}
use Rattle.edge.specs.Slots.{bytes_of, numbers_of, edge_of}
use Rattle.edge.specs.Stored.{slot-size}
use Rattle.definition.specs.Listing.{row_head_bytes}
use Rattle.listing.specs.Rows.{row_size, row_head, slot-row_size}
use Rattle.listing.proofs.Heads.{row_put}
use Rattle.listing.proofs.put_edge_row.Goals as goal

pub put_row_head-requires : goal.put_row_head-requires
put_row_head-requires c =
    let room = c.args.room.now in
    let s = drop c.args.slot c.args.slots.now in
    omega (arith, c.requires.1, c.text_len.ensures.0, slot-row_size room s c.requires.0)

pub put_edge_text-requires : goal.put_edge_text-requires
unfolding row_size
put_edge_text-requires c =
    (c.requires.0, omega (arith, c.requires.1))

pub returns : goal.returns
unfolding row_size bytes
returns c =
    let room = c.args.room.now in
    let s = drop c.args.slot c.args.slots.now in
    let out = c.args.out.now in
    let b = encoded (edge_of room s).text in
    let len = c.text_len.result in
    let l : len ≡ length b = c.text_len.ensures.0 ∙ sym (slot-size room s (length room) c.requires.0 (omega arith)) in record {
      end = omega (arith, c.put_edge_text.ensures.end);
      row = c.put_edge_text.ensures.text
          ∙ ap (put_at (c.args.at + row_head_bytes) b) (c.put_row_head.ensures ∙ ap (λ e. put_at c.args.at (row_head e len) out) c.numbers_at.ensures)
          ∙ row_put c.args.at (numbers_of s) len (bytes_of room s) b out l (omega arith);
    }
