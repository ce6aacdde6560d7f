-- `listing::put_item`: row or text, and each where it fits and where it does not.
use Prim.Native.Nat.{◌+◌}
use mathlib.Core.Path.{◌≡◌, ap, ◌∙◌}
use native.Mathlib.Omega.{arith}
use lib.ListN.{length, drop}
use Rattle.definition.specs.Utf8.{encoded}
use Rattle.definition.specs.Capacity.{bytes}
use Rattle.edge.specs.Slots.{edge_of}
use Rattle.edge.specs.Stored.{slot-size}
use Rattle.listing.specs.Rows.{row_of, row_length, slot-row_size, slot_row_length}
use Rattle.listing.specs.Items.{put_bytes, put-fits, put_misses, row_item, text-item}
use Rattle.listing.proofs.put_item.Goals as goal

pub returns-then-out-end : goal.returns-then-out-end
returns-then-out-end c =
    let room = c.args.room.now in
    let s = drop c.args.slot c.args.slots.now in
    let e : c.args.at + c.edge_row_len.result ≡ c.args.at + length (row_of (edge_of room s)) = omega (arith, c.edge_row_len.ensures.0, slot_row_length room s c.requires.0) in (
      put_misses (row_of (edge_of room s)) c.args.at (c.args.at + c.edge_row_len.result) c.args.out.now e (omega arith)
          ∙ ap (λ w. put_bytes w (c.args.at, c.args.out.now)) (row_item c.args.rows (edge_of room s) c.if-rows.true),
      omega (arith, c.edge_row_len.ensures.1),
    )

pub put_edge_row-requires : goal.put_edge_row-requires
put_edge_row-requires c =
    let room = c.args.room.now in
    let s = drop c.args.slot c.args.slots.now in
    (c.requires.0, omega (arith, c.edge_row_len.ensures.0, slot-row_size room s c.requires.0))

pub returns-then-rows : goal.returns-then-rows
returns-then-rows c =
    let room = c.args.room.now in
    let s = drop c.args.slot c.args.slots.now in
    let x = edge_of room s in
    let k = slot-row_size room s c.requires.0 in (
      put-fits (row_of x) c.args.at c.put_edge_row.result c.args.out.now (omega (arith, c.put_edge_row.ensures.end, row_length x)) c.put_edge_row.new.out (omega (arith, c.put_edge_row.ensures.end, c.edge_row_len.ensures.0, k)) c.put_edge_row.ensures.row
          ∙ ap (λ w. put_bytes w (c.args.at, c.args.out.now)) (row_item c.args.rows x c.if-rows.true),
      omega (arith, c.put_edge_row.ensures.end, c.edge_row_len.ensures.0, c.edge_row_len.ensures.1, k),
    )

pub returns-then-out-end-2 : goal.returns-then-out-end-2
unfolding bytes
returns-then-out-end-2 c =
    let room = c.args.room.now in
    let s = drop c.args.slot c.args.slots.now in
    let e : c.args.at + c.text_len.result ≡ c.args.at + length (encoded (edge_of room s).text) = omega (arith, c.text_len.ensures.0, slot-size room s (length room) c.requires.0 (omega arith)) in (
      put_misses (encoded (edge_of room s).text) c.args.at (c.args.at + c.text_len.result) c.args.out.now e (omega arith)
          ∙ ap (λ w. put_bytes w (c.args.at, c.args.out.now)) (text-item c.args.rows (edge_of room s) c.if-rows.false),
      omega (arith, c.text_len.ensures.1),
    )

pub put_edge_text-requires : goal.put_edge_text-requires
put_edge_text-requires c =
    let room = c.args.room.now in
    let s = drop c.args.slot c.args.slots.now in
    (c.requires.0, omega (arith, c.text_len.ensures.0, slot-size room s (length room) c.requires.0 (omega arith)))

pub returns : goal.returns
unfolding bytes
returns c =
    let room = c.args.room.now in
    let s = drop c.args.slot c.args.slots.now in
    let x = edge_of room s in
    let k = slot-size room s (length room) c.requires.0 (omega arith) in (
      put-fits (encoded x.text) c.args.at c.put_edge_text.result c.args.out.now (omega (arith, c.put_edge_text.ensures.end)) c.put_edge_text.new.out (omega (arith, c.put_edge_text.ensures.end, c.text_len.ensures.0, k)) c.put_edge_text.ensures.text
          ∙ ap (λ w. put_bytes w (c.args.at, c.args.out.now)) (text-item c.args.rows x c.if-rows.false),
      omega (arith, c.put_edge_text.ensures.end, c.text_len.ensures.0, c.text_len.ensures.1, k),
    )
