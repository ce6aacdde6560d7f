-- `decomp::add_decomp`: the row's text is read in what is free behind the edges, which stay as they are; then its edge is added, or what is too
-- little is told.
use mathlib.Core.List.{List}
use mathlib.Core.Path.{◌≡◌, sym, ap, ◌∙◌, subst}
use Prim.Native.Nat.{ℕ, ◌+◌, ◌-◌, ◌*◌}
use native.Mathlib.Omega.{arith}
use lib.ListN.{length, get_or, drop}
use borrow.Rule.Slice.PartMut.{mid_of}
use Rattle.definition.specs.Limits.{slot_bytes}
use Rattle.definition.specs.Texts.{at}
use Rattle.definition.specs.Decomposing.{stands_for}
use Rattle.definition.specs.DecompositionRows.{decomposition_into, decompositions_of}
use Rattle.utf8.specs.Encodings.{TextBytes, encoded-bytes}
use Rattle.edge.specs.declared.Filled.{Filled}
use Rattle.words.specs.Given.{World, choices_in, line-size, char_at}
use Rattle.words.specs.declared.given.Dicts.{Dicts}
use Rattle.passes.specs.Reached.{Over, over_keeps}
use Rattle.decomp.specs.Rows.{RowRead}
use Rattle.decomp.specs.Steps.{AddReady}
use Rattle.decomp.specs.Behind.{free-length, slots_back, room_back, slots_long, room_long, stored_back, keeps_back, fresh_back}
use Rattle.decomp.proofs.Decomps.{stands-none, stands_some, leads_none, leads_lacks, leads_text}
use Rattle.decomp.proofs.add_decomp.Goals as goal

-- the character at the position, as the line has it
module _ {dicts : Dicts} {line S R P : List ℕ} {filled : Filled} {p : ℕ} (pre : AddReady dicts line S R P filled p) where
  character : (w : World) → Over w dicts.ready.now line S R P filled → get_or line (p + 1) 0 ≡ at w.text p
  character w o =
      let inside = pre.inside in
      char_at o.lent.text p (omega (arith, inside, line-size o.lent.text))

pub returns-then-row-eq0 : goal.returns-then-row-eq0
returns-then-row-eq0 c =
    let a = c.args in
    λ code w same o held before.
    leads_none a.dicts.now code a.line.now a.slots.now a.room.now a.places.now a.filled a.p w same o held before
    (ap (stands_for (decompositions_of a.dicts.now.decompositions.now)) (sym (c.number_at.ensures ∙ character c.requires w o))
    ∙ stands-none c.edge_row_of-row.ensures c.if-row-eq0.true)

pub add_text-requires : goal.add_text-requires
add_text-requires c =
    let a = c.args in
    let S = a.slots.now in
    let R = a.room.now in
    let X = c.read_row-read.new.slots in
    let Y = c.read_row-read.new.room in
    let e : length X ≡ length S - a.filled.count * slot_bytes = omega (arith, c.read_row-read.auto.slots, free-length S (a.filled.count * slot_bytes)) in
    let f : length Y ≡ length R - a.filled.used = omega (arith, c.read_row-read.auto.room, free-length R a.filled.used) in
    let got = subst (RowRead a.dicts.now.rules.now (choices_in a.dicts.now.ready.now) a.dicts.now.classes.now a.dicts.now.vowels.now
    (decomposition_into (drop c.edge_row_of-row.result a.dicts.now.decompositions.now)) c.beside.result
    (length (mid_of (a.filled.count * slot_bytes) (length S - a.filled.count * slot_bytes) S)) (length (mid_of a.filled.used (length R - a.filled.used) R))
    c.read_row-read.new.text) c.in-Ok.is c.read_row-read.ensures in
    let o = c.requires.somewhere.over in
    let few = o.lent.text.few in
    let long = o.lent.edges.long in
    let is = line-size o.lent.text in
    let inside = c.requires.inside in
    let spelled = got.0 in
    record {
      stored = stored_back o.stored X Y e f;
      fresh = fresh_back o.stored X Y e f c.requires.fresh;
      held = got.1;
      bytes = λ q. subst TextBytes (sym (spelled.bytes q)) (encoded-bytes _ spelled.scalars);
      inside = omega (arith, inside, long, is);
      few = omega (arith, inside, few, is);
      offset = c.requires.offset;
    }

pub returns-in-Ok : goal.returns-in-Ok
returns-in-Ok c =
    let a = c.args in
    let S = a.slots.now in
    let R = a.room.now in
    let X = c.read_row-read.new.slots in
    let Y = c.read_row-read.new.room in
    let k-is = free-length S (a.filled.count * slot_bytes) in
    let r-is = free-length R a.filled.used in
    let e : length X ≡ length S - a.filled.count * slot_bytes = omega (arith, c.read_row-read.auto.slots, k-is) in
    let f : length Y ≡ length R - a.filled.used = omega (arith, c.read_row-read.auto.room, r-is) in
    let into = decomposition_into (drop c.edge_row_of-row.result a.dicts.now.decompositions.now) in
    let k = length (mid_of (a.filled.count * slot_bytes) (length S - a.filled.count * slot_bytes) S) in
    let r = length (mid_of a.filled.used (length R - a.filled.used) R) in
    let got = subst (RowRead a.dicts.now.rules.now (choices_in a.dicts.now.ready.now) a.dicts.now.classes.now a.dicts.now.vowels.now into c.beside.result k r
    c.read_row-read.new.text) c.in-Ok.is c.read_row-read.ensures in
    let t = c.add_text.new in
    λ code w same o held before.
    let inside = c.requires.inside in
    let st = c.requires.somewhere.over.stored in
    let row = c.if-row-eq0.false in
    leads_text a.dicts.now code a.line.now S R a.places.now a.filled a.p w same o held before into
    (ap (stands_for (decompositions_of a.dicts.now.decompositions.now)) (sym (c.number_at.ensures ∙ character c.requires w o))
    ∙ stands_some c.edge_row_of-row.ensures (omega (arith, row)))
    c.beside.result (c.beside.ensures w o.lent.text) k r k-is r-is c.read_row-read.new.text c.in-Ok.spelling got
    (slots_back st X Y e f) (room_back st X Y e f) (keeps_back st X Y e f (over_keeps o)) (slots_long st X Y e f) (room_long st X Y e f)
    (omega (arith, inside, line-size o.lent.text)) t.slots t.room t.places
    (omega (arith, c.add_text.auto.slots, slots_long st X Y e f)) (omega (arith, c.add_text.auto.room, room_long st X Y e f))
    c.add_text.result c.add_text.ensures

pub returns-in-Err : goal.returns-in-Err
returns-in-Err c =
    let a = c.args in
    let S = a.slots.now in
    let R = a.room.now in
    let X = c.read_row-read.new.slots in
    let Y = c.read_row-read.new.room in
    let k-is = free-length S (a.filled.count * slot_bytes) in
    let r-is = free-length R a.filled.used in
    let e : length X ≡ length S - a.filled.count * slot_bytes = omega (arith, c.read_row-read.auto.slots, k-is) in
    let f : length Y ≡ length R - a.filled.used = omega (arith, c.read_row-read.auto.room, r-is) in
    let into = decomposition_into (drop c.edge_row_of-row.result a.dicts.now.decompositions.now) in
    let k = length (mid_of (a.filled.count * slot_bytes) (length S - a.filled.count * slot_bytes) S) in
    let r = length (mid_of a.filled.used (length R - a.filled.used) R) in
    let got = subst (RowRead a.dicts.now.rules.now (choices_in a.dicts.now.ready.now) a.dicts.now.classes.now a.dicts.now.vowels.now into c.beside.result k r
    c.read_row-read.new.text) c.in-Err.is c.read_row-read.ensures in
    λ code w same o held before.
    let st = c.requires.somewhere.over.stored in
    let row = c.if-row-eq0.false in
    rw c.unfit_at.ensures
    (leads_lacks a.dicts.now code a.line.now S R a.places.now a.filled a.p w same o held before into
    (ap (stands_for (decompositions_of a.dicts.now.decompositions.now)) (sym (c.number_at.ensures ∙ character c.requires w o))
    ∙ stands_some c.edge_row_of-row.ensures (omega (arith, row)))
    c.beside.result (c.beside.ensures w o.lent.text) k r k-is r-is c.read_row-read.new.text
    (slots_back st X Y e f) (room_back st X Y e f) (slots_long st X Y e f) (room_long st X Y e f) c.in-Err.full got)
