-- `jettyfig::make_ready`: the letters come back in front, then the index of the rule table with what is kept of characters.
use mathlib.Core.Path.{refl, sym}
use native.Mathlib.Omega.{arith}
use lib.Seq.{length-take-le}
use Rattle.jettyfig.proofs.Parts.{zeros-lent, room-lent, made_ready}
use Rattle.jettyfig.proofs.make_ready.Goals as goal

pub slice_bounds-classify_ascii-end-2 : goal.slice_bounds-classify_ascii-end-2
slice_bounds-classify_ascii-end-2 c =
    sym (length-take-le 128 c.args.prepared.now (omega (arith, c.requires.2.1.long)))

pub classify_ascii-requires : goal.classify_ascii-requires
classify_ascii-requires c =
    (c.requires.1, length-take-le 128 c.args.prepared.now (omega (arith, c.requires.2.1.long)))

pub fill-requires : goal.fill-requires
fill-requires c =
    let blank = c.requires.2.1 in (
      c.requires.0,
      zeros-lent c.args.tables.now.classes.now c.args.prepared.now c.classify_ascii.new.alphas blank.long c.classify_ascii.ensures blank.zeros,
      room-lent c.args.tables.now.classes.now c.args.prepared.now c.classify_ascii.new.alphas blank.long c.classify_ascii.ensures _ refl,
    )

pub returns : goal.returns
returns c =
    made_ready c.args.tables.now.classes.now c.args.prepared.now c.classify_ascii.new.alphas c.requires.2.1.long c.classify_ascii.ensures
    c.args.tables.now.rules.now c.fill.new.all c.fill.ensures.0 c.fill.ensures.1 c.fill.auto.all
