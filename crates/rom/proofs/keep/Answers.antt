-- `rom::keep`: the first `i` bytes are those of the part with zeros behind it.
use native.Mathlib.Omega.{arith}
use lib.ListN.{length-set}
use Rattle.rom.specs.Rom.{bytes-length}
use Rattle.rom.proofs.Turns.{kept_turn, kept-is}
use Rattle.rom.proofs.keep.Goals as goal

pub byte_before-requires : goal.byte_before-requires
byte_before-requires c =
    let s = c in
    let q = c.loop-i.invariant in
    omega (arith, q.0, s.requires.2, s.requires.0.fits, bytes-length s.requires.0)

pub bounds-bytes-i : goal.bounds-bytes-i
bounds-bytes-i c =
    let s = c in
    let q = c.loop-i.invariant in
    omega (arith, q.0, s.requires.0.fits, bytes-length s.requires.0)

pub loop-i-preserved : goal.loop-i-preserved
loop-i-preserved c =
    let s = c in
    let a = s.args in
    let p = s.requires in
    let l = c.loop-i in
    let q = l.invariant in (
      simp length-set q.0,
      kept_turn a.bytes.now a.n p.0 a.from a.to p.1 p.2 l.bytes l.i c.byte_before.result (omega arith) q.1 c.byte_before.ensures,
    )

pub returns : goal.returns
returns c =
    let s = c in
    let a = s.args in
    let p = s.requires in
    let l = c.loop-i in
    kept-is a.bytes.now a.n p.0 a.from a.to p.1 p.2 l.bytes l.i (omega arith) l.invariant.1
