-- `rom::put_front`: the first `i` bytes are those of the array with the letter in front.
use native.Mathlib.Omega.{arith}
use lib.ListN.{length-set}
use Rattle.rom.specs.Rom.{bytes-length}
use Rattle.rom.proofs.Turns.{front_turn, front-is}
use Rattle.rom.proofs.put_front.Goals as goal

pub bounds-bytes-i : goal.bounds-bytes-i
bounds-bytes-i c =
    let s = c in
    let q = c.loop-i.invariant in
    omega (arith, q.0, s.requires.1, bytes-length s.requires.0)

pub bounds-bytes-i-in-loop-i : goal.bounds-bytes-i-in-loop-i
bounds-bytes-i-in-loop-i c =
    let s = c in
    let q = c.loop-i.invariant in
    omega (arith, q.0, s.requires.1, bytes-length s.requires.0)

pub loop-i-preserved : goal.loop-i-preserved
loop-i-preserved c =
    let s = c in
    let a = s.args in
    let l = c.loop-i in
    let q = l.invariant in
    let t = front_turn a.bytes.now a.n s.requires.0 a.letter l.bytes l.i l.next (omega arith) s.requires.1 q.1 q.2 in
    (simp length-set q.0, t.0, t.1)

pub returns : goal.returns
returns c =
    let s = c in
    let a = s.args in
    let l = c.loop-i in
    front-is a.bytes.now a.n s.requires.0 a.letter l.bytes l.i (omega arith) l.invariant.1
