-- `ends::shape`: the form at its positions, and the vowel behind it where it is added.
use native.Mathlib.Omega.{arith}
use lib.ListN.{take}
use lib.Seq.{slice, length-slice}
use Rattle.rom.specs.Rom.{text-length, text-by}
use Rattle.ends.proofs.Shaping.{the_rom, the_base, the_plus, the_added}
use Rattle.ends.proofs.shape.Goals as goal

pub returns-then-f : goal.returns-then-f
returns-then-f c =
    let k = c in
    let s = k in
    let p = s.requires in
    let a = s.args in
    let f = a.f in
    let t = take a.n a.bytes.now in
    let l = length-slice f.from f.end t (omega (arith, text-length p.0, p.1.3)) in
    let w = slice f.from f.end t in
    the_added t a.vowel.now f a.w k.in-Plus.is c.if-f.true
    (text-by w k.keep-plus.ensures (omega (arith, p.0.fits, p.1.3))) c.put_behind.ensures

pub returns-in-Rom : goal.returns-in-Rom
returns-in-Rom c =
    let a = c.args in
    the_rom (take a.n a.bytes.now) a.vowel.now a.f a.w c.in-Rom.is c.keep.ensures

pub returns-in-Base : goal.returns-in-Base
returns-in-Base c =
    let a = c.args in
    the_base (take a.n a.bytes.now) a.vowel.now a.f a.w c.in-Base.is c.keep-in-Base.ensures

pub returns-else-f : goal.returns-else-f
returns-else-f c =
    let a = c.args in
    the_plus (take a.n a.bytes.now) a.vowel.now a.f a.w c.in-Plus.is
    c.if-f.false c.keep-plus.ensures
