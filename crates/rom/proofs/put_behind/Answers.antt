-- `rom::put_behind`: the text is put where the zeros begin.
use mathlib.Core.List.{List}
use mathlib.Core.Path.{ap, ◌∙◌}
use Prim.Native.Nat.{ℕ, ◌+◌}
use native.Mathlib.Omega.{arith}
use lib.ListN.{length}
use Rattle.rom.specs.Rom.{held, bytes-length}
use Rattle.rom.proofs.Writes.{put_is}
use Rattle.rom.proofs.put_behind.Goals as goal

pub put_at-requires : goal.put_at-requires
put_at-requires c =
    let s = c in
    omega (arith, s.requires.1, bytes-length s.requires.0)

pub returns : goal.returns
returns c =
    let s = c in
    let a = s.args in
    ap (λ (b : List ℕ). held b (a.n + length a.s.now)) c.put_at.ensures ∙ put_is a.bytes.now a.n s.requires.0 a.s.now
