-- `steps::trim_back`: a text that ends with a space is not empty.
use mathlib.Core.Path.{◌≡◌, sym, ap, ◌∙◌}
use Prim.Native.Nat.{◌≤◌}
use native.Mathlib.Omega.{arith}
use lib.ListN.{length, take}
use Rattle.rom.specs.Rom.{rom, text-length, bytes-length}
use Rattle.steps.specs.Works.{back_of}
use Rattle.steps.proofs.Letters.{last-at, some_last, all_but_last, back_space, back-text, back-letter}
use Rattle.steps.proofs.trim_back.Goals as goal
use Rattle.steps.proofs.trim_back.Goals.{else-there-via-then-there+then-n-gt0+else-bytes-n-eq32, else-there-via-then-there+else-n-gt0, else-there-via-else-there}

pub bounds-bytes-n : goal.bounds-bytes-n
bounds-bytes-n c = omega (arith, bytes-length c.requires, c.requires.fits)

pub returns-then-bytes-n-eq32 : goal.returns-then-bytes-n-eq32
returns-then-bytes-n-eq32 c =
    let b = c.args.bytes.now in
    let n = c.args.n in
    let f = c.requires.fits in
    let fits : n ≤ length b = omega (arith, f, bytes-length c.requires) in
    c.keep.ensures
    ∙ ap rom (all_but_last b n c.if-n-gt0.true fits
    ∙ back_space c.args.there (take n b) (sym (last-at b n c.if-n-gt0.true fits) ∙ c.if-bytes-n-eq32.true) c.if-there.true)

pub returns : goal.returns
returns c =
    let b = c.args.bytes.now in
    let n = c.args.n in
    let t = take n b in
    let f = c.requires.fits in
    let fits : n ≤ length b = omega (arith, f, bytes-length c.requires) in
    let same : t ≡ back_of c.args.there t = elim c.else-there.branch [
      | else-there-via-then-there+then-n-gt0+else-bytes-n-eq32 w ↦
          back-letter c.args.there t (λ e. w.if-bytes-n-eq32.false (last-at b n w.if-n-gt0.true fits ∙ e))
      | else-there-via-then-there+else-n-gt0 w ↦
          back-letter c.args.there t (λ e. omega (arith, some_last t e, text-length c.requires, w.if-n-gt0.false))
      | else-there-via-else-there w ↦ back-text c.args.there t w.if-there.false
    ] in
    c.requires.whole ∙ ap rom same
