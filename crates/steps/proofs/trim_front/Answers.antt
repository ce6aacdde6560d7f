-- `steps::trim_front`: a text that starts with a space is not empty.
use mathlib.Core.Path.{◌≡◌, sym, ap, ◌∙◌}
use native.Mathlib.Omega.{arith}
use lib.ListN.{take}
use Rattle.rom.specs.Rom.{rom, text-length, bytes-length}
use Rattle.steps.specs.Works.{front_of}
use Rattle.steps.proofs.Letters.{first-at, some_first, all_but_first, front_space, front-text, front-letter}
use Rattle.steps.proofs.trim_front.Goals as goal
use Rattle.steps.proofs.trim_front.Goals.{else-c-eq-SPACE-via-then-c-eq-SPACE+then-n-gt0+else-bytes-eq32, else-c-eq-SPACE-via-then-c-eq-SPACE+else-n-gt0, else-c-eq-SPACE-via-else-c-eq-SPACE}

pub bounds-bytes-0 : goal.bounds-bytes-0
bounds-bytes-0 c = omega (arith, bytes-length c.requires)

pub returns-then-bytes-eq32 : goal.returns-then-bytes-eq32
returns-then-bytes-eq32 c =
    let b = c.args.bytes.now in
    let n = c.args.n in
    c.keep.ensures
    ∙ ap rom (all_but_first b n ∙ front_space c.args.c (take n b) (first-at b n c.if-n-gt0.true ∙ c.if-bytes-eq32.true) c.if-c-eq-SPACE.true)

pub returns : goal.returns
returns c =
    let b = c.args.bytes.now in
    let n = c.args.n in
    let t = take n b in
    let same : t ≡ front_of c.args.c t = elim c.else-c-eq-SPACE.branch [
      | else-c-eq-SPACE-via-then-c-eq-SPACE+then-n-gt0+else-bytes-eq32 w ↦
          front-letter c.args.c t (λ e. w.if-bytes-eq32.false (sym (first-at b n w.if-n-gt0.true) ∙ e))
      | else-c-eq-SPACE-via-then-c-eq-SPACE+else-n-gt0 w ↦
          front-letter c.args.c t (λ e. omega (arith, some_first t e, text-length c.requires, w.if-n-gt0.false))
      | else-c-eq-SPACE-via-else-c-eq-SPACE w ↦ front-text c.args.c t w.if-c-eq-SPACE.false
    ] in
    c.requires.whole ∙ ap rom same
