-- `steps::lengthen`: a text that ends in a vowel has a last letter.
use mathlib.Core.List.{List, [], ◌∷◌, ◌++◌}
use mathlib.Core.Path.{◌≡◌, sym, ap, ◌∙◌}
use Prim.Native.Nat.{ℕ, ◌+◌, ◌-◌}
use native.Mathlib.Omega.{arith}
use lib.ListN.{length, take, get_or, length-append}
use Rattle.definition.specs.Texts.{Text, vowels, last_is}
use Rattle.definition.specs.Notes.{note_exp}
use Rattle.definition.specs.Expansion.{work}
use Rattle.rom.specs.Rom.{text-length, bytes-length, text-by, len_by, clean_by}
use Rattle.steps.proofs.Letters.{last-at, last-there, not_empty}
use Rattle.steps.proofs.lengthen.Goals as goal

pub overflow_sub-letter : goal.overflow_sub-letter
unfolding last_is
overflow_sub-letter c =
    let w = take c.args.g.len c.args.bytes.now in
    omega (arith, text-length c.requires.0, not_empty vowels w c.requires.2)

pub bounds-bytes-g : goal.bounds-bytes-g
bounds-bytes-g c =
    omega (arith, bytes-length c.requires.0, c.requires.1)

pub returns : goal.returns
unfolding last_is
returns c =
    let n = c.args.g.len in
    let b = c.args.bytes.now in
    let w = take n b in
    let l = get_or b (n - 1) 0 in
    let e = c.put_behind-len.ensures in
    let k = not_empty vowels w c.requires.2 in
    let m = text-length c.requires.0 in
    let new = w ++ l ∷ [] in
    let z : length new ≡ n + 1 = omega (arith, length-append w (l ∷ []), m) in (
      ap (λ (x : Text). work x c.args.g.from c.args.to note_exp) (text-by new e (omega (arith, z, c.requires.1))
          ∙ ap (λ (x : List ℕ). w ++ x) (ap (λ (y : ℕ). y ∷ []) (last-at b n (omega (arith, k, m)) (omega (arith, bytes-length c.requires.0, c.requires.1))) ∙ sym (last-there vowels w c.requires.2))),
      clean_by new e (omega (arith, z, c.requires.1)),
      omega (arith, z, len_by new e),
    )
