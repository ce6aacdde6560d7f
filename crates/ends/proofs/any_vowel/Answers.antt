-- `ends::any_vowel`: the set of vowels is the definition's, so any in it is any of them.
use Prim.Native.Nat.{ℕ}
use mathlib.Core.Bool.{Bool}
use mathlib.Core.Path.{fun_ext, ap, ◌∙◌}
use lib.ListN.{take}
use Rattle.base.specs.Lists.{any}
use Rattle.rom.specs.Sets.{in_vowels}
use Rattle.ends.proofs.any_vowel.Goals as goal

pub returns : goal.returns
returns c =
    let a = c.args in
    c.any_in.ensures ∙ ap (λ (q : ℕ → Bool). any q (take a.n a.s.now)) (fun_ext in_vowels)
