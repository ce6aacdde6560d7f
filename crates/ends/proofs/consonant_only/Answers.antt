-- `ends::consonant_only`: of a part that holds something, all are in the set of consonants.
use Prim.Native.Nat.{ℕ}
use mathlib.Core.Bool.{Bool, not, ◌&&◌}
use mathlib.Core.Path.{◌≡◌, fun_ext, sym, ap, ◌∙◌}
use native.Mathlib.Omega.{arith}
use lib.Seq.{slice, slice_empty, length-slice}
use borrow.Author.Tests.{le-ltb}
use Rattle.base.specs.Lists.{all, same}
use Rattle.definition.specs.Texts.{consonants}
use Rattle.definition.specs.Vowels.{consonant_only}
use Rattle.rom.specs.Sets.{member, consonants_set, in_consonants}
use Rattle.std.proofs.lemmas.Slice.{between_is}
use Rattle.base.specs.ListLaws.{same_some}
use Rattle.ends.proofs.consonant_only.Goals as goal

pub returns-else-from-to : goal.returns-else-from-to
unfolding consonant_only same
returns-else-from-to c =
    let a = c.args in
    let e : a.from ≡ a.to = omega arith in
    le-ltb a.from a.to (omega arith) ∙ sym (ap (λ (i : ℕ). consonant_only (slice i a.to a.s.now)) e ∙ ap consonant_only (slice_empty a.to a.s.now))

pub returns-then-from-to : goal.returns-then-from-to
unfolding consonant_only
returns-then-from-to c =
    let s = c in
    let a = s.args in
    let l = slice a.from a.to a.s.now in
    c.all_in.ensures
    ∙ ap (all (member consonants_set)) (between_is a.s.now a.from a.to)
    ∙ ap (λ (q : ℕ → Bool). all q l) (fun_ext in_consonants)
    ∙ ap (λ (b : Bool). not b && all consonants l) (sym (same_some l (omega (arith, length-slice a.from a.to a.s.now s.requires.1))))
