-- `vowel_step::is_grown`: by the form, and whether the vowel was added.
use mathlib.Core.Bool.{Bool, ◌&&◌}
use mathlib.Core.Path.{fun_ext, sym, ap, ◌∙◌}
use Prim.Native.Nat.{ℕ}
use Rattle.std.proofs.Common.{inl, inr}
use Rattle.base.specs.Lists.{all}
use Rattle.definition.specs.Texts.{vowels}
use Rattle.rom.specs.Sets.{in_vowels}
use Rattle.ends.specs.Grew.{grew}
use Rattle.ends.specs.declared.Which.{Which}
use Rattle.vowel_step.proofs.is_grown.Goals as goal

pub returns-in-Rom : goal.returns-in-Rom
unfolding grew
returns-in-Rom c =
    elim c.in-Rom.is [
      | inl e ↦ sym (ap (λ (w : Which). grew w c.args.f c.args.letters.now) e)
      | inr e ↦ sym (ap (λ (w : Which). grew w c.args.f c.args.letters.now) e)
    ]

pub returns-then-f : goal.returns-then-f
unfolding grew
returns-then-f c =
    let l = c.args.letters.now in
    c.all_in.ensures ∙ ap (λ (q : ℕ → Bool). all q l) (fun_ext in_vowels)
    ∙ sym (ap (λ (w : Which). grew w c.args.f l) c.in-Plus.is ∙ ap (λ (b : Bool). b && all vowels l) c.if-f.true)

pub returns-else-f : goal.returns-else-f
unfolding grew
returns-else-f c =
    let l = c.args.letters.now in
    c.if-f.false ∙ sym (ap (λ (w : Which). grew w c.args.f l) c.in-Plus.is ∙ ap (λ (b : Bool). b && all vowels l) c.if-f.false)
