-- `steps::put_behind`: a target has 200 bytes at most.
use mathlib.Core.Bool.{not}
use mathlib.Core.Option.{some}
use mathlib.Core.Path.{refl, sym, ap, ◌∙◌}
use Prim.Native.Nat.{ℕ, ◌+◌, ◌-◌, ◌≤◌}
use mathlib.Core.List.{◌++◌}
use native.Mathlib.Omega.{arith}
use lib.ListN.{length, take, length-append}
use Rattle.definition.specs.Limits.{most_target}
use Rattle.definition.specs.Texts.{Text}
use Rattle.definition.specs.Notes.{note_exp}
use Rattle.definition.specs.Expansion.{work}
use Rattle.rom.specs.Rom.{rom, text-length, text-by, len_by, clean_by}
use Rattle.rule_choice.specs.Chosen.{chosen_means, or_nothing, has-chosen}
use Rattle.steps.specs.Works.{work_in}
use Rattle.steps.proofs.Tries.{said-short, no_target, a_target}
use Rattle.steps.proofs.put_behind.Goals as goal

pub returns-then-is_none : goal.returns-then-is_none
returns-then-is_none c =
    let o = chosen_means c.args.rules.now c.args.target in (
      (λ k f. sym (no_target (work_in c.args.bytes.now c.args.g) k o
          (sym (has-chosen c.args.rules.now c.args.target) ∙ c.is_none.ensures ∙ ap not c.if-is_none.true))),
      refl,
    )

pub put_behind-len-requires : goal.put_behind-len-requires
put_behind-len-requires c =
    (c.requires.1, omega (arith, c.requires, ap length c.chosen_text.ensures, said-short c.args.rules.now c.args.target c.requires.0))

pub returns : goal.returns
returns c =
    let b = c.args.bytes.now in
    let o = chosen_means c.args.rules.now c.args.target in
    let old = take c.args.g.len b in
    let e = c.put_behind-len.ensures ∙ ap (λ (x : Text). rom (old ++ x)) c.chosen_text.ensures in
    let h : length (old ++ or_nothing o) ≤ c.args.g.len + most_target =
    omega (arith, length-append old (or_nothing o), text-length c.requires.1, said-short c.args.rules.now c.args.target c.requires.0) in (
      (λ k f.
          ap (λ (x : Text). some (work x (c.args.g.from - 1) c.args.to note_exp)) (text-by (old ++ or_nothing o) e (omega (arith, h, c.requires)))
          ∙ ap (λ (n : ℕ). some (work (old ++ or_nothing o) (c.args.g.from - 1) n note_exp)) f
          ∙ sym (a_target (work_in b c.args.g) k o (sym (has-chosen c.args.rules.now c.args.target) ∙ c.is_none.ensures ∙ ap not c.if-is_none.false))),
      (clean_by (old ++ or_nothing o) e (omega (arith, h, c.requires)), omega (arith, h, len_by (old ++ or_nothing o) e)),
    )
