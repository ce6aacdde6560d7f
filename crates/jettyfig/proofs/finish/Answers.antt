-- `jettyfig::finish`: a fallback that did not fit is the whole lattice's refusal; else what is shown is the lattice's.
use mathlib.Core.Path.{◌≡◌, refl, ap, ◌∙◌}
use Prim.Native.Nat.{ℕ}
use native.Mathlib.Omega.{arith}
use lib.ListN.{length}
use Rattle.definition.specs.Call.{tables_of, accepted}
use Rattle.words.specs.Given.{mode_in}
use Rattle.jettyfig.specs.Verdicts.{given}
use Rattle.jettyfig.proofs.Finished.{fall_ready, second_refused, second-whole, second-shown}
use Rattle.jettyfig.proofs.finish.Goals as goal

pub add_rom_fall_back_singles-requires : goal.add_rom_fall_back_singles-requires
add_rom_fall_back_singles-requires c = fall_ready c.requires.0

pub show-requires : goal.show-requires
show-requires c =
    let is-mode : c.mode_in-mode.result ≡ mode_in c.args.dicts.now.ready.now = c.mode_in-mode.ensures in
    let h = c.requires.0 in (
      second-whole h.first c.args.dicts.now.prepared c.mode_in-mode.result c.args.text.now
          {c = c.in_ok-taken.taken.count} {u = c.in_ok-taken.taken.used} c.in_ok-taken.ensures.built (omega (arith, is-mode, h.mode))
          c.add_rom_fall_back_singles.new.starts c.in_ok-taken.ensures.starts
          (omega (arith, c.add_rom_fall_back_singles.auto.starts, h.began.2)),
      c.requires.1,
    )

pub returns-in_err-taken-clause-finished : goal.returns-in_err-taken-clause-finished
returns-in_err-taken-clause-finished c = λ vowels bytes w f.
    second_refused f c.args.dicts.now.prepared (mode_in c.args.dicts.now.ready.now) c.args.text.now c.args.memory.now.out.now c.requires.1
    c.in_err-taken.field-0.0 c.in_err-taken.ensures.built _ c.from_residual.ensures.1

pub returns-clause-finished : goal.returns-clause-finished
returns-clause-finished c = λ vowels bytes w f.
    let d = c.args.dicts.now in
    let i = given c.mode_in-mode.result w.choices d.rules.now w.classes vowels bytes d.code.now c.args.text.now
    (length c.args.memory.now.slots.now) (length c.args.memory.now.room.now) (length c.args.memory.now.out.now) in
    second-shown f d.prepared c.mode_in-mode.result c.args.text.now {c = c.in_ok-taken.taken.count} {u = c.in_ok-taken.taken.used}
    c.in_ok-taken.ensures.built (length c.args.memory.now.out.now) _ (c.show.ensures.written i refl refl)
    ∙ ap (λ (n : ℕ). accepted (given n w.choices d.rules.now w.classes vowels bytes d.code.now c.args.text.now
    (length c.args.memory.now.slots.now) (length c.args.memory.now.room.now) (length c.args.memory.now.out.now)) (tables_of w.choices d.rules.now w.classes vowels d.code.now) w.text) c.mode_in-mode.ensures
