-- `jettyfig::respond`: what is asked is written over zeros, with room for the text behind; then the refusal of what is set up, or its lattice.
use mathlib.Core.Option.{none}
use mathlib.Core.Path.{◌≡◌, sym, ap, ◌∙◌, subst}
use Prim.Native.Nat.{ℕ, ◌≤◌}
use mathlib.Core.List.{List}
use native.Mathlib.Omega.{arith}
use lib.ListN.{length, take, replicate, length-replicate}
use Rattle.std.specs.Prelude.{Ok, Err}
use Rattle.definition.specs.Tables.{Choices}
use Rattle.words.specs.Given.{all_ready, mode_in, choices_in, line_in, Lined, line-size}
use Rattle.jettyfig.specs.Verdicts.{mode_number, chosen, given, by_asked}
use Rattle.jettyfig.specs.Steps.{asking, used_for, world_of, Fresh}
use Rattle.jettyfig.proofs.Parts.{asking-mode, asking-choices, fresh}
use Rattle.jettyfig.proofs.Tests.{asked_right}
use Rattle.jettyfig.proofs.Responded.{set_as, refused_so, accepted_so}
use Rattle.jettyfig.proofs.respond.Goals as goal

-- zeros have room for what is asked
zeroed : (size : ℕ) → all_ready ≤ size → all_ready ≤ length (replicate {A = ℕ} size 0)
zeroed size h = omega (arith, length-replicate {A = ℕ} size 0)

-- what is asked, written over zeros, is asked still
asks : (mode : ℕ) (a : Choices) (zeros before : List ℕ) → all_ready ≤ length zeros → before ≡ asking mode a zeros → by_asked mode a ≡ none
    → by_asked (mode_in before) (choices_in before) ≡ none
asks mode a zeros before long e h =
    ap (λ l. by_asked (mode_in l) (choices_in l)) e
    ∙ ap (λ m. by_asked m (choices_in (asking mode a zeros))) (asking-mode mode a zeros long)
    ∙ ap (by_asked mode) (asking-choices mode a zeros long) ∙ h

pub set_up-requires : goal.set_up-requires
set_up-requires g c = (
  subst (Fresh c.args.text.now) (sym c.put_asked.ensures)
      (fresh (mode_number c.args.asked.mode) (chosen c.args.asked) c.args.text.now _ c.requires.prepared.1 c.requires.prepared.2),
  asks (mode_number c.args.asked.mode) (chosen c.args.asked) (replicate {A = ℕ} g.row.PREPARED 0) c.put_asked.new.prepared (zeroed g.row.PREPARED c.requires.prepared.1) c.put_asked.ensures (asked_right c.args.asked),
)

pub build-requires-clause-places : goal.build-requires-clause-places
build-requires-clause-places g c =
    let t = c.args.tables.now in
    let s = set_as (mode_number c.args.asked.mode) (chosen c.args.asked) t.rules.now t.classes.now t.vowels.now t.decompositions.now t.code.now c.args.text.now
    (replicate {A = ℕ} g.row.PREPARED 0) (zeroed g.row.PREPARED c.requires.prepared.1) c.put_asked.new.prepared c.set_up.new.prepared c.put_asked.ensures (Ok c.in_ok-n.n) c.in_ok-n.ensures in
    let lined : Lined (world_of (given (mode_number c.args.asked.mode) (chosen c.args.asked) t.rules.now t.classes.now t.vowels.now t.decompositions.now t.code.now
    c.args.text.now 0 0 0)) (line_in (take (used_for c.in_ok-n.n) c.set_up.new.prepared)) = s.2.lined in
    let few = c.requires.places.1 lined.few in
    (omega (arith, line-size lined, few), c.requires.places.0)

pub returns-in_err-n-clause-called : goal.returns-in_err-n-clause-called
returns-in_err-n-clause-called g c =
    let t = c.args.tables.now in
    refused_so (mode_number c.args.asked.mode) (chosen c.args.asked) t.rules.now t.classes.now t.vowels.now t.decompositions.now t.code.now c.args.text.now
    c.args.memory.now.out.now c.requires.zeros _ _ c.set_up.new.prepared _ _ c.from_residual.ensures.1
    (set_as (mode_number c.args.asked.mode) (chosen c.args.asked) t.rules.now t.classes.now t.vowels.now t.decompositions.now t.code.now c.args.text.now
    (replicate {A = ℕ} g.row.PREPARED 0) (zeroed g.row.PREPARED c.requires.prepared.1) c.put_asked.new.prepared c.set_up.new.prepared c.put_asked.ensures (Err c.in_err-n.field-0.0) c.in_err-n.ensures)

pub returns-clause-called : goal.returns-clause-called
returns-clause-called g c =
    let t = c.args.tables.now in
    accepted_so (mode_number c.args.asked.mode) (chosen c.args.asked) t.rules.now t.classes.now t.vowels.now t.decompositions.now t.code.now c.args.text.now
    c.in_ok-n.n c.set_up.new.prepared _ _ _ _
    (set_as (mode_number c.args.asked.mode) (chosen c.args.asked) t.rules.now t.classes.now t.vowels.now t.decompositions.now t.code.now c.args.text.now
    (replicate {A = ℕ} g.row.PREPARED 0) (zeroed g.row.PREPARED c.requires.prepared.1) c.put_asked.new.prepared c.set_up.new.prepared c.put_asked.ensures (Ok c.in_ok-n.n) c.in_ok-n.ensures)
    c.build.ensures.romanized
