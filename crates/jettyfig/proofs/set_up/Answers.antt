-- `jettyfig::set_up`: the first refusal of the tables and the code, or what is set up of the text.
use mathlib.Core.List.{List}
use mathlib.Core.Option.{none}
use mathlib.Core.Path.{◌≡◌, sym, ap, ◌∙◌, subst}
use Prim.Native.Nat.{ℕ}
use lib.ListN.{length, length-replicate}
use Rattle.std.specs.Prelude.{Result, Ok, Err, IsErrAnd}
use Rattle.definition.specs.Call.{Inputs, before_text}
use Rattle.words.specs.Given.{form_entries, mode_in, choices_in}
use Rattle.jettyfig.specs.declared.Refusal.{Refusal as Refused}
use Rattle.jettyfig.specs.Verdicts.{given, passed, asked-passed}
use Rattle.jettyfig.specs.Calls.{first-refused}
use Rattle.jettyfig.specs.Steps.{SetsUp}
use Rattle.jettyfig.proofs.Parts.{forms-lent, asked, asked-mode, asked-choices, asked_blank, asked-room}
use Rattle.jettyfig.proofs.Setting.{sets}
use Rattle.jettyfig.proofs.set_up.Goals as goal

-- a refusal is passed on
told : (i : Inputs) (after : List ℕ) (v : Result ℕ Refused) (r : Refused) → IsErrAnd v (λ e. e ≡ r) → SetsUp i after (Err r) → SetsUp i after v
told i after (Ok n) r h t = absurd h
told i after (Err e) r h t = subst (λ (q : Refused). SetsUp i after (Err q)) (sym h) t

pub check-requires : goal.check-requires
check-requires c = forms-lent c.args.prepared.now c.requires.0

pub set_up_text-requires : goal.set_up_text-requires
set_up_text-requires c =
    let t = c.args.tables.now in
    let long : length c.check.new.index ≡ form_entries = c.check.auto.index ∙ ap length (forms-lent c.args.prepared.now c.requires.0) ∙ length-replicate {A = ℕ} form_entries 0 in
    let p = passed (mode_in c.args.prepared.now) (choices_in c.args.prepared.now) t.rules.now t.classes.now t.vowels.now t.decompositions.now t.code.now
    (sym (asked-passed _ _ t.rules.now t.classes.now t.vowels.now t.decompositions.now t.code.now c.requires.1) ∙ sym c.in_ok-check.ensures.verdict) in
    record {
      ruled = p.rules;
      classed = p.classes;
      decompositions = t.decompositions.now;
      blank = asked_blank c.args.prepared.now c.requires.0 c.check.new.index long t.decompositions.now c.in_ok-check.ensures.index.1;
      room = asked-room c.args.prepared.now c.requires.0 c.check.new.index long;
    }

pub returns-in_err-check : goal.returns-in_err-check
returns-in_err-check c =
    let t = c.args.tables.now in
    told _ _ _ _ c.from_residual.ensures.1
    (first-refused _ _ (sym (asked-passed _ _ t.rules.now t.classes.now t.vowels.now t.decompositions.now t.code.now c.requires.1) ∙ sym c.in_err-check.ensures.verdict))

pub returns : goal.returns
returns c =
    let t = c.args.tables.now in
    let long : length c.check.new.index ≡ form_entries = c.check.auto.index ∙ ap length (forms-lent c.args.prepared.now c.requires.0) ∙ length-replicate {A = ℕ} form_entries 0 in
    let before : before_text (mode_in c.args.prepared.now) (choices_in c.args.prepared.now) t.rules.now t.classes.now t.vowels.now t.decompositions.now t.code.now ≡ none =
    sym (asked-passed _ _ t.rules.now t.classes.now t.vowels.now t.decompositions.now t.code.now c.requires.1) ∙ sym c.in_ok-check.ensures.verdict in
    sets (given (mode_in c.args.prepared.now) (choices_in c.args.prepared.now) t.rules.now t.classes.now t.vowels.now t.decompositions.now t.code.now c.args.text.now 0 0 0)
    (asked c.args.prepared.now c.requires.0 c.check.new.index long) c.set_up_text.new.prepared before
    (asked_blank c.args.prepared.now c.requires.0 c.check.new.index long t.decompositions.now c.in_ok-check.ensures.index.1).forms
    (asked-mode c.args.prepared.now c.requires.0 c.check.new.index long)
    (asked-choices c.args.prepared.now c.requires.0 c.check.new.index long) c.set_up_text.result c.set_up_text.ensures
