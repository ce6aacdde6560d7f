-- `jettyfig::set_up_text`: the text's refusal, or its line and what is made ready with it.
use Prim.Native.Nat.{ℕ, ◌+◌, ◌-◌, ◌*◌, ◌≤◌}
use mathlib.Core.List.{List}
use mathlib.Core.Path.{◌≡◌, sym, ap, ◌∙◌, subst}
use native.Mathlib.Omega.{arith}
use lib.ListN.{length, drop, length-drop}
use lib.Seq.{length-take-le}
use borrow.Rule.Slice.PartMut.{mid_of}
use Rattle.std.specs.Prelude.{Result, Ok, Err, IsErrAnd}
use Rattle.base.specs.Loans.{lent-end}
use Rattle.definition.specs.Limits.{most_characters}
use Rattle.definition.specs.Utf8.{decoded}
use Rattle.words.specs.Given.{all_ready}
use Rattle.jettyfig.specs.declared.Refusal.{Refusal as Refused}
use Rattle.jettyfig.specs.Steps.{LineRoom, used_for, TextMade, TextSet}
use Rattle.jettyfig.proofs.Parts.{whole, whole_long, cut-mode, cut-choices, cut-forms, cut_line, cut_blank}
use Rattle.jettyfig.proofs.Wholes.{back_is, back_inside}
use Rattle.jettyfig.proofs.set_up_text.Goals as goal

-- the line that is lent has room for the text and its classes
roomy : (prepared line text : List ℕ) (n : ℕ) → LineRoom text (length prepared - all_ready) → n ≡ length (decoded text) → n ≤ most_characters
    → length line ≡ length (mid_of all_ready (length prepared - all_ready) prepared) → 2 * (n + 3) ≤ length line
roomy prepared line text n r k few l =
    omega (arith, ap length (lent-end prepared all_ready), length-drop all_ready prepared, r.1 (omega (arith, k, few)))

-- a text's refusal is passed on
told : (rules classes text before after : List ℕ) (v : Result ℕ Refused) (r : Refused) → IsErrAnd v (λ e. e ≡ r)
    → TextSet rules classes text before after (Err r) → TextSet rules classes text before after v
told rules classes text before after (Ok n) r h t = absurd h
told rules classes text before after (Err e) r h t = subst (λ (q : Refused). TextSet rules classes text before after (Err q)) (sym h) t

pub overflow_add-n : goal.overflow_add-n
overflow_add-n c = let few = c.in_ok-n.ensures.line.1 in omega (arith, few)

pub overflow_mul-n : goal.overflow_mul-n
overflow_mul-n c = let few = c.in_ok-n.ensures.line.1 in omega (arith, few)

pub slice_bounds-make_ready-end : goal.slice_bounds-make_ready-end
slice_bounds-make_ready-end c =
    let e = c.in_ok-n.ensures.line in
    whole_long c.args.prepared.now c.lay_out.new.line c.requires.blank.long (2 * (c.in_ok-n.n + 3))
    (roomy c.args.prepared.now c.lay_out.new.line c.args.text.now c.in_ok-n.n c.requires.room e.0 e.1 c.lay_out.auto.line)

pub slice_bounds-make_ready-end-2 : goal.slice_bounds-make_ready-end-2
slice_bounds-make_ready-end-2 c =
    let e = c.in_ok-n.ensures.line in
    sym (length-take-le (used_for c.in_ok-n.n) _ (whole_long c.args.prepared.now c.lay_out.new.line c.requires.blank.long (2 * (c.in_ok-n.n + 3))
    (roomy c.args.prepared.now c.lay_out.new.line c.args.text.now c.in_ok-n.n c.requires.room e.0 e.1 c.lay_out.auto.line)))

pub make_ready-requires : goal.make_ready-requires
make_ready-requires c =
    let e = c.in_ok-n.ensures.line in
    let room = roomy c.args.prepared.now c.lay_out.new.line c.args.text.now c.in_ok-n.n c.requires.room e.0 e.1 c.lay_out.auto.line in (
      c.requires.ruled,
      c.requires.classed,
      (c.requires.decompositions, cut_blank c.args.prepared.now c.lay_out.new.line c.requires.blank.long (2 * (c.in_ok-n.n + 3)) room c.requires.decompositions c.requires.blank),
    )

pub returns-in_err-n : goal.returns-in_err-n
returns-in_err-n c = told _ _ _ _ _ _ _ c.from_residual.ensures.1 (sym c.in_err-n.ensures.refusal)

pub returns : goal.returns
returns c =
    let e = c.in_ok-n.ensures.line in
    let m = 2 * (c.in_ok-n.n + 3) in
    let long = c.requires.blank.long in
    let room = roomy c.args.prepared.now c.lay_out.new.line c.args.text.now c.in_ok-n.n c.requires.room e.0 e.1 c.lay_out.auto.line in
    let made = c.make_ready.ensures in
    let back = c.make_ready.new.prepared in
    let rest = drop (used_for c.in_ok-n.n) (whole c.args.prepared.now c.lay_out.new.line long m room) in
    let size : length back ≡ used_for c.in_ok-n.n = c.make_ready.auto.prepared
    ∙ length-take-le (used_for c.in_ok-n.n) _ (whole_long c.args.prepared.now c.lay_out.new.line long m room) in (
      sym c.in_ok-n.ensures.refusal,
      e.1,
      back_inside back rest (used_for c.in_ok-n.n) size,
      subst (TextMade c.args.tables.now.rules.now c.args.tables.now.classes.now c.args.text.now c.args.prepared.now) (sym (back_is back rest (used_for c.in_ok-n.n) size)) (record {
        letters = made.letters;
        choices = made.choices ∙ cut-choices c.args.prepared.now c.lay_out.new.line long m room;
        mode = made.mode ∙ cut-mode c.args.prepared.now c.lay_out.new.line long m room;
        forms = made.forms ∙ cut-forms c.args.prepared.now c.lay_out.new.line long m room;
        index = made.index;
        line = made.line ∙ cut_line c.args.prepared.now c.lay_out.new.line long m room ∙ e.2;
        long = omega (arith, size);
      }),
    )
