-- `decomp_pass::add_romanization`: what is left of the starts does what all of them do.
use Rattle.std.specs.Prelude.{Ok, Err}
use Rattle.std.proofs.lemmas.Result.{err_from_is_err_and}
use mathlib.Core.Path.{◌≡◌, refl, sym, ap, ◌∙◌, subst}
use Prim.Native.Nat.{ℕ, ◌+◌, ◌-◌}
use native.Mathlib.Omega.{arith}
use Rattle.definition.specs.DecompositionRows.{decompositions_of}
use Rattle.words.specs.Given.{size_in, line-half}
use Rattle.table_decompositions.specs.Index.{Ready}
use Rattle.table_decompositions.specs.Next.{next_form}
use Rattle.decomp_pass.proofs.Between.{next-inside}
use Rattle.decomp_pass.proofs.Halfway.{halfway_first, stretch_ready, rest_passes, rest-begins}
use Rattle.decomp_pass.proofs.Turns.{stretch-refused, form_ready, form-refused, form-next}
use Rattle.decomp_pass.proofs.add_romanization.Goals as goal

pub next_form-at-requires : goal.next_form-at-requires
next_form-at-requires c = (
  subst (Ready c.args.dicts.now.decompositions.now) (sym c.forms_in.ensures) c.requires.forms.forms,
  omega arith,
  omega (arith, c.text_len-n.ensures, line-half c.requires.somewhere.over.lent.text),
)

pub loop-at-init : goal.loop-at-init
loop-at-init c = (
  halfway_first c.requires,
  c.next_form-at.ensures
      ∙ ap (λ (n : ℕ). next_form (decompositions_of c.args.dicts.now.decompositions.now) c.args.line.now (n - 0) 0) c.text_len-n.ensures,
  refl,
  refl,
  refl,
  refl,
)

pub add_romanization-requires : goal.add_romanization-requires
add_romanization-requires c =
    let l = c.loop-at in
    let inside = next-inside (decompositions_of c.args.dicts.now.decompositions.now) c.args.line.now (size_in c.args.line.now) l.s l.at l.invariant.0.inside l.invariant.1 in
    stretch_ready c.requires l.invariant.0 (l.at + 1) (omega (arith, inside.0)) (omega (arith, c.loop-at-test.true, c.text_len-n.ensures))

pub add_decomp-requires : goal.add_decomp-requires
add_decomp-requires c =
    let l = c.loop-at in
    let a = c.add_romanization.new in
    form_ready c.requires l.invariant.0 l.at l.invariant.1 (omega (arith, c.loop-at-test.true, c.text_len-n.ensures)) a.slots a.room a.places a.starts
    (Ok c.in_ok-spans.spans) c.in_ok-spans.ensures.built c.in_ok-spans.ensures.starts c.in_ok-spans.spans.count c.in_ok-spans.spans.used refl
    c.since.result c.since.ensures

pub returns-in_err-taken-clause-built : goal.returns-in_err-taken-clause-built
returns-in_err-taken-clause-built c =
    let l = c.loop-at in
    let a = c.add_romanization.new in
    let b = c.add_decomp.new in
    let p = err_from_is_err_and c.from_residual-in_err-taken.result c.from_residual-in_err-taken.ensures.1 in
    rw (p.1, p.2)
    (form-refused c.requires l.invariant.0 l.at l.invariant.1 (omega (arith, c.loop-at-test.true, c.text_len-n.ensures)) a.slots a.room a.places a.starts
    (Ok c.in_ok-spans.spans) c.in_ok-spans.ensures.built c.in_ok-spans.ensures.starts c.in_ok-spans.spans.count c.in_ok-spans.spans.used refl
    c.since.result b.slots b.room b.places (Err c.in_err-taken.field-0.0) (c.in_err-taken.ensures c.args.dicts.now.code.now) tt)

pub returns-in_err-spans-clause-built : goal.returns-in_err-spans-clause-built
returns-in_err-spans-clause-built c =
    let l = c.loop-at in
    let a = c.add_romanization.new in
    let p = err_from_is_err_and c.from_residual.result c.from_residual.ensures.1 in
    rw (p.1, p.2)
    (stretch-refused c.requires l.invariant.0 l.at l.invariant.1 (omega (arith, c.loop-at-test.true, c.text_len-n.ensures)) a.slots a.room a.places a.starts
    (Err c.in_err-spans.field-0.0) c.in_err-spans.ensures.built c.in_err-spans.ensures.starts tt)

pub loop-at-smaller : goal.loop-at-smaller
loop-at-smaller c =
    let l = c.loop-at in
    let inside = next-inside (decompositions_of c.args.dicts.now.decompositions.now) c.args.line.now (size_in c.args.line.now) l.s l.at l.invariant.0.inside l.invariant.1 in
    omega (arith, inside.0, c.loop-at-test.true, c.text_len-n.ensures)

pub loop-at-preserved : goal.loop-at-preserved
loop-at-preserved c =
    let l = c.loop-at in
    let i = l.invariant in
    let a = c.add_romanization.new in
    let b = c.add_decomp.new in (
      form-next c.requires i.0 l.at i.1 (omega (arith, c.loop-at-test.true, c.text_len-n.ensures)) a.slots a.room a.places a.starts
          (Ok c.in_ok-spans.spans) c.in_ok-spans.ensures.built c.in_ok-spans.ensures.starts c.in_ok-spans.spans.count c.in_ok-spans.spans.used refl
          c.since.result b.slots b.room b.places (Ok c.in_ok-taken.taken) (c.in_ok-taken.ensures c.args.dicts.now.code.now)
          c.in_ok-taken.taken.count c.in_ok-taken.taken.used refl,
      c.next_form-at-in-loop-at.ensures
          ∙ ap (λ (n : ℕ). next_form (decompositions_of c.args.dicts.now.decompositions.now) c.args.line.now (n - (l.at + 1)) (l.at + 1)) c.text_len-n.ensures,
      c.add_decomp.auto.slots ∙ c.add_romanization.auto.slots ∙ i.2,
      c.add_decomp.auto.room ∙ c.add_romanization.auto.room ∙ i.3,
      c.add_decomp.auto.places ∙ c.add_romanization.auto.places ∙ i.4,
      c.add_romanization.auto.starts ∙ i.5,
    )

pub add_romanization-requires-2 : goal.add_romanization-requires-2
add_romanization-requires-2 c =
    let i = c.loop-at.invariant.0 in
    stretch_ready c.requires i c.text_len-n.result (omega (arith, i.inside, c.text_len-n.ensures)) (omega (arith, c.text_len-n.ensures))

pub returns-in_err-all-clause-built : goal.returns-in_err-all-clause-built
returns-in_err-all-clause-built c =
    let l = c.loop-at in
    let n = size_in c.args.line.now in
    let inside = next-inside (decompositions_of c.args.dicts.now.decompositions.now) c.args.line.now n l.s l.at l.invariant.0.inside l.invariant.1 in
    let none_left : n ≡ l.at = omega (arith, inside.1, c.loop-at-test.false, c.text_len-n.ensures) in
    let b = c.add_romanization-2.new in
    let p = err_from_is_err_and c.from_residual-in_err-all.result c.from_residual-in_err-all.ensures.1 in
    rw (p.1, p.2)
    (rest_passes c.requires l.invariant.0 (none_left ∙ l.invariant.1) c.text_len-n.result c.text_len-n.ensures b.slots b.room b.places
    (Err c.in_err-all.field-0.0) c.in_err-all.ensures.built)

pub returns : goal.returns
returns c =
    let l = c.loop-at in
    let n = size_in c.args.line.now in
    let inside = next-inside (decompositions_of c.args.dicts.now.decompositions.now) c.args.line.now n l.s l.at l.invariant.0.inside l.invariant.1 in
    let none_left : n ≡ l.at = omega (arith, inside.1, c.loop-at-test.false, c.text_len-n.ensures) in
    let b = c.add_romanization-2.new in
    record {
      built = rest_passes c.requires l.invariant.0 (none_left ∙ l.invariant.1) c.text_len-n.result c.text_len-n.ensures b.slots b.room b.places
          (Ok c.in_ok-all.all) c.in_ok-all.ensures.built;
      starts = rest-begins b.slots b.room n b.starts (record { count = l.taken.count; used = l.taken.used; from = l.s; to = c.text_len-n.result })
          (Ok c.in_ok-all.all) c.text_len-n.ensures c.in_ok-all.ensures.starts;
    }
