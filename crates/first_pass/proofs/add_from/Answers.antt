-- `first_pass::add_from`: what is left of the rising ends does what all of them do.
use Rattle.std.specs.Prelude.{Ok, Err}
use Rattle.std.proofs.lemmas.Result.{err_from_is_err_and}
use mathlib.Core.Bool.{Bool, not, true, false}
use mathlib.Core.Path.{◌≡◌, refl, sym, ap, subst}
use Prim.Native.Nat.{ℕ, ◌+◌, ◌-◌, ◌*◌}
use native.Mathlib.Omega.{arith}
use Rattle.definition.specs.Limits.{most_source, most_bytes}
use Rattle.definition.specs.Building.{build}
use Rattle.definition.specs.Call.{tables_of}
use Rattle.edge.specs.Slots.{edges_of}
use Rattle.words.specs.declared.given.Span.{Span}
use Rattle.words.specs.Given.{line-size}
use Rattle.passes.specs.Reached.{with_edges}
use Rattle.passes.proofs.Passing.{going_first, going_lent}
use Rattle.first_pass.specs.Rises.{prefix_past, rises}
use Rattle.first_pass.specs.Fresh.{Fresh}
use Rattle.first_pass.proofs.Rising.{look_prefix, look_last, rising_ended, rising_over, rising_refused, rising_next, rising_used, rising-fresh}
use Rattle.first_pass.proofs.add_from.Goals as goal

untrue : (b : Bool) → not b ≡ true → b ≡ false
untrue true e = sym e
untrue false e = refl

pub loop-e-init : goal.loop-e-init
unfolding build
loop-e-init c =
    let first : c.args.s + 1 + most_source - (c.args.s + 1) ≡ most_source = omega arith in (
      λ w o. rw first (going_first o (rises (tables_of w.choices c.args.dicts.now.rules.now w.classes c.args.dicts.now.vowels.now c.args.dicts.now.code.now) w.text c.args.s (c.args.s + 1) most_source)),
      c.requires.4,
      omega arith,
      refl,
      refl,
      refl,
    )

pub returns-then-n-e : goal.returns-then-n-e
returns-then-n-e c =
    let a = c.args in
    let l = c.loop-e in
    λ w o.
    let long = line-size o.lent.text in
    let D = tables_of w.choices a.dicts.now.rules.now w.classes a.dicts.now.vowels.now a.dicts.now.code.now in
    rising_ended a.dicts.now.rules.now a.dicts.now.vowels.now a.dicts.now.code.now o a.s l.e (a.s + 1 + most_source - l.e) (a.filled.used + most_source * most_bytes) {t = l.taken}
    (l.invariant.0 w o) (omega (arith, l.invariant.2))
    (sym (prefix_past D.rules w.text a.s l.e (omega (arith, c.requires.2, long)) (omega arith) (omega (arith, c.text_len-n.ensures, long, c.if-n-e.true))))

pub returns-then-not-is_known : goal.returns-then-not-is_known
unfolding tables_of
returns-then-not-is_known c =
    let a = c.args in
    let l = c.loop-e in
    let look = c.look_up-look.ensures.0 in
    let from = ap (λ (s : Span). s.from) c.look_up-look.ensures.1 in
    let to = ap (λ (s : Span). s.to) c.look_up-look.ensures.1 in
    λ w o.
    rising_ended a.dicts.now.rules.now a.dicts.now.vowels.now a.dicts.now.code.now o a.s l.e (a.s + 1 + most_source - l.e) (a.filled.used + most_source * most_bytes) {t = l.taken}
    (l.invariant.0 w o) (omega (arith, l.invariant.2))
    (look_prefix c.requires.0.table.accepted look a.s l.e from to o.lent.text false c.if-not-is_known.ensures)

pub add_span-requires : goal.add_span-requires
add_span-requires c =
    let w = c.requires.3.world in
    let o = c.requires.3.over in
    let l = c.loop-e in
    let since = c.args.filled.since in (
      c.requires.0,
      c.requires.1,
      c.look_up-look.ensures.0,
      record { world = with_edges w (edges_of l.room l.taken.count l.slots); over = going_lent o since (l.invariant.0 w o) },
      subst (λ (m : ℕ). Fresh m l.slots l.room (record { count = l.taken.count; used = l.taken.used; since = since })) (sym (ap (λ (s : Span). s.from) c.look_up-look.ensures.1)) l.invariant.1,
      omega (arith, l.invariant.2, c.requires.5),
    )

pub returns-in_err-taken : goal.returns-in_err-taken
returns-in_err-taken c =
    let a = c.args in
    let l = c.loop-e in
    let look = c.look_up-look.ensures.0 in
    let from = ap (λ (s : Span). s.from) c.look_up-look.ensures.1 in
    let to = ap (λ (s : Span). s.to) c.look_up-look.ensures.1 in
    let p = err_from_is_err_and c.from_residual.result c.from_residual.ensures.1 in
    λ w o. rw (p.1, p.2)
    (rising_refused a.dicts.now.rules.now a.dicts.now.vowels.now a.dicts.now.code.now o a.s l.e (a.s + 1 + most_source - l.e) (a.filled.used + most_source * most_bytes) {t = l.taken}
    (l.invariant.0 w o) c.requires.0.table.accepted look from to c.if-not-is_known.ensures (a.s + 1 + most_source - (l.e + 1)) (omega arith)
    (Err c.in_err-taken.field-0.0)
    (c.in_err-taken.ensures (with_edges w (edges_of l.room l.taken.count l.slots)) (going_lent o a.filled.since (l.invariant.0 w o))) tt)

pub returns-then-not-look : goal.returns-then-not-look
unfolding tables_of
returns-then-not-look c =
    let a = c.args in
    let l = c.loop-e in
    let look = c.look_up-look.ensures.0 in
    let from = ap (λ (s : Span). s.from) c.look_up-look.ensures.1 in
    let to = ap (λ (s : Span). s.to) c.look_up-look.ensures.1 in
    λ w o.
    let b = c.in_ok-taken.ensures (with_edges w (edges_of l.room l.taken.count l.slots)) (going_lent o a.filled.since (l.invariant.0 w o)) in
    let next = rising_next a.dicts.now.rules.now a.dicts.now.vowels.now a.dicts.now.code.now o a.s l.e (a.s + 1 + most_source - l.e) (a.filled.used + most_source * most_bytes) {t = l.taken}
    (l.invariant.0 w o) c.requires.0.table.accepted look from to c.if-not-is_known.ensures (a.s + 1 + most_source - (l.e + 1)) (omega arith)
    (Ok c.in_ok-taken.taken) b c.in_ok-taken.taken refl in
    let used = rising_used a.dicts.now.rules.now a.dicts.now.vowels.now a.dicts.now.code.now o a.s l.e (a.s + 1 + most_source - l.e) (a.filled.used + most_source * most_bytes) {t = l.taken}
    (l.invariant.0 w o) c.requires.0.table.accepted look from to c.if-not-is_known.ensures (a.s + 1 + most_source - (l.e + 1)) (omega arith)
    (Ok c.in_ok-taken.taken) b c.in_ok-taken.taken refl in
    rising_ended a.dicts.now.rules.now a.dicts.now.vowels.now a.dicts.now.code.now o a.s (l.e + 1) (a.s + 1 + most_source - (l.e + 1)) (a.filled.used + most_source * most_bytes) {t = c.in_ok-taken.taken}
    next (omega (arith, used, l.invariant.2))
    (look_last c.requires.0.table.accepted look a.s l.e from to o.lent.text (untrue _ c.if-not-look.true))

pub loop-e-preserved : goal.loop-e-preserved
loop-e-preserved c =
    let a = c.args in
    let l = c.loop-e in
    let look = c.look_up-look.ensures.0 in
    let from = ap (λ (s : Span). s.from) c.look_up-look.ensures.1 in
    let to = ap (λ (s : Span). s.to) c.look_up-look.ensures.1 in
    let w₀ = c.requires.3.world in
    let o₀ = c.requires.3.over in
    let b₀ = c.in_ok-taken.ensures (with_edges w₀ (edges_of l.room l.taken.count l.slots)) (going_lent o₀ a.filled.since (l.invariant.0 w₀ o₀)) in
    let used = rising_used a.dicts.now.rules.now a.dicts.now.vowels.now a.dicts.now.code.now o₀ a.s l.e (a.s + 1 + most_source - l.e) (a.filled.used + most_source * most_bytes) {t = l.taken}
    (l.invariant.0 w₀ o₀) c.requires.0.table.accepted look from to c.if-not-is_known.ensures (a.s + 1 + most_source - (l.e + 1)) (omega arith)
    (Ok c.in_ok-taken.taken) b₀ c.in_ok-taken.taken refl in (
      λ w o. rising_next a.dicts.now.rules.now a.dicts.now.vowels.now a.dicts.now.code.now o a.s l.e (a.s + 1 + most_source - l.e) (a.filled.used + most_source * most_bytes) {t = l.taken}
          (l.invariant.0 w o) c.requires.0.table.accepted look from to c.if-not-is_known.ensures (a.s + 1 + most_source - (l.e + 1)) (omega arith)
          (Ok c.in_ok-taken.taken)
          (c.in_ok-taken.ensures (with_edges w (edges_of l.room l.taken.count l.slots)) (going_lent o a.filled.since (l.invariant.0 w o)))
          c.in_ok-taken.taken refl,
      rising-fresh a.dicts.now.rules.now a.dicts.now.vowels.now a.dicts.now.code.now o₀ a.s l.e (a.s + 1 + most_source - l.e) (a.filled.used + most_source * most_bytes) {t = l.taken}
          (l.invariant.0 w₀ o₀) c.requires.0.table.accepted look from to c.if-not-is_known.ensures (a.s + 1 + most_source - (l.e + 1)) (omega arith)
          (Ok c.in_ok-taken.taken) b₀ c.in_ok-taken.taken refl a.filled.since l.invariant.1,
      omega (arith, used, l.invariant.2),
      omega (arith, c.add_span.auto.slots, l.invariant.3),
      omega (arith, c.add_span.auto.room, l.invariant.4),
      omega (arith, c.add_span.auto.places, l.invariant.5),
    )

pub returns : goal.returns
returns c =
    let a = c.args in
    let l = c.loop-e in
    λ w o.
    rising_over a.dicts.now.rules.now a.dicts.now.vowels.now a.dicts.now.code.now o a.s l.e (a.s + 1 + most_source - l.e) (a.filled.used + most_source * most_bytes) {t = l.taken}
    (l.invariant.0 w o) (omega (arith, l.invariant.2)) (omega arith)
