-- `first_pass::add_romanization`: what is left of the stretch does what all of it does.
use Rattle.std.specs.Prelude.{Ok, Err}
use Rattle.std.proofs.lemmas.Result.{err_from_is_err_and}
use mathlib.Core.List.{List}
use mathlib.Core.Path.{◌≡◌, refl, sym, ap, ◌∙◌, subst}
use Prim.Native.Nat.{ℕ, ◌+◌, ◌-◌, ◌*◌, ◌≤◌, ◌<◌}
use native.Mathlib.Omega.{arith}
use lib.ListN.{length, set, length-set}
use Rattle.base.specs.Alls.{All}
use Rattle.definition.specs.Limits.{most_source, most_bytes}
use Rattle.definition.specs.Edges.{Edge}
use Rattle.definition.specs.Building.{each, build}
use Rattle.definition.specs.Growth.{build-grown}
use Rattle.definition.proofs.Promises.{tables-bounded}
use Rattle.definition.specs.Call.{tables_of}
use Rattle.edge.specs.Answers.{fits}
use Rattle.edge.specs.Slots.{edges_of}
use Rattle.edge.specs.Stored.{edge_count}
use Rattle.words.specs.Given.{World, kinds, size, size_in, line-size}
use Rattle.standing.specs.Starts.{begun_limit}
use Rattle.standing.specs.Begun.{Begun}
use Rattle.standing.specs.Stands.{Ahead}
use Rattle.passes.specs.Reached.{Over, Reached, state_of, with_edges, Refused}
use Rattle.passes.proofs.Passing.{kept, Going, going_lent, passing_over, passing_refused, passing_next, passing_used, passing_edges, passing_few}
use Rattle.first_pass.specs.FirstPass.{filled_of}
use Rattle.first_pass.proofs.Passes.{build-begun, build_ahead, fresh-begun, begun_turn, begun-last}
use Rattle.first_pass.proofs.add_romanization.Goals as goal

pub begin_at-requires : goal.begin_at-requires
begin_at-requires c =
    let few-edges : c.loop-s.taken.count < begun_limit = let o = c.requires.somewhere.over in
    let few = o.lent.text.few in
    omega (arith, c.loop-s.invariant.4, c.requires.few, c.requires.inside, few, line-size o.lent.text) in
    (omega (arith, c.loop-s.invariant.2, c.requires.inside), few-edges)

pub add_from-requires : goal.add_from-requires
add_from-requires c =
    let w = c.requires.somewhere.world in
    let o = c.requires.somewhere.over in
    let few = o.lent.text.few in (
      c.requires.table,
      c.requires.inherent,
      omega (arith, c.requires.inside),
      record { world = with_edges w (edges_of c.loop-s.room c.loop-s.taken.count c.loop-s.slots); over = going_lent o c.since.result (c.loop-s.invariant.0 w o) },
      fresh-begun c.loop-s.slots c.loop-s.room c.loop-s.s c.loop-s.taken.count c.loop-s.taken.used c.since.result c.begin_at.new.starts
          (subst (Begun (edges_of c.loop-s.room c.loop-s.taken.count c.loop-s.slots) c.loop-s.s) (sym c.begin_at.ensures) c.loop-s.invariant.1) c.since.ensures,
      omega (arith, c.loop-s.invariant.5, c.requires.little, c.requires.inside, few, line-size o.lent.text),
    )

pub returns-in_err-taken-clause-built : goal.returns-in_err-taken-clause-built
returns-in_err-taken-clause-built c =
    let one_more : (w : World) → (o : (Over w c.args.dicts.now.ready.now c.args.line.now c.args.slots.now c.args.room.now c.args.places.now (filled_of c.args.stretch))) → c.args.stretch.to - c.loop-s.s ≡ ((c.args.stretch.to - (c.loop-s.s + 1))) + 1 = λ w. λ o. omega (arith) in
    let asked : (w : World) → (o : (Over w c.args.dicts.now.ready.now c.args.line.now c.args.slots.now c.args.room.now c.args.places.now (filled_of c.args.stretch))) → Reached (kinds w) (size w) c.loop-s.slots c.loop-s.room c.add_from.new.slots c.add_from.new.room c.add_from.new.places (c.loop-s.taken.used + most_source * most_bytes) (((build ((tables_of w.choices c.args.dicts.now.rules.now w.classes c.args.dicts.now.vowels.now c.args.dicts.now.code.now)) w.text)) c.loop-s.s ((kept (size w) c.loop-s.slots c.loop-s.room c.loop-s.places c.loop-s.taken.count))) (Err c.in_err-taken.field-0.0) = λ w. λ o. c.in_err-taken.ensures (with_edges w ((kept (size w) c.loop-s.slots c.loop-s.room c.loop-s.places c.loop-s.taken.count)).0)
    (going_lent o c.since.result (c.loop-s.invariant.0 w o)) in
    let stops : (w : World) → (o : (Over w c.args.dicts.now.ready.now c.args.line.now c.args.slots.now c.args.room.now c.args.places.now (filled_of c.args.stretch))) → (q : Refused (Err c.in_err-taken.field-0.0)) → Reached (kinds w) (size w) c.args.slots.now c.args.room.now c.add_from.new.slots c.add_from.new.room c.add_from.new.places ((c.args.stretch.used + (c.args.stretch.to - c.args.stretch.from) * (most_source * most_bytes))) (each ((build ((tables_of w.choices c.args.dicts.now.rules.now w.classes c.args.dicts.now.vowels.now c.args.dicts.now.code.now)) w.text)) (c.args.stretch.to - c.args.stretch.from) c.args.stretch.from (state_of w c.args.places.now)) (Err c.in_err-taken.field-0.0) = λ w. λ o. λ q. passing_refused ((build ((tables_of w.choices c.args.dicts.now.rules.now w.classes c.args.dicts.now.vowels.now c.args.dicts.now.code.now)) w.text)) most_source (build-grown ((tables_of w.choices c.args.dicts.now.rules.now w.classes c.args.dicts.now.vowels.now c.args.dicts.now.code.now)) w.text) c.loop-s.s (c.args.stretch.to - c.loop-s.s) (c.loop-s.invariant.0 w o)
    ((c.args.stretch.to - (c.loop-s.s + 1))) (one_more w o) (Err c.in_err-taken.field-0.0) (asked w o) ((c.args.stretch.used + (c.args.stretch.to - c.args.stretch.from) * (most_source * most_bytes))) q in
    let p = err_from_is_err_and c.from_residual.result c.from_residual.ensures.1 in
    λ w o. rw (p.1, p.2) (stops w o tt)

pub loop-s-preserved : goal.loop-s-preserved
loop-s-preserved c =
    let still-long : length c.begin_at.new.starts ≡ length c.args.starts.now = omega (arith, ap length c.begin_at.ensures, length-set c.loop-s.starts c.loop-s.s c.loop-s.taken.count, c.loop-s.invariant.9) in
    let one_more : (w : World) → (o : (Over w c.args.dicts.now.ready.now c.args.line.now c.args.slots.now c.args.room.now c.args.places.now (filled_of c.args.stretch))) → c.args.stretch.to - c.loop-s.s ≡ ((c.args.stretch.to - (c.loop-s.s + 1))) + 1 = λ w. λ o. omega (arith) in
    let asked : (w : World) → (o : (Over w c.args.dicts.now.ready.now c.args.line.now c.args.slots.now c.args.room.now c.args.places.now (filled_of c.args.stretch))) → Reached (kinds w) (size w) c.loop-s.slots c.loop-s.room c.add_from.new.slots c.add_from.new.room c.add_from.new.places (c.loop-s.taken.used + most_source * most_bytes) (((build ((tables_of w.choices c.args.dicts.now.rules.now w.classes c.args.dicts.now.vowels.now c.args.dicts.now.code.now)) w.text)) c.loop-s.s ((kept (size w) c.loop-s.slots c.loop-s.room c.loop-s.places c.loop-s.taken.count))) (Ok c.in_ok-taken.taken) = λ w. λ o. c.in_ok-taken.ensures (with_edges w ((kept (size w) c.loop-s.slots c.loop-s.room c.loop-s.places c.loop-s.taken.count)).0)
    (going_lent o c.since.result (c.loop-s.invariant.0 w o)) in
    let goes : (w : World) → (o : (Over w c.args.dicts.now.ready.now c.args.line.now c.args.slots.now c.args.room.now c.args.places.now (filled_of c.args.stretch))) → (count : ℕ) → (used : ℕ) → (q : (Ok c.in_ok-taken.taken) ≡ fits count used) → Going (each ((build ((tables_of w.choices c.args.dicts.now.rules.now w.classes c.args.dicts.now.vowels.now c.args.dicts.now.code.now)) w.text)) ((c.args.stretch.to - (c.loop-s.s + 1))) (c.loop-s.s + 1)) (kinds w) (size w) c.args.slots.now c.args.room.now (each ((build ((tables_of w.choices c.args.dicts.now.rules.now w.classes c.args.dicts.now.vowels.now c.args.dicts.now.code.now)) w.text)) (c.args.stretch.to - c.args.stretch.from) c.args.stretch.from (state_of w c.args.places.now)) c.add_from.new.slots c.add_from.new.room c.add_from.new.places count used = λ w. λ o. λ count. λ used. λ q. passing_next ((build ((tables_of w.choices c.args.dicts.now.rules.now w.classes c.args.dicts.now.vowels.now c.args.dicts.now.code.now)) w.text)) most_source (build-grown ((tables_of w.choices c.args.dicts.now.rules.now w.classes c.args.dicts.now.vowels.now c.args.dicts.now.code.now)) w.text) c.loop-s.s (c.args.stretch.to - c.loop-s.s) (c.loop-s.invariant.0 w o)
    ((c.args.stretch.to - (c.loop-s.s + 1))) (one_more w o) (Ok c.in_ok-taken.taken) (asked w o) count used q in
    let uses : (w : World) → (o : (Over w c.args.dicts.now.ready.now c.args.line.now c.args.slots.now c.args.room.now c.args.places.now (filled_of c.args.stretch))) → (count : ℕ) → (used : ℕ) → (q : (Ok c.in_ok-taken.taken) ≡ fits count used) → used ≤ c.loop-s.taken.used + most_source * most_bytes = λ w. λ o. λ count. λ used. λ q. passing_used ((build ((tables_of w.choices c.args.dicts.now.rules.now w.classes c.args.dicts.now.vowels.now c.args.dicts.now.code.now)) w.text)) most_source (build-grown ((tables_of w.choices c.args.dicts.now.rules.now w.classes c.args.dicts.now.vowels.now c.args.dicts.now.code.now)) w.text) c.loop-s.s (c.args.stretch.to - c.loop-s.s) (c.loop-s.invariant.0 w o)
    ((c.args.stretch.to - (c.loop-s.s + 1))) (one_more w o) (Ok c.in_ok-taken.taken) (asked w o) count used q in
    let counts : (w : World) → (o : (Over w c.args.dicts.now.ready.now c.args.line.now c.args.slots.now c.args.room.now c.args.places.now (filled_of c.args.stretch))) → (count : ℕ) → (used : ℕ) → (q : (Ok c.in_ok-taken.taken) ≡ fits count used) → count ≤ c.loop-s.taken.count + most_source = λ w. λ o. λ count. λ used. λ q. passing_few ((build ((tables_of w.choices c.args.dicts.now.rules.now w.classes c.args.dicts.now.vowels.now c.args.dicts.now.code.now)) w.text)) most_source (build-grown ((tables_of w.choices c.args.dicts.now.rules.now w.classes c.args.dicts.now.vowels.now c.args.dicts.now.code.now)) w.text) c.loop-s.s (c.args.stretch.to - c.loop-s.s) (c.loop-s.invariant.0 w o)
    ((c.args.stretch.to - (c.loop-s.s + 1))) (one_more w o) (Ok c.in_ok-taken.taken) (asked w o) count used q in
    let edges_are : (w : World) → (o : (Over w c.args.dicts.now.ready.now c.args.line.now c.args.slots.now c.args.room.now c.args.places.now (filled_of c.args.stretch))) → (count : ℕ) → (used : ℕ) → (q : (Ok c.in_ok-taken.taken) ≡ fits count used) → edges_of c.add_from.new.room count c.add_from.new.slots ≡ (((build ((tables_of w.choices c.args.dicts.now.rules.now w.classes c.args.dicts.now.vowels.now c.args.dicts.now.code.now)) w.text)) c.loop-s.s ((kept (size w) c.loop-s.slots c.loop-s.room c.loop-s.places c.loop-s.taken.count))).0 = λ w. λ o. λ count. λ used. λ q. passing_edges ((build ((tables_of w.choices c.args.dicts.now.rules.now w.classes c.args.dicts.now.vowels.now c.args.dicts.now.code.now)) w.text)) most_source (build-grown ((tables_of w.choices c.args.dicts.now.rules.now w.classes c.args.dicts.now.vowels.now c.args.dicts.now.code.now)) w.text) c.loop-s.s (c.args.stretch.to - c.loop-s.s) (c.loop-s.invariant.0 w o)
    ((c.args.stretch.to - (c.loop-s.s + 1))) (one_more w o) (Ok c.in_ok-taken.taken) (asked w o) count used q in
    let goes-ahead : (w : World) → (o : (Over w c.args.dicts.now.ready.now c.args.line.now c.args.slots.now c.args.room.now c.args.places.now (filled_of c.args.stretch))) → (count : ℕ) → (used : ℕ) → (q : (Ok c.in_ok-taken.taken) ≡ fits count used) → All (λ x. Ahead (size_in c.args.line.now) x.from x.to) (edges_of c.add_from.new.room count c.add_from.new.slots) = λ w. λ o. λ count. λ used. λ q. let is = line-size o.lent.text in
    let ok = tables-bounded w.choices c.args.dicts.now.rules.now w.classes c.args.dicts.now.vowels.now c.args.dicts.now.code.now c.requires.table.table.accepted o.lent.text.fine c.requires.inherent in
    subst (λ (es : List Edge). All (λ x. Ahead (size_in c.args.line.now) x.from x.to) es) (sym ((edges_are w o) count used q))
    (subst (λ (m : ℕ). All (λ x. Ahead m x.from x.to) (((build ((tables_of w.choices c.args.dicts.now.rules.now w.classes c.args.dicts.now.vowels.now c.args.dicts.now.code.now)) w.text)) c.loop-s.s ((kept (size w) c.loop-s.slots c.loop-s.room c.loop-s.places c.loop-s.taken.count))).0) (sym is)
    (build_ahead ((tables_of w.choices c.args.dicts.now.rules.now w.classes c.args.dicts.now.vowels.now c.args.dicts.now.code.now)) ok w.text c.loop-s.s ((kept (size w) c.loop-s.slots c.loop-s.room c.loop-s.places c.loop-s.taken.count)) (omega (arith, is, c.requires.inside))
    (subst (λ (m : ℕ). All (λ x. Ahead m x.from x.to) ((kept (size w) c.loop-s.slots c.loop-s.room c.loop-s.places c.loop-s.taken.count)).0) is c.loop-s.invariant.3))) in
    let begins : (w : World) → (o : (Over w c.args.dicts.now.ready.now c.args.line.now c.args.slots.now c.args.room.now c.args.places.now (filled_of c.args.stretch))) → (count : ℕ) → (used : ℕ) → (q : (Ok c.in_ok-taken.taken) ≡ fits count used) → Begun (edges_of c.add_from.new.room count c.add_from.new.slots) (c.loop-s.s + 1) (set c.begin_at.new.starts (c.loop-s.s + 1) count) = λ w. λ o. λ count. λ used. λ q. let few = o.lent.text.few in
    subst (λ (es : List Edge). Begun es (c.loop-s.s + 1) (set c.begin_at.new.starts (c.loop-s.s + 1) count)) (sym ((edges_are w o) count used q))
    (begun_turn c.begin_at.new.starts (size_in c.args.line.now) count
    (build-begun ((tables_of w.choices c.args.dicts.now.rules.now w.classes c.args.dicts.now.vowels.now c.args.dicts.now.code.now)) w.text (set c.loop-s.starts c.loop-s.s c.loop-s.taken.count) c.loop-s.s ((kept (size w) c.loop-s.slots c.loop-s.room c.loop-s.places c.loop-s.taken.count)) c.loop-s.invariant.1) c.begin_at.ensures
    (sym (edge_count c.add_from.new.slots c.add_from.new.room count) ∙ ap length ((edges_are w o) count used q))
    (omega (arith, ap length c.begin_at.ensures, length-set c.loop-s.starts c.loop-s.s c.loop-s.taken.count, c.loop-s.invariant.2))
    (omega (arith, c.requires.inside))
    (omega (arith, ((counts w o) count used q), c.loop-s.invariant.4, c.requires.few, c.requires.inside, few, line-size o.lent.text))) in
    let w = c.requires.somewhere.world in
    let o = c.requires.somewhere.over in
    let more = counts w o c.in_ok-taken.taken.count c.in_ok-taken.taken.used refl in
    let used = uses w o c.in_ok-taken.taken.count c.in_ok-taken.taken.used refl in
    let long = still-long in (
      λ w o. goes w o c.in_ok-taken.taken.count c.in_ok-taken.taken.used refl,
      begins w o c.in_ok-taken.taken.count c.in_ok-taken.taken.used refl,
      omega (arith, ap length c.begin_at.ensures, length-set c.loop-s.starts c.loop-s.s c.loop-s.taken.count, c.loop-s.invariant.2),
      goes-ahead w o c.in_ok-taken.taken.count c.in_ok-taken.taken.used refl,
      omega (arith, more, c.loop-s.invariant.4),
      omega (arith, used, c.loop-s.invariant.5),
      omega (arith, c.add_from.auto.slots, c.loop-s.invariant.6),
      omega (arith, c.add_from.auto.room, c.loop-s.invariant.7),
      omega (arith, c.add_from.auto.places, c.loop-s.invariant.8),
      long,
    )

pub begin_at-requires-2 : goal.begin_at-requires-2
begin_at-requires-2 c =
    let few-edges : c.loop-s.taken.count < begun_limit = let o = c.requires.somewhere.over in
    let few = o.lent.text.few in
    omega (arith, c.loop-s.invariant.4, c.requires.few, c.requires.inside, few, line-size o.lent.text) in
    (omega (arith, c.loop-s.invariant.2, c.requires.inside), few-edges)

pub returns-clause-built : goal.returns-clause-built
returns-clause-built c =
    let x = c.args.stretch in
    let end : c.loop-s.s ≡ x.to = omega (arith, c.requires.forward) in
    λ w o.
    passing_over (build (tables_of w.choices c.args.dicts.now.rules.now w.classes c.args.dicts.now.vowels.now c.args.dicts.now.code.now) w.text) most_source (build-grown (tables_of w.choices c.args.dicts.now.rules.now w.classes c.args.dicts.now.vowels.now c.args.dicts.now.code.now) w.text) c.loop-s.s (x.to - c.loop-s.s) (c.loop-s.invariant.0 w o)
    (x.used + (x.to - x.from) * (most_source * most_bytes)) (omega (arith, c.loop-s.invariant.5, end)) (omega (arith, end))

pub returns-clause-starts : goal.returns-clause-starts
returns-clause-starts c =
    let few-edges : c.loop-s.taken.count < begun_limit = let o = c.requires.somewhere.over in
    let few = o.lent.text.few in
    omega (arith, c.loop-s.invariant.4, c.requires.few, c.requires.inside, few, line-size o.lent.text) in
    let x = c.args.stretch in
    let end : c.loop-s.s ≡ x.to = omega (arith, c.requires.forward) in (
      subst (Begun (edges_of c.loop-s.room c.loop-s.taken.count c.loop-s.slots) x.to) (sym c.begin_at-2.ensures)
          (subst (λ (m : ℕ). Begun (edges_of c.loop-s.room c.loop-s.taken.count c.loop-s.slots) m (set c.loop-s.starts m c.loop-s.taken.count)) end c.loop-s.invariant.1),
      begun-last c.loop-s.starts c.begin_at-2.new.starts x.to c.loop-s.taken.count c.begin_at-2.ensures (omega (arith, c.loop-s.invariant.2, c.requires.inside)) (few-edges),
      omega (arith, ap length c.begin_at-2.ensures, length-set c.loop-s.starts x.to c.loop-s.taken.count, c.loop-s.invariant.2),
      c.loop-s.invariant.3,
      omega (arith, c.loop-s.invariant.4, end),
    )
