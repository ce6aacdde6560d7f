-- `second_pass::add_rom_fall_back_singles`: what is left of the starts does what all of them do, and each fallback has the next number.
use Rattle.std.specs.Prelude.{Ok, Err}
use Rattle.std.proofs.lemmas.Result.{err_from_is_err_and}
use mathlib.Core.List.{List, []}
use mathlib.Core.Path.{◌≡◌, refl, sym, ◌∙◌, subst}
use Prim.Native.Nat.{ℕ, ◌+◌, ◌-◌, ◌*◌, ◌≤◌, ◌<◌}
use native.Mathlib.Omega.{arith}
use lib.ListN.{length}
use Rattle.definition.specs.Limits.{most_bytes}
use Rattle.definition.specs.Edges.{State}
use Rattle.definition.specs.Building.{each, fall}
use Rattle.definition.specs.Growth.{Added, Grown, fall-grown}
use Rattle.definition.specs.Call.{tables_of}
use Rattle.edge.specs.Slots.{edges_of}
use Rattle.edge.specs.Stored.{edge_count}
use Rattle.words.specs.Given.{World, kinds, size, size_in, line-size}
use Rattle.passes.specs.Reached.{Over, Reached, state_of, with_edges, Refused}
use Rattle.passes.proofs.Passing.{kept, Going, going_lent, passing_first, passing_over, passing_refused, passing_next, passing_used, passing_edges, passing_few}
use Rattle.second_pass.specs.Fallback.{At}
use Rattle.second_pass.proofs.Falls.{at_next}
use Rattle.second_pass.proofs.Falling.{Alone, fall-added, Behind, behind-first, behind-count, behind-stands, behind-kept, behind_more}
use Rattle.second_pass.proofs.Falling.{over_since}
use Rattle.second_pass.proofs.add_rom_fall_back_singles.Goals as goal
use Rattle.second_pass.proofs.add_rom_fall_back_singles.Goals.{then-before-taken, else-before-taken}

pub loop-p-init : goal.loop-p-init
loop-p-init c =
    let b = c.requires.4 in (
      λ vowels w o.
          passing_first o (fall (tables_of w.choices c.args.dicts.now.rules.now w.classes vowels c.args.dicts.now.code.now) w.text) (c.text_len-n.result - 0)
          (omega (arith, c.text_len-n.ensures, line-size o.lent.text)),
      subst (λ (m : ℕ). Behind (edges_of c.args.room.now c.args.filled.count c.args.slots.now) m c.args.slots.now c.args.room.now c.args.filled.count 0 c.args.starts.now)
          (sym c.text_len-n.ensures)
          (behind-first (size_in c.args.line.now) c.args.slots.now c.args.room.now c.args.filled.count c.args.starts.now b.0 b.1 b.2 b.3),
      omega arith,
      c.requires.1.bytes,
      omega arith,
      refl,
      refl,
      refl,
      refl,
    )

pub fall_back_at-requires : goal.fall_back_at-requires
fall_back_at-requires c =
    let w = c.requires.3.world in
    let o = over_since c.requires.3.over in
    let few = c.requires.2 in (record { own = c.requires.1; inside = omega (arith, c.loop-p-test.true, c.text_len-n.ensures); bytes = c.loop-p.invariant.3 }, omega (arith, c.loop-p.invariant.2, c.text_len-n.ensures, few), record { world = with_edges w (edges_of c.loop-p.room c.loop-p.taken.count c.loop-p.slots); over = going_lent o c.loop-p.taken.count (c.loop-p.invariant.0 [] w o) }, refl)

pub overflow_sub-before : goal.overflow_sub-before
overflow_sub-before c =
    let first_count : c.loop-p.taken.count ≡ c.args.filled.count + length c.loop-p.invariant.1.fallbacks = omega (arith, behind-count c.loop-p.invariant.1, edge_count c.args.slots.now c.args.room.now c.args.filled.count) in
    omega (arith, first_count)

pub fall_at-requires : goal.fall_at-requires
fall_at-requires c =
    let first_count : c.loop-p.taken.count ≡ c.args.filled.count + length c.loop-p.invariant.1.fallbacks = omega (arith, behind-count c.loop-p.invariant.1, edge_count c.args.slots.now c.args.room.now c.args.filled.count) in
    let o = c.requires.3.over in
    let few = o.lent.text.few in
    let most = c.loop-p.invariant.1.few in
    (omega (arith, c.loop-p.invariant.1.fallen.size, c.loop-p-test.true), omega (arith, first_count, most, few, line-size o.lent.text, c.text_len-n.ensures, c.loop-p-test.true))

pub returns-in_err-taken-clause-built : goal.returns-in_err-taken-clause-built
returns-in_err-taken-clause-built c =
    let grows : (vowels : List ℕ) → (w : World) → (p : ℕ) (st : State) → Grown 1 st.0 ((fall (tables_of w.choices c.args.dicts.now.rules.now w.classes vowels c.args.dicts.now.code.now) w.text) p st).0 = λ vowels. λ w. fall-grown (tables_of w.choices c.args.dicts.now.rules.now w.classes vowels c.args.dicts.now.code.now) w.text in
    let one_more : (vowels : List ℕ) → (w : World) → (o : (Over w c.args.dicts.now.ready.now c.args.line.now c.args.slots.now c.args.room.now c.args.places.now (record { count = c.args.filled.count; used = c.args.filled.used; since = 0 }))) → ((c.text_len-n.result - c.loop-p.p)) ≡ ((c.text_len-n.result - (c.loop-p.p + 1))) + 1 = λ vowels. λ w. λ o. omega (arith, c.loop-p-test.true) in
    let asked : (vowels : List ℕ) → (w : World) → (o : (Over w c.args.dicts.now.ready.now c.args.line.now c.args.slots.now c.args.room.now c.args.places.now (record { count = c.args.filled.count; used = c.args.filled.used; since = 0 }))) → Reached (kinds w) (size w) c.loop-p.slots c.loop-p.room c.fall_back_at.new.slots c.fall_back_at.new.room c.fall_back_at.new.places (c.loop-p.taken.used + most_bytes) ((fall (tables_of w.choices c.args.dicts.now.rules.now w.classes vowels c.args.dicts.now.code.now) w.text) c.loop-p.p ((kept (size w) c.loop-p.slots c.loop-p.room c.loop-p.places c.loop-p.taken.count))) (Err c.in_err-taken.field-0.0) = λ vowels. λ w. λ o. c.in_err-taken.ensures vowels (with_edges w ((kept (size w) c.loop-p.slots c.loop-p.room c.loop-p.places c.loop-p.taken.count)).0) (going_lent o c.loop-p.taken.count (c.loop-p.invariant.0 vowels w o)) in
    let stops : (vowels : List ℕ) → (w : World) → (o : (Over w c.args.dicts.now.ready.now c.args.line.now c.args.slots.now c.args.room.now c.args.places.now (record { count = c.args.filled.count; used = c.args.filled.used; since = 0 }))) → (q : Refused (Err c.in_err-taken.field-0.0)) → Reached (kinds w) (size w) c.args.slots.now c.args.room.now c.fall_back_at.new.slots c.fall_back_at.new.room c.fall_back_at.new.places (c.args.filled.used + size_in c.args.line.now * most_bytes) (each ((fall (tables_of w.choices c.args.dicts.now.rules.now w.classes vowels c.args.dicts.now.code.now) w.text)) (size w) 0 (state_of w c.args.places.now)) (Err c.in_err-taken.field-0.0) = λ vowels. λ w. λ o. λ q. passing_refused ((fall (tables_of w.choices c.args.dicts.now.rules.now w.classes vowels c.args.dicts.now.code.now) w.text)) 1 (grows vowels w) c.loop-p.p ((c.text_len-n.result - c.loop-p.p)) (c.loop-p.invariant.0 vowels w o) ((c.text_len-n.result - (c.loop-p.p + 1))) (one_more vowels w o) (Err c.in_err-taken.field-0.0) (asked vowels w o)
    (c.args.filled.used + size_in c.args.line.now * most_bytes) q in
    let p = err_from_is_err_and c.from_residual.result c.from_residual.ensures.1 in
    λ vowels w o. rw (p.1, p.2) (stops vowels w (over_since o) tt)

pub loop-p-preserved : goal.loop-p-preserved
loop-p-preserved c =
    let first_count : c.loop-p.taken.count ≡ c.args.filled.count + length c.loop-p.invariant.1.fallbacks = omega (arith, behind-count c.loop-p.invariant.1, edge_count c.args.slots.now c.args.room.now c.args.filled.count) in
    let asked : (vowels : List ℕ) → (w : World) → (o : (Over w c.args.dicts.now.ready.now c.args.line.now c.args.slots.now c.args.room.now c.args.places.now (record { count = c.args.filled.count; used = c.args.filled.used; since = 0 }))) → Reached (kinds w) (size w) c.loop-p.slots c.loop-p.room c.fall_back_at.new.slots c.fall_back_at.new.room c.fall_back_at.new.places (c.loop-p.taken.used + most_bytes) ((fall (tables_of w.choices c.args.dicts.now.rules.now w.classes vowels c.args.dicts.now.code.now) w.text) c.loop-p.p ((kept (size w) c.loop-p.slots c.loop-p.room c.loop-p.places c.loop-p.taken.count))) (Ok c.in_ok-taken.taken) = λ vowels. λ w. λ o. c.in_ok-taken.ensures vowels (with_edges w ((kept (size w) c.loop-p.slots c.loop-p.room c.loop-p.places c.loop-p.taken.count)).0) (going_lent o c.loop-p.taken.count (c.loop-p.invariant.0 vowels w o)) in
    let grows : (vowels : List ℕ) → (w : World) → (p : ℕ) (st : State) → Grown 1 st.0 ((fall (tables_of w.choices c.args.dicts.now.rules.now w.classes vowels c.args.dicts.now.code.now) w.text) p st).0 = λ vowels. λ w. fall-grown (tables_of w.choices c.args.dicts.now.rules.now w.classes vowels c.args.dicts.now.code.now) w.text in
    let one_more : (vowels : List ℕ) → (w : World) → (o : (Over w c.args.dicts.now.ready.now c.args.line.now c.args.slots.now c.args.room.now c.args.places.now (record { count = c.args.filled.count; used = c.args.filled.used; since = 0 }))) → ((c.text_len-n.result - c.loop-p.p)) ≡ ((c.text_len-n.result - (c.loop-p.p + 1))) + 1 = λ vowels. λ w. λ o. omega (arith, c.loop-p-test.true) in
    let goes : (vowels : List ℕ) → (w : World) → (o : (Over w c.args.dicts.now.ready.now c.args.line.now c.args.slots.now c.args.room.now c.args.places.now (record { count = c.args.filled.count; used = c.args.filled.used; since = 0 }))) → (count : ℕ) → (used : ℕ) → (q : (Ok c.in_ok-taken.taken) ≡ (Ok record { count = count; used = used })) → Going (each ((fall (tables_of w.choices c.args.dicts.now.rules.now w.classes vowels c.args.dicts.now.code.now) w.text)) ((c.text_len-n.result - (c.loop-p.p + 1))) (c.loop-p.p + 1)) (kinds w) (size w) c.args.slots.now c.args.room.now (each ((fall (tables_of w.choices c.args.dicts.now.rules.now w.classes vowels c.args.dicts.now.code.now) w.text)) (size w) 0 (state_of w c.args.places.now)) c.fall_back_at.new.slots c.fall_back_at.new.room c.fall_back_at.new.places count used = λ vowels. λ w. λ o. λ count. λ used. λ q. passing_next ((fall (tables_of w.choices c.args.dicts.now.rules.now w.classes vowels c.args.dicts.now.code.now) w.text)) 1 (grows vowels w) c.loop-p.p ((c.text_len-n.result - c.loop-p.p)) (c.loop-p.invariant.0 vowels w o) ((c.text_len-n.result - (c.loop-p.p + 1))) (one_more vowels w o) (Ok c.in_ok-taken.taken) (asked vowels w o)
    count used q in
    let uses : (vowels : List ℕ) → (w : World) → (o : (Over w c.args.dicts.now.ready.now c.args.line.now c.args.slots.now c.args.room.now c.args.places.now (record { count = c.args.filled.count; used = c.args.filled.used; since = 0 }))) → (count : ℕ) → (used : ℕ) → (q : (Ok c.in_ok-taken.taken) ≡ (Ok record { count = count; used = used })) → used ≤ c.loop-p.taken.used + most_bytes = λ vowels. λ w. λ o. λ count. λ used. λ q. passing_used ((fall (tables_of w.choices c.args.dicts.now.rules.now w.classes vowels c.args.dicts.now.code.now) w.text)) 1 (grows vowels w) c.loop-p.p ((c.text_len-n.result - c.loop-p.p)) (c.loop-p.invariant.0 vowels w o) ((c.text_len-n.result - (c.loop-p.p + 1))) (one_more vowels w o) (Ok c.in_ok-taken.taken) (asked vowels w o)
    count used q in
    let counts : (vowels : List ℕ) → (w : World) → (o : (Over w c.args.dicts.now.ready.now c.args.line.now c.args.slots.now c.args.room.now c.args.places.now (record { count = c.args.filled.count; used = c.args.filled.used; since = 0 }))) → (count : ℕ) → (used : ℕ) → (q : (Ok c.in_ok-taken.taken) ≡ (Ok record { count = count; used = used })) → count ≤ c.loop-p.taken.count + 1 = λ vowels. λ w. λ o. λ count. λ used. λ q. passing_few ((fall (tables_of w.choices c.args.dicts.now.rules.now w.classes vowels c.args.dicts.now.code.now) w.text)) 1 (grows vowels w) c.loop-p.p ((c.text_len-n.result - c.loop-p.p)) (c.loop-p.invariant.0 vowels w o) ((c.text_len-n.result - (c.loop-p.p + 1))) (one_more vowels w o) (Ok c.in_ok-taken.taken) (asked vowels w o)
    count used q in
    let adds : (vowels : List ℕ) → (w : World) → (o : (Over w c.args.dicts.now.ready.now c.args.line.now c.args.slots.now c.args.room.now c.args.places.now (record { count = c.args.filled.count; used = c.args.filled.used; since = 0 }))) → (count : ℕ) → (used : ℕ) → (q : (Ok c.in_ok-taken.taken) ≡ (Ok record { count = count; used = used })) → Added (Alone c.loop-p.p) (edges_of c.loop-p.room c.loop-p.taken.count c.loop-p.slots) (edges_of c.fall_back_at.new.room count c.fall_back_at.new.slots) = λ vowels. λ w. λ o. λ count. λ used. λ q. fall-added (tables_of w.choices c.args.dicts.now.rules.now w.classes vowels c.args.dicts.now.code.now) w.text (size w) c.loop-p.p c.loop-p.slots c.loop-p.room c.loop-p.places
    c.fall_back_at.new.slots c.fall_back_at.new.room c.loop-p.taken.count count
    (passing_edges ((fall (tables_of w.choices c.args.dicts.now.rules.now w.classes vowels c.args.dicts.now.code.now) w.text)) 1 (grows vowels w) c.loop-p.p ((c.text_len-n.result - c.loop-p.p)) (c.loop-p.invariant.0 vowels w o) ((c.text_len-n.result - (c.loop-p.p + 1))) (one_more vowels w o) (Ok c.in_ok-taken.taken) (asked vowels w o) count used q) in
    let S = c.fall_back_at.new.slots in
    let R = c.fall_back_at.new.room in
    let edges = c.in_ok-taken.taken.count in
    let bytes = c.in_ok-taken.taken.used in
    let n = c.text_len-n.result in
    let P = edges_of c.args.room.now c.args.filled.count c.args.slots.now in
    let w₀ = c.requires.3.world in
    let o₀ = over_since c.requires.3.over in
    let more = adds [] w₀ o₀ edges bytes refl in
    let few = counts [] w₀ o₀ edges bytes refl in
    let most = uses [] w₀ o₀ edges bytes refl in
    let below : c.loop-p.p < n = omega (arith, c.loop-p-test.true) in
    let next : Behind P n S R edges (c.loop-p.p + 1) c.if-before-taken.starts = elim c.if-before-taken.branch [
      | then-before-taken w ↦ subst (Behind P n S R edges (c.loop-p.p + 1)) (sym (w.starts-is ∙ w.fall_at.ensures))
          (behind_more c.loop-p.invariant.1 S R edges more below (omega (arith, w.if-before-taken.true)) few (c.loop-p.taken.count - c.args.filled.count) (omega (arith, first_count)))
      | else-before-taken w ↦ subst (Behind P n S R edges (c.loop-p.p + 1)) (sym w.starts-is)
          (behind-kept c.loop-p.invariant.1 S R edges more below (omega (arith, w.if-before-taken.false)))
    ] in
    let here : At c.args.text.now c.args.line.now (record { p = c.loop-p.p; at = c.loop-p.at }) = record { own = c.requires.1; inside = omega (arith, c.loop-p-test.true, c.text_len-n.ensures); bytes = c.loop-p.invariant.3 } in (
      λ vowels w o. goes vowels w o edges bytes refl,
      next,
      omega (arith, most, c.loop-p.invariant.2),
      at_next here o₀.lent.text c.encoded_len-at.result c.number_at.result c.encoded_len-at.ensures.0 c.number_at.ensures,
      omega (arith, c.encoded_len-at.ensures.1, c.loop-p.invariant.4),
      (asked [] w₀ o₀).slots ∙ c.loop-p.invariant.5,
      (asked [] w₀ o₀).room ∙ c.loop-p.invariant.6,
      omega (arith, c.fall_back_at.auto.places, c.loop-p.invariant.7),
      omega (arith, next.fallen.size, c.loop-p.invariant.1.fallen.size, c.loop-p.invariant.8),
    )

pub returns : goal.returns
returns c =
    let grows : (vowels : List ℕ) → (w : World) → (p : ℕ) (st : State) → Grown 1 st.0 ((fall (tables_of w.choices c.args.dicts.now.rules.now w.classes vowels c.args.dicts.now.code.now) w.text) p st).0 = λ vowels. λ w. fall-grown (tables_of w.choices c.args.dicts.now.rules.now w.classes vowels c.args.dicts.now.code.now) w.text in
    record {
      built = λ vowels w o.
          passing_over ((fall (tables_of w.choices c.args.dicts.now.rules.now w.classes vowels c.args.dicts.now.code.now) w.text)) 1 (grows vowels w) c.loop-p.p (c.text_len-n.result - c.loop-p.p) (c.loop-p.invariant.0 vowels w (over_since o))
          (c.args.filled.used + size_in c.args.line.now * most_bytes) (omega (arith, c.loop-p.invariant.2, c.text_len-n.ensures)) (omega (arith, c.loop-p-test.false));
      starts = behind-stands c.loop-p.invariant.1 (omega (arith, c.loop-p-test.false)) (c.loop-p.invariant.0 [] c.requires.3.world (over_since c.requires.3.over)).keeps.stored.slot;
    }
