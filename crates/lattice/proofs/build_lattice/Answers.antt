-- `lattice::build_lattice`: the fallbacks come behind the first pass; a refusal of either is the whole's.
use Rattle.std.specs.Prelude.{Ok, Err}
use Rattle.std.proofs.lemmas.Result.{err_from_is_err_and}
use mathlib.Core.Path.{◌≡◌, ap, ◌∙◌}
use Prim.Native.Nat.{◌+◌, ◌-◌, ◌*◌}
use native.Mathlib.Omega.{arith}
use Rattle.definition.specs.Limits.{most_source, most_bytes, most_edges, most_characters}
use Rattle.definition.specs.Edges.{Mem}
use Rattle.definition.specs.Building.{each, build, fall, rule_lattice}
use Rattle.definition.specs.Growth.{each-grown, fall-grown}
use Rattle.definition.specs.Call.{tables_of}
use Rattle.words.specs.Given.{World, kinds, size, size_in, line-size}
use Rattle.passes.specs.Reached.{nothing, Over, state_of, with_edges, over_now, Reached, Refused}
use Rattle.passes.specs.Reached.{reached-wide, reached-refused, reached_as, reached_since}
use Rattle.lattice.specs.Lattice.{Lattice}
use Rattle.lattice.proofs.Whole.{whole-lattice, whole_ready, whole_began}
use Rattle.lattice.proofs.build_lattice.Goals as goal

pub add_romanization-requires : goal.add_romanization-requires
add_romanization-requires c =
    whole_ready c.requires.0 c.requires.1 c.requires.3 c.requires.5 c.text_len-n.result c.text_len-n.ensures

pub add_rom_fall_back_singles-requires : goal.add_rom_fall_back_singles-requires
add_rom_fall_back_singles-requires c =
    let fits : (w : World) → (o : (Over w c.args.dicts.now.ready.now c.args.line.now c.args.slots.now c.args.room.now c.args.places.now nothing)) → Reached (kinds w) (size w) c.args.slots.now c.args.room.now c.add_romanization.new.slots c.add_romanization.new.room c.add_romanization.new.places (0 + (c.text_len-n.result - 0) * (most_source * most_bytes)) ((each (build ((tables_of w.choices c.args.dicts.now.rules.now w.classes c.args.dicts.now.vowels.now c.args.dicts.now.code.now)) w.text) (c.text_len-n.result - 0) 0 (state_of w c.args.places.now))) (Ok c.in_ok-taken.taken) = λ w. λ o.
    c.in_ok-taken.ensures.built w o in
    let over : (w : World) → (o : (Over w c.args.dicts.now.ready.now c.args.line.now c.args.slots.now c.args.room.now c.args.places.now nothing)) → Over (with_edges w ((each (build ((tables_of w.choices c.args.dicts.now.rules.now w.classes c.args.dicts.now.vowels.now c.args.dicts.now.code.now)) w.text) (c.text_len-n.result - 0) 0 (state_of w c.args.places.now))).0) c.args.dicts.now.ready.now c.args.line.now c.add_romanization.new.slots c.add_romanization.new.room c.add_romanization.new.places (record { count = c.in_ok-taken.taken.count; used = c.in_ok-taken.taken.used; since = c.in_ok-taken.taken.count }) = λ w. λ o.
    over_now o.told o.lent.text c.add_romanization.new.slots c.add_romanization.new.room c.add_romanization.new.places (record { count = c.in_ok-taken.taken.count; used = c.in_ok-taken.taken.used; since = c.in_ok-taken.taken.count }) ((each (build ((tables_of w.choices c.args.dicts.now.rules.now w.classes c.args.dicts.now.vowels.now c.args.dicts.now.code.now)) w.text) (c.text_len-n.result - 0) 0 (state_of w c.args.places.now))) (fits w o).came.0 in
    let w = c.requires.3.world in
    let o = c.requires.3.over in
    let n = size_in c.args.line.now in
    let is = c.text_len-n.ensures in
    let few = o.lent.text.few in
    let most = (fits w o).came.1 in (
      c.requires.0,
      c.requires.2,
      omega (arith, most, few, is, line-size o.lent.text),
      record { world = with_edges w ((each (build ((tables_of w.choices c.args.dicts.now.rules.now w.classes c.args.dicts.now.vowels.now c.args.dicts.now.code.now)) w.text) (c.text_len-n.result - 0) 0 (state_of w c.args.places.now))).0; over = over w o },
      whole_began c.add_romanization.new.slots c.add_romanization.new.room c.add_romanization.new.starts c.text_len-n.result n is (Ok c.in_ok-taken.taken)
          c.in_ok-taken.ensures.starts,
    )

pub returns : goal.returns
unfolding tables_of
returns c =
    let whole : (w : World) → (o : (Over w c.args.dicts.now.ready.now c.args.line.now c.args.slots.now c.args.room.now c.args.places.now nothing)) → each (fall ((tables_of w.choices c.args.dicts.now.rules.now w.classes c.args.dicts.now.vowels.now c.args.dicts.now.code.now)) w.text) (size w) 0 ((each (build ((tables_of w.choices c.args.dicts.now.rules.now w.classes c.args.dicts.now.vowels.now c.args.dicts.now.code.now)) w.text) (c.text_len-n.result - 0) 0 (state_of w c.args.places.now))) ≡ rule_lattice ((tables_of w.choices c.args.dicts.now.rules.now w.classes c.args.dicts.now.vowels.now c.args.dicts.now.code.now)) w.text = λ w. λ o. let is = line-size o.lent.text in
    whole-lattice ((tables_of w.choices c.args.dicts.now.rules.now w.classes c.args.dicts.now.vowels.now c.args.dicts.now.code.now)) o (c.text_len-n.result - 0) (size_in c.args.line.now + 1) (omega (arith, is, c.text_len-n.ensures)) c.requires.4 (omega (arith, is)) in
    let fits : (w : World) → (o : (Over w c.args.dicts.now.ready.now c.args.line.now c.args.slots.now c.args.room.now c.args.places.now nothing)) → Reached (kinds w) (size w) c.args.slots.now c.args.room.now c.add_romanization.new.slots c.add_romanization.new.room c.add_romanization.new.places (0 + (c.text_len-n.result - 0) * (most_source * most_bytes)) ((each (build ((tables_of w.choices c.args.dicts.now.rules.now w.classes c.args.dicts.now.vowels.now c.args.dicts.now.code.now)) w.text) (c.text_len-n.result - 0) 0 (state_of w c.args.places.now))) (Ok c.in_ok-taken.taken) = λ w. λ o.
    c.in_ok-taken.ensures.built w o in
    let over : (w : World) → (o : (Over w c.args.dicts.now.ready.now c.args.line.now c.args.slots.now c.args.room.now c.args.places.now nothing)) → Over (with_edges w ((each (build ((tables_of w.choices c.args.dicts.now.rules.now w.classes c.args.dicts.now.vowels.now c.args.dicts.now.code.now)) w.text) (c.text_len-n.result - 0) 0 (state_of w c.args.places.now))).0) c.args.dicts.now.ready.now c.args.line.now c.add_romanization.new.slots c.add_romanization.new.room c.add_romanization.new.places (record { count = c.in_ok-taken.taken.count; used = c.in_ok-taken.taken.used; since = c.in_ok-taken.taken.count }) = λ w. λ o.
    over_now o.told o.lent.text c.add_romanization.new.slots c.add_romanization.new.room c.add_romanization.new.places (record { count = c.in_ok-taken.taken.count; used = c.in_ok-taken.taken.used; since = c.in_ok-taken.taken.count }) ((each (build ((tables_of w.choices c.args.dicts.now.rules.now w.classes c.args.dicts.now.vowels.now c.args.dicts.now.code.now)) w.text) (c.text_len-n.result - 0) 0 (state_of w c.args.places.now))) (fits w o).came.0 in
    record {
      built = λ w o.
          let r = fits w o in
          let few = o.lent.text.few in
          let used = r.came.1 in
          reached_as _
          (ap (λ (n : Mem). each (fall ((tables_of w.choices c.args.dicts.now.rules.now w.classes c.args.dicts.now.vowels.now c.args.dicts.now.code.now)) w.text) (size w) 0 (((each (build ((tables_of w.choices c.args.dicts.now.rules.now w.classes c.args.dicts.now.vowels.now c.args.dicts.now.code.now)) w.text) (c.text_len-n.result - 0) 0 (state_of w c.args.places.now))).0, n)) r.came.0.remembered ∙ whole w o) c.add_rom_fall_back_singles.result
          (reached-wide (most_edges * most_characters * most_bytes) (omega (arith, used, few, c.text_len-n.ensures, line-size o.lent.text)) c.add_rom_fall_back_singles.result
          (reached_since c.args.slots.now c.args.room.now r.slots r.room c.add_rom_fall_back_singles.result
          (c.add_rom_fall_back_singles.ensures.built c.args.dicts.now.vowels.now (with_edges w ((each (build ((tables_of w.choices c.args.dicts.now.rules.now w.classes c.args.dicts.now.vowels.now c.args.dicts.now.code.now)) w.text) (c.text_len-n.result - 0) 0 (state_of w c.args.places.now))).0) (over w o))));
      starts = c.add_rom_fall_back_singles.ensures.starts;
    }

pub returns-in_err-taken-clause-built : goal.returns-in_err-taken-clause-built
returns-in_err-taken-clause-built c =
    let whole : (w : World) → (o : (Over w c.args.dicts.now.ready.now c.args.line.now c.args.slots.now c.args.room.now c.args.places.now nothing)) → each (fall ((tables_of w.choices c.args.dicts.now.rules.now w.classes c.args.dicts.now.vowels.now c.args.dicts.now.code.now)) w.text) (size w) 0 ((each (build ((tables_of w.choices c.args.dicts.now.rules.now w.classes c.args.dicts.now.vowels.now c.args.dicts.now.code.now)) w.text) (c.text_len-n.result - 0) 0 (state_of w c.args.places.now))) ≡ rule_lattice ((tables_of w.choices c.args.dicts.now.rules.now w.classes c.args.dicts.now.vowels.now c.args.dicts.now.code.now)) w.text = λ w. λ o. let is = line-size o.lent.text in
    whole-lattice ((tables_of w.choices c.args.dicts.now.rules.now w.classes c.args.dicts.now.vowels.now c.args.dicts.now.code.now)) o (c.text_len-n.result - 0) (size_in c.args.line.now + 1) (omega (arith, is, c.text_len-n.ensures)) c.requires.4 (omega (arith, is)) in
    let stops : (q : Refused (Err c.in_err-taken.field-0.0)) → Lattice c.args.dicts.now.rules.now c.args.dicts.now.ready.now c.args.dicts.now.vowels.now c.args.dicts.now.code.now c.args.line.now (c.args.slots.now, c.args.room.now, c.args.places.now) (c.add_romanization.new.slots, c.add_romanization.new.room, c.add_romanization.new.places) (Err c.in_err-taken.field-0.0) = λ q. λ w o.
    let f = fall ((tables_of w.choices c.args.dicts.now.rules.now w.classes c.args.dicts.now.vowels.now c.args.dicts.now.code.now)) w.text in
    reached_as _ (whole w o) (Err c.in_err-taken.field-0.0)
    (reached-refused (most_edges * most_characters * most_bytes) (each f (size w) 0 ((each (build ((tables_of w.choices c.args.dicts.now.rules.now w.classes c.args.dicts.now.vowels.now c.args.dicts.now.code.now)) w.text) (c.text_len-n.result - 0) 0 (state_of w c.args.places.now))))
    (each-grown f 1 (fall-grown ((tables_of w.choices c.args.dicts.now.rules.now w.classes c.args.dicts.now.vowels.now c.args.dicts.now.code.now)) w.text) (size w) 0 ((each (build ((tables_of w.choices c.args.dicts.now.rules.now w.classes c.args.dicts.now.vowels.now c.args.dicts.now.code.now)) w.text) (c.text_len-n.result - 0) 0 (state_of w c.args.places.now)))).added (Err c.in_err-taken.field-0.0) q (c.in_err-taken.ensures.built w o)) in
    let p = err_from_is_err_and c.from_residual.result c.from_residual.ensures.1 in
    rw (p.1, p.2) (stops tt)
