-- `jettyfig::build`: the first pass over zeros, and what is shown or refused of its answer.
use mathlib.Core.List.{List, []}
use mathlib.Core.Path.{sym, ap, subst, ◌∙◌}
use Prim.Native.Nat.{ℕ, ◌<◌}
use native.Mathlib.Omega.{arith}
use lib.ListN.{length}
use Rattle.std.specs.Prelude.{Ok, Err}
use Rattle.table_decompositions.specs.Index.{Ready}
use Rattle.words.specs.Given.{size_in, mode_in, forms_in, letters_in, ready_in, Told, Lined}
use Rattle.passes.specs.Reached.{with_edges}
use Rattle.second_pass.specs.Fallback.{Own, chars_in}
use Rattle.decomp.specs.First.{first-over}
use Rattle.jettyfig.proofs.Wholes.{cut-zeros}
use Rattle.jettyfig.proofs.Prepared.{dicts_of}
use Rattle.jettyfig.proofs.Firsts.{first-came, first-passed, first_concluded, first_refused}
use Rattle.jettyfig.proofs.build.Goals as goal

pub invariant_of-dicts : goal.invariant_of-dicts
invariant_of-dicts g c =
    let d = dicts_of c.args.tables.now c.ready_in.result c.ready_in.ensures c.requires.ready in
    record { prepared = d.prepared }

pub add_romanization-requires : goal.add_romanization-requires
add_romanization-requires g c =
    let p = c.requires.ready in
    let n = size_in c.line_in-line.result.now in
    let few : n < g.row.PLACES = omega (arith, c.requires.places, ap size_in c.line_in-line.ensures) in
    record {
      forms = record {
        inherent = p.inherent;
        kinds = p.kinds;
        letters = ap letters_in c.ready_in.ensures ∙ p.letters;
        forms = subst (Ready c.args.tables.now.decompositions.now) (sym (ap forms_in c.ready_in.ensures)) p.forms;
      };
      somewhere = record {
        world = with_edges p.world [];
        over = first-over (subst (Told p.world) (sym c.ready_in.ensures) p.told) (subst (Lined p.world) (sym c.line_in-line.ensures) p.lined)
            c.args.memory.now.slots.now c.args.memory.now.room.now _ (cut-zeros _ n _ few (omega (arith, c.text_len-end.ensures)));
      };
      same = p.same;
      starts = cut-zeros _ n _ few (omega (arith, c.text_len-end.ensures));
    }

pub finish-requires : goal.finish-requires
finish-requires g c =
    let p = c.requires.ready in
    let d = dicts_of c.args.tables.now c.ready_in.result c.ready_in.ensures p in
    let n = size_in c.line_in-line.result.now in
    let few : n < g.row.PLACES = omega (arith, c.requires.places, ap size_in c.line_in-line.ensures) in
    let told = subst (Told p.world) (sym c.ready_in.ensures) p.told in
    let lined = subst (Lined p.world) (sym c.line_in-line.ensures) p.lined in (
      record {
        own = subst (λ (l : List ℕ). Own c.args.text.now (chars_in l)) (sym c.line_in-line.ensures) p.own;
        mode = omega (arith, p.mode, ap mode_in c.ready_in.ensures);
        began = c.in_ok-taken.ensures.starts;
        vowels = c.args.tables.now.vowels.now;
        decompositions = c.args.tables.now.decompositions.now;
        world = p.world;
        first = record {
          done = first-passed d c.args.memory.now.slots.now c.args.memory.now.room.now p.world told lined _
              (first-came d c.args.memory.now.slots.now c.args.memory.now.room.now p.world told lined _ _ _ _ p.same
              (cut-zeros _ n _ few (omega (arith, c.text_len-end.ensures))) c.add_romanization.result c.add_romanization.ensures.built (Ok c.in_ok-taken.taken) c.in_ok-taken.was)
              p.inherent;
        };
      },
      c.requires.zeros,
    )

pub returns-in_err-taken-clause-romanized : goal.returns-in_err-taken-clause-romanized
returns-in_err-taken-clause-romanized g c = λ u same told lined.
    let d = dicts_of c.args.tables.now c.ready_in.result c.ready_in.ensures c.requires.ready in
    let n = size_in c.line_in-line.result.now in
    let few : n < g.row.PLACES = omega (arith, c.requires.places, ap size_in c.line_in-line.ensures) in
    first_refused d c.args.memory.now.slots.now c.args.memory.now.room.now u
    (mode_in (ready_in c.args.prepared.now)) c.args.text.now c.args.memory.now.out.now c.requires.zeros c.in_err-taken.field-0.0
    (first-came d c.args.memory.now.slots.now c.args.memory.now.room.now u (subst (Told u) (sym c.ready_in.ensures) told)
    (subst (Lined u) (sym c.line_in-line.ensures) lined) _ _ _ _ same (cut-zeros _ n _ few (omega (arith, c.text_len-end.ensures)))
    c.add_romanization.result c.add_romanization.ensures.built (Err c.in_err-taken.field-0.0) c.in_err-taken.was) _ c.from_residual.ensures.1

pub returns-clause-romanized : goal.returns-clause-romanized
returns-clause-romanized g c = λ u same told lined.
    let d = dicts_of c.args.tables.now c.ready_in.result c.ready_in.ensures c.requires.ready in
    let n = size_in c.line_in-line.result.now in
    let few : n < g.row.PLACES = omega (arith, c.requires.places, ap size_in c.line_in-line.ensures) in
    let t = subst (Told u) (sym c.ready_in.ensures) told in
    let l = subst (Lined u) (sym c.line_in-line.ensures) lined in
    let grew = first-came d c.args.memory.now.slots.now c.args.memory.now.room.now u t l _ _ _ _ same
    (cut-zeros _ n _ few (omega (arith, c.text_len-end.ensures))) c.add_romanization.result c.add_romanization.ensures.built (Ok c.in_ok-taken.taken) c.in_ok-taken.was in
    first_concluded d c.args.memory.now.slots.now c.args.memory.now.room.now u t l _ grew _ _ (length c.args.memory.now.out.now) (ap mode_in c.ready_in.ensures) c.args.text.now _
    (c.finish.ensures.finished c.args.tables.now.vowels.now c.args.tables.now.decompositions.now u
    (record { done = first-passed d c.args.memory.now.slots.now c.args.memory.now.room.now u t l _ grew c.requires.ready.inherent }))
