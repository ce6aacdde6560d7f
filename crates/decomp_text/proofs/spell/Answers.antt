-- `decomp_text::spell`: what stands before the string, the string, and what stands behind it.
use mathlib.Core.List.{[], ◌++◌}
use mathlib.Core.Path.{sym, subst}
use Rattle.definition.specs.Paths.{joined, path_from}
use Rattle.edge.specs.Slots.{edges_of}
use Rattle.standing.specs.Starts.{end_of}
use Rattle.words.specs.Given.{kinds}
use Rattle.decomp_text.specs.declared.Spelling.{Spelling}
use Rattle.decomp_text.specs.Spelling.{Spells, spells_nothing, shaped}
use Rattle.decomp_text.specs.Reading.{front_of, back_of, read_parts}
use Rattle.decomp_text.proofs.spell.Goals as goal

pub returns : goal.returns
unfolding front_of back_of
returns c =
    let b = c.args.beside in (
      λ w count told g s r.
          let whole = joined (path_from (end_of c.args.starts.now) 0 (edges_of c.args.room.now count c.args.slots.now)) in
          let first = subst (λ (u : Spelling). Spells (kinds w) c.args.bytes.now u []) (sym c.nothing.ensures) (spells_nothing (kinds w) c.args.bytes.now) in
          subst (Spells (kinds w) c.part.new.bytes c.part.result) (read_parts b whole)
          (c.part.ensures.0 w (front_of b ++ shaped b.number whole) told
          (c.put_path-string.ensures.0 w (front_of b) count told g (c.part-front.ensures.0 w [] told first) s r)),
      c.part.ensures.1,
    )
