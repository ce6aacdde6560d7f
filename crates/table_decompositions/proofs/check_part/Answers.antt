-- `table_decompositions::check_part`
use Rattle.table_decompositions.specs.Index.{index_filled}
use Rattle.table_decompositions.proofs.check_part.Goals as goal

pub first_nested-requires : goal.first_nested-requires
first_nested-requires c =
    let s = c in
    record { rows = s.requires.1; is = index_filled s.args.part.now _ _ s.requires.0 c.fill_index.ensures }

pub returns : goal.returns
returns c =
    let s = c in
    record { answer = c.first_nested.ensures; index = index_filled s.args.part.now _ _ s.requires.0 c.fill_index.ensures }
