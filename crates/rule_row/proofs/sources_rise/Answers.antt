-- `rule_row::sources_rise`: alike characters are passed where all bytes are there.
use Rattle.rule_row.specs.Rise.{begun, starts}
use Rattle.rule_row.proofs.sources_rise.Goals as goal

pub rest_rises-requires-2 : goal.rest_rises-requires-2
rest_rises-requires-2 c =
    let z = c.both_end-end.ensures in
    (z.0, begun _ _, starts z.0, z.1)
