-- `rom::last_in`: the last byte, where there is one.
use Rattle.std.proofs.Common.{rules, ap, ◌∙◌}
use Rattle.rom.specs.Sets.{member}
use Rattle.rom.proofs.Walks.{no_last, last-there}
use Rattle.rom.proofs.last_in.Goals as goal

pub returns-in-Some : goal.returns-in-Some
returns-in-Some c =
    let a = c.args in
    let there = c.in-Some.ensures.item.3 in
    c.is_in.ensures ∙ ap (member a.set) (c.from.ensures ∙ there.1 0) ∙ last-there (member a.set) a.s.now there.0

pub returns-in-None : goal.returns-in-None
returns-in-None c = let a = c.args in no_last (member a.set) a.s.now (search rules)
