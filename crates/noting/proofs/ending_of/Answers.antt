-- `noting::ending_of`: letters are told, the rest by the last byte.
use mathlib.Core.Path.{sym, ap, ◌∙◌}
use Rattle.definition.specs.Texts.{last_is}
use Rattle.definition.specs.Edges.{closing}
use Rattle.definition.specs.Expansion.{o_ang_side}
use Rattle.rom.specs.Sets.{closing_set, in_closing, o_ang_side_set, in_o_ang_side}
use Rattle.base.specs.Lists.{empty}
use Rattle.noting.specs.Noting.{last-told, empty-told}
use Rattle.noting.proofs.ending_of.Goals as goal

pub returns : goal.returns
returns c =
    let w = c.args.text.now in
    λ ks x q letter. record {
      letter = letter;
      closed = c.last_in.ensures ∙ last-told closing_set closing in_closing w c.requires ∙ ap (last_is closing) (sym q);
      side = c.last_in-2.ensures ∙ last-told o_ang_side_set o_ang_side in_o_ang_side w c.requires ∙ ap (last_is o_ang_side) (sym q);
      empty = empty-told w c.requires ∙ ap empty (sym q);
    }
