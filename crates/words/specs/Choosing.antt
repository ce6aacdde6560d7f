-- The choices of a call, as the definition has them.
use Rattle.definition.specs.Tables.{Choices}
use Rattle.words.specs.declared.Choices.{Choices as Given}

abbrev pub choices_of : Given → Choices
choices_of c = record { capitals = c.capitals; o_ang = c.o_ang; readings = c.readings }
