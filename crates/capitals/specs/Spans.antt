-- A text over its span, before anything was expanded.
use Rattle.definition.specs.Notes.{note_none}
use Rattle.definition.specs.Texts.{Text}
use Rattle.definition.specs.Expansion.{Work, work}
use Rattle.words.specs.declared.given.Span.{Span}

abbrev pub over : Span → Text → Work
over span w = work w span.from span.to note_none
