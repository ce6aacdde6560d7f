-- What each fault of a rule table is called.
use Rattle.definition.specs.Texts.{Text, chars}
use Rattle.rule_row_faults.specs.declared.Fault.{Fault}
use Rattle.rule_row_faults.specs.declared.Fault.TheVariants.{Length, Range, Letter, Byte, Order, Rows}

abbrev pub fault_words : Fault → Text
fault_words Length = chars "a length that does not fit"
fault_words Range = chars "a flag or count out of its range"
fault_words Letter = chars "a source character or language code that is none"
fault_words Byte = chars "a byte of a target text that is not printable"
fault_words Order = chars "a source below the one before it"
fault_words Rows = chars "a row too many"
