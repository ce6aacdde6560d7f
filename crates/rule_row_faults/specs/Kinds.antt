-- What the kinds of fields and faults stand for in the definition.
use Rattle.std.specs.Prelude.{Bool, ◌&&◌, List, ℕ, leb, get_or, Result, Ok, Err}
use Rattle.definition.specs.Refusals.{refused_length, refused_range, refused_letter, refused_byte, refused_order, refused_rows}
use Rattle.definition.specs.RuleFields as definition
use Rattle.definition.specs.RuleFields.{and_then, field, fields, character_right, code_small, byte_right}
use Rattle.rule_row_faults.specs.declared.Fault.{Fault}
use Rattle.rule_row_faults.specs.declared.Fault.TheVariants.{Length, Range, Letter, Byte, Order, Rows}
use Rattle.rule_row_faults.specs.declared.Kind.{Kind}
use Rattle.rule_row_faults.specs.declared.Kind.TheVariants.{Character, Code, TextByte}
use Rattle.rule_row_faults.specs.declared.RuleFault.{RuleFault}

-- a fault's number
abbrev pub fault_number : Fault → ℕ
fault_number Length = refused_length
fault_number Range = refused_range
fault_number Letter = refused_letter
fault_number Byte = refused_byte
fault_number Order = refused_order
fault_number Rows = refused_rows

-- a field's size, what is asked of it, and the number that refuses it
abbrev pub kind_size : Kind → ℕ
kind_size Character = 3
kind_size Code = 3
kind_size TextByte = 1

abbrev pub kind_right : Kind → List ℕ → Bool
kind_right Character = character_right
kind_right Code = code_small
kind_right TextByte = byte_right

abbrev pub kind_number : Kind → ℕ
kind_number Character = refused_letter
kind_number Code = refused_letter
kind_number TextByte = refused_byte

-- a count at `o`, from `least` to `most`, and as many fields of a kind
abbrev pub read_counted : Kind → ℕ → ℕ → ℕ → List ℕ → ℕ → definition.Cursor
read_counted kind least most z s o =
    and_then (field z o 1 refused_range (leb least (get_or s o 0) && leb (get_or s o 0) most))
    (fields (kind_right kind) (kind_size kind) (kind_number kind) z s (get_or s o 0))

-- where the walk over a row's fields stands: where the next begins, or the first fault
abbrev pub read_means : Result ℕ RuleFault → definition.Cursor
read_means (Ok o) = definition.next o
read_means (Err f) = definition.wrong (fault_number f.kind) f.at
