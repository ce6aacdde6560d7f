-- The laws of specs/Absent, for accepted calls.
use Rattle.std.specs.Prelude.{◌≡◌}
use Rattle.std.proofs.Math.Option.{none}
use Prim.Native.Nat.{◌≤◌}
use Rattle.base.specs.Alls.{All}
use Rattle.definition.specs.Texts.{the_space}
use Rattle.definition.specs.Classes.{class}
use Rattle.definition.specs.Call.{Inputs, tables_of, tables, refusal}
use Rattle.definition.specs.Accepted.{accepted_of}
use Rattle.definition.proofs.Risen.{vowels_scripted}
use Rattle.definition.specs.Blank.{Blank}
use Rattle.definition.proofs.Blank.{blank}

-- What the laws take for granted of the space and of the vowel rows, an accepted call has
pub accepted_blank : (i : Inputs) → refusal i ≡ none → Blank (class (tables i).classes the_space)
unfolding tables tables_of
accepted_blank i e = blank i.classes (accepted_of i e).classes

pub accepted_scripted : (i : Inputs) → refusal i ≡ none → All (λ y. 1 ≤ y.script) (tables i).vowels
unfolding tables tables_of
accepted_scripted i e = vowels_scripted i.vowels (accepted_of i e).vowels
