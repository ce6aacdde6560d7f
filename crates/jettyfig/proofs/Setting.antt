-- What a text that was set up is of a call that is not refused before its text.
use mathlib.Core.List.{List}
use mathlib.Core.Option.{none}
use mathlib.Core.Path.{◌≡◌, ◌∙◌}
use Prim.Native.Nat.{ℕ}
use lib.ListN.{take}
use Rattle.definition.specs.Call.{Inputs, before_text}
use Rattle.table_decompositions.specs.Index.{index_of}
use Rattle.words.specs.Given.{choices_in, mode_in, forms_in}
use Rattle.std.specs.Prelude.{Result, Ok, Err}
use Rattle.jettyfig.specs.declared.Refusal.{Refusal as Refused}
use Rattle.jettyfig.specs.Calls.{then-text}
use Rattle.jettyfig.specs.Steps.{used_for, TextSet, SetsUp}
use Rattle.jettyfig.proofs.Prepared.{accepting}

pub sets : (i : Inputs) (before after : List ℕ)
    → before_text i.mode i.choices i.rules i.classes i.vowels i.decompositions i.code ≡ none
    → forms_in before ≡ index_of i.decompositions → mode_in before ≡ i.mode → choices_in before ≡ i.choices
    → (r : Result ℕ Refused) → TextSet i.rules i.classes i.text before after r → SetsUp i after r
sets i before after first f h k (Ok n) t =
    (t.1, t.2, accepting i (then-text i first ∙ t.0) before (take (used_for n) after) t.3 f h k)
sets i before after first f h k (Err e) t = then-text i first ∙ t
