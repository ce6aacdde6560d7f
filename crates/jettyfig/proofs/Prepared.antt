-- What is set up for an accepted call: there is a world that the line and the tables stand for.
use mathlib.Core.List.{List}
use mathlib.Core.Option.{none}
use mathlib.Core.Path.{◌≡◌, refl, sym, ap, ◌∙◌, subst}
use Prim.Native.Nat.{ℕ, ◌≤◌}
use native.Mathlib.Omega.{arith}
use lib.ListN.{length}
use Rattle.std.proofs.Common.{Bor}
use Rattle.definition.specs.Limits.{most_characters}
use Rattle.definition.specs.Utf8.{decoded}
use Rattle.definition.specs.Call.{Inputs, characters, refusal}
use Rattle.definition.specs.Accepted.{Accepted, accepted_of}
use Rattle.definition.specs.Parts.{scalars}
use Rattle.definition.proofs.Rewritten.{encoded-decoded}
use Rattle.table_decompositions.specs.Index.{Ready, index_of}
use Rattle.table_decompositions.specs.Told.{checked_ready}
use Rattle.rule_memo.specs.Kept.{Kept}
use Rattle.words.specs.Given.{letters_in, choices_in, mode_in, forms_in, ready_in, line_in, Prepared, Told, Lined}
use Rattle.words.specs.declared.given.Dicts.{Dicts}
use Rattle.second_pass.specs.Fallback.{Own, chars_in, chars_are}
use Rattle.jettyfig.specs.declared.Tables.{Tables}
use Rattle.jettyfig.specs.Steps.{with_kinds, TextMade, RomanizeReady, world_of, Accepting}
use Rattle.jettyfig.proofs.Parts.{ready_letters, ready_choices, ready_mode, ready_forms, ready_index, ready_long}

module _ (i : Inputs) (e : refusal i ≡ none) where
  abbrev passed : Accepted i
  passed = accepted_of i e

  short : length (decoded i.text) ≤ most_characters
  unfolding characters
  short = passed.size

  module _ (line : List ℕ) (l : line ≡ with_kinds i.classes (decoded i.text)) where
    pub world_lined : Lined (world_of i) line
    unfolding with_kinds
    world_lined = record { fine = passed.classes; few = short; is = l }

    -- the text's bytes are those of the line's characters
    pub own : Own i.text (chars_in line)
    unfolding characters
    own = subst (Own i.text) (sym (chars_are world_lined))
        (record { bytes = sym (encoded-decoded i.text passed.text); scalars = scalars i })

  -- what was made ready is the call's
  module _ (before after : List ℕ) (m : TextMade i.rules i.classes i.text before after) (f : forms_in before ≡ index_of i.decompositions)
      (h : mode_in before ≡ i.mode) (k : choices_in before ≡ i.choices) where
    mode-made : mode_in (ready_in after) ≡ i.mode
    mode-made = ready_mode after m.long ∙ m.mode ∙ h

    told-made : Told (world_of i) (ready_in after)
    told-made = record { letters = ready_letters after m.long ∙ m.letters; choices = ready_choices after m.long ∙ m.choices ∙ k }

    pub accepting : Accepting i after
    accepting = record {
      accepted = e;
      ready = record {
        long = m.long;
        table = record { table = subst (Kept i.rules) (sym (ready_index after m.long)) m.index; long = ready_long after m.long };
        inherent = passed.vowels;
        kinds = passed.classes;
        letters = ready_letters after m.long ∙ m.letters;
        forms = subst (Ready i.decompositions) (sym (ready_forms after m.long ∙ m.forms ∙ f))
            (checked_ready i.decompositions passed.decompositions).1;
        own = own (line_in after) m.line;
        mode = omega (arith, mode-made, passed.mode);
        world = world_of i;
        same = refl;
        told = told-made;
        lined = world_lined (line_in after) m.line;
      };
      mode = mode-made;
      told = told-made;
      lined = world_lined (line_in after) m.line;
    }

-- The tables and what was made ready of them, where it is cut from what is prepared
abbrev pub dicts_of : (t : Tables) (ready : Bor (List ℕ)) {prepared text : List ℕ} → ready.now ≡ ready_in prepared
    → RomanizeReady t.rules.now prepared t.classes.now t.vowels.now t.decompositions.now text → Dicts
dicts_of t ready e p = record {
  rules = t.rules;
  classes = t.classes;
  vowels = t.vowels;
  decompositions = t.decompositions;
  code = t.code;
  ready = ready;
  prepared = subst (Prepared t.rules.now) (sym e) p.table;
}
