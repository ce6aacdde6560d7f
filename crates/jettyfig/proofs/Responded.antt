-- A call over zeros in which what is asked stands: what is set up of it is the call's, and so is what is refused or built of that.
use mathlib.Core.List.{List}
use mathlib.Core.Option.{none, some}
use mathlib.Core.Path.{◌≡◌, refl, sym, ap, ◌∙◌, subst}
use Prim.Native.Nat.{ℕ, ◌≤◌}
use lib.ListN.{length, take, replicate}
use Rattle.std.specs.Prelude.{Result, Ok, Err, IsErrAnd}
use Rattle.definition.specs.Tables.{Choices}
use Rattle.definition.specs.Utf8.{decoded}
use Rattle.definition.specs.Call.{Inputs, Called, tables_of, tables, characters, refusal, accepted, called}
use Rattle.words.specs.Given.{all_ready, mode_in, choices_in}
use Rattle.jettyfig.specs.declared.Refusal.{Refusal as Refused}
use Rattle.jettyfig.specs.declared.Romanized.{Romanized}
use Rattle.jettyfig.specs.Verdicts.{refusal_means, given, answered, returned, by_asked, asked-refused}
use Rattle.jettyfig.specs.Calls.{as_refused, first-refused, call-refused, call-accepted}
use Rattle.jettyfig.specs.Steps.{asking, used_for, world_of, Romanizes, SetsUp}
use Rattle.jettyfig.proofs.Parts.{asking-mode, asking-choices}

module _ (mode : ℕ) (a : Choices) (rules classes vowels decompositions code text : List ℕ) where
  abbrev of : ℕ → Choices → ℕ → ℕ → ℕ → Inputs
  of m y = given m y rules classes vowels decompositions code text

  pub set_as : (zeros : List ℕ) → all_ready ≤ length zeros → (before after : List ℕ) → before ≡ asking mode a zeros → (r : Result ℕ Refused)
      → SetsUp (of (mode_in before) (choices_in before) 0 0 0) after r → SetsUp (of mode a 0 0 0) after r
  set_as zeros long before after e r s =
      subst (λ (j : Inputs). SetsUp j after r)
      (ap (λ (l : List ℕ). of (mode_in l) (choices_in l) 0 0 0) e
      ∙ ap (λ (m : ℕ). of m (choices_in (asking mode a zeros)) 0 0 0) (asking-mode mode a zeros long)
      ∙ ap (λ (y : Choices). of mode y 0 0 0) (asking-choices mode a zeros long)) s

  -- what is asked is refused first
  pub asked_so : (out : List ℕ) → out ≡ replicate (length out) 0 → (slots room : ℕ) (v : Result Romanized Refused) (r : Refused)
      → IsErrAnd v (λ e. e ≡ r) → some (refusal_means r) ≡ by_asked mode a → returned (answered v) out ≡ called (of mode a slots room (length out))
  asked_so out z slots room (Ok x) r h e = absurd h
  asked_so out z slots room (Err q) r h e =
      let j = of mode a slots room (length out) in
      let k = first-refused j (refusal_means q) (asked-refused mode a rules classes vowels decompositions code (refusal_means q)
      (sym e ∙ ap (λ (x : Refused). some (refusal_means x)) (sym h))) in
      as_refused j out z (refusal_means q).number (refusal_means q).place ∙ call-refused j (refusal_means q) k

  -- and then tables, code and text
  refused_by : (out : List ℕ) → out ≡ replicate (length out) 0 → (slots room : ℕ) (after : List ℕ) (r : Refused)
      → SetsUp (of mode a 0 0 0) after (Err r) → returned (answered (Err r)) out ≡ called (of mode a slots room (length out))
  unfolding refusal
  refused_by out z slots room after r s =
      let j = of mode a slots room (length out) in
      let e : refusal j ≡ some (refusal_means r) = s in
      as_refused j out z (refusal_means r).number (refusal_means r).place ∙ call-refused j (refusal_means r) e

  pub refused_so : (out : List ℕ) → out ≡ replicate (length out) 0 → (slots room : ℕ) (after : List ℕ) (v : Result Romanized Refused) (r : Refused)
      → IsErrAnd v (λ e. e ≡ r) → SetsUp (of mode a 0 0 0) after (Err r) → returned (answered v) out ≡ called (of mode a slots room (length out))
  refused_so out z slots room after (Ok x) r h s = absurd h
  refused_so out z slots room after (Err q) r h s =
      refused_by out z slots room after q (subst (λ (x : Refused). SetsUp (of mode a 0 0 0) after (Err x)) (sym h) s)

  pub accepted_so : (n : ℕ) (after : List ℕ) (slots room out : ℕ) (c : Called) → SetsUp (of mode a 0 0 0) after (Ok n)
      → Romanizes rules (take (used_for n) after) classes vowels decompositions code text slots room out c → c ≡ called (of mode a slots room out)
  unfolding refusal tables characters
  accepted_so n after slots room out c s romanizes =
      let h = s.2 in
      let e : refusal (of mode a slots room out) ≡ none = h.accepted in
      romanizes (world_of (of mode a 0 0 0)) refl h.told h.lined
      ∙ ap (λ (m : ℕ). accepted (of m a slots room out) (tables_of a rules classes vowels code) (decoded text)) h.mode
      ∙ call-accepted (of mode a slots room out) e
