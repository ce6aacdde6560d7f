-- What comes of the two Thai steps, and of a target put behind: one law for each way out.
use mathlib.Core.Bool.{Bool, true, false, ◌&&◌, and-false, true≢false}
use mathlib.Core.List.{List, [], ◌∷◌, ◌++◌}
use mathlib.Core.Option.{none, some}
use mathlib.Core.Option as math
use Rattle.std.specs.Prelude.{Option, Some, None, unwrap_or}
use mathlib.Core.Path.{◌≡◌, refl, sym, ap, ◌∙◌, subst}
use Prim.Native.Nat.{ℕ, ◌+◌, ◌-◌, ◌≤◌}
use native.Mathlib.Nat.{add-zero}
use native.Mathlib.Omega.{arith}
use lib.Dec.{eqb}
use lib.ListN.{length, get_or, drop}
use Rattle.base.specs.Pick.{pick}
use Rattle.base.specs.Lists.{all, has, head, is, maybe, or_else}
use Rattle.base.specs.Alls.{Opt}
use Rattle.definition.specs.Limits.{most_target}
use Rattle.definition.specs.Texts.{Text, consonants, prev}
use Rattle.definition.specs.Tables.{Class, Rule, script_thai}
use Rattle.definition.specs.Notes.{note_exp}
use Rattle.definition.proofs.Blank.{blank}
use Rattle.definition.specs.ClassRows.{classes_of}
use Rattle.definition.specs.RuleRows.{rule_of, text_where, target_at, end_target_at}
use Rattle.definition.specs.Classes.{class, script}
use Rattle.definition.specs.Rules.{first_rule}
use Rattle.definition.specs.Shorts.{Short}
use Rattle.definition.specs.Expansion.{work, widen, around_by, around, pre_vowel, before}
use Rattle.definition.specs.Expansion as expansion
use Rattle.table_classes.specs.Told.{Fine}
use Rattle.rom.specs.Sets.{member, consonants_set, in_consonants, all_as}
use Rattle.rule_choice.specs.Chosen.{chosen_means, Said, or_nothing}
use Rattle.rule_choice.specs.declared.Target.{Target}
use Rattle.rule_choice.specs.declared.Target.TheVariants.{Own, AtEnd}
use Rattle.steps.specs.declared.Growing.{Growing}
use Rattle.steps.specs.Works.{work_in, Held, outcome, Left, framed_by, before_by}
use Rattle.steps.proofs.Letters.{first_passes, no_consonant}

-- a target has 200 bytes at most
pub said-short : (rules : List ℕ) (x : Option Target) → Said rules x → length (or_nothing (chosen_means rules x)) ≤ most_target
unfolding rule_of text_where pick
said-short rules (Some (Own row)) h =
    let s = drop row rules in
    (subst (Opt (Short most_target)) (ap (λ (b : Bool). text_where b (drop (target_at s) s)) h.1) h.0.spoken.target).long
said-short rules (Some (AtEnd row)) h =
    let s = drop row rules in
    (subst (Opt (Short most_target)) (ap (λ (b : Bool). text_where b (drop (end_target_at s) s)) h.1) h.0.spoken.end_target).long
said-short rules None h = omega arith

-- a try that follows one that was not done
pub on : {a b : List ℕ} (g : Growing) {o : math.Option expansion.Work} (f : expansion.Work → math.Option expansion.Work)
    → a ≡ b → o ≡ f (work_in a g) → o ≡ f (work_in b g)
on {a} {b} g {o} f e h = h ∙ ap (λ (l : List ℕ). f (work_in l g)) e

-- what a try makes, or what was there
module _ (b d : List ℕ) (g : Growing) (m : ℕ) where
  pub or_same : (r : Option Growing) {o : math.Option expansion.Work} → outcome d r ≡ o → Left m b d r
      → work_in d (unwrap_or r g) ≡ maybe o (work_in b g) (λ x. x)
  unfolding maybe
  or_same (Some x) e l = ap (λ (o : math.Option expansion.Work). maybe o (work_in b g) (λ x. x)) e
  or_same None e l = ap (λ (y : List ℕ). work_in y g) l ∙ ap (λ (o : math.Option expansion.Work). maybe o (work_in b g) (λ x. x)) e

  pub or-held : Held b g → g.len ≤ m → (r : Option Growing) → Left m b d r → Held d (unwrap_or r g) × ((unwrap_or r g).len ≤ m)
  or-held h k (Some x) l = l
  or-held h k None l = (subst (λ (y : List ℕ). Held y g) (sym l) h, k)

-- A target put behind, or none
pub no_target : (w : expansion.Work) (k : ℕ) (o : math.Option Text) → has o ≡ false → widen k w o ≡ none
unfolding widen
no_target w k none e = refl
no_target w k (some y) e = absurd (true≢false e)

pub a_target : (w : expansion.Work) (k : ℕ) (o : math.Option Text) → has o ≡ true
    → widen k w o ≡ some (work (w.rom ++ or_nothing o) (w.from - 1) (w.to + k) note_exp)
unfolding widen
a_target w k none e = absurd (true≢false (sym e))
a_target w k (some y) e = refl

-- it takes the character before the span, and with none after it ends where the span did
pub behind-there : (w : expansion.Work) (o : math.Option Text) → ((maybe (widen 0 w o) w (λ x. x)).from ≤ w.from) × ((maybe (widen 0 w o) w (λ x. x)).to ≡ w.to)
unfolding widen maybe
behind-there w none = (omega arith, refl)
behind-there w (some y) = (omega arith, add-zero w.to)

or_first : {A : Type 0} (a b : math.Option A) → has a ≡ true → or_else a b ≡ a
or_first none b e = absurd (true≢false (sym e))
or_first (some x) b e = refl

or_second : {A : Type 0} (a b : math.Option A) → has a ≡ false → or_else a b ≡ b
or_second none b e = refl
or_second (some x) b e = absurd (true≢false e)

-- nothing is written before its consonant in front of the text
pub blank_pre : (classes : List ℕ) → Fine classes → (t : Text) (p : ℕ) → p ≡ 0 → (class (classes_of classes) (prev t p)).pre ≡ false
unfolding prev
blank_pre classes f t p e = ap (λ (p : ℕ). (class (classes_of classes) (prev t p)).pre) e ∙ (blank classes f).pre

module _ (rs : List Rule) (ks : List Class) (t : Text) (w : expansion.Work) {p : Bool} (f : p ≡ (class ks (prev t w.from)).pre) where
  -- The vowel behind: `k` and `p` are script and flag of the character before the span
  module _ {k : ℕ} (e : k ≡ script ks (prev t w.from)) where
    abbrev chosen : Bool → expansion.Work
    chosen b = maybe (pick b (first_rule rs (prev t w.from ∷ [])) none) w (λ y. work (w.rom ++ y) (w.from - 1) w.to note_exp)

    by-test : {b : Bool} → before_by k p w.rom ≡ b → chosen b ≡ before rs ks t w
    unfolding before pre_vowel before_by
    by-test d = ap chosen (sym d ∙ ap (λ (x : ℕ). before_by x p w.rom) e ∙ ap (λ (x : Bool). before_by (script ks (prev t w.from)) x w.rom) f)

    pub not_before : before_by k p w.rom ≡ false → w ≡ before rs ks t w
    unfolding maybe pick
    not_before d = by-test d

    put : (o : math.Option Text) → maybe (widen 0 w o) w (λ x. x) ≡ maybe o w (λ y. work (w.rom ++ y) (w.from - 1) w.to note_exp)
    unfolding widen maybe
    put none = refl
    put (some y) = ap (λ (m : ℕ). work (w.rom ++ y) (w.from - 1) m note_exp) (add-zero w.to)

    pub by_rule : before_by k p w.rom ≡ true → (o : math.Option Text) → o ≡ first_rule rs (prev t w.from ∷ [])
        → maybe (widen 0 w o) w (λ x. x) ≡ before rs ks t w
    unfolding pick
    by_rule d o r = put o ∙ ap (λ (o : math.Option Text). maybe o w (λ y. work (w.rom ++ y) (w.from - 1) w.to note_exp)) r ∙ by-test d

  -- The vowel around
  abbrev longest : Bool → math.Option expansion.Work
  longest b = pick b (or_else (around_by rs t 3 w) (or_else (around_by rs t 2 w) (around_by rs t 1 w))) none

  by_frame : {b : Bool} → framed_by p w ≡ b → longest b ≡ around rs ks t w
  unfolding around framed_by
  by_frame d = ap longest (sym d ∙ ap (λ (x : Bool). framed_by x w) f)

  pub not_framed : framed_by p w ≡ false → around rs ks t w ≡ none
  unfolding pick
  not_framed d = sym (by_frame d)

  module _ (d : framed_by p w ≡ true) where
    pub by_three : has (around_by rs t 3 w) ≡ true → around_by rs t 3 w ≡ around rs ks t w
    unfolding pick
    by_three h = sym (or_first (around_by rs t 3 w) _ h) ∙ by_frame d

    module _ (g : has (around_by rs t 3 w) ≡ false) where
      pub by_two : has (around_by rs t 2 w) ≡ true → around_by rs t 2 w ≡ around rs ks t w
      unfolding pick
      by_two h = sym (or_first (around_by rs t 2 w) _ h) ∙ sym (or_second (around_by rs t 3 w) _ g) ∙ by_frame d

      pub by_one : has (around_by rs t 2 w) ≡ false → around_by rs t 1 w ≡ around rs ks t w
      unfolding pick
      by_one h = sym (or_second (around_by rs t 2 w) _ h) ∙ sym (or_second (around_by rs t 3 w) _ g) ∙ by_frame d

-- what has no flag is neither
module _ (p : Bool) (e : p ≡ false) where
  pub unflagged_before : (k : ℕ) (w : Text) → before_by k p w ≡ false
  unfolding before_by
  unflagged_before k w = rw (e, and-false (eqb k script_thai))

  pub unflagged_frame : (w : expansion.Work) → framed_by p w ≡ false
  unfolding framed_by
  unflagged_frame w = rw e (and-false (eqb (w.from + 1) w.to && all consonants w.rom))

-- the consonants are a set
pub consonants_all : (w : Text) → all (member consonants_set) w ≡ all consonants w
consonants_all w = all_as consonants_set consonants in_consonants w

pub consonant_first : (w : Text) → member consonants_set (get_or w 0 0) ≡ is consonants (head w)
consonant_first w = in_consonants (get_or w 0 0) ∙ first_passes consonants no_consonant w
