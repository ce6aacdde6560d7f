-- The mark that a row's order is asked of: the source before it, or none before the first.
use Rattle.std.specs.Prelude.{Bool, ◌&&◌, ◌≡◌, ℕ, zero, suc, ◌+◌, ◌<◌, ◌≤◌, eqb, length, drop, Option, Some, None}
use Rattle.std.proofs.Math.Bool.{true, false}
use Rattle.std.proofs.Math.Path.{refl, sym}
use Rattle.std.proofs.Common.{ap, ◌∙◌, subst, arith, length-drop, lt-ltb, ne_eqb}
use mathlib.Core.List.{List, [], ◌∷◌}
use Rattle.base.specs.Pick.{pick}
use Rattle.base.specs.Big.{be3}
use Rattle.base.specs.Rows.{counted, counted_some}
use Rattle.definition.specs.Texts.{Text}
use Rattle.definition.specs.RuleRows.{three_at, source_count, rule_size, rule_source, rises, rule_right}
use Rattle.definition.specs.Checked.{rule-checked}
use Rattle.definition.specs.Places.{rule_placed}
use Rattle.definition.specs.There.{three-there}
use Rattle.definition.specs.RuleFields.{read_row}
use Rattle.definition.specs.FieldsRight.{rightly}
use Rattle.definition.proofs.FieldsRight.{row_rightly}

unfoldable pub mark_of : List ℕ → ℕ → Bool → Text
mark_of b old first = pick first [] (rule_source (drop old b))

-- the same, where 0 for the least character that rises tells the first row
unfoldable pub mark_at : List ℕ → ℕ → ℕ → Text
mark_at b old low = mark_of b old (eqb low 0)

-- and by the row before, where there is one
abbrev pub mark_behind : List ℕ → Option ℕ → Text
mark_behind b None = []
mark_behind b (Some old) = rule_source (drop old b)

pub no_mark : (b : List ℕ) (old : ℕ) → mark_at b old 0 ≡ []
unfolding mark_at mark_of pick
no_mark b old = refl

pub mark-is : (b : List ℕ) (old low : ℕ) → 0 < low → mark_at b old low ≡ rule_source (drop old b)
unfolding mark_at mark_of pick
mark-is b old low h = rw (ne_eqb low 0 (λ e. omega arith)) refl

-- from `low` on a first character rises over the source before it
pub record Rising (old : Text) (low : ℕ) : Type 0 where
  pub above : (c : ℕ) (t : Text) → low ≤ c → rises old (c ∷ t) ≡ true

pub none_before : (b : List ℕ) (old : ℕ) → Rising (mark_at b old 0) 0
unfolding rises
none_before b old = subst (λ m. Rising m 0) (sym (no_mark b old)) (record { above = λ c t l. refl })

after_row : (s : List ℕ) (low : ℕ) → low ≡ be3 s 6 + 1 → Rising (rule_source s) low
unfolding rule_source
after_row s low e = record { above = λ c t l. go (source_count s) c t (let h = three-there s 6 in omega arith) }
  where
    go : (n c : ℕ) (t : Text) → suc (three_at (drop 6 s)) ≤ c → rises (counted three_at 3 n (drop 6 s)) (c ∷ t) ≡ true
    go zero c t l = unfold counted rises in refl
    go (suc n) c t l = unfold counted rises in rw (lt-ltb (three_at (drop 6 s)) c (omega arith)) refl

-- A row is right after a source where its fields are and its own source rises
module _ (old : Text) (s : List ℕ) where
  right_by : rule_right old s ≡ (rule_right [] s && rises old (rule_source s))
  right_by = row_rightly old s ∙ ap (λ x. x && rises old (rule_source s)) (fields (rightly (read_row s)) refl)
    where
      fields : (x : Bool) → rightly (read_row s) ≡ x → rightly (read_row s) ≡ rule_right [] s
      fields true e = e ∙ sym (row_rightly [] s ∙ (unfold rises in rw e refl))
      fields false e = e ∙ sym (row_rightly [] s ∙ (unfold rises in rw e refl))

  module _ (x : Bool) (e : x ≡ rule_right [] s) where
    pub fields-wrong : x ≡ false → false ≡ rule_right old s
    fields-wrong f = sym (right_by ∙ ap (λ y. y && rises old (rule_source s)) (sym e ∙ f))

    module _ (f : x ≡ true) where
      pub by-source : (y : Bool) → y ≡ rises old (rule_source s) → y ≡ rule_right old s
      by-source y h = sym (right_by ∙ ap (λ z. z && rises old (rule_source s)) (sym e ∙ f) ∙ sym h)

      pub by_first : (low c : ℕ) → Rising old low → c ≡ be3 s 6 → low ≤ c → true ≡ rule_right old s
      unfolding rule_source
      by_first low c r g l =
          let k = (rule-checked [] s (sym e ∙ f)).least in
          by-source true (sym (ap (rises old) (counted_some three_at 3 (source_count s) 6 s (omega arith))
          ∙ r.above (three_at (drop 6 s)) _ (let h = three-there s 6 in omega arith)))

-- the end of a right row, or none for one at fault
abbrev pub Past : Text → List ℕ → ℕ → Option ℕ → Type 0
Past old s row (Some end) = (true ≡ rule_right old s) × (end ≡ row + rule_size s)
Past old s row None = false ≡ rule_right old s

pub past-right : (old : Text) (s : List ℕ) (row r : ℕ) → r ≡ row + rule_size s → true ≡ rule_right old s → Past old s row (Some r)
past-right old s row r e h = (h, e)

pub past-wrong : (old : Text) (s : List ℕ) (row : ℕ) → false ≡ rule_right old s → Past old s row None
past-wrong old s row h = h

-- after a right row: the mark, and what rises over it
module _ (b : List ℕ) (at low : ℕ) (e : low ≡ be3 (drop at b) 6 + 1) where
  pub mark-after : mark_at b at low ≡ rule_source (drop at b)
  mark-after = mark-is b at low (omega arith)

  pub rising_after : Rising (mark_at b at low) low
  rising_after = subst (λ m. Rising m low) (sym mark-after) (after_row (drop at b) low e)

-- and its first character lies in the table
pub first-inside : (b : List ℕ) (at : ℕ) (old : Text) → at ≤ length b → true ≡ rule_right old (drop at b) → at + 6 + 2 < length b
first-inside b at old l h =
    let p = rule_placed old (drop at b) (sym h) in
    let d = p.source in
    let e = p.least in
    let f = p.codes in
    let g = p.target in
    let i = p.end_target in
    let j = p.others in
    omega (arith, p.row, length-drop at b)
