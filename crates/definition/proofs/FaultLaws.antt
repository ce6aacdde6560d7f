-- A rule table has no fault just where all of document 01's tests hold of it, and a fault lies in the first row that breaks one.
use Rattle.std.specs.Prelude.{Bool, ◌≡◌, ℕ, ◌≤◌, ◌<◌, drop}
use Rattle.std.proofs.Math.Bool.{true, false}
use Rattle.std.proofs.Math.Path.{refl, sym, ap}
use Rattle.std.proofs.Common.{◌∙◌}
use mathlib.Core.List.{List, []}
use Rattle.std.proofs.Math.Option.{none, some}
use native.Mathlib.Omega.{arith}
use Rattle.std.proofs.Math.ListN.{length, length-drop}
use Rattle.std.proofs.Math.Seq.{drop-drop}
use Rattle.base.specs.Pick.{pick}
use Rattle.definition.specs.Limits.{most_rows}
use Rattle.definition.specs.Refusals.{Refusal, refuse, refused_length}
use Rattle.definition.specs.Texts.{Text}
use Rattle.definition.specs.Blocks.{Walk, version_1, headed, past, fault_from, fault, offset_where}
use Rattle.definition.specs.RuleRows.{rule_size, rule_source, rule_right}
use Rattle.definition.specs.RuleFaults.{row_fault, rule_fault}
use Rattle.definition.specs.BlockTurns.{fine, offset_tells, none_found, one_found, fault-next, fault-here, found_at, fault-none, fault_sound, fault-headed}
use Rattle.definition.specs.FieldsWithin.{place}
use Rattle.definition.proofs.FieldsWithin.{field-inside}
use Rattle.definition.specs.RuleTurns.{rule_moves}
use Rattle.definition.proofs.RuleTurns.{row_tells, found_ind}
use Rattle.definition.specs.FaultLaws.{Both, Near, Placed, first_row, same, start}

-- A table has a fault just where `first_row` finds one
module _ (b : List ℕ) where
  pub no_fault : first_row b ≡ none → rule_fault b ≡ none
  unfolding rule_fault
  no_fault e =
      let f = offset_where rule_right in
      let t = offset_tells rule_right in
      fault_sound rule_size rule_source rule_right rule_moves row_fault row_tells (refuse refused_length 0) most_rows [] b
      (fault-headed rule_size rule_source rule_right rule_moves f t 0 most_rows [] b e)
      (fault-none rule_size rule_source rule_right rule_moves f t 0 most_rows [] b e)

  pub tests_hold : rule_fault b ≡ none → first_row b ≡ none
  unfolding rule_fault
  tests_hold e =
      let r = refuse refused_length 0 in
      fault_sound rule_size rule_source rule_right rule_moves (offset_where rule_right) (offset_tells rule_right) 0 most_rows [] b
      (fault-headed rule_size rule_source rule_right rule_moves row_fault row_tells r most_rows [] b e)
      (fault-none rule_size rule_source rule_right rule_moves row_fault row_tells r most_rows [] b e)

found-near : (x : Walk Text) (f : Refusal) → row_fault x ≡ some f → Near x f
unfolding place
found-near x f e =
    found_ind x (Near x) at-start
    (λ k o p.
    let i : o ≤ length x.rest = rw p at (field-inside x.rest) in
    record { behind = omega arith; inside = omega arith })
    at-start f e
  where
    at-start : {k : ℕ} → Near x (refuse k x.at)
    at-start = record { behind = omega arith; inside = omega arith }

module _ (b : List ℕ) (f : Refusal) where
  finds : (x : Walk Text) (c : Bool) → fine rule_right x ≡ c → row_fault x ≡ none → fine rule_right x ≡ true
  finds x true e n = e
  finds x false e n = absurd (let s = row_tells.something x e in let z = s.1 in let w : ◌≡◌ {A = ℕ} 0 1 = cc in omega arith)

  both-past : (x : Walk Text) → Both b f x → 0 < length x.rest → row_fault x ≡ none → Both b f (past rule_size rule_source x)
  both-past x p h n = record {
    rest = unfold past in (ap (drop (rule_size x.rest)) p.rest ∙ drop-drop (rule_size x.rest) x.at b);
    leads =
        sym (fault-next rule_size rule_source (offset_where rule_right) rule_moves x h
        (none_found rule_right x (finds x (fine rule_right x) refl n)))
        ∙ p.leads;
  }

  not_fine : (x : Walk Text) → row_fault x ≡ some f → fine rule_right x ≡ false
  not_fine x e = go (fine rule_right x) refl
    where
      go : (c : Bool) → fine rule_right x ≡ c → fine rule_right x ≡ false
      go true p = absurd (let z = row_tells.nothing x p in let w : ◌≡◌ {A = ℕ} 0 1 = cc in omega arith)
      go false p = p

  in_row : headed version_1 b ≡ true → fault_from rule_size rule_source row_fault (start b f) ≡ some f → Placed b f
  unfolding fault pick
  in_row h e =
      let s = found_at rule_size rule_source row_fault rule_moves (Both b f) both-past f (length (start b f).rest) (start b f)
      (omega arith) (record { rest = refl; leads = refl }) e in
      let y = s.0 in
      let p = s.1 in
      let n = found-near y f s.3 in
      let a = fault-here rule_size rule_source (offset_where rule_right) rule_moves y s.2 y.at (one_found rule_right y (not_fine y s.3)) in
      let l = ap length p.rest in
      let d = length-drop y.at b in
      let m = n.inside in
      let k = s.2 in
      (y.at, rw h (sym p.leads ∙ a), n.behind, omega arith)

  pub fault_placed : rule_fault b ≡ some f → Placed b f
  unfolding rule_fault fault pick
  fault_placed e = go (headed version_1 b) refl e
    where
      go : (h : Bool) → headed version_1 b ≡ h
          → pick h (fault_from rule_size rule_source row_fault (start b f)) (some (refuse refused_length 0)) ≡ some f → Placed b f
      go true h e = in_row h e
      go false h e =
          let p : f.place ≡ 0 = sym (ap (λ (r : Refusal). r.place) (same e)) in
          (0, rw h refl, omega arith, omega arith)
