-- The loop over a text's bytes, and that over its characters: one law for each way that a turn can go.
use mathlib.Core.Bool.{true, false}
use mathlib.Core.List.{List, ◌∷◌}
use mathlib.Core.Option.{none, some}
use mathlib.Core.Path.{◌≡◌, refl, sym, ap, ◌∙◌}
use Prim.Native.Nat.{ℕ, suc, ◌+◌, ◌<◌, ◌≤◌}
use native.Mathlib.Omega.{arith}
use lib.ListN.{length, drop, set, length-drop, length-set}
use lib.Seq.{drop-drop}
use Rattle.std.specs.List.{position_from}
use Rattle.std.proofs.lemmas.Iterator.Adapters.{position_from-zero}
use Rattle.std.specs.Prelude.{position, Some, cond, [], count_by, nat_eq, Result, Ok, Err}
use Rattle.std.proofs.Common.{zero-add}
use Rattle.std.proofs.lemmas.List.Recursion.{is_count_by}
use Rattle.base.specs.Pick.{pick}
use Rattle.definition.specs.Utf8.{six, char, bad, read, bad_sequence, decoded}
use Rattle.definition.specs.Utf8Turns.{bad_at, bad_sequence-is, bad-none, bad-here, bad-next}
use Rattle.definition.specs.Utf8Turns.{decoded-none, decoded-here, decoded-next, char-bytes}
use Rattle.definition.specs.Texts.{left_out}
use Rattle.definition.specs.Call.{first_left_out}
use Rattle.utf8.specs.Beginnings.{beginnings}
use Rattle.utf8.specs.Read.{found_means, answer, answered}
use Rattle.utf8.specs.Puts.{puts}
use Rattle.utf8.specs.declared.NotUtf8.{NotUtf8}

-- `n` characters of the text `s` were put into `l₀`, which is `l` now, and the next starts at `at`: what is left to do
-- leads where the whole leads
pub record Walk (s l₀ l : List ℕ) (at n : ℕ) : Type 0 where
  pub few : n ≤ at
  pub same : length l ≡ length l₀
  pub room : puts n (decoded (drop at s)) l ≡ puts 0 (decoded s) l₀
  pub fault : bad_at at (drop at s) ≡ bad_at 0 s
  pub count : n + length (decoded (drop at s)) ≡ length (decoded s)

-- what `decode` has to show at its end
abbrev pub Ends : List ℕ → List ℕ → List ℕ → Result ℕ NotUtf8 → Type 0
Ends s l₀ l d = (d ≡ answered s) × (l ≡ puts 0 (decoded s) l₀)

pub begun : (s l : List ℕ) → Walk s l l 0 0
begun s l = record { few = omega arith; same = refl; room = refl; fault = refl; count = omega arith }

module _ {s l₀ l : List ℕ} {at n : ℕ} (w : Walk s l₀ l at n) where
  left : at < length s → 0 < length (drop at s)
  left h = omega (arith, length-drop at s)

  pub turned : (c k p m : ℕ) → (at < length s) × (p ≡ at + k) × (m ≡ n + 1) → read (drop at s) ≡ char c k
      → Walk s l₀ (set l n c) p m
  unfolding puts
  turned c k p m h e =
      let t = char-bytes (drop at s) c k e in
      let q = h.1 in
      let v : drop k (drop at s) ≡ drop p s = rw q (drop-drop k at s) in
      let d : decoded (drop at s) ≡ c ∷ decoded (drop p s) =
      decoded-next (drop at s) c k (left h.0) e ∙ ap (λ t. c ∷ decoded t) v in
      let b : bad_at at (drop at s) ≡ bad_at p (drop p s) =
      rw q (bad-next at (drop at s) c k (left h.0) e ∙ ap (bad_at (at + k)) (drop-drop k at s)) in
      let j : length (decoded (drop at s)) ≡ suc (length (decoded (drop p s))) = ap length d in
      let x = w.few in
      let y = w.count in
      record {
        few = omega arith;
        same = length-set l n c ∙ w.same;
        room = rw h.2 (sym (ap (λ t. puts n t l) d) ∙ w.room);
        fault = sym b ∙ w.fault;
        count = omega arith;
      }

  pub stopped : at < length s → read (drop at s) ≡ bad → Ends s l₀ l (Err (record { at = at }))
  unfolding answered answer puts
  stopped h e =
      let b : bad_sequence s ≡ some at = bad_sequence-is s ∙ sym w.fault ∙ bad-here at (drop at s) (left h) e in
      (rw b, sym (ap (λ t. puts n t l) (decoded-here (drop at s) e)) ∙ w.room)

  pub ended : length s ≤ at → Ends s l₀ l (Ok n)
  unfolding answered answer puts
  ended h =
      let z : length (drop at s) ≡ 0 = omega (arith, length-drop at s) in
      let d = decoded-none (drop at s) z in
      let b : bad_sequence s ≡ none = bad_sequence-is s ∙ sym w.fault ∙ bad-none at (drop at s) z in
      let j : length (decoded (drop at s)) ≡ 0 = ap length d in
      let y = w.count in
      let m : n ≡ length (decoded s) = omega arith in
      (rw (b, ← m), sym (ap (λ t. puts n t l) d) ∙ w.room)

-- the position of the first character that is left out, as `position` of an iterator gives it
first_from : (p : ℕ) (t : List ℕ) → found_means (position_from left_out p t) ≡ first_left_out p t
unfolding found_means first_left_out pick
first_from p [] = refl
first_from p (c ∷ t) =
    elim (left_out c) as (λ b. found_means (cond b (Some p) (position_from left_out (p + 1) t)) ≡ pick b (some p) (first_left_out (p + 1) t))
    [ true ↦ refl | false ↦ first_from (p + 1) t ]

pub first_by_position : (t : List ℕ) → found_means (position left_out t) ≡ first_left_out 0 t
first_by_position t = ap found_means (position_from-zero left_out t) ∙ first_from 0 t

-- the bytes that continue no character, as `count` after `filter` gives them
pub beginnings_counted : (s : List ℕ) → beginnings s ≡ count_by (λ b. nat_eq (six b) 64) s
unfolding beginnings pick
beginnings_counted = is_count_by beginnings (λ b. nat_eq (six b) 64) refl
    (λ b s. elim (nat_eq (six b) 64) as (λ t. pick t 1 0 + beginnings s ≡ cond t (1 + beginnings s) (beginnings s))
    [ true ↦ refl | false ↦ zero-add (beginnings s) ])
