-- Two sources compared character by character, from the front of rows `s` and `t`.
use Rattle.std.specs.Prelude.{true, false, ◌≡◌, List, [], ◌∷◌, ℕ, ◌+◌, ◌-◌, ◌*◌, ◌<◌, ◌≤◌, get_or, drop, leb}
use Rattle.std.proofs.Common.{sym, ◌∙◌}
use Rattle.std.proofs.Math.Path.{ap}
use native.Mathlib.Omega.{arith}
use borrow.Author.Tests.{lt-ltb, le-ltb, le-leb, lt-leb, eq-eqb, ne_eqb}
use Rattle.base.specs.Big.{be3}
use Rattle.base.specs.Rows.{counted, counted_none, counted_some}
use Rattle.definition.specs.RuleRows.{three_at, source_count, codes_at, rule_source, rises}
use Rattle.definition.specs.There.{three-there}

module _ (x y : ℕ) (a b : List ℕ) where
  lower : x < y → rises (x ∷ a) (y ∷ b) ≡ true
  unfolding rises
  lower h = rw (lt-ltb x y h)

  higher : y < x → rises (x ∷ a) (y ∷ b) ≡ false
  unfolding rises
  higher h = rw (le-ltb x y (omega arith), ne_eqb x y (λ e. omega arith))

  level : x ≡ y → rises (x ∷ a) (y ∷ b) ≡ rises a b
  unfolding rises
  level h = rw (le-ltb x y (omega arith), eq-eqb x y h)

-- where the characters end that both have
pub data Ends (s t : List ℕ) (end : ℕ) : Type 0 where
  of_first : end ≡ codes_at s → codes_at s ≤ codes_at t → Ends s t end
  of_other : end ≡ codes_at t → codes_at t < codes_at s → Ends s t end

pub starts : {s t : List ℕ} {end : ℕ} → Ends s t end → 6 ≤ end
unfolding codes_at
starts (of_first e l) = omega arith
starts (of_other e l) = omega arith

-- as many characters before `o` are alike, so what is left rises where the sources do
pub record Level (s t : List ℕ) (o : ℕ) : Type 0 where
  pub past : ℕ
  pub place : o ≡ 6 + 3 * past
  pub leads : rises (counted three_at 3 (source_count s - past) (drop o s)) (counted three_at 3 (source_count t - past) (drop o t))
      ≡ rises (rule_source s) (rule_source t)

pub begun : (s t : List ℕ) → Level s t 6
unfolding rule_source
begun s t =
    let e : source_count s - 0 ≡ source_count s = omega arith in
    let f : source_count t - 0 ≡ source_count t = omega arith in
    record { past = 0; place = omega arith; leads = rw (e, f) }

-- four bytes as one number, the last the highest
pub record Word (s : List ℕ) (o x : ℕ) : Type 0 where
  pub value : x ≡ get_or s o 0 + get_or s (o + 1) 0 * 256 + get_or s (o + 2) 0 * 65536 + get_or s (o + 3) 0 * 16777216
  pub low : (get_or s o 0 < 256) × (get_or s (o + 1) 0 < 256) × (get_or s (o + 2) 0 < 256)

-- words that are alike begin with the same character
higher-bytes : {x y p q : ℕ} → x < 256 → y < 256 → x + p * 256 ≡ y + q * 256 → p ≡ q
higher-bytes h k e = omega arith

pub same_word : {s t : List ℕ} {o x y : ℕ} → Word s o x → Word t o y → x ≡ y → be3 s o ≡ be3 t o
same_word {s} {t} {o} {x} {y} v w h =
    let l = v.low in
    let m = w.low in
    let third : get_or s (o + 2) 0 + get_or s (o + 3) 0 * 256 ≡ get_or t (o + 2) 0 + get_or t (o + 3) 0 * 256 =
    higher-bytes l.1 m.1 (higher-bytes l.0 m.0 (omega (arith, v.value, w.value)))
    in
    let last : get_or s (o + 3) 0 ≡ get_or t (o + 3) 0 = higher-bytes l.2 m.2 third in
    omega (arith, v.value, w.value, third, last)

-- before the end both have a character there
module _ {s t : List ℕ} {o end : ℕ} (w : Level s t o) where
  pub inside : Ends s t end → o < end → (0 < source_count s - w.past) × (0 < source_count t - w.past) × (o + 3 ≤ end)
  unfolding codes_at
  inside (of_first e l) h = let p = w.place in (omega arith, omega arith, omega arith)
  inside (of_other e l) h = let p = w.place in (omega arith, omega arith, omega arith)

-- at the end a prefix comes first
module _ {s t : List ℕ} {o end : ℕ} (w : Level s t o) (h : end ≤ o) (k : o ≤ end) where
  none : (u : List ℕ) → end ≡ codes_at u → counted three_at 3 (source_count u - w.past) (drop o u) ≡ []
  unfolding codes_at
  none u e = let p = w.place in counted_none three_at 3 _ (drop o u) (omega arith)

  pub ended : Ends s t end → (n m : ℕ) → n ≡ source_count s → m ≡ source_count t → leb n m ≡ rises (rule_source s) (rule_source t)
  unfolding rises codes_at
  ended (of_first e l) n m f g =
      le-leb n m (omega arith)
      ∙ ap (λ r. rises r (counted three_at 3 (source_count t - w.past) (drop o t))) (sym (none s e)) ∙ w.leads
  ended (of_other e l) n m f g =
      let p = w.place in
      lt-leb n m (omega arith)
      ∙ (rw (counted_some three_at 3 (source_count s - w.past) o s (omega arith), none t e) at w.leads)

-- the characters at `o`
module _ {s t : List ℕ} {o end : ℕ} (w : Level s t o) (z : Ends s t end) (h : o < end) (x y : ℕ) (e : x ≡ be3 s o) (f : y ≡ be3 t o) where
  first : rises (x ∷ counted three_at 3 (source_count s - w.past - 1) (drop (o + 3) s))
      (y ∷ counted three_at 3 (source_count t - w.past - 1) (drop (o + 3) t))
      ≡ rises (rule_source s) (rule_source t)
  first =
      let i = inside w z h in
      rw (
        e ∙ three-there s o,
        f ∙ three-there t o,
        ← counted_some three_at 3 (source_count s - w.past) o s i.0,
        ← counted_some three_at 3 (source_count t - w.past) o t i.1,
      )
      w.leads

  pub rises-here : x < y → true ≡ rises (rule_source s) (rule_source t)
  rises-here l = sym (lower x y _ _ l) ∙ first

  pub falls_here : y < x → false ≡ rises (rule_source s) (rule_source t)
  falls_here l = sym (higher x y _ _ l) ∙ first

  pub level_here : x ≡ y → Level s t (o + 3)
  level_here l =
      let p = w.place in
      let n : source_count s - (w.past + 1) ≡ source_count s - w.past - 1 = omega arith in
      let m : source_count t - (w.past + 1) ≡ source_count t - w.past - 1 = omega arith in
      record { past = w.past + 1; place = omega arith; leads = rw (n, m) (sym (level x y _ _ l) ∙ first) }
