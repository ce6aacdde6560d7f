-- What is kept of one start, in one number: how many edges there were when the search began there, and above it 0, or
-- one more than the number that its fallback has among the fallbacks.
use Rattle.std.specs.Prelude.{Some, None, ℕ, ◌+◌, ◌-◌, ◌*◌, ◌/◌, ◌%◌, ◌<◌, ◌≤◌, List, ◌≡◌, eqb, ltb, length, get_or, set}
use Rattle.std.proofs.Common.{sym, ◌∙◌, get_or-set_same, get_or-set_other, eq-eqb, ne_eqb, lt-ltb, le-ltb}
use Rattle.std.proofs.Math.Path.{ap}
use native.Mathlib.Omega.{arith}
use Rattle.std.proofs.Math.Decide.{ℕ_discrete}
use Rattle.base.specs.Pick.{pick}
use Rattle.definition.specs.Limits.{slot_bytes}
use Rattle.edge.specs.Best.{BestEdge}
use Rattle.standing.specs.declared.Stretch.{Stretch}

-- 17 edges for each of 4,096 characters stay below it
abbrev pub begun_limit : ℕ
begun_limit = 131072

-- fallbacks fill 32 bits only from here on
abbrev pub fall_limit : ℕ
fall_limit = 32767

abbrev pub begun_in : ℕ → ℕ
begun_in x = x % begun_limit

abbrev pub fall_in : ℕ → ℕ
fall_in x = x / begun_limit

-- of a start
abbrev pub begun : List ℕ → ℕ → ℕ
begun starts p = begun_in (get_or starts p 0)

abbrev pub fall_of : List ℕ → ℕ → ℕ
fall_of starts p = fall_in (get_or starts p 0)

-- the last entry is that of the text's end
abbrev pub end_of : List ℕ → ℕ
end_of starts = length starts - 1

-- No edge before this number starts where one of a search at `s` may: such a search moves the start by two at most
abbrev pub since_in : List ℕ → ℕ → ℕ
since_in starts s = begun starts (s - 2)

-- the edges of the first pass that start at `p` came while the search stood there, or at one of the next two starts
unfoldable pub stretch_of : List ℕ → ℕ → Stretch
stretch_of starts p = record {
  first = begun starts p;
  end = pick (ltb (end_of starts) (p + 3)) (begun starts (end_of starts)) (begun starts (p + 3));
}

-- it ends with the first pass, or before
pub stretch-last : (starts : List ℕ) (p a b : ℕ) → a ≡ begun starts p → b ≡ begun starts (end_of starts) → end_of starts < p + 3
    → record { first = a; end = b } ≡ stretch_of starts p
unfolding stretch_of pick
stretch-last starts p a b e f h = sym (rw (lt-ltb (end_of starts) (p + 3) h) (simp (e, f)))

pub stretch-short : (starts : List ℕ) (p a b : ℕ) → a ≡ begun starts p → b ≡ begun starts (p + 3) → p + 3 ≤ end_of starts
    → record { first = a; end = b } ≡ stretch_of starts p
unfolding stretch_of pick
stretch-short starts p a b e f h = sym (rw (le-ltb (end_of starts) (p + 3) h) (simp (e, f)))

-- the slot of a fallback: they stand behind the first pass's edges
unfoldable pub fallback_of : List ℕ → ℕ → BestEdge
fallback_of starts p =
    pick (eqb (fall_of starts p) 0) None (Some ((begun starts (end_of starts) + (fall_of starts p - 1)) * slot_bytes))

pub fallback_none : (starts : List ℕ) (p k : ℕ) → k ≡ fall_of starts p → k ≡ 0 → None ≡ fallback_of starts p
unfolding fallback_of pick
fallback_none starts p k e h = sym (rw (eq-eqb (fall_of starts p) 0 (sym e ∙ h)))

pub fallback_some : (starts : List ℕ) (p m k : ℕ) → m ≡ begun starts (end_of starts) → k ≡ fall_of starts p → (k ≡ 0 → ⊥)
    → Some ((m + (k - 1)) * slot_bytes) ≡ fallback_of starts p
unfolding fallback_of pick
fallback_some starts p m k e f h =
    ap (λ (i : ℕ). Some ((i + (k - 1)) * slot_bytes)) e ∙ ap (λ (i : ℕ). Some ((begun starts (end_of starts) + (i - 1)) * slot_bytes)) f
    ∙ sym (rw (ne_eqb (fall_of starts p) 0 (λ z. h (f ∙ z))))

-- `p` got the fallback with number `k`
unfoldable pub fell : ℕ → ℕ → List ℕ → List ℕ
fell p k starts = set starts p (begun starts p + (k + 1) * begun_limit)

module _ (p k : ℕ) (starts : List ℕ) (h : p < length starts) where
  -- which changes nothing but that
  pub fell-begun : (f : ℕ) → begun (fell p k starts) f ≡ begun starts f
  unfolding fell
  fell-begun f = go (ℕ_discrete f p)
    where
      go : Dec (f ≡ p) → begun (set starts p (begun starts p + (k + 1) * begun_limit)) f ≡ begun starts f
      go (yes q) =
          ap (begun (set starts p (begun starts p + (k + 1) * begun_limit))) q
          ∙ ap begun_in (get_or-set_same starts p (begun starts p + (k + 1) * begun_limit) 0 h)
          ∙ (let e : (begun starts p + (k + 1) * begun_limit) % begun_limit ≡ begun starts p = omega arith in e)
          ∙ ap (begun starts) (sym q)
      go (no q) = ap begun_in (get_or-set_other starts p f (begun starts p + (k + 1) * begun_limit) 0 q)

  pub fell-here : fall_of (fell p k starts) p ≡ k + 1
  unfolding fell
  fell-here =
      ap fall_in (get_or-set_same starts p (begun starts p + (k + 1) * begun_limit) 0 h)
      ∙ (let e : (begun starts p + (k + 1) * begun_limit) / begun_limit ≡ k + 1 = omega arith in e)

  pub fell-other : (f : ℕ) → (f ≡ p → ⊥) → fall_of (fell p k starts) f ≡ fall_of starts f
  unfolding fell
  fell-other f q = ap fall_in (get_or-set_other starts p f (begun starts p + (k + 1) * begun_limit) 0 q)
