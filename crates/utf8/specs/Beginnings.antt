-- Bytes that continue no character, as many as characters begin at most.
use Rattle.std.specs.Prelude.{Bool, true, false, ◌&&◌, List, [], ◌∷◌, ◌≡◌, refl, ℕ, zero, suc, ◌+◌, ◌-◌, ◌≤◌, ◌<◌, eqb, leb, ltb, length, get_or, drop}
use Rattle.std.proofs.Common.{ap, ◌∙◌, arith, eq-eqb, leb-true, le-ltb}
use Rattle.base.specs.Pick.{pick}
use Rattle.base.specs.Bools.{and_left, and_right}
use Rattle.definition.specs.Texts.{Text}
use Rattle.definition.specs.Utf8Turns.{char-bytes}
use Rattle.definition.specs.Utf8.{Read, char, bad, six, sequence, read, decode_by, decoded}

-- 1 for a byte that continues none
abbrev pub begins : ℕ → ℕ
begins b = pick (eqb (six b) 64) 1 0

unfoldable pub beginnings : List ℕ → ℕ
beginnings [] = 0
beginnings (b ∷ s) = begins b + beginnings s

-- from a place on: the byte there, and what follows
pub begins-at : (s : List ℕ) (i : ℕ) → i < length s → beginnings (drop i s) ≡ begins (get_or s i 0) + beginnings (drop (i + 1) s)
unfolding beginnings
begins-at [] i l = absurd (omega arith)
begins-at (b ∷ s) zero l = refl
begins-at (b ∷ s) (suc i) l = begins-at s i (omega arith) ∙ ap (λ (k : ℕ). begins (get_or s i 0) + beginnings (drop k (b ∷ s))) {x = suc (i + 1)} {y = suc i + 1} (omega arith)

pub begins-none : (s : List ℕ) (i : ℕ) → length s ≤ i → beginnings (drop i s) ≡ 0
unfolding beginnings
begins-none [] zero l = refl
begins-none [] (suc i) l = refl
begins-none (b ∷ s) zero l = absurd (omega arith)
begins-none (b ∷ s) (suc i) l = begins-none s i (omega arith)

begins-behind : (n : ℕ) (s : List ℕ) → beginnings (drop n s) ≤ beginnings s
unfolding beginnings
begins-behind zero s = omega arith
begins-behind (suc n) [] = omega arith
begins-behind (suc n) (b ∷ s) = let h = begins-behind n s in omega arith

-- a character's first byte is one
first-begins : (b x y z c n : ℕ) → sequence b x y z ≡ char c n → six b ≡ 64
unfolding sequence six pick
first-begins b x y z c n e = go (leb 128 b && ltb b 192) refl
  where
    go : (t : Bool) → (leb 128 b && ltb b 192) ≡ t → pick t (b - 128) 64 ≡ 64
    go true q =
        let l = leb-true 128 b (and_left _ _ q) in
        let k = and_right (leb 128 b) _ q in
        let w : sequence b x y z ≡ bad = rw (le-ltb b 128 l, k) in
        absurd (let v : ◌≡◌ {A = ℕ} 0 1 = cc in omega arith)
    go false q = refl

-- those past one byte at least
behind-first : (n b : ℕ) (s : List ℕ) → 1 ≤ n → beginnings (drop n (b ∷ s)) ≤ beginnings s
behind-first zero b s l = absurd (omega arith)
behind-first (suc n) b s l = begins-behind n s

few_by : (f : ℕ) (s : List ℕ) → length (decode_by f s) ≤ beginnings s
unfolding decode_by read beginnings pick
few_by zero s = omega arith
few_by (suc f) [] = omega arith
few_by (suc f) (b ∷ s) = go (read (b ∷ s)) refl (λ n. few_by f (drop n (b ∷ s)))
  where
    go : (r : Read) → read (b ∷ s) ≡ r → ((n : ℕ) → length (decode_by f (drop n (b ∷ s))) ≤ beginnings (drop n (b ∷ s)))
        → length {A = ℕ} (elim r as (λ x. Text) [ char c n ↦ c ∷ decode_by f (drop n (b ∷ s)) | bad ↦ [] ]) ≤ pick (eqb (six b) 64) 1 0 + beginnings s
    go (char c n) e ih =
        let h = ih n in
        let k = behind-first n b s (char-bytes (b ∷ s) c n e).0 in
        rw (eq-eqb (six b) 64 (first-begins b _ _ _ c n e)) (omega arith)
    go bad e ih = omega arith

-- So a text has no more characters than such bytes
pub few_beginnings : (s : List ℕ) → length (decoded s) ≤ beginnings s
unfolding decoded
few_beginnings s = few_by (length s) s
