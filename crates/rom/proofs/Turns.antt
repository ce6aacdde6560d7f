-- What is written to a romanization in its place, a turn at a time: a letter put in front, a part moved to the front, and later
-- letters made small.
use Prim.Native.Nat.{ℕ, zero, suc, ◌+◌, ◌-◌, ◌≤◌, ◌<◌}
use mathlib.Core.List.{List, [], ◌∷◌, ◌++◌, map}
use mathlib.Core.Path.{◌≡◌, refl, sym, ap, ◌∙◌}
use native.Mathlib.Omega.{arith}
use native.Mathlib.Nat.{add-zero}
use native.Mathlib.Numerals.{add-one}
use native.Mathlib.Decide.{dec_lt}
use lib.ListN.{length, take, drop, set, get_or, length-append, length-replicate, length-drop, take-append-drop, drop_of_length-le, get_or-eq_default}
use Rattle.std.proofs.lemmas.List.{drop-replicate}
use lib.Seq.{slice, take-take, take_all, drop-append-add, length-take-le, length-slice, get_or-take, get_or-drop}
use Rattle.base.specs.Pick.{pick}
use Rattle.base.specs.Copies.{copied}
use Rattle.definition.specs.Limits.{most_bytes}
use Rattle.definition.specs.Texts.{Text, capital, lower}
use Rattle.definition.specs.Expansion.{capitalized}
use Rattle.definition.specs.Capitals.{capitalized-length}
use Rattle.rom.specs.Rom.{zeros, rom, held, Clean, text-length, bytes-length}
use Rattle.rom.proofs.Writes.{as_rom, behind}

-- a byte of a text is the same with zeros behind it
zero_at : (n i : ℕ) → get_or (zeros n) i 0 ≡ 0
zero_at zero i = refl
zero_at (suc n) zero = refl
zero_at (suc n) (suc i) = zero_at n i

padded : (w : List ℕ) (k i : ℕ) → get_or (w ++ zeros k) i 0 ≡ get_or w i 0
padded [] k i = zero_at k i
padded (x ∷ w) k zero = refl
padded (x ∷ w) k (suc i) = padded w k i

-- An array that becomes `s` from its front on: behind the first `i` bytes the old ones still stand
pub still : (d s : List ℕ) (i j : ℕ) → i ≤ length s → i ≤ j → get_or (take i s ++ drop i d) j 0 ≡ get_or d j 0
still d s zero j h l = refl
still d [] (suc i) j h l = absurd (omega arith)
still d (y ∷ s) (suc i) zero h l = absurd (omega arith)
still [] (y ∷ s) (suc i) (suc j) h l = ap (λ (l : List ℕ). get_or (take i s ++ l) j 0) (sym (drop_of_length-le [] {i = i} (omega arith))) ∙ still [] s i j (omega arith) (omega arith)
still (x ∷ d) (y ∷ s) (suc i) (suc j) h l = still d s i j (omega arith) (omega arith)

module _ (d : List ℕ) (n : ℕ) (c : Clean (held d n)) where
  -- a letter put in front, a turn at a time
  module _ (x : ℕ) where
    pub front_turn : (b : List ℕ) (i v : ℕ) → i ≤ n → n < most_bytes → b ≡ take i (x ∷ d) ++ drop i d → v ≡ get_or (x ∷ d) i 0
        → (set b i v ≡ take (i + 1) (x ∷ d) ++ drop (i + 1) d) × (get_or b i 0 ≡ get_or (x ∷ d) (i + 1) 0)
    front_turn b i v h f e q =
        let l = bytes-length c in (
          ap (λ (y : List ℕ). set y i v) e ∙ ap (set (take i (x ∷ d) ++ drop i d) i) q ∙ copied d (x ∷ d) i (omega arith) (omega arith),
          ap (λ (y : List ℕ). get_or y i 0) e ∙ still d (x ∷ d) i i (omega arith) (omega arith) ∙ ap (λ (k : ℕ). get_or (x ∷ d) k 0) (sym (add-one i)),
        )

    pub front-is : (b : List ℕ) (i : ℕ) → i ≡ n + 1 → b ≡ take i (x ∷ d) ++ drop i d → held b (n + 1) ≡ rom (x ∷ take n d)
    front-is b i z e =
        let l = text-length c in
        as_rom b (x ∷ take n d) (n + 1) (omega arith)
        (e ∙ ap (λ (k : ℕ). take k (x ∷ d) ++ drop k d) z ∙ ap (λ (k : ℕ). take k (x ∷ d) ++ drop (n + 1) d) (add-one n)
        ∙ ap (λ (w : List ℕ). (x ∷ take n d) ++ w) (behind c 1))

  -- a part moved to the front, a turn at a time
  module _ (from to : ℕ) (l : from ≤ to) (h : to ≤ n) where
    abbrev kept : List ℕ
    kept = slice from to (take n d)

    -- and what stands behind it then
    abbrev pub moved : List ℕ
    moved = kept ++ zeros (most_bytes - (to - from))

    kept-length : length kept ≡ to - from
    kept-length = length-slice from to (take n d) (omega (arith, text-length c))

    moved_length : length moved ≡ most_bytes
    moved_length =
        let z = most_bytes - (to - from) in
        omega (arith, length-append kept (zeros z), length-replicate {A = ℕ} z 0, kept-length, c.fits)

    -- the byte that is read is still the old one
    early : (b : List ℕ) (i : ℕ) → i ≤ most_bytes → b ≡ take i moved ++ drop i d → get_or (take to b) (from + i) 0 ≡ get_or (take to d) (from + i) 0
    early b i k e = go (dec_lt (from + i) to)
      where
        past : (w : List ℕ) → to ≤ length w → to ≤ from + i → get_or (take to w) (from + i) 0 ≡ 0
        past w f g = get_or-eq_default (take to w) 0 {n = from + i} (omega (arith, length-take-le to w f))

        long : length b ≡ most_bytes
        long = ap length e ∙ length-append (take i moved) (drop i d)
            ∙ omega (arith, length-take-le i moved (omega (arith, moved_length)), length-drop i d, bytes-length c)

        go : Dec (from + i < to) → get_or (take to b) (from + i) 0 ≡ get_or (take to d) (from + i) 0
        go (yes p) =
            get_or-take to b (from + i) 0 p ∙ ap (λ (w : List ℕ). get_or w (from + i) 0) e
            ∙ still d moved i (from + i) (omega (arith, moved_length)) (omega arith) ∙ sym (get_or-take to d (from + i) 0 p)
        go (no p) = past b (omega (arith, long, c.fits)) (omega arith) ∙ sym (past d (omega (arith, bytes-length c, c.fits)) (omega arith))

    pub kept_turn : (b : List ℕ) (i v : ℕ) → i < n → b ≡ take i moved ++ drop i d → v ≡ get_or (take to b) (from + i) 0
        → set b i v ≡ take (i + 1) moved ++ drop (i + 1) d
    kept_turn b i v k e q =
        let f = c.fits in
        let value : v ≡ get_or moved i 0 =
        q ∙ early b i (omega arith) e ∙ sym (get_or-drop from (take to d) i 0)
        ∙ ap (λ (w : List ℕ). get_or (drop from w) i 0) (sym (take-take to n d h)) ∙ sym (padded kept (most_bytes - (to - from)) i) in
        ap (λ (y : List ℕ). set y i v) e ∙ ap (set (take i moved ++ drop i d) i) value
        ∙ copied d moved i (omega (arith, bytes-length c)) (omega (arith, moved_length))

    pub kept-is : (b : List ℕ) (i : ℕ) → i ≡ n → b ≡ take i moved ++ drop i d → held b (to - from) ≡ rom (slice from to (take n d))
    kept-is b i z e =
        let k = n - (to - from) in
        let m = most_bytes - (to - from) in
        let p : n ≡ length kept + k = omega (arith, kept-length) in
        let q : m - k ≡ most_bytes - (n + 0) = omega arith in
        let rest : drop n d ≡ drop n moved =
        ap (λ (j : ℕ). drop j d) (sym (add-zero n)) ∙ behind c 0 ∙ ap zeros (sym q)
        ∙ sym (ap (λ (j : ℕ). drop j moved) p ∙ drop-append-add kept (zeros m) k ∙ drop-replicate k m 0) in
        as_rom b kept (to - from) kept-length
        (e ∙ ap (λ (j : ℕ). take j moved ++ drop j d) z ∙ ap (λ (w : List ℕ). take n moved ++ w) rest ∙ take-append-drop n moved)

-- a later byte of the text that is to be
lower-at : (w : Text) (i : ℕ) → get_or (map lower w) i 0 ≡ lower (get_or w i 0)
unfolding lower capital pick
lower-at [] i = refl
lower-at (c ∷ w) zero = refl
lower-at (c ∷ w) (suc i) = lower-at w i

later : (w : Text) (i : ℕ) → 0 < i → get_or (capitalized w) i 0 ≡ lower (get_or w i 0)
unfolding capitalized lower capital pick
later w zero l = absurd (omega arith)
later [] (suc i) l = refl
later (c ∷ w) (suc i) l = lower-at w i

-- and its first
first : (w b : List ℕ) (n : ℕ) → w ≡ take n b → 0 < n → 0 < length b → b ≡ take 1 (capitalized w) ++ drop 1 b
unfolding capitalized
first w b zero e l h = absurd (omega arith)
first w [] (suc n) e l h = absurd (omega arith)
first w (c ∷ b) (suc n) e l h = sym (ap (λ (w : Text). take 1 (capitalized w) ++ b) e)

module _ (d : List ℕ) (n : ℕ) (c : Clean (held d n)) where
  abbrev new : Text
  new = capitalized (take n d)

  new-length : length new ≡ n
  new-length = capitalized-length (take n d) ∙ text-length c

  pub begun : 0 < n → d ≡ take 1 new ++ drop 1 d
  begun h = first (take n d) d n refl h (omega (arith, bytes-length c, c.fits))

  pub turned : (b : List ℕ) (i v : ℕ) → 0 < i → i < n → b ≡ take i new ++ drop i d → v ≡ lower (get_or b i 0)
      → set b i v ≡ take (i + 1) new ++ drop (i + 1) d
  turned b i v l h e q =
      let l₀ = new-length in
      let value : v ≡ get_or new i 0 =
      q ∙ ap (λ (x : List ℕ). lower (get_or x i 0)) e ∙ ap lower (still d new i i (omega arith) (omega arith))
      ∙ ap lower (sym (get_or-take n d i 0 h)) ∙ sym (later (take n d) i l) in
      ap (λ (x : List ℕ). set x i v) e ∙ ap (λ (x : ℕ). set (take i new ++ drop i d) i x) value
      ∙ copied d new i (omega (arith, bytes-length c, c.fits)) (omega arith)

  pub ended : (b : List ℕ) (i : ℕ) → i ≡ n → b ≡ take i new ++ drop i d → held b n ≡ rom new
  ended b i z e =
      as_rom b new n new-length
      (e ∙ ap (λ (l : List ℕ). l ++ drop i d) (take_all i new (omega (arith, new-length)))
      ∙ ap (λ (k : ℕ). new ++ drop k d) (z ∙ sym (add-zero n)) ∙ ap (λ (l : List ℕ). new ++ l) (behind c 0)
      ∙ ap (λ (k : ℕ). new ++ zeros (most_bytes - k)) (add-zero n))
