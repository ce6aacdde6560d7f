-- What is written to a romanization in its place: the first `n` bytes of an array `d`, zeros behind them.
use Rattle.std.proofs.Common.{◌≡◌, ℕ, ◌+◌, ◌-◌, ◌≤◌, ◌<◌, List, [], ◌∷◌, ◌++◌, length, take, drop, replicate, set, refl, sym, ap, ◌∙◌, arith, add-zero, append_assoc, length-append, length-drop, drop-drop}
use Rattle.std.proofs.Math.Seq.{slice, take-take, take_at, drop_at, drop-append-add, length-take-le, length-slice}
use Rattle.std.proofs.lemmas.List.{replicate-append-replicate, drop-replicate}
use Rattle.std.proofs.lemmas.Slice.{between_is}
use Rattle.std.specs.List.{copy_within}
use borrow.Rule.Slice.PartMut.{put_mid, mid_of}
use Rattle.definition.specs.Limits.{most_bytes}
use Rattle.lent_bytes.specs.Puts.{put_at}
use Rattle.rom.specs.declared.Rom.{Rom}
use Rattle.rom.specs.Rom.{text, zeros, rom, held, Clean, text-length, bytes-length}

-- bytes and a length that are those of a text
pub as_rom : (b w : List ℕ) (n : ℕ) → length w ≡ n → b ≡ w ++ zeros (most_bytes - n) → held b n ≡ rom w
unfolding rom
as_rom b w n e p = ap (λ (x : List ℕ). held x n) p ∙ ap (λ (x : ℕ). held (w ++ zeros (most_bytes - x)) x) (sym e)

-- a text put over the front of zeros
pub over_zeros : (b w : List ℕ) → b ≡ w ++ drop (length w) (zeros most_bytes) → held b (length w) ≡ rom w
over_zeros b w e = as_rom b w (length w) refl (e ∙ ap (λ (l : List ℕ). w ++ l) (drop-replicate (length w) most_bytes 0))

-- zeros stand behind the text
pub behind : {r : Rom} → Clean r → (k : ℕ) → drop (r.len + k) r.bytes ≡ zeros (most_bytes - (r.len + k))
unfolding rom
behind {r} c k =
    let l = text-length c in
    let e : most_bytes - length (text r) - k ≡ most_bytes - (r.len + k) = omega arith in
    ap (λ (n : ℕ). drop (n + k) r.bytes) (sym l)
    ∙ ap (λ (q : Rom). drop (length (text r) + k) q.bytes) c.whole
    ∙ drop-append-add (text r) (zeros (most_bytes - length (text r))) k
    ∙ drop-replicate k (most_bytes - length (text r)) 0
    ∙ ap zeros e

-- every byte moved by one place, and another put in front
shifted : (d : List ℕ) (n x : ℕ) → 0 < length d → set (copy_within d 0 n 1) 0 x ≡ (x ∷ take n d) ++ drop (n + 1) d
shifted [] n x h = absurd (omega arith)
shifted (y ∷ d) n x h =
    let e : n - 0 ≡ n = omega arith in
    let f : 1 + n ≡ n + 1 = omega arith in
    ap (λ (k : ℕ). x ∷ (take k (y ∷ d) ++ drop (1 + k) (y ∷ d))) e ∙ ap (λ (k : ℕ). x ∷ (take n (y ∷ d) ++ drop k (y ∷ d))) f

module _ (d : List ℕ) (n : ℕ) (c : Clean (held d n)) where
  -- a text put behind
  pub put_is : (s : List ℕ) → held (put_at n s d) (n + length s) ≡ rom (take n d ++ s)
  unfolding put_at
  put_is s =
      as_rom (put_at n s d) (take n d ++ s) (n + length s) (length-append (take n d) s ∙ omega (arith, text-length c))
      (sym (append_assoc (take n d) s (drop (n + length s) d)) ∙ ap (λ (l : List ℕ). (take n d ++ s) ++ l) (behind c (length s)))

  -- where there is no text, what any step leaves of none is it
  pub unchanged : (f : List ℕ → List ℕ) → f [] ≡ [] → n ≡ 0 → held d n ≡ rom (f (take n d))
  unchanged f e z =
      let w : take n d ≡ [] = ap (λ (k : ℕ). take k d) z in
      c.whole ∙ ap rom (w ∙ sym e ∙ ap f (sym w))

  -- a letter put in front
  pub front-is : (x : ℕ) → n < most_bytes → held (set (copy_within d 0 n 1) 0 x) (n + 1) ≡ rom (x ∷ take n d)
  front-is x h =
      as_rom _ (x ∷ take n d) (n + 1) (omega (arith, text-length c))
      (shifted d n x (omega (arith, bytes-length c)) ∙ ap (λ (w : List ℕ). (x ∷ take n d) ++ w) (behind c 1))

  -- a part moved to the front, and zeros put behind it up to where they stood
  module _ (from to : ℕ) (l : from ≤ to) (h : to ≤ n) where
    abbrev pub moved : List ℕ
    moved = copy_within d from to 0

    kept-is-part : take (to - from) (drop from d) ≡ slice from to (take n d)
    kept-is-part = between_is d from to ∙ ap (drop from) (sym (take-take to n d h))

    kept-length : length (slice from to (take n d)) ≡ to - from
    kept-length = length-slice from to (take n d) (omega (arith, text-length c))

    length-moved : length moved ≡ length d
    length-moved =
        let k = to - from in
        omega (arith, length-append (take k (drop from d)) (drop (0 + k) d), ap length kept-is-part, kept-length, length-drop (0 + k) d, bytes-length c, c.fits)

    pub kept-is : (z : List ℕ) → z ≡ replicate (length (mid_of (to - from) (n - (to - from)) moved)) 0
        → held (put_mid (to - from) (n - (to - from)) moved z) (to - from) ≡ rom (slice from to (take n d))
    kept-is z e =
        let k = to - from in
        let w = slice from to (take n d) in
        let m = n - k in
        let b = bytes-length c in
        let f = c.fits in
        let whole : length moved ≡ length d = length-moved in
        let left : length (mid_of k m moved) ≡ m = length-take-le m (drop k moved) (omega (arith, length-drop k moved, whole)) in
        let front : take k moved ≡ w = take_at (take k (drop from d)) (drop (0 + k) d) k (ap length kept-is-part ∙ kept-length) ∙ kept-is-part in
        let n-is : 0 + k + m ≡ n + 0 = omega arith in
        let rest : drop m (drop k moved) ≡ zeros (most_bytes - n) =
        ap (drop m) (drop_at (take k (drop from d)) (drop (0 + k) d) k (ap length kept-is-part ∙ kept-length))
        ∙ drop-drop m (0 + k) d ∙ ap (λ (j : ℕ). drop j d) n-is ∙ behind c 0 ∙ ap (λ (j : ℕ). zeros (most_bytes - j)) (add-zero n) in
        let sum : m + (most_bytes - n) ≡ most_bytes - k = omega arith in
        as_rom _ w k kept-length
        (ap (λ (x : List ℕ). x ++ (z ++ drop m (drop k moved))) front ∙ ap (λ (x : List ℕ). w ++ (x ++ drop m (drop k moved))) (e ∙ ap zeros left)
        ∙ ap (λ (x : List ℕ). w ++ (zeros m ++ x)) rest ∙ ap (λ (x : List ℕ). w ++ x) (replicate-append-replicate m (most_bytes - n) 0 ∙ ap zeros sum))
