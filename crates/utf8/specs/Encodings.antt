-- Bytes that are those of a text of scalar values, and what its characters tell of them.
use Rattle.std.specs.Prelude.{Bool, true, false, ◌≡◌, refl, ◌⊎◌, ltb, length, get_or, drop}
use Rattle.std.proofs.Math.Path.{sym, ap}
use Rattle.std.proofs.Common.{◌∙◌, subst, inl, inr, arith, length-append, get_or-append-add, lt-ltb, ltb-true, ltb-false}
use mathlib.Core.List.{List, [], ◌∷◌, ◌++◌, append-nil, append_assoc, reverse, reverse-append, reverse-reverse}
use mathlib.Core.List.{concat, concat-eq-append, eq-nil-or-concat}
use Rattle.std.proofs.Math.Logic.{⊎_elim}
use Rattle.std.proofs.Math.Option.{some}
use Prim.Native.Nat.{ℕ, zero, suc, ◌+◌, ◌-◌, ◌/◌, ◌%◌, ◌≤◌, ◌<◌}
use Rattle.std.proofs.Math.Seq.{drop-append_seam}
use Rattle.base.specs.Pick.{pick_ind, pick_all}
use Rattle.base.specs.Lists.{head, tail, is, same}
use Rattle.base.specs.ListLaws.{same_refl, same_true}
use Rattle.base.specs.Alls.{All, All-map, All-right}
use Rattle.definition.specs.Texts.{Text, last_is, without_last}
use Rattle.definition.specs.Utf8.{char, scalar, six, read, decoded, encode, encoded}
use Rattle.definition.specs.Roundtrip.{encoded-append}
use Rattle.definition.proofs.Roundtrip.{read-encode, decoded-encoded}
use Rattle.definition.specs.Shorts.{Low, encoded-low}
use Rattle.utf8.specs.Sixes.{six_low, six-own, six_high}

abbrev pub Scalars : Text → Type 0
Scalars = All (λ c. scalar c ≡ true)

pub record TextBytes (b : List ℕ) : Type 0 where
  pub whole : encoded (decoded b) ≡ b
  pub scalars : Scalars (decoded b)

pub encoded-bytes : (w : Text) → Scalars w → TextBytes (encoded w)
encoded-bytes w h = record {
  whole = ap encoded (decoded-encoded w h);
  scalars = subst Scalars (sym (decoded-encoded w h)) h;
}

-- An ASCII text is its own bytes
low_scalar : (c : ℕ) → Low c → scalar c ≡ true
unfolding scalar
low_scalar c l = rw (lt-ltb c 0xD800 (omega arith))

low_scalars : (w : List ℕ) → All Low w → Scalars w
low_scalars = All-map low_scalar

pub low_bytes : (w : List ℕ) → All Low w → TextBytes w
low_bytes w h = subst TextBytes (encoded-low w h) (encoded-bytes w (low_scalars w h))

pub low-decoded : (w : List ℕ) → All Low w → decoded w ≡ w
low-decoded w h = ap decoded (sym (encoded-low w h)) ∙ decoded-encoded w (low_scalars w h)

-- Equal texts are those with equal bytes
pub same-decoded : {a b : List ℕ} → TextBytes a → TextBytes b → same (decoded a) (decoded b) ≡ same a b
same-decoded {a} {b} p q = go (same (decoded a) (decoded b)) (same a b) refl refl
  where
    go : (x y : Bool) → same (decoded a) (decoded b) ≡ x → same a b ≡ y → x ≡ y
    go true y e f =
        let k : a ≡ b = sym p.whole ∙ ap encoded (same_true (decoded a) (decoded b) e) ∙ q.whole in
        sym (same_refl b) ∙ ap (λ l. same l b) (sym k) ∙ f
    go false true e f = sym e ∙ ap (λ l. same (decoded l) (decoded b)) (same_true a b f) ∙ same_refl (decoded b)
    go false false e f = refl

-- A text is empty, or one character stands behind the others
ends : (w : Text) → (w ≡ []) ⊎ ((u : Text) × (c : ℕ) × (w ≡ u ++ c ∷ []))
ends w = go (eq-nil-or-concat w)
  where
    go : (w ≡ []) ⊎ ((u : Text) × (c : ℕ) × (w ≡ concat u c)) → (w ≡ []) ⊎ ((u : Text) × (c : ℕ) × (w ≡ u ++ c ∷ []))
    go (inl k) = inl k
    go (inr k) = inr (k.0, k.1, k.2 ∙ concat-eq-append k.0 k.1)

-- and the bytes of that one stand behind those of the others
encoded-end : (u : Text) (c : ℕ) → encoded (u ++ c ∷ []) ≡ encoded u ++ encode c
unfolding encoded
encoded-end u c = encoded-append u (c ∷ []) ∙ ap (λ l. encoded u ++ l) (append-nil (encode c))

bytes-end : {b : List ℕ} → TextBytes b → (u : Text) (c : ℕ) → decoded b ≡ u ++ c ∷ [] → b ≡ encoded u ++ encode c
bytes-end e u c k = sym e.whole ∙ ap encoded k ∙ encoded-end u c

-- the last byte of a character of one byte is that character; any other character, and its last byte, is 128 or above
module _ (q : ℕ → Bool) where
  last-behind : (u v : List ℕ) (c : ℕ) → last_is q (u ++ (v ++ c ∷ [])) ≡ q c
  unfolding last_is head
  last-behind u v c =
      ap (λ l. is q (head (reverse l))) (sym (append_assoc u v (c ∷ [])))
      ∙ ap (λ l. is q (head l)) (reverse-append (u ++ v) (c ∷ []))

  module _ (high : (c : ℕ) → 128 ≤ c → q c ≡ false) where
    last-encode : (u : List ℕ) (c : ℕ) → last_is q (u ++ encode c) ≡ q c
    unfolding encode
    last-encode u c =
        let P : List ℕ → Type 0 = λ l. last_is q (u ++ l) ≡ q c in
        pick_ind P (ltb c 0x80) _ _ (λ e. last-behind u [] c) (λ e.
        let f : q (128 + c % 64) ≡ q c = high (128 + c % 64) (omega arith) ∙ sym (high c (ltb-false c 0x80 e)) in
        pick_all P (ltb c 0x800) (last-behind u ((192 + c / 64) ∷ []) (128 + c % 64) ∙ f)
        (pick_all P (ltb c 0x10000) (last-behind u ((224 + c / 4096) ∷ (128 + c / 64 % 64) ∷ []) (128 + c % 64) ∙ f)
        (last-behind u ((240 + c / 262144) ∷ (128 + c / 4096 % 64) ∷ (128 + c / 64 % 64) ∷ []) (128 + c % 64) ∙ f)))

    pub last-decoded : {b : List ℕ} → TextBytes b → last_is q (decoded b) ≡ last_is q b
    unfolding encoded
    last-decoded {b} e = ⊎_elim
        (λ k. ap (last_is q) (k ∙ ap encoded (sym k) ∙ e.whole))
        (λ k.
        let u = k.0 in
        let c = k.1 in
        ap (last_is q) k.2
        ∙ last-behind u [] c
        ∙ sym (last-encode (encoded u) c)
        ∙ ap (last_is q) (sym (bytes-end e u c k.2)))
        (ends (decoded b))

-- The last character `c` starts at `p`: a byte that is no continuation byte, with nothing but such bytes behind it
pub record LastAt (b : List ℕ) (p c : ℕ) : Type 0 where
  pub within : p < length b
  pub starts : six (get_or b p 0) ≡ 64
  pub later : (i : ℕ) → p < i → i < length b → six (get_or b i 0) < 64
  pub reads : read (drop p b) ≡ char c (length (encode c))

-- the bytes of one character are so
abbrev Follows : ℕ → Type 0
Follows x = six x < 64

follows : (m : ℕ) → m < 64 → Follows (128 + m)
follows m l = let e : m ≡ six (128 + m) = six-own (128 + m) m (omega arith) in omega arith

record Led (l : List ℕ) : Type 0 where
  filled : 0 < length l
  first : six (get_or l 0 0) ≡ 64
  rest : All Follows (tail l)

led : (c : ℕ) → Led (encode c)
unfolding encode
led c =
    let k = follows (c % 64) (omega arith) in
    let j = follows (c / 64 % 64) (omega arith) in
    let i = follows (c / 4096 % 64) (omega arith) in
    pick_ind Led (ltb c 0x80) _ _
    (λ e. record { filled = omega arith; first = sym (six_low c (ltb-true c 0x80 e)); rest = tt }) (λ e.
    pick_all Led (ltb c 0x800)
    (record { filled = omega arith; first = sym (six_high (192 + c / 64) (omega arith)); rest = (k, tt) })
    (pick_all Led (ltb c 0x10000)
    (record { filled = omega arith; first = sym (six_high (224 + c / 4096) (omega arith)); rest = (j, (k, tt)) })
    (record { filled = omega arith; first = sym (six_high (240 + c / 262144) (omega arith)); rest = (i, (j, (k, tt))) })))

follows_at : (l : List ℕ) (j : ℕ) → All Follows (tail l) → 0 < j → j < length l → Follows (get_or l j 0)
follows_at l zero h z k = absurd (omega arith)
follows_at [] (suc j) h z k = absurd (omega arith)
follows_at (x ∷ l) (suc j) h z k = go l j h (omega arith)
  where
    go : (l : List ℕ) (j : ℕ) → All Follows l → j < length l → Follows (get_or l j 0)
    go [] j h k = absurd (omega arith)
    go (x ∷ l) zero h k = h.0
    go (x ∷ l) (suc j) h k = go l j h.1 (omega arith)

pub last-read : {b : List ℕ} → TextBytes b → (u : Text) (c : ℕ) → decoded b ≡ u ++ c ∷ []
    → LastAt b (length (encoded u)) c
last-read {b} e u c k =
    let here : (i n : ℕ) → i ≡ length (encoded u) + n → get_or (encoded u ++ encode c) i 0 ≡ get_or (encode c) n 0 =
    λ i n z. rw z (get_or-append-add (encoded u) (encode c) n 0) in
    let s : scalar c ≡ true = (All-right (λ c. scalar c ≡ true) u (c ∷ []) (subst Scalars k e.scalars)).0 in
    let f = (led c).filled in
    let long = length-append (encoded u) (encode c) in
    subst (λ b. LastAt b (length (encoded u)) c) (sym (bytes-end e u c k)) (record {
      within = omega arith;
      starts = ap six (here (length (encoded u)) 0 (omega arith)) ∙ (led c).first;
      later = λ i l m. subst Follows (sym (here i (i - length (encoded u)) (omega arith)))
          (follows_at (encode c) (i - length (encoded u)) (led c).rest (omega arith) (omega arith));
      reads = ap read (drop-append_seam (encoded u) (encode c) ∙ sym (append-nil (encode c))) ∙ read-encode c [] s;
    })

-- where that is by the characters before it; where there are bytes, there is a last character
abbrev pub last_start : List ℕ → ℕ
last_start b = length (encoded (without_last (decoded b)))

pub last-there : {b : List ℕ} → TextBytes b → 0 < length b
    → (c : ℕ) × (head (reverse (decoded b)) ≡ some c) × LastAt b (last_start b) c
unfolding encoded head
last-there {b} e l = ⊎_elim
    (λ k. let z : length b ≡ 0 = ap length (sym e.whole ∙ ap encoded k) in absurd (omega arith))
    (λ k.
    let u = k.0 in
    let c = k.1 in
    let r : reverse (decoded b) ≡ c ∷ reverse u = ap reverse k.2 ∙ reverse-append u (c ∷ []) in
    let v : without_last (decoded b) ≡ u = ap (λ l. reverse (tail l)) r ∙ reverse-reverse u in
    (c, ap head r, subst (λ u. LastAt b (length (encoded u)) c) (sym v) (last-read e u c k.2)))
    (ends (decoded b))
