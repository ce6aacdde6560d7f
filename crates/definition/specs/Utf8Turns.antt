-- A text read character by character: one law for each way that a loop over its bytes can turn.
-- Each is for the bytes from a place on, so that it does not matter how many steps were allowed.
use Rattle.std.specs.Prelude.{◌&&◌, ◌≡◌, refl, List, [], ◌∷◌, ℕ, zero, suc, ◌+◌, ◌≤◌, ◌<◌, leb, length, drop}
use Rattle.std.proofs.Common.{ap, ◌∙◌, subst, arith, length-drop}
use Rattle.std.proofs.Math.Option.{Option, none, some}
use Rattle.base.specs.Pick.{pick_ind, pick_all}
use Rattle.definition.specs.Texts.{Text}
use Rattle.definition.specs.Utf8.{Read, char, bad, checked, sequence, read, scalar, bad_from, bad_sequence, decode_by, decoded}

-- UTF-8: a sequence takes 1 to 4 bytes
abbrev Taken : Read → Type 0
Taken (char c n) = (1 ≤ n) × (n ≤ 4)
Taken bad = Unit {0}

checked_takes : (low n v : ℕ) → 1 ≤ n → n ≤ 4 → Taken (checked low n v)
unfolding checked
checked_takes low n v l k = pick_all Taken (leb low v && scalar v) {x = char v n} {y = bad} (l, k) tt

read_takes : (s : List ℕ) → Taken (read s)
unfolding read sequence
read_takes s =
    pick_ind Taken _ _ _ (λ e. (omega arith, omega arith)) (λ e.
    pick_ind Taken _ _ _ (λ e. tt) (λ e.
    pick_ind Taken _ _ _ (λ e. checked_takes _ 2 _ (omega arith) (omega arith)) (λ e.
    pick_ind Taken _ _ _ (λ e. tt) (λ e.
    pick_ind Taken _ _ _ (λ e. checked_takes _ 3 _ (omega arith) (omega arith)) (λ e.
    pick_ind Taken _ _ _ (λ e. tt) (λ e. checked_takes _ 4 _ (omega arith) (omega arith)))))))

pub char-bytes : (s : List ℕ) (c n : ℕ) → read s ≡ char c n → (1 ≤ n) × (n ≤ 4)
char-bytes s c n e = subst Taken e (read_takes s)

-- the offset of the first bad sequence, for the bytes from offset `o` on
unfoldable pub bad_at : ℕ → List ℕ → Option ℕ
bad_at o s = bad_from (length s) o s

pub bad_sequence-is : (s : List ℕ) → bad_sequence s ≡ bad_at 0 s
unfolding bad_sequence bad_at
bad_sequence-is s = refl

bad_enough : (f g o : ℕ) (s : List ℕ) → length s ≤ f → length s ≤ g → bad_from f o s ≡ bad_from g o s
unfolding bad_from
bad_enough zero zero o s l k = refl
bad_enough zero (suc g) o [] l k = refl
bad_enough zero (suc g) o (b ∷ s) l k = absurd (omega arith)
bad_enough (suc f) zero o [] l k = refl
bad_enough (suc f) zero o (b ∷ s) l k = absurd (omega arith)
bad_enough (suc f) (suc g) o [] l k = refl
bad_enough (suc f) (suc g) o (b ∷ s) l k = go (read (b ∷ s)) (read_takes (b ∷ s)) (λ n m.
    let d = length-drop n (b ∷ s) in bad_enough f g (o + n) (drop n (b ∷ s)) (omega arith) (omega arith))
  where
    go : (r : Read) → Taken r → ((n : ℕ) → 1 ≤ n → bad_from f (o + n) (drop n (b ∷ s)) ≡ bad_from g (o + n) (drop n (b ∷ s)))
        → ◌≡◌ {A = Option ℕ} (elim r [ char c n ↦ bad_from f (o + n) (drop n (b ∷ s)) | bad ↦ some o ]) (elim r [ char c n ↦ bad_from g (o + n) (drop n (b ∷ s)) | bad ↦ some o ])
    go (char c n) t h = h n t.0
    go bad t h = refl

pub bad-none : (o : ℕ) (s : List ℕ) → length s ≡ 0 → bad_at o s ≡ none
unfolding bad_at bad_from
bad-none o [] e = refl
bad-none o (b ∷ s) e = absurd (omega arith)

pub bad-here : (o : ℕ) (s : List ℕ) → 0 < length s → read s ≡ bad → bad_at o s ≡ some o
unfolding bad_at bad_from
bad-here o [] l e = absurd (omega arith)
bad-here o (b ∷ s) l e = ap (λ r. elim r as (λ x. Option ℕ) [ char c n ↦ bad_from (length s) (o + n) (drop n (b ∷ s)) | bad ↦ some o ]) e

pub bad-next : (o : ℕ) (s : List ℕ) (c n : ℕ) → 0 < length s → read s ≡ char c n → bad_at o s ≡ bad_at (o + n) (drop n s)
unfolding bad_at bad_from
bad-next o [] c n l e = absurd (omega arith)
bad-next o (b ∷ s) c n l e =
    let m = char-bytes (b ∷ s) c n e in
    let d = length-drop n (b ∷ s) in
    ap (λ r. elim r as (λ x. Option ℕ) [ char c n ↦ bad_from (length s) (o + n) (drop n (b ∷ s)) | bad ↦ some o ]) e
    ∙ bad_enough (length s) (length (drop n (b ∷ s))) (o + n) (drop n (b ∷ s)) (omega arith) (omega arith)

-- the characters
decode_enough : (f g : ℕ) (s : List ℕ) → length s ≤ f → length s ≤ g → decode_by f s ≡ decode_by g s
unfolding decode_by
decode_enough zero zero s l k = refl
decode_enough zero (suc g) [] l k = refl
decode_enough zero (suc g) (b ∷ s) l k = absurd (omega arith)
decode_enough (suc f) zero [] l k = refl
decode_enough (suc f) zero (b ∷ s) l k = absurd (omega arith)
decode_enough (suc f) (suc g) [] l k = refl
decode_enough (suc f) (suc g) (b ∷ s) l k = go (read (b ∷ s)) (read_takes (b ∷ s)) (λ n m.
    let d = length-drop n (b ∷ s) in decode_enough f g (drop n (b ∷ s)) (omega arith) (omega arith))
  where
    go : (r : Read) → Taken r → ((n : ℕ) → 1 ≤ n → decode_by f (drop n (b ∷ s)) ≡ decode_by g (drop n (b ∷ s)))
        → ◌≡◌ {A = Text} (elim r [ char c n ↦ c ∷ decode_by f (drop n (b ∷ s)) | bad ↦ [] ]) (elim r [ char c n ↦ c ∷ decode_by g (drop n (b ∷ s)) | bad ↦ [] ])
    go (char c n) t h = ap (λ l. c ∷ l) (h n t.0)
    go bad t h = refl

pub decoded-none : (s : List ℕ) → length s ≡ 0 → decoded s ≡ []
unfolding decoded decode_by
decoded-none [] e = refl
decoded-none (b ∷ s) e = absurd (omega arith)

-- no character stands at a bad sequence
pub decoded-here : (s : List ℕ) → read s ≡ bad → decoded s ≡ []
unfolding decoded decode_by
decoded-here [] e = refl
decoded-here (b ∷ s) e =
    ap (λ r. elim r as (λ x. Text) [ char c n ↦ c ∷ decode_by (length s) (drop n (b ∷ s)) | bad ↦ [] ]) e

pub decoded-next : (s : List ℕ) (c n : ℕ) → 0 < length s → read s ≡ char c n → decoded s ≡ c ∷ decoded (drop n s)
unfolding decoded decode_by
decoded-next [] c n l e = absurd (omega arith)
decoded-next (b ∷ s) c n l e =
    let m = char-bytes (b ∷ s) c n e in
    let d = length-drop n (b ∷ s) in
    ap (λ r. elim r as (λ x. Text) [ char c n ↦ c ∷ decode_by (length s) (drop n (b ∷ s)) | bad ↦ [] ]) e
    ∙ ap (λ l. c ∷ l) (decode_enough (length s) (length (drop n (b ∷ s))) (drop n (b ∷ s)) (omega arith) (omega arith))

-- a text has no more characters than bytes
decode_few : (f : ℕ) (s : List ℕ) → length (decode_by f s) ≤ f
unfolding decode_by
decode_few zero s = omega arith
decode_few (suc f) [] = omega arith
decode_few (suc f) (b ∷ s) = go (read (b ∷ s)) (λ n. decode_few f (drop n (b ∷ s)))
  where
    go : (r : Read) → ((n : ℕ) → length (decode_by f (drop n (b ∷ s))) ≤ f)
        → length {A = ℕ} (elim r as (λ x. Text) [ char c n ↦ c ∷ decode_by f (drop n (b ∷ s)) | bad ↦ [] ]) ≤ suc f
    go (char c n) h = let k = h n in omega arith
    go bad h = omega arith

pub decoded_few : (s : List ℕ) → length (decoded s) ≤ length s
unfolding decoded
decoded_few s = decode_few (length s) s
