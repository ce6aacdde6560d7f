-- What a growing text spells, and what one edge adds to it.
use Rattle.std.specs.Prelude.{Bool, true, false, List, [], ◌∷◌, ◌++◌, reverse, ◌≡◌, ℕ, ◌+◌, ◌-◌, ◌≤◌, ◌<◌, eqb, ltb, length, take}
use Rattle.std.proofs.Common.{true≢false, append-nil, sym, ◌∙◌, subst, arith, length-append, length-take-le, eq-eqb, ne_eqb}
use Rattle.std.proofs.lemmas.List.{reverse-append, length-reverse}
use Rattle.std.proofs.Math.Path.{refl, ap}
use Rattle.base.specs.Pick.{pick, pick_all}
use Rattle.base.specs.Lists.{head, is}
use Rattle.base.specs.Alls.{All, All-append}
use Rattle.definition.specs.Limits.{most_bytes}
use Rattle.definition.specs.Texts.{Text, last_is, slash, fraction_slash}
use Rattle.definition.specs.Utf8.{scalar, encode, encoded}
use Rattle.definition.specs.Roundtrip.{encoded-append}
use Rattle.definition.specs.Shorts.{Low}
use Rattle.definition.specs.Tables.{Class}
use Rattle.definition.specs.Classes.{alpha}
use Rattle.definition.specs.Decomposing.{slashed}
use Rattle.utf8.specs.Encodings.{Scalars}
use Rattle.lent_bytes.specs.Puts.{put_at, put_until}
use Rattle.decomp_text.specs.declared.Spelling.{Spelling}

-- a spelling in an array stands for a text: it has its bytes, and knows how it ends; or it says that these are too many
pub record Spells (ks : List Class) (b : List ℕ) (s : Spelling) (t : Text) : Type 0 where
  pub scalars : Scalars t
  pub bytes : s.full ≡ false → take s.len b ≡ encoded t
  pub letter : s.full ≡ false → s.letter ≡ last_is (alpha ks) t
  pub long : s.full ≡ true → most_bytes < length (encoded t)

-- the array has room for the most bytes, and so many stand in it at most
pub record Held (b : List ℕ) (s : Spelling) : Type 0 where
  pub long : length b ≡ most_bytes
  pub fits : s.len ≤ most_bytes

pub held-length : {b : List ℕ} {s : Spelling} → Held b s → length (take s.len b) ≡ s.len
held-length {b} {s} h = length-take-le s.len b (omega (arith, h.long, h.fits))

-- a number's text has slashes
unfoldable pub shaped : Bool → Text → Text
shaped b w = pick b (slashed w) w

-- the end of two texts
last-behind : (q : ℕ → Bool) (t w : Text) → 0 < length w → last_is q (t ++ w) ≡ last_is q w
unfolding last_is
last-behind q t w h = ap (λ (l : Text). is q (head l)) (reverse-append t w) ∙ go (reverse w) (omega (arith, length-reverse w))
  where
    go : (l : Text) → 0 < length l → is q (head (l ++ reverse t)) ≡ is q (head l)
    go [] k = absurd (omega arith)
    go (c ∷ l) k = unfold head in refl

-- a character has a byte at least
encode_some : (c : ℕ) → 1 ≤ length (encode c)
unfolding encode
encode_some c =
    pick_all (λ (l : List ℕ). 1 ≤ length l) (ltb c 0x80) (omega arith)
    (pick_all (λ (l : List ℕ). 1 ≤ length l) (ltb c 0x800) (omega arith)
    (pick_all (λ (l : List ℕ). 1 ≤ length l) (ltb c 0x10000) (omega arith) (omega arith)))

encoded-none : (w : Text) → length (encoded w) ≡ 0 → w ≡ []
unfolding encoded
encoded-none [] h = refl
encoded-none (c ∷ w) h = absurd (omega (arith, h, encode_some c, length-append (encode c) (encoded w)))

encoded_some : (w : Text) → 0 < length (encoded w) → 0 < length w
unfolding encoded
encoded_some [] h = absurd (omega arith)
encoded_some (c ∷ w) h = omega arith

-- nothing yet
pub spells_nothing : (ks : List Class) (b : List ℕ) → Spells ks b (record { len = 0; letter = false; full = false }) []
unfolding encoded last_is head
spells_nothing ks b = record { scalars = tt; bytes = λ e. refl; letter = λ e. refl; long = λ e. absurd (true≢false (sym e)) }

-- Some bytes behind
module _ (ks : List Class) (b : List ℕ) (s : Spelling) (t w : Text) (h : Spells ks b s t) (bytes : List ℕ) (e : bytes ≡ encoded w) (ok : Scalars w) where
  both : Scalars (t ++ w)
  both = All-append (λ c. scalar c ≡ true) t w h.scalars ok

  sizes : length (encoded (t ++ w)) ≡ length (encoded t) + length (encoded w)
  sizes = ap length (encoded-append t w) ∙ length-append (encoded t) (encoded w)

  -- none
  pub spells_none : length bytes ≡ 0 → Spells ks b s (t ++ w)
  spells_none z =
      subst (λ (v : Text). Spells ks b s (t ++ v)) (sym (encoded-none w (sym (ap length e) ∙ z))) (subst (Spells ks b s) (sym (append-nil t)) h)

  -- to a text that is too long
  pub spells_full : s.full ≡ true → Spells ks b s (t ++ w)
  spells_full f = record {
    scalars = both;
    bytes = λ z. absurd (true≢false (sym f ∙ z));
    letter = λ z. absurd (true≢false (sym f ∙ z));
    long = λ z. let l = h.long f in omega (arith, l, sizes);
  }

  module _ (held : Held b s) (f : s.full ≡ false) where
    len_is : length (encoded t) ≡ s.len
    len_is = ap length (sym (h.bytes f)) ∙ held-length held

    -- too many
    pub spells_over : most_bytes - s.len < length bytes → Spells ks b (record { len = s.len; letter = false; full = true }) (t ++ w)
    spells_over l = record {
      scalars = both;
      bytes = λ z. absurd (true≢false z);
      letter = λ z. absurd (true≢false z);
      long = λ z. omega (arith, l, sizes, len_is, ap length e);
    }

    -- and some that fit
    pub spells_more : (letter : Bool) → letter ≡ last_is (alpha ks) w → 0 < length bytes → (b' : List ℕ) → b' ≡ put_at s.len bytes b
        → Spells ks b' (record { len = s.len + length bytes; letter = letter; full = false }) (t ++ w)
    spells_more letter q some b' d = record {
      scalars = both;
      bytes = λ z. ap (take (s.len + length bytes)) d ∙ put_until s.len bytes b (omega (arith, held.long, held.fits))
          ∙ ap (λ (l : List ℕ). l ++ bytes) (h.bytes f) ∙ ap (◌++◌ (encoded t)) e ∙ sym (encoded-append t w);
      letter = λ z. q ∙ sym (last-behind (alpha ks) t w (encoded_some w (omega (arith, some, ap length e))));
      long = λ z. absurd (true≢false (sym z));
    }

-- Of ASCII no character is a fraction slash
pub slashed-low : (w : Text) → All Low w → slashed w ≡ w
unfolding slashed pick
slashed-low [] h = refl
slashed-low (c ∷ w) h =
    let l = h.0 in
    ap (λ (b : Bool). pick b slash c ∷ slashed w) (ne_eqb c fraction_slash (λ e. omega arith)) ∙ ap (◌∷◌ c) (slashed-low w h.1)

pub shaped-low : (b : Bool) (w : Text) → All Low w → shaped b w ≡ w
unfolding shaped pick
shaped-low true w h = slashed-low w h
shaped-low false w h = refl

-- a character itself
module _ (c : ℕ) where
  pub shaped-slash : c ≡ fraction_slash → shaped true (c ∷ []) ≡ slash ∷ []
  unfolding shaped slashed pick
  shaped-slash e = ap (λ (b : Bool). pick b slash c ∷ []) (eq-eqb c fraction_slash e)

  pub shaped-other : (c ≡ fraction_slash → ⊥) → shaped true (c ∷ []) ≡ c ∷ []
  unfolding shaped slashed pick
  shaped-other e = ap (λ (b : Bool). pick b slash c ∷ []) (ne_eqb c fraction_slash e)

  pub shaped_not : shaped false (c ∷ []) ≡ c ∷ []
  unfolding shaped pick
  shaped_not = refl

-- what two texts are shaped to, one behind the other
slashed-append : (t w : Text) → slashed (t ++ w) ≡ slashed t ++ slashed w
unfolding slashed
slashed-append [] w = refl
slashed-append (c ∷ t) w = ap (◌∷◌ (pick (eqb c fraction_slash) slash c)) (slashed-append t w)

pub shaped-append : (b : Bool) (t w : Text) → shaped b (t ++ w) ≡ shaped b t ++ shaped b w
unfolding shaped pick
shaped-append true t w = slashed-append t w
shaped-append false t w = refl
