-- The vowel patterns by positions: `Vowels.bases` in terms of runs and parts of the one text.
use Prim.Native.Nat.{ℕ, zero, suc, ◌-◌, ◌<◌, ◌≤◌}
use mathlib.Core.List.{[], ◌∷◌, ◌++◌, reverse, reverse-append, reverse-reverse}
use Rattle.std.specs.Prelude.{Bool, ◌&&◌, ◌||◌, ◌≡◌, replicate}
use Rattle.std.proofs.Math.Bool.{true, false}
use Rattle.std.proofs.Common.{true≢false, ◌∙◌, add-one}
use Rattle.std.proofs.Math.Option.{Option, none, some}
use Rattle.std.proofs.Math.Path.{refl, sym, ap}
use native.Mathlib.Omega.{arith}
use Rattle.std.proofs.Math.Dec.{eqb, ltb}
use Rattle.std.proofs.Math.ListN.{length, get_or, take}
use Rattle.std.proofs.lemmas.List.{replicate-append-replicate}
use Rattle.std.proofs.Math.Seq.{take-length, slice}
use borrow.Author.Tests.{lt-ltb, le-ltb, eqb-true, eq-eqb, ne_eqb}
use Rattle.base.specs.Pick.{pick, pick_all}
use Rattle.base.specs.Lists.{put, head, tail, is, maybe, front}
use Rattle.definition.specs.Texts.{Text, latin, consonants, last_is, letter_a, letter_o, letter_y, hyphen}
use Rattle.definition.specs.Vowels.{before_y, pattern_y, pattern_c, bases}
use Rattle.rom.proofs.Backwards.{back, back-all, back_cons, back_nil}
use Rattle.rom.proofs.Walks.{no_last, last-there}
use Rattle.ends.specs.Back.{run, back_suc, run_le, run_true, after_run, front-run, head-run, slice_one, slice_two, slice_snoc, slice_split}

-- which vowels
abbrev pub inherent : Bool → ℕ → Bool
inherent ao c = eqb c letter_a || (ao && eqb c letter_o)

-- where the base of the first pattern starts, its vowels from `p` on; `p` itself where no y is before it
unfoldable pub more_from : Text → ℕ → ℕ
more_from s zero = zero
more_from s (suc m) = pick (before_y (get_or s m 0)) m (suc m)

unfoldable pub y_from : Text → ℕ → ℕ
y_from s zero = zero
y_from s (suc j) = pick (eqb letter_y (get_or s j 0)) (more_from s j) (suc j)

-- the length without a hyphen
unfoldable pub stem : Text → ℕ
stem s = pick (last_is (eqb hyphen) s) (length s - 1) (length s)

-- how much of the romanization stays under the second pattern
unfoldable pub kept : Bool → Text → ℕ
kept one s = pick (ltb (stem s) (length s) && one && is latin (head s)) (stem s) (length s)

-- A run of one letter reads the same from both sides
rep : (n v : ℕ) → reverse (replicate n v) ≡ replicate n v
rep zero v = refl
rep (suc n) v =
    reverse-append (v ∷ []) (replicate n v) ∙ ap (λ (l : Text). l ++ v ∷ []) (rep n v)
    ∙ replicate-append-replicate n 1 v ∙ ap (λ (k : ℕ). replicate k v) (add-one n)

front_rep : (v : ℕ) (l : Text) → front (eqb v) l ≡ replicate (length (front (eqb v) l)) v
unfolding front
front_rep v [] = refl
front_rep v (x ∷ l) = go (eqb v x) refl (front_rep v l)
  where
    go : (b : Bool) → eqb v x ≡ b → front (eqb v) l ≡ replicate (length (front (eqb v) l)) v
        → (elim b [ true ↦ x ∷ front (eqb v) l | false ↦ [] ])
        ≡ replicate (length {A = ℕ} (elim b as (λ _. Text) [ true ↦ x ∷ front (eqb v) l | false ↦ [] ])) v
    go true e k = ap (λ (y : ℕ). y ∷ front (eqb v) l) (sym (eqb-true v x e)) ∙ ap (◌∷◌ v) k
    go false e k = refl

front_same : (v : ℕ) (l : Text) → front (eqb v) l ≡ reverse (front (eqb v) l)
front_same v l = front_rep v l ∙ sym (rep (length (front (eqb v) l)) v) ∙ ap reverse (sym (front_rep v l))

-- The first pattern's base
module _ (s : Text) where
  pub no_y_zero : (p : ℕ) → p ≡ 0 → p ≡ y_from s p
  unfolding y_from
  no_y_zero p e = e ∙ sym (ap (y_from s) e)

  pub no_y : (p j : ℕ) → p ≡ suc j → (get_or s j 0 ≡ letter_y → ⊥) → p ≡ y_from s p
  unfolding y_from pick
  no_y p j e h = e ∙ sym (ap (y_from s) e ∙ ap (λ (b : Bool). pick b (more_from s j) (suc j)) (ne_eqb letter_y (get_or s j 0) (λ z. h (sym z))))

  module _ (p j : ℕ) (e : p ≡ suc j) (h : get_or s j 0 ≡ letter_y) where
    a_y : y_from s p ≡ more_from s j
    unfolding y_from pick
    a_y = ap (y_from s) e ∙ ap (λ (b : Bool). pick b (more_from s j) (suc j)) (eq-eqb letter_y (get_or s j 0) (sym h))

    pub y_first : j ≡ 0 → 0 ≡ y_from s p
    unfolding more_from
    y_first z = sym (a_y ∙ ap (more_from s) z)

    pub y_alone : (m : ℕ) → j ≡ suc m → before_y (get_or s m 0) ≡ false → j ≡ y_from s p
    unfolding more_from pick
    y_alone m z g = sym (a_y ∙ ap (more_from s) z ∙ ap (λ (b : Bool). pick b m (suc m)) g ∙ sym z)

    pub y_after : (m : ℕ) → j ≡ suc m → before_y (get_or s m 0) ≡ true → m ≡ y_from s p
    unfolding more_from pick
    y_after m z g = sym (a_y ∙ ap (more_from s) z ∙ ap (λ (b : Bool). pick b m (suc m)) g)

  more_le : (p : ℕ) → more_from s p ≤ p
  unfolding more_from
  more_le zero = omega arith
  more_le (suc m) = pick_all (λ n. n ≤ suc m) (before_y (get_or s m 0)) (omega arith) (omega arith)

  -- the test for a y, and the base
  head_y : (p : ℕ) → p ≤ length s → is (eqb letter_y) (head (back s p)) ≡ ltb (y_from s p) p
  unfolding head y_from pick
  head_y zero h = refl
  head_y (suc j) h = ap (λ (l : Text). is (eqb letter_y) (head l)) (back_suc s j (omega arith)) ∙ go (eqb letter_y (get_or s j 0)) (more_le j)
    where
      go : (b : Bool) → more_from s j ≤ j → b ≡ ltb (pick b (more_from s j) (suc j)) (suc j)
      go true z = sym (lt-ltb (more_from s j) (suc j) (omega arith))
      go false z = sym (le-ltb (suc j) (suc j) (omega arith))

  abbrev base_y : Text → Text
  base_y y = put (is before_y (head (tail y))) (get_or y 1 0) (letter_y ∷ [])

  more_base : (j : ℕ) → j < length s → get_or s j 0 ≡ letter_y → base_y (letter_y ∷ back s j) ≡ slice (more_from s j) (suc j) s
  unfolding head more_from pick
  more_base zero h e = ap (λ (c : ℕ). c ∷ []) (sym e) ∙ slice_one s 0 h
  more_base (suc m) h e = ap (λ (l : Text). base_y (letter_y ∷ l)) (back_suc s m (omega arith)) ∙ go (before_y (get_or s m 0))
    where
      go : (b : Bool) → put b (get_or s m 0) (letter_y ∷ []) ≡ slice (pick b m (suc m)) (suc (suc m)) s
      go true = ap (λ (c : ℕ). get_or s m 0 ∷ c ∷ []) (sym e) ∙ slice_two s m h
      go false = ap (λ (c : ℕ). c ∷ []) (sym e) ∙ slice_one s (suc m) h

  y_base : (p : ℕ) → p ≤ length s → y_from s p < p → base_y (back s p) ≡ slice (y_from s p) p s
  unfolding y_from pick
  y_base zero h g = absurd (omega arith)
  y_base (suc j) h g = go (eqb letter_y (get_or s j 0)) refl g
    where
      go : (b : Bool) → eqb letter_y (get_or s j 0) ≡ b → pick b (more_from s j) (suc j) < suc j
          → base_y (back s (suc j)) ≡ slice (pick b (more_from s j) (suc j)) (suc j) s
      go true e z =
          let k = eqb-true letter_y (get_or s j 0) e in
          ap base_y (back_suc s j (omega arith) ∙ ap (λ (c : ℕ). c ∷ back s j) (sym k)) ∙ more_base j (omega arith) (sym k)
      go false e z = absurd (omega arith)

-- The two patterns before `e`, where `i` is the vowel's place
module _ (q : ℕ → Bool) (s : Text) (e i : ℕ) (h : e ≤ length s) (z : e ≡ suc i) where
  opened : back s e ≡ get_or s i 0 ∷ back s i
  opened = ap (back s) z ∙ back_suc s i (omega arith)

  abbrev same_letter : ℕ → Bool
  same_letter = eqb (get_or s i 0)

  abbrev Y : Bool → Bool → Text → Option (Text × Text)
  Y a b y = pick (a && b) (some (base_y s y, base_y s y ++ front same_letter (get_or s i 0 ∷ back s i))) none

  y_as : (k : ℕ) → k ≡ run same_letter s e → pattern_y q (back s e) ≡ Y (q (get_or s i 0)) (ltb (y_from s k) k) (back s k)
  unfolding pattern_y
  y_as k g =
      let own = eq-eqb (get_or s i 0) (get_or s i 0) refl in
      let r : run same_letter s i ≡ k = sym (g ∙ ap (run same_letter s) z ∙ run_true same_letter s i own) in
      let l = run_le same_letter s i in
      ap (pattern_y q) opened
      ∙ ap (λ (y : Text). Y (q (get_or s i 0)) (is (eqb letter_y) (head y)) y) (after_run same_letter s i (omega arith) ∙ ap (back s) r)
      ∙ ap (λ (b : Bool). Y (q (get_or s i 0)) b (back s k)) (head_y s k (omega arith))

  y_other : q (get_or s i 0) ≡ false → pattern_y q (back s e) ≡ none
  unfolding pick
  y_other g =
      let k = run same_letter s e in
      y_as k refl ∙ ap (λ (a : Bool). Y a (ltb (y_from s k) k) (back s k)) g

  module _ (k : ℕ) (g : k ≡ run same_letter s e) (v : q (get_or s i 0) ≡ true) where
    y_none : k ≤ y_from s k → pattern_y q (back s e) ≡ none
    unfolding pick
    y_none u =
        y_as k g
        ∙ ap (λ (a : Bool). Y a (ltb (y_from s k) k) (back s k)) v
        ∙ ap (λ (b : Bool). Y true b (back s k)) (le-ltb (y_from s k) k u)

    y_some : (f : ℕ) → f ≡ y_from s k → f < k → pattern_y q (back s e) ≡ some (slice f k s, slice f e s)
    unfolding pick
    y_some f w u =
        let l = run_le same_letter s e in
        let b : base_y s (back s k) ≡ slice f k s = y_base s k (omega arith) (omega arith) ∙ ap (λ (x : ℕ). slice x k s) (sym w) in
        let r : front same_letter (get_or s i 0 ∷ back s i) ≡ slice k e s =
        ap (front same_letter) (sym opened) ∙ front_same (get_or s i 0) (back s e) ∙ front-run same_letter s e h ∙ ap (λ (x : ℕ). slice x e s) (sym g) in
        y_as k g
        ∙ ap (λ (a : Bool). Y a (ltb (y_from s k) k) (back s k)) v
        ∙ ap (λ (b : Bool). Y true b (back s k)) (lt-ltb (y_from s k) k (omega arith))
        ∙ ap (λ (x : Text). some (x, x ++ front same_letter (get_or s i 0 ∷ back s i))) b
        ∙ ap (λ (x : Text). some (slice f k s, slice f k s ++ x)) r
        ∙ ap (λ (x : Text). some (slice f k s, x)) (slice_split s f k e (omega arith) (omega arith) h)

  abbrev C : Bool → Bool → Text → Option (Text × Text)
  C a b x = pick (a && b) (some (x, x ++ get_or s i 0 ∷ [])) none

  c_as : (c : ℕ) → c ≡ run consonants s i → pattern_c q (back s e) ≡ C (q (get_or s i 0)) (ltb c i) (slice c i s)
  unfolding pattern_c
  c_as c g =
      ap (pattern_c q) opened
      ∙ ap (λ (b : Bool). C (q (get_or s i 0)) b (reverse (front consonants (back s i)))) (head-run consonants s i (omega arith) ∙ ap (λ (x : ℕ). ltb x i) (sym g))
      ∙ ap (C (q (get_or s i 0)) (ltb c i)) (front-run consonants s i (omega arith) ∙ ap (λ (x : ℕ). slice x i s) (sym g))

  c-other : q (get_or s i 0) ≡ false → pattern_c q (back s e) ≡ none
  unfolding pick
  c-other g = let c = run consonants s i in c_as c refl ∙ ap (λ (a : Bool). C a (ltb c i) (slice c i s)) g

  module _ (c : ℕ) (g : c ≡ run consonants s i) (v : q (get_or s i 0) ≡ true) where
    c-none : i ≤ c → pattern_c q (back s e) ≡ none
    unfolding pick
    c-none u = c_as c g ∙ ap (λ (a : Bool). C a (ltb c i) (slice c i s)) v ∙ ap (λ (b : Bool). C true b (slice c i s)) (le-ltb c i u)

    c_some : c < i → pattern_c q (back s e) ≡ some (slice c i s, slice c e s)
    unfolding pick
    c_some u =
        c_as c g
        ∙ ap (λ (a : Bool). C a (ltb c i) (slice c i s)) v
        ∙ ap (λ (b : Bool). C true b (slice c i s)) (lt-ltb c i u)
        ∙ ap (λ (x : Text). some (slice c i s, x)) (slice_snoc s c i (omega arith) (omega arith) ∙ ap (λ (x : ℕ). slice c x s) (sym z))

-- The hyphen
module _ (s : Text) where
  abbrev S : Bool → ℕ
  S b = pick b (length s - 1) (length s)

  pub stem-empty : length s ≡ 0 → length s ≡ stem s
  unfolding stem pick
  stem-empty e = ap S (no_last (eqb hyphen) s e)

  module _ (h : 0 < length s) where
    pub stem-plain : (get_or s (length s - 1) 0 ≡ hyphen → ⊥) → length s ≡ stem s
    unfolding stem pick
    stem-plain k = ap S (sym (ne_eqb hyphen (get_or s (length s - 1) 0) (λ z. k (sym z))) ∙ last-there (eqb hyphen) s h)

    pub stem-hyphen : get_or s (length s - 1) 0 ≡ hyphen → length s - 1 ≡ stem s
    unfolding stem pick
    stem-hyphen k = ap S (sym (eq-eqb hyphen (get_or s (length s - 1) 0) (sym k)) ∙ last-there (eqb hyphen) s h)

  pub stem_le : stem s ≤ length s
  unfolding stem
  stem_le = pick_all (λ n. n ≤ length s) (last_is (eqb hyphen) s) (omega arith) (omega arith)

  -- is there one, and the text that the patterns see
  stem_dash : last_is (eqb hyphen) s ≡ ltb (stem s) (length s)
  unfolding stem pick
  stem_dash = go (last_is (eqb hyphen) s) refl (length s) refl
    where
      go : (b : Bool) → last_is (eqb hyphen) s ≡ b → (n : ℕ) → length s ≡ n → b ≡ ltb (S b) (length s)
      go true e zero z = absurd (true≢false (sym e ∙ sym (no_last (eqb hyphen) s z)))
      go true e (suc n) z = sym (lt-ltb (length s - 1) (length s) (omega arith))
      go false e n z = sym (le-ltb (length s) (length s) (omega arith))

  stem-back : pick (last_is (eqb hyphen) s) (tail (reverse s)) (reverse s) ≡ back s (stem s)
  unfolding stem pick
  stem-back = go (last_is (eqb hyphen) s) (length s) refl
    where
      go : (b : Bool) (n : ℕ) → length s ≡ n → pick b (tail (reverse s)) (reverse s) ≡ back s (S b)
      go false n e = sym (back-all s)
      go true zero e = ap tail (sym (back-all s) ∙ back_nil s (length s) e) ∙ sym (back_nil s (length s - 1) (omega arith))
      go true (suc n) e = ap tail (sym (back-all s) ∙ back_cons s (length s) (omega arith) (omega arith))

-- The three forms, case by case
module _ (ao : Bool) (vowel s : Text) (one : Bool) where
  abbrev B : Bool → Text → Option (Text × Text) → Option (Text × Text) → Text × Text × Text
  B dash b y c = maybe y (maybe c (s, s, s ++ vowel)
      (λ u. (pick (dash && one && is latin (head s)) (reverse b) s, u.0, u.1))) (λ u. (s, u.0, u.1))

  abbrev end : Text
  end = back s (stem s)

  bases_as : bases ao vowel s one ≡ B (ltb (stem s) (length s)) end (pattern_y (inherent ao) end) (pattern_c (inherent ao) end)
  unfolding bases
  bases_as =
      ap (λ (b : Text). B (last_is (eqb hyphen) s) b (pattern_y (inherent ao) b) (pattern_c (inherent ao) b)) (stem-back s)
      ∙ ap (λ (d : Bool). B d end (pattern_y (inherent ao) end) (pattern_c (inherent ao) end)) (stem_dash s)

  keep_as : pick (ltb (stem s) (length s) && one && is latin (head s)) (reverse end) s ≡ take (kept one s) s
  unfolding kept pick
  keep_as = go (ltb (stem s) (length s) && one && is latin (head s))
    where
      go : (b : Bool) → pick b (reverse end) s ≡ take (pick b (stem s) (length s)) s
      go true = reverse-reverse (take (stem s) s)
      go false = sym (take-length s)

  abbrev both : Option (Text × Text) → Option (Text × Text) → Text × Text × Text
  both y c = B (ltb (stem s) (length s)) end y c

  bases_y : (b p : Text) → pattern_y (inherent ao) end ≡ some (b, p) → bases ao vowel s one ≡ (s, b, p)
  unfolding maybe
  bases_y b p e = bases_as ∙ ap (λ (y : Option (Text × Text)). both y (pattern_c (inherent ao) end)) e

  module _ (e : pattern_y (inherent ao) end ≡ none) where
    bases-c : (b p : Text) → pattern_c (inherent ao) end ≡ some (b, p) → bases ao vowel s one ≡ (take (kept one s) s, b, p)
    unfolding maybe
    bases-c b p f =
        bases_as ∙ ap (λ (y : Option (Text × Text)). both y (pattern_c (inherent ao) end)) e
        ∙ ap (both none) f ∙ ap (λ (r : Text). (r, b, p)) keep_as

    bases-none : pattern_c (inherent ao) end ≡ none → bases ao vowel s one ≡ (s, s, s ++ vowel)
    unfolding maybe
    bases-none f = bases_as ∙ ap (λ (y : Option (Text × Text)). both y (pattern_c (inherent ao) end)) e ∙ ap (both none) f

  -- by positions
  pub none-empty : stem s ≡ 0 → bases ao vowel s one ≡ (s, s, s ++ vowel)
  unfolding pattern_y pattern_c
  none-empty e =
      bases-none (ap (λ (x : ℕ). pattern_y (inherent ao) (back s x)) e) (ap (λ (x : ℕ). pattern_c (inherent ao) (back s x)) e)

  module _ (i : ℕ) (z : stem s ≡ suc i) where
    pub none-vowel : inherent ao (get_or s i 0) ≡ false → bases ao vowel s one ≡ (s, s, s ++ vowel)
    none-vowel g = bases-none (y_other (inherent ao) s (stem s) i (stem_le s) z g) (c-other (inherent ao) s (stem s) i (stem_le s) z g)

    module _ (v : inherent ao (get_or s i 0) ≡ true) (k : ℕ) (g : k ≡ run (eqb (get_or s i 0)) s (stem s)) (f : ℕ) (w : f ≡ y_from s k) where
      pub first : f < k → bases ao vowel s one ≡ (s, slice f k s, slice f (stem s) s)
      first u = bases_y _ _ (y_some (inherent ao) s (stem s) i (stem_le s) z k g v f w u)

      module _ (u : k ≤ f) (c : ℕ) (r : c ≡ run consonants s i) where
        no_first : pattern_y (inherent ao) end ≡ none
        no_first = y_none (inherent ao) s (stem s) i (stem_le s) z k g v (omega arith)

        pub second : c < i → bases ao vowel s one ≡ (take (kept one s) s, slice c i s, slice c (stem s) s)
        second t = bases-c no_first _ _ (c_some (inherent ao) s (stem s) i (stem_le s) z c r v t)

        pub neither : i ≤ c → bases ao vowel s one ≡ (s, s, s ++ vowel)
        neither t = bases-none no_first (c-none (inherent ao) s (stem s) i (stem_le s) z c r v t)

-- a vowel of the type
module _ (ao : Bool) (c : ℕ) where
  pub inherent_a : c ≡ letter_a → true ≡ inherent ao c
  inherent_a h = sym (ap (λ (b : Bool). b || (ao && eqb c letter_o)) (eq-eqb c letter_a h))

  pub inherent-o : (c ≡ letter_a → ⊥) → (b : Bool) → ao ≡ b → (b && eqb c letter_o) ≡ inherent ao c
  inherent-o h b e = sym (ap (λ (x : Bool). x || (ao && eqb c letter_o)) (ne_eqb c letter_a h) ∙ ap (λ (x : Bool). x && eqb c letter_o) e)

-- what is kept
is-head : (q : ℕ → Bool) (s : Text) → 0 < length s → is q (head s) ≡ q (get_or s 0 0)
unfolding head
is-head q [] h = absurd (omega arith)
is-head q (x ∷ s) h = refl

module _ (one : Bool) (s : Text) where
  abbrev K : Bool → Bool → Bool → ℕ
  K a b c = pick (a && b && c) (stem s) (length s)

  pub kept-plain : length s ≤ stem s → length s ≡ kept one s
  unfolding kept pick
  kept-plain h = sym (ap (λ (a : Bool). K a one (is latin (head s))) (le-ltb (stem s) (length s) h))

  module _ (h : stem s < length s) where
    pub kept_many : one ≡ false → length s ≡ kept one s
    unfolding kept pick
    kept_many e =
        sym (ap (λ (a : Bool). K a one (is latin (head s))) (lt-ltb (stem s) (length s) h)
        ∙ ap (λ (b : Bool). K true b (is latin (head s))) e)

    -- of one character: by the first letter
    pub kept-one : one ≡ true → (b : Bool) → latin (get_or s 0 0) ≡ b → pick b (stem s) (length s) ≡ kept one s
    unfolding kept
    kept-one e b f =
        sym (ap (λ (a : Bool). K a one (is latin (head s))) (lt-ltb (stem s) (length s) h)
        ∙ ap (λ (b : Bool). K true b (is latin (head s))) e
        ∙ ap (K true true) (is-head latin s (omega arith) ∙ f))
