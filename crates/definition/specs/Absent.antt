-- Where the definition asks a neighbour several things: each such test, in the Rust's words, of a character that may be
-- absent (Outside). A first rule is asked only after a test that a space fails, so none is asked for an absent one.
-- (proofs/Absent: what they take for granted of the space and of the vowel rows, an accepted call has.)
use Rattle.std.proofs.Math.Bool.{Bool, not, and-false}
use Rattle.std.specs.Prelude.{true, false, ◌&&◌, ◌||◌, ◌≡◌}
use Rattle.std.proofs.Math.Path.{refl, ap}
use Rattle.std.proofs.Common.{◌∙◌, arith, eqb-true}
use mathlib.Core.List.{List, [], ◌∷◌, ◌++◌, reverse}
use Rattle.std.proofs.Math.Option.{Option, none, some}
use Prim.Native.Nat.{ℕ, ◌+◌, ◌-◌, ◌≤◌}
use Rattle.std.proofs.Math.Dec.{eqb}
use Rattle.base.specs.Pick.{pick}
use Rattle.base.specs.Lists.{keep, all, head, tail, or_else, is, maybe, bind, same}
use Rattle.base.specs.Alls.{All, Opt, head-keep}
use Rattle.definition.specs.Texts.{Text, among, at, prev, consonants, last_is, without_last, the_space, letter_i, khmer_yo}
use Rattle.definition.specs.Tables.{Choices, Rule, Class, Vowel, Lexicon, script_thai}
use Rattle.definition.specs.Notes.{note_exp}
use Rattle.definition.specs.Classes.{class, alpha, mark, script}
use Rattle.definition.specs.Edges.{View, M, ret}
use Rattle.definition.specs.Rules.{first_rule}
use Rattle.definition.specs.Syllables.{vowel_test, syllable_at}
use Rattle.definition.specs.Vowels.{vowel_row, before_yo, bare}
use Rattle.definition.specs.Expansion.{Work, work, upper_case, capitalizes, doubled, small_tsu, double, framed, widen, around_by, around, pre_vowel, walk_start, o_ang_side, between, small_ya, small_target, trim_front, trim_back}
use Rattle.definition.specs.Blank.{Blank, blank_alpha, blank_mark}
use Rattle.definition.specs.Outside.{char_at, char_before, read, at_read, prev-read, none-sign, none-lowercase, none-virama, none-pre, none-script-is, none-script_differs, none_space, stands-there}

-- The vowel step compares a neighbour's script with that of a vowel row, which is at least 1
pub row_script : (vs : List Vowel) → All (λ y. 1 ≤ y.script) vs → (k : ℕ) (y : Vowel) → vowel_row vs k ≡ some y → 1 ≤ k
unfolding vowel_row
row_script vs h k y e = go (head (keep (λ y. eqb y.script k) vs)) (head-keep (λ y. 1 ≤ y.script) (λ y. eqb y.script k) vs h) e
  where
    go : (o : Option Vowel) → Opt (λ y. (1 ≤ y.script) × (eqb y.script k ≡ true)) o → o ≡ some y → 1 ≤ k
    go none q e = absurd (let z : ◌≡◌ {A = ℕ} 0 1 = cc in omega arith)
    go (some x) q e = let a = q.0 in let b = eqb-true x.script k q.1 in omega arith

module _ (ks : List Class) (w : Blank (class ks the_space)) (t : Text) where
  -- No vowel before what follows: `if let Some(nc) = next_s_char`, in it `let Some(n2c) = next2_s_char`
  pub bare-there : (base : Text) (e : ℕ) → bare ks t base e ≡ is (λ c.
      (before_yo base && eqb c khmer_yo)
      || (class ks c).sign
      || (class ks c).medial
      || (class ks c).subjoined
      || (mark ks c && is (λ d. (class ks d).sign) (char_at t (e + 1)))
      || (class ks c).virama
      || (mark ks c && is (λ d. (class ks d).virama) (char_at t (e + 1)))) (char_at t e)
  unfolding bare
  bare-there base e = rw (at_read t e, at_read t (e + 1), none-sign ks w (char_at t (e + 1)), none-virama ks w (char_at t (e + 1))) (go (char_at t e))
    where
      S : Bool
      S = is (λ d. (class ks d).sign) (char_at t (e + 1))

      V' : Bool
      V' = is (λ d. (class ks d).virama) (char_at t (e + 1))

      q : ℕ → Bool
      q c = (before_yo base && eqb c khmer_yo) || (class ks c).sign || (class ks c).medial || (class ks c).subjoined
          || (mark ks c && S) || (class ks c).virama || (mark ks c && V')

      go : (o : Option ℕ) → q (read o) ≡ is q o
      go none = rw (and-false (before_yo base), w.sign, w.medial, w.subjoined, blank_mark ks w, w.virama)
      go (some c) = refl

  -- The vowel step, for a script with a vowel row: `prev_s_char.is_none_or(..)`, `next_s_char.is_some_and(..)`
  module _ (vs : List Vowel) (scripted : All (λ y. 1 ≤ y.script) vs) (k : ℕ) (y : Vowel) (row : vowel_row vs k ≡ some y) (p : ℕ) where
    pub script_differs : not (eqb (script ks (prev t p)) k) ≡ maybe (char_before t p) true (λ c. not (eqb (script ks c) k))
    script_differs =
        ap (λ c. not (eqb (script ks c) k)) (prev-read t p)
        ∙ none-script_differs ks w k (row_script vs scripted k y row) (char_before t p)

    pub script-same : eqb (script ks (at t p)) k ≡ is (λ c. eqb (script ks c) k) (char_at t p)
    script-same =
        ap (λ c. eqb (script ks c) k) (at_read t p) ∙ none-script-is ks w k (row_script vs scripted k y row) (char_at t p)

  -- Capitals: `next_char.is_some_and(|nc| nc.is_lowercase())`
  pub capitalizes-there : (c : Choices) (x : Work) → capitalizes c ks t x
      ≡ (eqb c.capitals 1 && eqb (x.from + 1) x.to && upper_case x.rom && is (λ d. (class ks d).lowercase) (char_at t x.to))
  unfolding capitalizes
  capitalizes-there c x =
      ap (λ b. eqb c.capitals 1 && eqb (x.from + 1) x.to && upper_case x.rom && b)
      (ap (λ d. (class ks d).lowercase) (at_read t x.to) ∙ none-lowercase ks w (char_at t x.to))

  -- Doubling: `if let Some(pc) = prev_char`
  pub double-there : (o : ℕ) (x : Work) → double ks t o x ≡ maybe (char_before t o) x (λ c.
      pick (small_tsu c && eqb (script ks c) (script ks (at t o)) && not (same (doubled c x.rom) []))
      (work (doubled c x.rom ++ x.rom) (x.from - 1) x.to note_exp) x)
  unfolding double
  double-there o x = ap by (prev-read t o) ∙ go (char_before t o)
    where
      by : ℕ → Work
      by c = pick (small_tsu c && eqb (script ks c) (script ks (at t o)) && not (same (doubled c x.rom) []))
          (work (doubled c x.rom ++ x.rom) (x.from - 1) x.to note_exp) x

      go : (n : Option ℕ) → by (read n) ≡ maybe n x by
      go none = unfold maybe pick small_tsu among in refl
      go (some c) = unfold maybe in refl

  module _ (rs : List Rule) where
    -- The Thai pattern: `let Some(pc) = prev_char`
    pub around-there : (x : Work) → around rs ks t x ≡ bind (char_before t x.from) (λ c.
        let found : ℕ → Option Work = λ k. widen k x (bind (head (keep (framed t c k x.to) rs)) (λ r. r.target)) in
        pick (eqb (x.from + 1) x.to && all consonants x.rom && (class ks c).pre) (or_else (found 3) (or_else (found 2) (found 1))) none)
    unfolding around around_by
    around-there x = ap by (prev-read t x.from) ∙ go (char_before t x.from)
      where
        by : ℕ → Option Work
        by c =
            let found : ℕ → Option Work = λ k. widen k x (bind (head (keep (framed t c k x.to) rs)) (λ r. r.target)) in
            pick (eqb (x.from + 1) x.to && all consonants x.rom && (class ks c).pre) (or_else (found 3) (or_else (found 2) (found 1))) none

        go : (n : Option ℕ) → by (read n) ≡ bind n by
        go none = unfold pick in rw (w.pre, and-false (eqb (x.from + 1) x.to && all consonants x.rom))
        go (some c) = refl

    -- The Thai pre-vowel: `let Some(pc) = prev_char`, its first rule asked only of a Thai character
    pub pre_vowel-there : (x : Work) → pre_vowel rs ks t x ≡ bind (char_before t x.from) (λ c.
        pick (eqb (script ks c) script_thai && (class ks c).pre && is consonants (head x.rom)) (first_rule rs (c ∷ [])) none)
    unfolding pre_vowel
    pre_vowel-there x = ap by (prev-read t x.from) ∙ go (char_before t x.from)
      where
        by : ℕ → Option Text
        by c = pick (eqb (script ks c) script_thai && (class ks c).pre && is consonants (head x.rom)) (first_rule rs (c ∷ [])) none

        go : (n : Option ℕ) → by (read n) ≡ bind n by
        go none = unfold pick in rw (none-script-is ks w script_thai (omega arith) none)
        go (some c) = refl

    -- O ang between consonants: `map_or("", ..)` for both scripts, `and_then(..)` for the next one's first rule
    pub between-there : (c : Choices) (v : View) (x : Work) → between c rs ks t v x ≡
        (is (λ c. eqb (script ks c) script_thai) (char_before t x.from)
        && is (λ c. eqb (script ks c) script_thai) (char_at t x.to)
        && last_is o_ang_side (v.behind (walk_start c t x.from) x.from)
        && is (λ y. not (same y []) && all o_ang_side y) (bind (char_at t x.to) (λ c. first_rule rs (c ∷ []))))
    unfolding between
    between-there c v x =
        rw (prev-read t x.from, at_read t x.to, none-script-is ks w script_thai (omega arith) (char_before t x.from))
        (go (char_at t x.to))
      where
        thai : ℕ → Bool
        thai c = eqb (script ks c) script_thai

        A : Bool
        A = is thai (char_before t x.from)

        C : Bool
        C = last_is o_ang_side (v.behind (walk_start c t x.from) x.from)

        alone : Option Text → Bool
        alone o = is (λ y. not (same y []) && all o_ang_side y) o

        go : (n : Option ℕ) → (A && thai (read n) && C && alone (first_rule rs (read n ∷ [])))
            ≡ (A && is thai n && C && alone (bind n (λ c. first_rule rs (c ∷ []))))
        go none = rw (none-script-is ks w script_thai (omega arith) none, and-false A)
        go (some c) = refl

    -- Small ya: `let Some(nc) = next_char`, its first rule asked only of a small kana
    pub small_target-there : (x : Work) → small_target rs ks t x ≡ bind (char_at t x.to) (λ c.
        pick (small_ya c && eqb (script ks (prev t x.to)) (script ks c)
        && is (eqb letter_i) (head (reverse x.rom)) && is consonants (head (tail (reverse x.rom))))
        (first_rule rs (c ∷ [])) none)
    unfolding small_target
    small_target-there x = ap by (at_read t x.to) ∙ go (char_at t x.to)
      where
        by : ℕ → Option Text
        by c =
            pick (small_ya c && eqb (script ks (prev t x.to)) (script ks c)
            && is (eqb letter_i) (head (reverse x.rom)) && is consonants (head (tail (reverse x.rom))))
            (first_rule rs (c ∷ [])) none

        go : (n : Option ℕ) → by (read n) ≡ bind n by
        go none = unfold pick small_ya among in refl
        go (some c) = refl

-- End of syllable: `prev_char.is_none()` answers as a character that is no letter or mark, and so does the text's end
module _ (L : Lexicon) (t : Text) (v : View) (w : Blank (class L.classes the_space)) where
  pub syllable_there : (p q : ℕ) → syllable_at L t v p q ≡ maybe (char_before t (p - 1)) (ret false) (λ c.
      pick (not (alpha L.classes c)) (ret false)
      (pick (class L.classes c).pre (ret false)
      (pick (is (λ d. (class L.classes d).pre) (char_at t q)) (ret true)
      (maybe (char_at t q) (ret true) (λ d. pick (not (alpha L.classes d)) (ret true)
      (pick (v.closed (p - 1)) (ret false)
      (vowel_test L t v q)))))))
  unfolding syllable_at
  syllable_there p q = rw (prev-read t (p - 1), at_read t q, none-pre L.classes w (char_at t q)) (first (char_before t (p - 1)))
    where
      ks : List Class
      ks = L.classes

      last : M Bool
      last = pick (v.closed (p - 1)) (ret false) (vowel_test L t v q)

      P : Bool
      P = is (λ d. (class ks d).pre) (char_at t q)

      next : (n : Option ℕ) → pick (not (alpha ks (read n))) (ret true) last ≡ maybe n (ret true) (λ d. pick (not (alpha ks d)) (ret true) last)
      next none = unfold maybe in rw (blank_alpha ks w) (unfold pick in refl)
      next (some d) = unfold maybe in refl

      by : ℕ → M Bool
      by c = pick (not (alpha ks c)) (ret false) (pick (class ks c).pre (ret false)
          (pick P (ret true) (maybe (char_at t q) (ret true) (λ d. pick (not (alpha ks d)) (ret true) last))))

      first : (n : Option ℕ) → pick (not (alpha ks (read n))) (ret false) (pick (class ks (read n)).pre (ret false)
          (pick P (ret true) (pick (not (alpha ks (read (char_at t q)))) (ret true) last))) ≡ maybe n (ret false) by
      first none = unfold maybe in rw (blank_alpha ks w) (unfold pick in refl)
      first (some c) = unfold maybe in
          ap (λ z. pick (not (alpha ks c)) (ret false) (pick (class ks c).pre (ret false) (pick P (ret true) z))) (next (char_at t q))

-- Spaces at a romanization's sides: `start == 0 || prev_char == Some(' ')`, `next_char == Some(' ')`
pub trim_front-there : (t w : Text) (s : ℕ) → trim_front t w s
    ≡ pick (is (eqb the_space) (head w) && maybe (char_before t s) true (λ c. eqb c the_space)) (tail w) w
unfolding trim_front
trim_front-there t w s = ap (λ b. pick (is (eqb the_space) (head w) && b) (tail w) w)
    (ap (λ c. eqb c the_space) (prev-read t s) ∙ none_space (char_before t s))

pub trim_back-there : (t w : Text) (e : ℕ) → trim_back t w e
    ≡ pick (last_is (eqb the_space) w && is (eqb the_space) (char_at t e)) (without_last w) w
unfolding trim_back
trim_back-there t w e = ap (λ b. pick (last_is (eqb the_space) w && b) (without_last w) w) (stands-there t e the_space)
