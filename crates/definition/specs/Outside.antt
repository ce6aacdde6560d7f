-- Outside the text the definition reads a space (Texts, `at` and `prev`), and the Rust has `None`. Under accepted tables
-- the two answer alike, question by question. Asked of a neighbour, which may lie outside, are
--   a letter or mark (`fresh`, `word_end`, `syllable_at`), a nonspacing mark (`bare`),
--   a vowel sign, medial, subjoined, virama (`bare`, `vowel_in`, `finish`), a tone mark (`past_tone`),
--   written before its consonant (`syllable_at`, `around`, `pre_vowel`), lower case (`capitalizes`),
--   a script that rules speak of (`pre_vowel`, `between`) or that takes a vowel (`vowel_in`),
--   certain characters (`bare`, `double`, `o_ang_test`, `grave`, `small_target`, `lengthens`),
--   the space itself (`trim_front`, `trim_back`),
--   and what the rules have for it: its own first rule (`pre_vowel`, `between`, `small_target`), a source that it is
--   part of (`spans`, `is_prefix`, `goes_on`, `framed`).
-- A span's own first and last character lie in the text.
use Rattle.std.specs.Prelude.{Bool, true, false, ◌&&◌, ◌≡◌, List, [], ◌∷◌, ℕ, zero, suc, ◌≤◌, ◌<◌, eqb, ltb, length}
use Rattle.std.proofs.Math.Bool.{not}
use Rattle.std.proofs.Math.Path.{refl, ap}
use Rattle.std.proofs.Common.{sym, ◌∙◌, arith, lt-ltb, le-ltb, ne_eqb}
use Rattle.std.proofs.Math.Option.{Option, none, some}
use Rattle.std.proofs.Math.Decide.{dec_lt}
use Rattle.base.specs.Lists.{is, maybe}
use Rattle.definition.specs.Texts.{Text, at, prev, stands, among, the_space, khmer_yo, o_ang, coptic_grave, long_mark}
use Rattle.definition.specs.Tables.{Class, script_none}
use Rattle.definition.specs.Classes.{class, alpha, mark, script}
use Rattle.definition.specs.Expansion.{small_tsu, small_ya}
use Rattle.definition.specs.Blank.{Blank, blank_alpha, blank_mark, blank_script}

-- The Rust's neighbours: the character at a position, and the one before it, where the text has one there
unfoldable pub char_at : Text → ℕ → Option ℕ
char_at [] p = none
char_at (c ∷ t) zero = some c
char_at (c ∷ t) (suc p) = char_at t p

unfoldable pub char_before : Text → ℕ → Option ℕ
char_before t zero = none
char_before t (suc p) = char_at t p

-- where there is none, the position lies outside the text
pub none_outside : (t : Text) (p : ℕ) → char_at t p ≡ none → length t ≤ p
unfolding char_at
none_outside [] p e = omega arith
none_outside (c ∷ t) zero e = absurd (let z : ◌≡◌ {A = ℕ} 0 1 = cc in omega arith)
none_outside (c ∷ t) (suc p) e = let h = none_outside t p e in omega arith

-- How the definition reads a neighbour that may be absent
abbrev pub read : Option ℕ → ℕ
read none = the_space
read (some c) = c

pub at_read : (t : Text) (p : ℕ) → at t p ≡ read (char_at t p)
unfolding at char_at
at_read [] p = refl
at_read (c ∷ t) zero = refl
at_read (c ∷ t) (suc p) = at_read t p

pub prev-read : (t : Text) (p : ℕ) → prev t p ≡ read (char_before t p)
unfolding prev char_before
prev-read t zero = refl
prev-read t (suc p) = at_read t p

-- A question that a space answers with no is `is_some_and`
asked : (q : ℕ → Bool) → q the_space ≡ false → (o : Option ℕ) → q (read o) ≡ is q o
asked q e none = e
asked q e (some c) = refl

module _ (ks : List Class) (w : Blank (class ks the_space)) where
  -- Category and flags
  pub none-alpha : (o : Option ℕ) → alpha ks (read o) ≡ is (alpha ks) o
  none-alpha = asked (alpha ks) (blank_alpha ks w)

  pub none-mark : (o : Option ℕ) → mark ks (read o) ≡ is (mark ks) o
  none-mark = asked (mark ks) (blank_mark ks w)

  pub none-sign : (o : Option ℕ) → (class ks (read o)).sign ≡ is (λ c. (class ks c).sign) o
  none-sign = asked (λ c. (class ks c).sign) w.sign

  pub none-medial : (o : Option ℕ) → (class ks (read o)).medial ≡ is (λ c. (class ks c).medial) o
  none-medial = asked (λ c. (class ks c).medial) w.medial

  pub none-subjoined : (o : Option ℕ) → (class ks (read o)).subjoined ≡ is (λ c. (class ks c).subjoined) o
  none-subjoined = asked (λ c. (class ks c).subjoined) w.subjoined

  pub none-lowercase : (o : Option ℕ) → (class ks (read o)).lowercase ≡ is (λ c. (class ks c).lowercase) o
  none-lowercase = asked (λ c. (class ks c).lowercase) w.lowercase

  pub none-virama : (o : Option ℕ) → (class ks (read o)).virama ≡ is (λ c. (class ks c).virama) o
  none-virama = asked (λ c. (class ks c).virama) w.virama

  pub none-tone : (o : Option ℕ) → (class ks (read o)).tone ≡ is (λ c. (class ks c).tone) o
  none-tone = asked (λ c. (class ks c).tone) w.tone

  pub none-pre : (o : Option ℕ) → (class ks (read o)).pre ≡ is (λ c. (class ks c).pre) o
  none-pre = asked (λ c. (class ks c).pre) w.pre

  -- Its script is none: `map_or("", ..)`
  pub none-script : (o : Option ℕ) → script ks (read o) ≡ maybe o script_none (script ks)
  unfolding maybe
  none-script none = blank_script ks w
  none-script (some c) = refl

  -- No script, so none that a rule or a vowel row has: `is_some_and`, or `is_none_or` where it is asked to differ
  blank_differs : (k : ℕ) → 1 ≤ k → eqb (script ks the_space) k ≡ false
  blank_differs k l = ne_eqb (script ks the_space) k (λ e. let z = blank_script ks w in omega arith)

  pub none-script-is : (k : ℕ) → 1 ≤ k → (o : Option ℕ) → eqb (script ks (read o)) k ≡ is (λ c. eqb (script ks c) k) o
  none-script-is k l = asked (λ c. eqb (script ks c) k) (blank_differs k l)

  pub none-script_differs : (k : ℕ) → 1 ≤ k → (o : Option ℕ)
      → not (eqb (script ks (read o)) k) ≡ maybe o true (λ c. not (eqb (script ks c) k))
  unfolding maybe
  none-script_differs k l none = ap not (blank_differs k l)
  none-script_differs k l (some c) = refl

-- Certain characters: `next_char == Some(c)`, `contains`
pub none_yo : (o : Option ℕ) → eqb (read o) khmer_yo ≡ is (λ c. eqb c khmer_yo) o
none_yo = asked (λ c. eqb c khmer_yo) refl

pub none-o_ang : (o : Option ℕ) → eqb (read o) o_ang ≡ is (λ c. eqb c o_ang) o
none-o_ang = asked (λ c. eqb c o_ang) refl

pub none-grave : (o : Option ℕ) → eqb (read o) coptic_grave ≡ is (λ c. eqb c coptic_grave) o
none-grave = asked (λ c. eqb c coptic_grave) refl

pub none-long : (o : Option ℕ) → eqb (read o) long_mark ≡ is (λ c. eqb c long_mark) o
none-long = asked (λ c. eqb c long_mark) refl

pub none_tsu : (o : Option ℕ) → small_tsu (read o) ≡ is small_tsu o
unfolding small_tsu among
none_tsu = asked small_tsu refl

pub none_ya : (o : Option ℕ) → small_ya (read o) ≡ is small_ya o
unfolding small_ya among
none_ya = asked small_ya refl

-- The space itself. Before the text's first character there counts as one: `start == 0 || prev_char == Some(' ')`
pub none_space : (o : Option ℕ) → eqb (read o) the_space ≡ maybe o true (λ c. eqb c the_space)
unfolding maybe
none_space none = refl
none_space (some c) = refl

-- A character that is asked to stand at a position stands in the text, a space too: `next_char == Some(c)`
pub stands-there : (t : Text) (p c : ℕ) → stands t p c ≡ is (eqb c) (char_at t p)
unfolding stands at char_at
stands-there [] p c = ap (λ b. b && eqb c the_space) (le-ltb p 0 (omega arith))
stands-there (d ∷ t) zero c = ap (λ b. b && eqb c d) (lt-ltb 0 (suc (length t)) (omega arith))
stands-there (d ∷ t) (suc p) c = ap (λ b. b && eqb c (at t p)) (further (dec_lt p (length t))) ∙ stands-there t p c
  where
    further : Dec (p < length t) → ltb (suc p) (suc (length t)) ≡ ltb p (length t)
    further (yes l) = lt-ltb (suc p) (suc (length t)) (omega arith) ∙ sym (lt-ltb p (length t) l)
    further (no l) = le-ltb (suc p) (suc (length t)) (omega arith) ∙ sym (le-ltb p (length t) (omega arith))
