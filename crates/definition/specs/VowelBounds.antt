-- What the vowel step makes of a target: 4 bytes more at most, and more only behind a romanization of consonants.
use Rattle.std.specs.Prelude.{Bool, not, ◌&&◌, ◌||◌, ◌≡◌, refl, ◌⊎◌, ℕ, suc, ◌+◌, ◌-◌, ◌≤◌, eqb, get_or}
use Rattle.std.proofs.Math.Bool.{true, false, and-false}
use Rattle.std.proofs.Common.{true≢false, sym, ap, ◌∙◌, inl, inr, drop_of_length-le}
use mathlib.Core.List.{List, [], ◌∷◌, ◌++◌, reverse}
use Rattle.std.proofs.Math.Option.{none, some}
use native.Mathlib.Omega.{arith}
use Rattle.std.proofs.Math.ListN.{length}
use Rattle.std.proofs.lemmas.Bool.{not-false}
use Rattle.base.specs.Pick.{pick, pick_all, pick_ind}
use Rattle.base.specs.Bools.{and_right}
use Rattle.base.specs.Lists.{put, all, head, tail, is, front, after, same, starts}
use Rattle.base.specs.ListLaws.{front-after}
use Rattle.base.specs.Alls.{All, All-after, All_getD, All-keep, All-head, Opt, maybe-all}
use Rattle.definition.specs.Limits.{most_target, most_vowel}
use Rattle.definition.specs.Texts.{Text, consonants, vowels, latin, last_is, letter_a, letter_o, letter_y, hyphen}
use Rattle.definition.specs.Tables.{Vowel, Lexicon}
use Rattle.definition.specs.Edges.{View}
use Rattle.definition.specs.Boundaries.{word_start}
use Rattle.definition.specs.Vowels.{vowel_row, before_y, pattern_y, pattern_c, bases, consonant_only, vowel_in, vowel_by, vowel_step}
use Rattle.definition.specs.Building.{grown}
use Rattle.definition.specs.Shorts.{Low, Short, short-wide, short-append, short-letter, short-reverse, short-tail, short-front}
use Rattle.definition.specs.Posts.{Post, post_ret, post_then, post_if, post_pick, post_maybe}

abbrev pub voiced_bytes : ℕ
voiced_bytes = most_target + most_vowel

-- Neither a pattern's base nor its base with vowel is longer than what it was found in
abbrev Based : ℕ → Text × Text → Type 0
Based n u = Short n u.0 × Short n u.1

base_y : (k : Bool) (d : ℕ) (y : Text) → Low d → is (eqb letter_y) (head y) ≡ true → is before_y (head (tail y)) ≡ k
    → Short (length y) (put k d (letter_y ∷ []))
unfolding head
base_y k d [] l e q = absurd (true≢false (sym e))
base_y true d (c ∷ []) l e q = absurd (true≢false (sym q))
base_y true d (c ∷ b ∷ y) l e q = record { long = omega arith; low = (l, (omega arith, tt)) }
base_y false d (c ∷ y) l e q = short-letter (suc (length y)) letter_y (omega arith) (omega arith)

pattern_y-short : (n : ℕ) (q : ℕ → Bool) (l : Text) → Short n l → Opt (Based n) (pattern_y q l)
unfolding pattern_y
pattern_y-short n q [] h = tt
pattern_y-short n q (c ∷ w) h =
    let y = after (eqb c) w in
    let k = is before_y (head (tail y)) in
    let b = put k (get_or y 1 0) (letter_y ∷ []) in
    let d = All_getD Low y 1 0 (All-after Low (eqb c) w h.low.1) (omega arith) in
    let f = front-after (eqb c) w in
    pick_ind (Opt (Based n)) (q c && is (eqb letter_y) (head y)) (some (b, b ++ front (eqb c) (c ∷ w))) none
    (λ e.
    let s : Short (length y) b = base_y k (get_or y 1 0) y d (and_right (q c) _ e) refl in
    let r : Short (1 + length (front (eqb c) w)) (front (eqb c) (c ∷ w)) = record { long = run c w; low = (short-front (eqb c) h).low } in
    let z = h.long in
    (short-wide (length y) (omega arith) s, short-wide (length y + (1 + length (front (eqb c) w))) (omega arith) (short-append (length y) _ s r)))
    (λ e. tt)
  where
    run : (c : ℕ) (w : Text) → length (front (eqb c) (c ∷ w)) ≤ 1 + length (front (eqb c) w)
    run c w = unfold front in pick_run (eqb c c)
      where
        pick_run : (b : Bool) → length {A = ℕ} (elim b [ true ↦ c ∷ front (eqb c) w | false ↦ [] ]) ≤ 1 + length (front (eqb c) w)
        pick_run true = omega arith
        pick_run false = omega arith

pattern_c-short : (n : ℕ) (q : ℕ → Bool) (l : Text) → Short n l → Opt (Based n) (pattern_c q l)
unfolding pattern_c
pattern_c-short n q [] h = tt
pattern_c-short n q (c ∷ w) h =
    let b = reverse (front consonants w) in
    let z = h.long in
    let u : Short (length w) w = record { long = omega arith; low = h.low.1 } in
    let s : Short (length w) b = short-reverse (short-front consonants u) in
    pick_all (Opt (Based n)) (q c && is consonants (head w)) {x = some (b, b ++ c ∷ [])} {y = none}
    (short-wide (length w) (omega arith) s, short-wide (length w + 1) (omega arith) (short-append (length w) 1 s (short-letter 1 c (omega arith) h.low.0))) tt

-- The three forms of a romanization: neither itself nor its base grows, and its base with vowel only
-- where no pattern was found, so that the base is the romanization
pub record Formed (rom : Text) (u : Text × Text × Text) : Type 0 where
  pub own : Short (length rom) u.0
  pub base : Short (length rom) u.1
  pub plus : Short (length rom + most_vowel) u.2
  pub grows : (length u.2 ≤ length rom) ⊎ (u.1 ≡ rom)

bases_formed : (ao : Bool) (vowel rom : Text) (one : Bool) → Short most_vowel vowel → All Low rom → Formed rom (bases ao vowel rom one)
unfolding bases
bases_formed ao vowel rom one h k =
    let n = length rom in
    let q : ℕ → Bool = λ c. eqb c letter_a || (ao && eqb c letter_o) in
    let dash = last_is (eqb hyphen) rom in
    let back = pick dash (tail (reverse rom)) (reverse rom) in
    let m : Short n rom = record { long = omega arith; low = k } in
    let r : Short n (reverse rom) = short-reverse m in
    let b : Short n back = pick_all (Short n) dash {x = tail (reverse rom)} {y = reverse rom} (short-wide (n - 1) (omega arith) (short-tail n r)) r in
    maybe-all (Formed rom) (Based n) (pattern_y q back) (pattern_y-short n q back b)
    (maybe-all (Formed rom) (Based n) (pattern_c q back) (pattern_c-short n q back b)
    (record { own = m; base = m; plus = short-append n most_vowel m h; grows = inr refl })
    (λ u z. record {
      own = pick_all (Short n) (dash && one && is latin (head rom)) {x = reverse back} {y = rom} (short-reverse b) m;
      base = z.0;
      plus = short-wide n (omega arith) z.1;
      grows = inl z.1.long;
    }))
    (λ u z. record { own = m; base = z.0; plus = short-wide n (omega arith) z.1; grows = inl z.1.long })

-- What the step makes of `rom`
pub record Voiced (rom new : Text) : Type 0 where
  pub short : Short (length rom + most_vowel) new
  pub core : grown rom new ≡ true → consonant_only rom ≡ true

-- what is not longer has not grown
grown_not : (rom new : Text) → length new ≤ length rom → grown rom new ≡ true → ⊥
unfolding grown same
grown_not rom new l e = true≢false (sym e ∙ ap (λ more. starts rom new && not (same more []) && all vowels more) (drop_of_length-le new l)
    ∙ ap (λ b. b && all vowels []) (and-false (starts rom new)))

voiced-kept : {rom new : Text} → Short (length rom) new → Voiced rom new
voiced-kept {rom} {new} s = record {
  short = short-wide (length rom) (omega arith) s;
  core = λ g. absurd (grown_not rom new s.long g);
}

voiced-plus : {rom : Text} {u : Text × Text × Text} → Formed rom u → consonant_only u.1 ≡ true → Voiced rom u.2
voiced-plus {rom} {u} f c = record { short = f.plus; core = go f.grows }
  where
    go : (length u.2 ≤ length rom) ⊎ (u.1 ≡ rom) → grown rom u.2 ≡ true → consonant_only rom ≡ true
    go (inl l) g = absurd (grown_not rom u.2 l g)
    go (inr e) g = ap consonant_only (sym e) ∙ c

module _ (L : Lexicon) (t : Text) (v : View) where
  vowel_in-voiced : (w rom base plus : Text) (s e : ℕ) → Voiced w rom → Voiced w base → Voiced w plus
      → Post Text (Voiced w) (vowel_in L t v rom base plus s e)
  unfolding vowel_in
  vowel_in-voiced w rom base plus s e x y z =
      let P = Voiced w in
      post_pick _ (post_ret base y) (post_pick _ (post_ret plus z)
      (post_then (word_start L.classes t v s) _ (λ b. post_ret _
      (pick_all P _ z (pick_all P _ (pick_all P _ x z) (pick_all P _ z (pick_all P _ y (pick_all P _ z x))))))))

  vowel_by-voiced : (rom : Text) (b : Bool) (u : Text × Text × Text) (s e : ℕ) → Formed rom u
      → Post Text (Voiced rom) (vowel_by L t v b u s e)
  unfolding vowel_by
  vowel_by-voiced rom b u s e f =
      post_if (not (consonant_only u.1)) (λ z. post_ret u.0 (voiced-kept f.own))
      (λ z. post_pick b (post_ret u.0 (voiced-kept f.own))
      (vowel_in-voiced rom u.0 u.1 u.2 s e (voiced-kept f.own) (voiced-kept f.base) (voiced-plus f (not-false _ z))))

  pub vowel_step-voiced : (vs : List Vowel) (b : Bool) (rom : Text) (s e : ℕ) → All (λ y. Short most_vowel y.letters) vs → All Low rom
      → Post Text (Voiced rom) (vowel_step L t v vs b rom s e)
  unfolding vowel_step vowel_row
  vowel_step-voiced vs b rom s e h k =
      let P : Vowel → Type 0 = λ y. Short most_vowel y.letters in
      post_maybe _ P (All-head P _ (All-keep P _ vs h))
      (post_ret rom (voiced-kept (record { long = omega arith; low = k })))
      (λ y q. vowel_by-voiced rom b (bases y.ao y.letters rom (eqb (s + 1) e)) s e (bases_formed y.ao y.letters rom (eqb (s + 1) e) q k))
