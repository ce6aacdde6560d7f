-- The vowel step inside a stretch: it answers alike, and brings no space.
use Rattle.std.proofs.Math.Bool.{Bool}
use Rattle.std.specs.Prelude.{◌&&◌, ◌||◌, ◌≡◌, List, [], ◌∷◌, ◌++◌, reverse, ℕ, ◌+◌, ◌≤◌, ◌<◌, length, get_or}
use Rattle.std.proofs.Math.Option.{none, some}
use Rattle.std.proofs.Common.{arith}
use Rattle.std.proofs.Math.Decide.{dec_lt}
use Rattle.std.proofs.Math.Dec.{eqb}
use Rattle.base.specs.Pick.{pick, pick_all}
use Rattle.base.specs.Lists.{put, keep, head, tail, front, after, is}
use Rattle.base.specs.Alls.{All, All-append, All-reverse, All-tail, All-front, All-after, All-put, All-keep, Opt, All-head, All_getD, maybe-all}
use Rattle.base.specs.Bools.{eqb_alike}
use Rattle.definition.specs.Texts.{Text, hyphen, letter_a, letter_o, letter_y, at, latin, consonants, last_is}
use Rattle.definition.specs.Tables.{Vowel, Choices, Lexicon}
use Rattle.definition.specs.Classes.{class, mark, script}
use Rattle.definition.specs.Edges.{View}
use Rattle.definition.specs.Vowels.{vowel_row, before_y, pattern_y, pattern_c, bases, bare, vowel_in, vowel_by, vowel_step}
use Rattle.definition.specs.Blank.{blank_mark}
use Rattle.stretches.specs.Given.{Ink, Solid, Fair, Stretch, Span, at_outside}
use Rattle.stretches.specs.Windows.{Sim, sim_ret, sim_pick, sim_maybe, sim_bind}
use Rattle.stretches.specs.Boundaries.{See, word_end-inside, word_start-inside}

-- Base and base with vowel, where the patterns find them
abbrev Both : Text × Text → Type 0
Both u = Solid u.0 × Solid u.1

pattern_y_solid : (q : ℕ → Bool) (l : Text) → Solid l → Opt Both (pattern_y q l)
unfolding pattern_y
pattern_y_solid q [] s = tt
pattern_y_solid q (c ∷ w) s =
    let y = after (eqb c) w in
    let t = is before_y (head (tail y)) in
    let b = put t (get_or y 1 0) (letter_y ∷ []) in
    let k : Solid b = All-put Ink t (get_or y 1 0) (letter_y ∷ [])
    (λ e. All_getD Ink y 1 0 (All-after Ink (eqb c) w s.1) (λ e. omega arith)) ((λ e. omega arith), tt) in
    pick_all (Opt Both) (q c && is (eqb letter_y) (head y)) {x = some (b, b ++ front (eqb c) (c ∷ w))} {y = none}
    (k, All-append Ink b (front (eqb c) (c ∷ w)) k (All-front Ink (eqb c) (c ∷ w) s)) tt

pattern_c_solid : (q : ℕ → Bool) (l : Text) → Solid l → Opt Both (pattern_c q l)
unfolding pattern_c
pattern_c_solid q [] s = tt
pattern_c_solid q (c ∷ w) s =
    let b = reverse (front consonants w) in
    let k : Solid b = All-reverse Ink (front consonants w) (All-front Ink consonants w s.1) in
    pick_all (Opt Both) (q c && is consonants (head w)) {x = some (b, b ++ c ∷ [])} {y = none}
    (k, All-append Ink b (c ∷ []) k (s.0, tt)) tt

-- The three forms of a romanization
abbrev Three : Text × Text × Text → Type 0
Three u = Solid u.0 × Solid u.1 × Solid u.2

bases_solid : (ao : Bool) (vowel rom : Text) (one : Bool) → Solid vowel → Solid rom → Three (bases ao vowel rom one)
unfolding bases
bases_solid ao vowel rom one s k =
    let q : ℕ → Bool = λ c. eqb c letter_a || (ao && eqb c letter_o) in
    let dash = last_is (eqb hyphen) rom in
    let back = pick dash (tail (reverse rom)) (reverse rom) in
    let r : Solid (reverse rom) = All-reverse Ink rom k in
    let t : Solid (tail (reverse rom)) = All-tail Ink (reverse rom) r in
    let b : Solid back = pick_all Solid dash {x = tail (reverse rom)} {y = reverse rom} t r in
    let cut = dash && one && is latin (head rom) in
    let own = pick_all Solid cut {x = reverse back} {y = rom} (All-reverse Ink back b) k in
    maybe-all Three Both (pattern_y q back) (pattern_y_solid q back b)
    (maybe-all Three Both (pattern_c q back) (pattern_c_solid q back b) (k, k, All-append Ink rom vowel k s)
    (λ u z. (own, z.0, z.1)))
    (λ u z. (k, z.0, z.1))

module _ {L : Lexicon} (fair : Fair L) {T st : Text} {a : ℕ} (h : Stretch T st a) where
  -- the character after a mark is inside, or the space after the stretch
  after-mark : (q : ℕ → Bool) (E e : ℕ) → E ≡ a + e → e ≤ length st
      → (mark L.classes (at st e) && q (at T (E + 1))) ≡ (mark L.classes (at st e) && q (at st (e + 1)))
  after-mark q E e j l = go (dec_lt e (length st))
    where
      go : Dec (e < length st)
          → (mark L.classes (at st e) && q (at T (E + 1))) ≡ (mark L.classes (at st e) && q (at st (e + 1)))
      go (yes k) = rw (h.look (E + 1) (e + 1) (omega arith) (omega arith))
      go (no k) = rw (at_outside st e (omega arith), blank_mark L.classes fair.blank)

  bare-inside : (base : Text) (E e : ℕ) → E ≡ a + e → e ≤ length st
      → bare L.classes T base E ≡ bare L.classes st base e
  unfolding bare
  bare-inside base E e j l = rw (
    h.look E e j l,
    after-mark (λ c. (class L.classes c).sign) E e j l,
    after-mark (λ c. (class L.classes c).virama) E e j l,
  )

  module _ {c : Choices} {W v : View} (g : See c T st a W v) where
    vowel_in-inside : (rom base plus : Text) {P E p e : ℕ} → Span a (length st) P E p e → e ≤ length st
        → Solid rom → Solid base → Solid plus
        → Sim a (length st) Text (λ x. x) Solid (vowel_in L T W rom base plus P E) (vowel_in L st v rom base plus p e)
    unfolding vowel_in
    vowel_in-inside rom base plus {P} {E} {p} {e} z l r b k = rw (
      bare-inside base E e z.to l,
      h.back P p z.from z.begins,
      h.back E e z.to l,
      h.look P p z.from z.begins,
      h.look E e z.to l,
      word_end-inside fair h E e z.to l,
    )
        (sim_pick _ (sim_ret base b) (sim_pick _ (sim_ret plus k)
        (sim_bind _ (word_start-inside fair h g P p z.from (omega arith)) (λ c q. sim_ret _
        (pick_all Solid _ k (pick_all Solid _ (pick_all Solid _ r k)
        (pick_all Solid _ k (pick_all Solid _ b (pick_all Solid _ k r)))))))))

    vowel_by-inside : (t : Bool) (u : Text × Text × Text) {P E p e : ℕ} → Span a (length st) P E p e → e ≤ length st
        → Three u → Sim a (length st) Text (λ x. x) Solid (vowel_by L T W t u P E) (vowel_by L st v t u p e)
    unfolding vowel_by
    vowel_by-inside t u z l s = sim_pick _ (sim_ret u.0 s.0) (sim_pick t (sim_ret u.0 s.0)
        (vowel_in-inside u.0 u.1 u.2 z l s.0 s.1 s.2))

    pub vowel_step-inside : (vs : List Vowel) → All (λ y. Solid y.letters) vs
        → (t : Bool) (rom : Text) {P E p e : ℕ} → Span a (length st) P E p e → e ≤ length st → Solid rom
        → Sim a (length st) Text (λ x. x) Solid (vowel_step L T W vs t rom P E) (vowel_step L st v vs t rom p e)
    unfolding vowel_step vowel_row
    vowel_step-inside vs sv t rom {P} {E} {p} {e} z l s =
        let Y : Vowel → Type 0 = λ y. Solid y.letters in
        let q : Vowel → Bool = λ y. eqb y.script (script L.classes (at st p)) in
        rw (h.look P p z.from z.begins, eqb_alike (P + 1) E (p + 1) e (λ q. omega arith) (λ q. omega arith))
        (sim_maybe Y (head (keep q vs)) (All-head Y (keep q vs) (All-keep Y q vs sv)) (sim_ret rom s)
        (λ y k. vowel_by-inside t (bases y.ao y.letters rom (eqb (p + 1) e)) z l
        (bases_solid y.ao y.letters rom (eqb (p + 1) e) k s)))
