-- What the premises of demand 3 give, in the form that the proof takes.
-- (proofs/Given: the premises give it.)
use Rattle.std.specs.Prelude.{Bool, true, false, not, ◌&&◌, ◌||◌, ◌≡◌, refl, List, [], ◌∷◌, ◌++◌, ℕ, suc, ◌+◌, ◌≤◌, ◌<◌, eqb, length}
use Rattle.std.proofs.Common.{true≢false, sym, ◌∙◌, ap, append_assoc, arith, length-append, leb-true, eq-eqb, eqb-true}
use Rattle.std.proofs.Math.Option.{Option, none, some}
use Rattle.std.proofs.Math.ListN.{get_or-eq_default}
use Rattle.std.proofs.Math.Seq.{get_or-append_seam}
use Rattle.base.specs.Pick.{pick}
use Rattle.base.specs.Bools.{and_left, and_right}
use Rattle.base.specs.Lists.{keep, any}
use Rattle.base.specs.Alls.{All, All-map, any_cong, keep_cong, Opt, all-all}
use Rattle.definition.specs.Limits.{most_choice}
use Rattle.definition.specs.Texts.{Text, the_space, at, prev, latin}
use Rattle.definition.specs.Tables.{Rule, Class, Decomposition, Lexicon, Tables, lexicon, category_other, category_Zs}
use Rattle.definition.specs.Blocks.{small}
use Rattle.definition.specs.VowelRows.{vowel_letters, vowel_of, vowel_right}
use Rattle.definition.specs.ClassRows.{class_right, class_by, class_of}
use Rattle.definition.specs.Classes.{plain, class}
use Rattle.definition.specs.Decomposing.{stands_for}
use Rattle.definition.specs.Checked.{class-checked, vowel-checked}
use Rattle.definition.specs.Blank.{Blank}
use Rattle.stretches.specs.Demand.{spaceless, spaceless_if, spaceless_rule, has_row, Before, start, After, end}

-- No space in a text; in a rule's source and targets
abbrev pub Ink : ℕ → Type 0
Ink c = c ≡ the_space → ⊥

abbrev pub Solid : Text → Type 0
Solid w = All Ink w

pub record SolidRule (r : Rule) : Type 0 where
  pub source : Solid r.source
  pub target : Opt Solid r.target
  pub end_target : Opt Solid r.end_target

-- What is asked of rules and classes: the space is plain, no rule has one
pub record Fair (L : Lexicon) : Type 0 where
  pub blank : Blank (class L.classes the_space)
  pub row : (class L.classes the_space).category ≡ pick (has_row L.classes the_space) category_Zs category_other
  pub rules : All SolidRule L.rules

-- and of all tables: no vowel has one, it stands for nothing else, and the choice of O ang is 0 or 1
pub record FairTables (D : Tables) (ds : List Decomposition) : Type 0 where
  pub lexicon : Fair (lexicon D)
  pub vowels : All (λ y. Solid y.letters) D.vowels
  pub itself : stands_for ds the_space ≡ none
  pub o_ang : D.choices.o_ang ≤ most_choice

pub sources : {L : Lexicon} → Fair L → All (λ r. Solid r.source) L.rules
sources {L} fair = All-map (λ r s. s.source) L.rules fair.rules

-- tests that solid sources answer alike
pub any-rules : {L : Lexicon} → Fair L → (f g : Rule → Bool) → ((r : Rule) → Solid r.source → f r ≡ g r)
    → any f L.rules ≡ any g L.rules
any-rules {L} fair f g q = any_cong f g L.rules (All-map q L.rules (sources fair))

pub keep-rules : {L : Lexicon} → Fair L → (f g : Rule → Bool) → ((r : Rule) → Solid r.source → f r ≡ g r)
    → keep f L.rules ≡ keep g L.rules
keep-rules {L} fair f g q = keep_cong f g L.rules (All-map q L.rules (sources fair))

-- The tables: what Demand tests, as facts
solid_by : (w : Text) → spaceless w ≡ true → Solid w
unfolding spaceless
solid_by w e = all-all Ink (λ c. not (eqb c the_space)) ink w e
  where
    ink : (c : ℕ) → not (eqb c the_space) ≡ true → Ink c
    ink c t z = true≢false (sym t ∙ ap not (eq-eqb c the_space z))

solid_if : (o : Option Text) → spaceless_if o ≡ true → Opt Solid o
unfolding spaceless_if
solid_if none e = tt
solid_if (some w) e = solid_by w e

three_tests : (x y z : Bool) → (x && y && z) ≡ true → (x ≡ true) × (y ≡ true) × (z ≡ true)
three_tests x y z e =
    let f = and_left (x && y) z e in
    (and_left x y f, and_right x y f, and_right (x && y) z e)

pub solid_rule : (r : Rule) → spaceless_rule r ≡ true → SolidRule r
unfolding spaceless_rule
solid_rule r e =
    let t = three_tests _ _ _ e in
    record {
      source = solid_by r.source t.0;
      target = solid_if r.target t.1;
      end_target = solid_if r.end_target t.2;
    }

-- a row for U+0020 says that it is a space, and without a row it is of no category
abbrev pub SpaceRow : Class → Type 0
SpaceRow k = k.char ≡ the_space → k.category ≡ category_Zs

pub space_checked : (low : ℕ) (s : List ℕ) → class_right low s ≡ true → SpaceRow (class_of s)
unfolding class_of class_by
space_checked low s e q = ((class-checked low s e).space q).0

pub space_row : (ks : List Class) → All SpaceRow ks
    → (class ks the_space).category ≡ pick (has_row ks the_space) category_Zs category_other
unfolding class plain latin pick has_row any
space_row [] h = refl
space_row (k ∷ ks) h = go (eqb k.char the_space) refl (space_row ks h.1)
  where
    go : (b : Bool) → eqb k.char the_space ≡ b
        → (class ks the_space).category ≡ pick (has_row ks the_space) category_Zs category_other
        → (elim b as (λ x. Class) [ true ↦ k | false ↦ class ks the_space ]).category
        ≡ pick (b || has_row ks the_space) category_Zs category_other
    go true e r = h.0 (eqb-true k.char the_space e)
    go false e r = r

-- a vowel's letters are a to z
pub solid_vowel : (low : ℕ) (s : List ℕ) → vowel_right low s ≡ true → Solid (vowel_of s).letters
unfolding vowel_of small
solid_vowel low s e = all-all Ink small (λ c q z. let l = leb-true 97 c (and_left _ _ q) in omega arith)
    (vowel_letters s) (vowel-checked low s e).letters

-- From here on capital letters are positions of the whole text `T`, small ones of the stretch `st`: `P ≡ a + p`.
-- The stretch stands in the text from `a` on: up to its end each character, and the one before it, is read alike.
-- (So before it and after it a space is read)
pub record Stretch (T st : Text) (a : ℕ) : Type 0 where
  pub look : (P p : ℕ) → P ≡ a + p → p ≤ length st → at T P ≡ at st p
  pub back : (P p : ℕ) → P ≡ a + p → p ≤ length st → prev T P ≡ prev st p
  pub room : a + length st ≤ length T

-- the span from `P` to `E` of the text is that from `p` to `e` of the stretch, and starts in it
pub record Span (a n P E p e : ℕ) : Type 0 where
  pub from : P ≡ a + p
  pub to : E ≡ a + e
  pub forward : p < e
  pub begins : p ≤ n

-- Outside a text a space is read
pub at_outside : (t : Text) (p : ℕ) → length t ≤ p → at t p ≡ the_space
unfolding at
at_outside t p h = get_or-eq_default t the_space h

pub prev_zero : (t : Text) → prev t 0 ≡ the_space
unfolding prev
prev_zero t = refl

pub prev_suc : (t : Text) (p : ℕ) → prev t (suc p) ≡ at t p
unfolding prev
prev_suc t p = refl

-- a space after the stretch, and one before it
space_after : (st y : Text) → at (st ++ the_space ∷ y) (length st) ≡ the_space
unfolding at
space_after st y = get_or-append_seam st the_space y the_space

space_before : (x r : Text) → prev ((x ++ the_space ∷ []) ++ r) (length (x ++ the_space ∷ [])) ≡ the_space
unfolding at
space_before x r =
    let e : length (x ++ the_space ∷ []) ≡ suc (length x) = omega (arith, length-append x (the_space ∷ [])) in
    rw (append_assoc, e, prev_suc) (get_or-append_seam x the_space r the_space)

pub at_after : (st : Text) {y : Text} → After y → at (st ++ y) (length st) ≡ the_space
at_after st end = at_outside (st ++ []) (length st) (omega (arith, length-append st []))
at_after st (After.space y) = space_after st y

pub prev-before : {x : Text} (r : Text) → Before x → prev (x ++ r) (length x) ≡ the_space
prev-before r start = prev_zero r
prev-before r (Before.space x) = space_before x r
