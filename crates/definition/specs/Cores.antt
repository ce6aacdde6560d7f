-- Why an edge's core needs no comparison: its text has it. Under `note_core` the text is consonants, which are the
-- core, and then vowels, 4 at most; every other edge has none.
use Rattle.std.specs.Prelude.{Bool, not, ◌&&◌, ◌||◌, ◌≡◌, [], ◌∷◌, ◌++◌, reverse, ℕ, ◌+◌, ◌≤◌, ◌<◌, eqb, length, drop}
use Rattle.std.proofs.Math.Bool.{true, false, or-true}
use Rattle.std.proofs.Math.Path.{refl, subst}
use Rattle.std.proofs.Common.{sym, ap, ◌∙◌, length-drop, eqb-true}
use Rattle.std.proofs.lemmas.List.{reverse-append, length-reverse}
use Rattle.std.proofs.Math.Option.{Option}
use native.Mathlib.Omega.{arith}
use Rattle.std.proofs.Math.Decide.{ℕ_discrete}
use Rattle.std.proofs.lemmas.Bool.{not-true}
use Rattle.base.specs.Pick.{pick, pick_all}
use Rattle.base.specs.Bools.{and_left, and_right}
use Rattle.base.specs.Lists.{any, all, head, is, has, front, same, starts, bind, keep}
use Rattle.base.specs.ListLaws.{any_append, same_none, same_true, some_left, starts_split}
use Rattle.base.specs.Alls.{Opt, Opt-any, maybe-all, bind_all, or_else-all, all-reverse}
use Rattle.definition.specs.Limits.{most_vowel}
use Rattle.definition.specs.Notes.{note_none, note_core, note_tail, note_rom, note_del}
use Rattle.definition.specs.Texts.{Text, prev, consonants, vowels, last_is, the_space}
use Rattle.definition.specs.Tables.{Choices, Lexicon}
use Rattle.definition.specs.Edges.{Edge, View, alike}
use Rattle.definition.specs.Rules.{simple}
use Rattle.definition.specs.Vowels.{consonant_only}
use Rattle.definition.specs.Expansion.{Work, work, capitalize, double, around, around_by, widen, framed, before, pre_vowel, silent, small_target, trim_front}
use Rattle.definition.specs.Expansion.{trim_back, trim, finish, grave, small_y, rest, o_ang_step, thai, by_script, expand}
use Rattle.definition.specs.Building.{grown, as_edge}
use Rattle.definition.specs.Blocks.{small}
use Rattle.definition.specs.Capitals.{small_stays, capitalize_ind}
use Rattle.definition.specs.Posts.{Post, post_ret, post_bind, post_then, post_pick, post_maybe}
use Rattle.definition.specs.VowelBounds.{Voiced}
use Rattle.definition.specs.Letters.{vowel-small, vowel_no_space, consonant_no_space, front-consonants}

-- Consonants, `core` of them, then vowels
pub record Syllable (text : Text) (core : ℕ) : Type 0 where
  pub first : Text
  pub then : Text
  pub whole : text ≡ first ++ then
  pub size : core ≡ length first
  pub consonants : all consonants first ≡ true
  pub vowels : all vowels then ≡ true
  pub some_first : 0 < length first
  pub some_then : 0 < length then
  pub few : length then ≤ most_vowel

-- so the core is the longest front of consonants
pub syllable_core : {text : Text} {core : ℕ} → Syllable text core → core ≡ length (front consonants text)
syllable_core {text} {core} y =
    y.size ∙ sym (ap length (ap (front consonants) y.whole ∙ front-consonants y.first y.then y.consonants y.vowels))

-- What the vowel step has grown is such a syllable
grown_syllable : (rom new : Text) → Voiced rom new → grown rom new ≡ true → Syllable new (length rom)
unfolding grown consonant_only
grown_syllable rom new h g =
    let c = h.core g in
    let more = drop (length rom) new in
    let s = and_left _ _ g in
    record {
      first = rom;
      then = more;
      whole = starts_split rom new (and_left _ _ s);
      size = refl;
      consonants = and_right (not (same rom [])) _ c;
      vowels = and_right (starts rom new && not (same more [])) _ g;
      some_first = some_left rom (sym (same_none rom) ∙ not-true _ (and_left _ _ c));
      some_then = some_left more (sym (same_none more) ∙ not-true _ (and_right (starts rom new) _ s));
      few = let z = h.short.long in omega (arith, length-drop (length rom) new);
    }

-- A text that neither capitals nor trimming change: it has a small letter, and no space at either end
pub record Steady (w : Text) : Type 0 where
  pub front : is (eqb the_space) (head w) ≡ false
  pub back : last_is (eqb the_space) w ≡ false
  pub small : any small w ≡ true

first-is : (q : ℕ → Bool) (w u : Text) → 0 < length w → is q (head (w ++ u)) ≡ is q (head w)
unfolding head
first-is q [] u l = absurd (omega arith)
first-is q (c ∷ w) u l = refl

last_in : (q : ℕ → Bool) (w u : Text) → 0 < length u → last_is q (w ++ u) ≡ last_is q u
unfolding last_is
last_in q w u l = ap (λ r. is q (head r)) (reverse-append w u) ∙ first-is q (reverse u) (reverse w) (omega (arith, length-reverse u))

all_first : (P q : ℕ → Bool) → ((c : ℕ) → P c ≡ true → q c ≡ false) → (w : Text) → all P w ≡ true → is q (head w) ≡ false
unfolding head all
all_first P q f [] e = refl
all_first P q f (c ∷ w) e = f c (and_left _ _ e)

-- a vowel is a small letter
vowel_in : (w : Text) → 0 < length w → all vowels w ≡ true → any small w ≡ true
unfolding any all
vowel_in [] l e = absurd (omega arith)
vowel_in (c ∷ w) l e = ap (λ b. b || any small w) (vowel-small c (and_left _ _ e))

small_in : (w u : Text) → any small u ≡ true → any small (w ++ u) ≡ true
small_in w u e = any_append small w u ∙ ap (λ b. any small w || b) e ∙ or-true (any small w)

syllable_steady : {text : Text} {core : ℕ} → Syllable text core → Steady text
unfolding last_is
syllable_steady {text} y = record {
  front = ap (λ w. is (eqb the_space) (head w)) y.whole ∙ first-is (eqb the_space) y.first y.then y.some_first
      ∙ all_first consonants (eqb the_space) consonant_no_space y.first y.consonants;
  back = ap (last_is (eqb the_space)) y.whole ∙ last_in (eqb the_space) y.first y.then y.some_then
      ∙ all_first vowels (eqb the_space) vowel_no_space (reverse y.then) (all-reverse vowels y.then y.vowels);
  small = ap (any small) y.whole ∙ small_in y.first y.then (vowel_in y.then y.some_then y.vowels);
}

-- The expansion annotates what it makes, and else leaves such a text as it is
pub record Kept (rom : Text) (w : Work) : Type 0 where
  pub is : w.note ≡ note_none → Steady rom → w.rom ≡ rom
  pub coreless : w.note ≡ note_core → ⊥
  pub known : w.note ≤ note_del

acted : {rom : Text} {w : Work} → note_core < w.note → w.note ≤ note_del → Kept rom w
acted l k = record { is = λ z. absurd (omega arith); coreless = λ z. omega arith; known = k }

module _ (L : Lexicon) (t : Text) (rom : Text) where
  capitalize-kept : (c : Choices) (s e : ℕ) → Kept rom (capitalize c L.classes t (work rom s e note_none))
  capitalize-kept c s e = record {
    is = λ z y. ap (λ (w : Work). w.rom) (small_stays c L.classes t w₀ y.small);
    coreless = capitalize_ind (λ w. w.note ≡ note_core → ⊥) c L.classes t w₀ (λ z. omega arith) (λ z. omega arith);
    known = capitalize_ind (λ w. w.note ≤ note_del) c L.classes t w₀ (omega arith) (omega arith);
  }
    where
      w₀ : Work
      w₀ = work rom s e note_none

  double-kept : (o : ℕ) (w : Work) → Kept rom w → Kept rom (double L.classes t o w)
  unfolding double
  double-kept o w h = pick_all (Kept rom) _ (acted (omega arith) (omega arith)) h

  before-kept : (w : Work) → Kept rom w → Kept rom (before L.rules L.classes t w)
  unfolding before
  before-kept w h = maybe-all (Kept rom) (λ y. Unit {0}) (pre_vowel L.rules L.classes t w) (Opt-any (pre_vowel L.rules L.classes t w)) h (λ y q. acted (omega arith) (omega arith))

  around_by-kept : (k : ℕ) (w : Work) → Opt (Kept rom) (around_by L.rules t k w)
  unfolding around_by widen
  around_by-kept k w = bind_all (Kept rom) (λ y. Unit {0}) o _ (Opt-any o) (λ y q. acted (omega arith) (omega arith))
    where
      o : Option Text
      o = bind (head (keep (framed t (prev t w.from) k w.to) L.rules)) (λ r. r.target)

  around-kept : (w : Work) → Opt (Kept rom) (around L.rules L.classes t w)
  unfolding around
  around-kept w = pick_all (Opt (Kept rom)) _
      (or_else-all (Kept rom) (around_by L.rules t 3 w) _ (around_by-kept 3 w)
      (or_else-all (Kept rom) (around_by L.rules t 2 w) _ (around_by-kept 2 w) (around_by-kept 1 w))) tt

  module _ (v : View) where
    trim-kept : (w : Work) → Kept rom w → Kept rom (trim t w)
    unfolding trim trim_front trim_back pick
    trim-kept w h = record { is = λ z y. let e = h.is z y in rw (e, y.front, y.back); coreless = h.coreless; known = h.known }

    finish-kept : (w : Work) → Kept rom w → Kept rom (finish L.classes t w)
    unfolding finish
    finish-kept w h = pick_all (Kept rom) _ (acted (omega arith) (omega arith)) (pick_all (Kept rom) _ (acted (omega arith) (omega arith)) (trim-kept w h))

    grave-kept : (o : ℕ) (w : Work) → Kept rom w → Post Work (Kept rom) (grave L t v o w)
    unfolding grave
    grave-kept o w h = post_pick _
        (post_then (simple L t v o (w.to + 1)) _ (λ r. post_ret _ (pick_all (Kept rom) (has r) h (acted (omega arith) (omega arith)))))
        (post_ret w h)

    small_y-kept : (o : ℕ) (w : Work) → Kept rom w → Post Work (Kept rom) (small_y L t v o w)
    unfolding small_y
    small_y-kept o w h =
        let y = small_target L.rules L.classes t w in
        post_maybe y (λ y. Unit {0}) (Opt-any y) (post_ret w h)
        (λ y q. post_then (simple L t v o (w.to + 1)) _ (λ r. post_pick (has r) (post_ret w h)
        (post_then (simple L t v w.from (w.to + 1)) _ (λ u. post_ret _ (pick_all (Kept rom) (has u) h (acted (omega arith) (omega arith)))))))

    rest-kept : (o : ℕ) (w : Work) → Kept rom w → Post Work (Kept rom) (rest L t v o w)
    unfolding rest
    rest-kept o w h = post_bind (Kept rom) _ (grave-kept o w h)
        (λ u q. post_bind (Kept rom) _ (small_y-kept o u q) (λ x z. post_ret _ (finish-kept x z)))

    thai-kept : (c : Choices) (o : ℕ) (w : Work) → Kept rom w → Post Work (Kept rom) (thai L t v c o w)
    unfolding thai o_ang_step
    thai-kept c o w h =
        let b = before L.rules L.classes t w in
        post_maybe (around L.rules L.classes t w) (Kept rom) (around-kept w)
        (post_pick (silent c L.rules L.classes t v o b) (post_ret _ (acted (omega arith) (omega arith))) (rest-kept o b (before-kept w h)))
        (λ x q. post_ret x q)

    pub expand-kept : (c : Choices) (s e : ℕ) → Post Work (Kept rom) (expand L t v c rom s e)
    unfolding expand by_script
    expand-kept c s e =
        let w = work rom s e note_none in
        let k : Kept rom w = record { is = λ z y. refl; coreless = λ z. omega arith; known = omega arith } in
        let u = capitalize c L.classes t w in
        let d = double L.classes t s u in
        let kept = double-kept s u (capitalize-kept c s e) in
        post_pick _ (post_ret w k) (post_pick _ (thai-kept c s d kept) (rest-kept s d kept))

-- What is said of every edge: a core only under its annotation, and then the text has it
pub record Cored (x : Edge) : Type 0 where
  pub there : x.note ≡ note_core → Syllable x.text x.core
  pub absent : (x.note ≡ note_core → ⊥) → x.core ≡ 0

-- so one text, under one annotation, has one core
cored-same : (x y : Edge) → Cored x → Cored y → x.note ≡ y.note → x.text ≡ y.text → x.core ≡ y.core
cored-same x y p q n t = go (ℕ_discrete x.note note_core)
  where
    go : Dec (x.note ≡ note_core) → x.core ≡ y.core
    go (yes e) =
        let a = syllable_core (p.there e) in
        let b = syllable_core (q.there (sym n ∙ e)) in
        a ∙ ap (λ w. length (front consonants w)) t ∙ sym b
    go (no e) = p.absent e ∙ sym (q.absent (λ z. e (n ∙ z)))

-- Edges alike, from one start, are equal
pub alike_equal : (x y : Edge) → Cored x → Cored y → x.from ≡ y.from → alike x y ≡ true → x ≡ y
unfolding alike
alike_equal x y p q f e =
    let a = and_left _ _ (and_left _ _ e) in
    let t = eqb-true x.to y.to a in
    let n = eqb-true x.note y.note (and_right (eqb x.to y.to) _ (and_left _ _ e)) in
    let w = same_true x.text y.text (and_right (eqb x.to y.to && eqb x.note y.note) _ e) in
    equal x.from y.from x.to y.to x.note y.note x.core y.core x.text y.text f t n (cored-same x y p q n w) w
  where
    edge : ℕ → ℕ → ℕ → ℕ → Text → Edge
    edge a b c d w = record { from = a; to = b; note = c; core = d; text = w }

    equal : (a a' b b' c c' d d' : ℕ) (w w' : Text) → a ≡ a' → b ≡ b' → c ≡ c' → d ≡ d' → w ≡ w'
        → ◌≡◌ {A = Edge} (record { from = a; to = b; note = c; core = d; text = w }) (record { from = a'; to = b'; note = c'; core = d'; text = w' })
    equal a a' b b' c c' d d' w w' p q r s t = cc

-- The edge of a step is so
abbrev noted : Bool → Text → Text → Work → Bool → Bool → Edge
noted b rom new x own g = record {
  from = x.from;
  to = x.to;
  note = pick own (pick g note_core (pick b note_tail note_rom)) x.note;
  core = pick (own && g) (length rom) 0;
  text = x.rom;
}

pub edge-cored : (b : Bool) (rom new : Text) (x : Work) → Voiced rom new → Kept new x → Cored (as_edge b rom new x)
unfolding as_edge
edge-cored b rom new x h k = go (eqb x.note note_none) (grown rom new) refl refl
  where
    plain : (b : Bool) → pick b note_tail note_rom ≡ note_core → ⊥
    plain true e = unfold pick in omega arith
    plain false e = unfold pick in omega arith

    go : (own g : Bool) → eqb x.note note_none ≡ own → grown rom new ≡ g → Cored (noted b rom new x own g)
    go true true p q = unfold pick in record {
      there = λ z.
          let y = grown_syllable rom new h q in
          subst (λ w. Syllable w (length rom)) (sym (k.is (eqb-true x.note note_none p) (syllable_steady y))) y;
      absent = λ z. absurd (z refl);
    }
    go true false p q = unfold pick in record { there = λ z. absurd (plain b z); absent = λ z. refl }
    go false g p q = unfold pick in record { there = λ z. absurd (k.coreless z); absent = λ z. refl }

pub edge-known : (b : Bool) (rom new : Text) (x : Work) → Kept new x → (as_edge b rom new x).note ≤ note_del
unfolding as_edge
edge-known b rom new x k =
    let P : ℕ → Type 0 = λ n. n ≤ note_del in
    pick_all P (eqb x.note note_none)
    (pick_all P (grown rom new) (omega arith) (pick_all P b (omega arith) (omega arith))) k.known

-- and any without a core
pub uncored : (x : Edge) → note_core < x.note → x.core ≡ 0 → Cored x
uncored x l e = record { there = λ z. absurd (omega arith); absent = λ z. e }
