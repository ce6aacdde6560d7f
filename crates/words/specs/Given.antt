-- What the engine is lent, in two slices: the line is the text's characters between spaces, one before and two behind,
-- and then the class of each of these in one number; what was made ready is of each ASCII character whether it is a
-- letter, then the choices and the mode, the index of the decomposition table, and the index of the rule table with what is
-- kept of characters. What they stand for is a world: a class table, the choices, a text, and the edges so far, which places
-- show.
use Rattle.std.specs.Prelude.{Bool, ◌&&◌, ◌≡◌, refl, ℕ, zero, suc, ◌+◌, ◌-◌, ◌/◌, ◌%◌, ◌≤◌, ◌<◌, leb, length, get_or, drop, replicate}
use Rattle.std.proofs.Common.{sym, ◌∙◌, arith, length-append, get_or-append-add}
use Rattle.std.proofs.Math.Path.{ap, subst}
use mathlib.Core.List.{List, [], ◌∷◌, ◌++◌, append_assoc}
use Rattle.std.proofs.Math.Numerals.{add-one}
use Rattle.std.proofs.Math.ListN.{take, length-drop, get_or-append}
use Rattle.std.proofs.Math.Seq.{take-append-le}
use Rattle.std.proofs.lemmas.List.{drop-append-le}
use Rattle.definition.specs.Limits.{ascii_characters, most_characters}
use Rattle.definition.specs.Texts.{Text, the_space, at, prev}
use Rattle.definition.specs.Tables.{Class, Choices}
use Rattle.definition.specs.ClassRows.{classes_of}
use Rattle.definition.specs.Classes.{class, alpha}
use Rattle.definition.specs.Edges.{Edge, View, view}
use Rattle.utf8.specs.Lines.{spaced}
use Rattle.table_classes.specs.Told.{Fine, packed, kinds_of, alphas_of}
use Rattle.table_classes.specs.Packing.{Says, says, says_alpha, kinds-at, kinds-length}
use Rattle.rule_memo.specs.Kept.{all_places, Kept}
use Rattle.edge_places.specs.Shows.{Shows, told, shows_none, shows_told}

-- what stands from `s` to `e`
abbrev pub part : Text → ℕ → ℕ → Text
part t s e = take (e - s) (drop s t)

-- what a packed class says of a letter or mark
unfoldable pub alpha_kind : ℕ → Bool
alpha_kind k = leb 1 (k % 8) && leb (k % 8) 3

-- the line's text has so many characters; the class at a place
abbrev pub size_in : List ℕ → ℕ
size_in line = length line / 2 - 3

abbrev pub kind_in : List ℕ → ℕ → ℕ
kind_in line i = get_or line (length line / 2 + i) 0

-- what was made ready: of each ASCII character whether it is a letter, the choices, the mode, and both indexes
abbrev pub letters_in : List ℕ → List ℕ
letters_in ready = take ascii_characters ready

abbrev pub choices_in : List ℕ → Choices
choices_in ready = record {
  capitals = get_or ready ascii_characters 0;
  o_ang = get_or ready (ascii_characters + 1) 0;
  readings = get_or ready (ascii_characters + 2) 0;
}

abbrev pub mode_in : List ℕ → ℕ
mode_in ready = get_or ready (ascii_characters + 3) 0

-- the index of the decomposition table has so many entries
abbrev pub form_entries : ℕ
form_entries = 512

abbrev pub forms_from : ℕ
forms_from = ascii_characters + 4

abbrev pub forms_in : List ℕ → List ℕ
forms_in ready = take form_entries (drop forms_from ready)

abbrev pub index_from : ℕ
index_from = forms_from + form_entries

abbrev pub index_in : List ℕ → List ℕ
index_in ready = drop index_from ready

-- all of it, and the line that is prepared behind it
abbrev pub all_ready : ℕ
all_ready = index_from + all_places

abbrev pub ready_in : List ℕ → List ℕ
ready_in prepared = take all_ready prepared

abbrev pub line_in : List ℕ → List ℕ
line_in prepared = drop all_ready prepared

pub record Prepared (rules ready : List ℕ) : Type 0 where
  pub table : Kept rules (index_in ready)
  pub long : index_from ≤ length ready

-- A world: class table, choices, text and edges
pub record World : Type 0 where
  pub classes : List ℕ
  pub choices : Choices
  pub text : Text
  pub edges : List Edge

abbrev pub kinds : World → List Class
kinds w = classes_of w.classes

abbrev pub seen : World → View
seen w = view (kinds w) w.edges

abbrev pub size : World → ℕ
size w = length w.text

pub record Lined (w : World) (line : List ℕ) : Type 0 where
  pub fine : Fine w.classes
  pub few : size w ≤ most_characters
  pub is : line ≡ spaced w.text ++ kinds_of w.classes (spaced w.text)

-- the letters are those of its class table, and the choices its own
pub record Told (w : World) (ready : List ℕ) : Type 0 where
  pub letters : letters_in ready ≡ alphas_of w.classes
  pub choices : choices_in ready ≡ w.choices

pub record Lent (w : World) (line places : List ℕ) : Type 0 where
  pub text : Lined w line
  pub edges : Shows (kinds w) w.edges (size w) places

-- a line is made of any text that is not too long, and at first there are no edges and nothing is told
pub lined : (w : World) → Fine w.classes → size w ≤ most_characters → Lined w (spaced w.text ++ kinds_of w.classes (spaced w.text))
lined w f h = record { fine = f; few = h; is = refl }

pub lent_none : (w : World) (line : List ℕ) (k : ℕ) → Lined w line → w.edges ≡ [] → size w < k → Lent w line (replicate k 0)
lent_none w line k g e h = record {
  text = g;
  edges = subst (λ (es : List Edge). Shows (kinds w) es (size w) (replicate k 0)) (sym e) (shows_none (kinds w) (size w) k h);
}

-- places that tell the same are lent as well
pub lent-after : {w : World} {line before : List ℕ} (after : List ℕ) → Lent w line before → told after ≡ told before → Lent w line after
lent-after after g e = record { text = g.text; edges = shows_told g.edges after e }

-- a list read with another default within its length
pub get_d_any : (l : List ℕ) (i a b : ℕ) → i < length l → get_or l i a ≡ get_or l i b
get_d_any [] i a b h = absurd (omega arith)
get_d_any (x ∷ l) zero a b h = refl
get_d_any (x ∷ l) (suc i) a b h = get_d_any l i a b (omega arith)

spaced-length : (t : Text) → length (spaced t) ≡ length t + 3
unfolding spaced
spaced-length t = omega (arith, length-append t (the_space ∷ the_space ∷ []))

-- behind the text stand spaces
behind : (t : Text) (i : ℕ) → i ≤ length t + 1 → get_or (t ++ the_space ∷ the_space ∷ []) i 0 ≡ get_or t i the_space
behind [] zero h = refl
behind [] (suc zero) h = refl
behind [] (suc (suc i)) h = absurd (omega arith)
behind (c ∷ t) zero h = refl
behind (c ∷ t) (suc i) h = behind t i (omega arith)

spaced-prev : (t : Text) (p : ℕ) → p ≤ length t + 2 → get_or (spaced t) p 0 ≡ prev t p
unfolding spaced prev at
spaced-prev t zero h = refl
spaced-prev t (suc p) h = behind t p (omega arith)

module _ {w : World} {line : List ℕ} (g : Lined w line) where
  abbrev t : Text
  t = w.text

  abbrev n : ℕ
  n = length t

  pub line-half : length line / 2 ≡ n + 3
  line-half =
      omega (arith, ap length g.is, length-append (spaced t) (kinds_of w.classes (spaced t)), kinds-length w.classes (spaced t), spaced-length t)

  pub line-size : size_in line ≡ n
  line-size = omega (arith, line-half)

  pub char_before : (p : ℕ) → p ≤ n + 2 → get_or line p 0 ≡ prev t p
  char_before p h =
      ap (λ (l : List ℕ). get_or l p 0) g.is
      ∙ get_or-append (spaced t) (kinds_of w.classes (spaced t)) 0 p (omega (arith, spaced-length t)) ∙ spaced-prev t p h

  pub char_at : (p : ℕ) → p ≤ n + 1 → get_or line (p + 1) 0 ≡ at t p
  unfolding prev
  char_at p h = char_before (p + 1) (omega arith) ∙ ap (prev t) (add-one p)

  pub kind_before : (p : ℕ) → p ≤ n + 2 → Says (kind_in line p) (class (kinds w) (prev t p))
  kind_before p h =
      let k = kinds_of w.classes (spaced t) in
      let e : length line / 2 + p ≡ length (spaced t) + p = omega (arith, line-half, spaced-length t) in
      subst (λ m. Says m (class (kinds w) (prev t p)))
      (sym (ap (λ i. get_or line i 0) e ∙ ap (λ (l : List ℕ). get_or l (length (spaced t) + p) 0) g.is
      ∙ get_or-append-add (spaced t) k p 0 ∙ kinds-at w.classes (spaced t) p (omega (arith, spaced-length t))
      ∙ ap (λ c. packed (class (kinds w) c)) (spaced-prev t p h)))
      (says w.classes g.fine (prev t p))

  pub kind_at : (p : ℕ) → p ≤ n + 1 → Says (kind_in line (p + 1)) (class (kinds w) (at t p))
  unfolding prev
  kind_at p h = subst (λ c. Says (kind_in line (p + 1)) (class (kinds w) c)) (ap (prev t) (add-one p)) (kind_before (p + 1) (omega arith))

  pub alpha-before : (p : ℕ) → p ≤ n + 2 → alpha_kind (kind_in line p) ≡ alpha (kinds w) (prev t p)
  unfolding alpha_kind
  alpha-before p h = says_alpha (kind_in line p) (prev t p) (kinds w) (kind_before p h)

  pub alpha-at : (p : ℕ) → p ≤ n + 1 → alpha_kind (kind_in line (p + 1)) ≡ alpha (kinds w) (at t p)
  unfolding alpha_kind
  alpha-at p h = says_alpha (kind_in line (p + 1)) (at t p) (kinds w) (kind_at p h)

  -- a part of the text in the line
  pub part_at : (s e a z : ℕ) → s ≤ e → e ≤ n → a ≡ s + 1 → z ≡ e - s → take z (drop a line) ≡ part t s e
  unfolding spaced
  part_at s e a z h k p q =
      let rest = kinds_of w.classes (spaced t) in
      ap (λ m. take m (drop a line)) q ∙ ap (λ m. take (e - s) (drop m line)) (p ∙ add-one s)
      ∙ ap (λ (l : List ℕ). take (e - s) (drop (suc s) l)) g.is
      ∙ ap (λ (l : List ℕ). take (e - s) (drop s l)) (append_assoc t (the_space ∷ the_space ∷ []) rest)
      ∙ ap (take (e - s)) (drop-append-le s t (the_space ∷ the_space ∷ rest) (omega arith))
      ∙ take-append-le (e - s) (drop s t) (the_space ∷ the_space ∷ rest) (omega (arith, length-drop s t))
