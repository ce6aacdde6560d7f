-- What the expansion works on, moved by the stretch's start; and its first steps, capitals and doubling.
use Rattle.std.specs.Prelude.{Bool, true, false, ◌≡◌, List, [], ℕ, ◌+◌, ◌-◌, ◌≤◌, ◌<◌, eqb, length}
use Rattle.std.proofs.Math.Path.{refl}
use Rattle.std.proofs.Math.Option.{Option, none, some, map}
use Rattle.std.proofs.Common.{arith}
use Rattle.std.proofs.Math.ListN.{take}
use Rattle.base.specs.Pick.{pick, pick_all}
use Rattle.base.specs.Bools.{and_left, eqb_alike}
use Rattle.base.specs.Lists.{head, or_else, is, starts}
use Rattle.base.specs.Alls.{All-append, All-one}
use Rattle.definition.specs.Notes.{note_exp}
use Rattle.definition.specs.Texts.{Text, chars, the_space, addak, among, prev}
use Rattle.definition.specs.Tables.{Class, Choices}
use Rattle.definition.specs.Expansion.{Work, work, capitalizes, capitalize, doubling, doubled, small_tsu, double}
use Rattle.definition.specs.Capitals.{capitalize_ind, capitalized-all}
use Rattle.stretches.specs.Given.{Ink, Solid, Stretch}
use Rattle.stretches.specs.Texts.{later}

unfoldable pub move : ℕ → Work → Work
move a w = work w.rom (a + w.from) (a + w.to) w.note

-- Work inside a stretch of length `n`, from a first start `o`, with no space in its romanization
pub record Held (n o : ℕ) (w : Work) : Type 0 where
  pub low : w.from ≤ o
  pub high : o < w.to
  pub fit : w.to ≤ n
  pub ink : Solid w.rom

pub work-move : (a : ℕ) (w : Text) (s S e E n : ℕ) → S ≡ a + s → E ≡ a + e → work w S E n ≡ move a (work w s e n)
unfolding move
work-move a w s S e E n p q = rw (p, q)

pub pick-move : (a : ℕ) (b : Bool) (x y : Work) {X Y : Work} → (b ≡ true → X ≡ move a x) → Y ≡ move a y
    → pick b X Y ≡ move a (pick b x y)
unfolding pick
pick-move a true x y p q = p refl
pick-move a false x y p q = q

-- where there is work
pub or_else-move : (a : ℕ) (x y : Option Work)
    → or_else (map (move a) x) (map (move a) y) ≡ map (move a) (or_else x y)
or_else-move a none y = refl
or_else-move a (some x) y = refl

pub pick-move_if : (a : ℕ) (b : Bool) (x : Option Work) {X : Option Work} → (b ≡ true → X ≡ map (move a) x)
    → pick b X none ≡ map (move a) (pick b x none)
unfolding pick
pick-move_if a true x p = p refl
pick-move_if a false x p = refl

-- Capitals: the width and the next character are the same, the span stays, and a small letter is no space
module _ (c : Choices) (ks : List Class) {T st : Text} {a : ℕ} (h : Stretch T st a) where
  capitalizes-inside : (w : Work) → w.to ≤ length st → capitalizes c ks T (move a w) ≡ capitalizes c ks st w
  unfolding capitalizes move
  capitalizes-inside w l = rw (
    eqb_alike (a + w.from + 1) (a + w.to) (w.from + 1) w.to (λ q. omega arith) (λ q. omega arith),
    h.look (a + w.to) w.to refl l,
  )

  pub capitalize-inside : (w : Work) → w.to ≤ length st → capitalize c ks T (move a w) ≡ move a (capitalize c ks st w)
  unfolding capitalize
  capitalize-inside w l = rw (capitalizes-inside w l) (pick-move a _ _ w (λ b. unfold move in refl) refl)

  pub capitalize_held : (p : ℕ) (w : Work) → Held (length st) p w → Held (length st) p (capitalize c ks st w)
  capitalize_held p w k = capitalize_ind (Held (length st) p) c ks st w
      (record {
        low = k.low;
        high = k.high;
        fit = k.fit;
        ink = capitalized-all Ink (λ d l g e. omega arith) w.rom k.ink;
      }) k

  pub capitalize-from : (w : Work) → (capitalize c ks st w).from ≡ w.from
  capitalize-from w = capitalize_ind (λ x. x.from ≡ w.from) c ks st w refl refl

-- Doubling
small_tsu_space : small_tsu the_space ≡ false
unfolding small_tsu among
small_tsu_space = refl

module _ (ks : List Class) {T st : Text} {a : ℕ} (h : Stretch T st a) where
  pub double-inside : (p : ℕ) (w : Work) → p ≤ length st → w.from ≡ p
      → double ks T (a + p) (move a w) ≡ move a (double ks st p w)
  unfolding double move
  double-inside p w l f = rw (h.back (a + p) p refl l, h.look (a + p) p refl l)
      (pick-move a _ _ w (λ b.
      let z = later st p small_tsu small_tsu_space (and_left _ _ (and_left _ _ b)) in
      work-move a _ (w.from - 1) _ w.to _ note_exp (omega arith) refl) refl)

  pub double_held : (p : ℕ) (w : Work) → Held (length st) p w → Held (length st) p (double ks st p w)
  unfolding double doubled
  double_held p w k = pick_all (Held (length st) p) _
      (record {
        low = omega arith;
        high = k.high;
        fit = k.fit;
        ink = All-append Ink (doubled (prev st p) w.rom) w.rom twice k.ink;
      }) k
    where
      twice : Solid (doubled (prev st p) w.rom)
      twice = pick_all Solid (starts (chars "ch") w.rom)
          {x = pick (eqb (prev st p) addak) (chars "c") (chars "t")}
          {y = pick (is doubling (head w.rom)) (take 1 w.rom) []}
          (pick_all Solid (eqb (prev st p) addak) {x = chars "c"} {y = chars "t"}
          ((λ e. omega arith), tt) ((λ e. omega arith), tt))
          (pick_all Solid (is doubling (head w.rom)) {x = take 1 w.rom} {y = []}
          (All-one Ink w.rom k.ink) tt)
