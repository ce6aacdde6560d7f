-- A packed class from what a lookup told, and lists of answers.
use Prim.Native.Nat.{ℕ, ◌+◌, ◌*◌, ◌%◌, ◌≤◌, ◌<◌}
use Rattle.std.specs.Prelude.{Option, Some, None}
use mathlib.Core.Bool.{◌&&◌}
use mathlib.Core.List.{List, ◌++◌, map, append-nil}
use mathlib.Core.Path.{◌≡◌, sym, ap, ◌∙◌, subst}
use native.Mathlib.Omega.{arith}
use lib.Dec.{leb}
use lib.ListN.{length, get_or, set, take, drop, length-map, drop_of_length-le}
use lib.Seq.{take_all}
use Rattle.base.specs.Pick.{pick}
use Rattle.base.specs.Copies.{copied}
use Rattle.definition.specs.Texts.{latin}
use Rattle.definition.specs.Tables.{Class}
use Rattle.definition.specs.ClassRows.{classes_of}
use Rattle.definition.specs.Classes.{plain, class, alpha}
use Rattle.table_classes.specs.Told.{Fine, class_means, Ranged, packed}
use Rattle.table_classes.specs.Packing.{packed_row, packed-plain, says, says_alpha, map_at}
use Rattle.table_classes.specs.declared.ClassRow.{ClassRow}

-- the default
pub plain_packed : (c : ℕ) → packed (plain c) ≡ pick (latin c) 1 0
plain_packed c = packed-plain c

-- a lookup's answer
module _ (c : ℕ) (r : Option ClassRow) (k : Class) (h : class_means c r ≡ k) where
  pub absent_is : r ≡ None → packed (plain c) ≡ packed k
  unfolding class_means
  absent_is e = ap packed (ap (class_means c) (sym e) ∙ h)

  module _ (row : ClassRow) (e : r ≡ Some row) (g : Ranged r) where
    pub row_ranged : (row.category ≤ 7) × (row.script ≤ 127) × (row.flags < 256)
    unfolding Ranged
    row_ranged = subst Ranged e g

    pub row_is : row.category + row.script * 8 + row.flags * 1024 ≡ packed k
    unfolding class_means
    row_is =
        sym (packed_row c row.category row.script row.flags row_ranged.2)
        ∙ ap packed (ap (class_means c) (sym e) ∙ h)

-- a letter or a mark, by its category
pub alpha_asked : (b : List ℕ) (c n : ℕ) → Fine b → n ≡ packed (class (classes_of b) c)
    → alpha (classes_of b) c ≡ (leb 1 (n % 8) && leb (n % 8) 3)
alpha_asked b c n fine e = sym (says_alpha n c (classes_of b) (rw e (says b fine c)))

-- A turn of writing answers: the value at `i` goes in; after the last the list is the answers
pub written : (f : ℕ → ℕ) (t old now : List ℕ) (i v : ℕ) → length old ≡ length t → i < length t
    → now ≡ take i (map f t) ++ drop i old → v ≡ f (get_or t i 0)
    → set now i v ≡ take (i + 1) (map f t) ++ drop (i + 1) old
written f t old now i v l h e p =
    rw (e, p, map_at f t i h) (copied old (map f t) i (omega arith) (omega (arith, length-map t f)))

pub all-written : (f : ℕ → ℕ) (t old now : List ℕ) (i : ℕ) → length old ≡ length t → length t ≤ i
    → now ≡ take i (map f t) ++ drop i old → now ≡ map f t
all-written f t old now i l h e =
    e ∙ ap (λ (r : List ℕ). r ++ drop i old) (take_all i (map f t) (omega (arith, length-map t f)))
    ∙ ap (λ (r : List ℕ). map f t ++ r) (drop_of_length-le old {i = i} (omega arith)) ∙ append-nil (map f t)
