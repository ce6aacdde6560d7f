-- The text of a character that stands for others, by the string that these have and the numbers beside it.
use Rattle.std.specs.Prelude.{Bool, true, ◌≡◌, ℕ, ◌+◌}
use Rattle.std.proofs.Math.Bool.{false}
use mathlib.Core.List.{List, [], ◌∷◌, ◌++◌, append_assoc, append-nil}
use Rattle.std.proofs.Common.{sym, subst}
use Rattle.base.specs.Pick.{pick, pick_all}
use Rattle.definition.specs.Texts.{Text, the_space, at, prev}
use Rattle.definition.specs.Tables.{Class, Tables}
use Rattle.definition.specs.Decomposing.{number, slashed, parted, inner_string, decomp_text}
use Rattle.decomp_text.specs.declared.Beside.{Beside}
use Rattle.decomp_text.specs.declared.Spelling.{Spelling}
use Rattle.decomp_text.specs.Spelling.{Spells, shaped}

unfoldable pub read_as : Beside → Text → Text
read_as b w = pick b.number (parted b.before ++ (slashed w ++ parted b.after)) w

-- what stands before the string, and behind it
unfoldable pub front_of : Beside → Text
front_of b = pick b.number (parted b.before) []

unfoldable pub back_of : Beside → Text
back_of b = pick b.number (parted b.after) []

pub read_parts : (b : Beside) (w : Text) → (front_of b ++ shaped b.number w) ++ back_of b ≡ read_as b w
unfolding read_as front_of back_of shaped
read_parts b w = go b.number
  where
    go : (n : Bool) → (pick n (parted b.before) [] ++ pick n (slashed w) w) ++ pick n (parted b.after) [] ≡ pick n (parted b.before ++ (slashed w ++ parted b.after)) w
    go true = unfold pick in append_assoc (parted b.before) (slashed w) (parted b.after)
    go false = unfold pick in append-nil w

-- the numbers beside a position of a text
pub record Besides (ks : List Class) (t : Text) (p : ℕ) (b : Beside) : Type 0 where
  pub own : b.number ≡ number ks (at t p)
  pub before : b.before ≡ number ks (prev t p)
  pub after : b.after ≡ number ks (at t (p + 1))

pub read_text : (D : Tables) (t : Text) (p : ℕ) (b : Beside) → Besides D.classes t p b → (w : Text) → read_as b (inner_string D w) ≡ decomp_text D t p w
unfolding read_as decomp_text
read_text D t p b h w = rw (h.own, h.before, h.after)

nothing-behind : {ks : List Class} {b : List ℕ} {s : Spelling} (t : Text) → Spells ks b s t → Spells ks b s (t ++ [])
nothing-behind {ks} {b} {s} t h = subst (Spells ks b s) (sym (append-nil t)) h

-- a space put, or none
module _ {ks : List Class} {b : List ℕ} {s : Spelling} (number beside : Bool) where
  pub part_space : number ≡ true → beside ≡ true → (t : Text) → Spells ks b s (t ++ the_space ∷ []) → Spells ks b s (t ++ pick number (parted beside) [])
  unfolding parted pick
  part_space e f t h = rw (e, f) h

  pub part_none : beside ≡ false → (t : Text) → Spells ks b s t → Spells ks b s (t ++ pick number (parted beside) [])
  unfolding parted pick
  part_none f t h = rw f (pick_all (λ (w : Text). Spells ks b s (t ++ w)) number (nothing-behind t h) (nothing-behind t h))

  pub part-other : number ≡ false → (t : Text) → Spells ks b s t → Spells ks b s (t ++ pick number (parted beside) [])
  unfolding pick
  part-other f t h = rw f (nothing-behind t h)
