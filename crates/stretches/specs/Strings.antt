-- A line's string is its words' strings, joined by spaces: the path goes along each word and over each space.
-- (Proved in proofs/Strings.)
use Rattle.std.specs.Prelude.{true, ◌≡◌, refl, ℕ, ◌+◌, ◌<◌}
use Rattle.std.proofs.Math.Path.{sym, ap}
use Rattle.std.proofs.Common.{◌∙◌}
use mathlib.Core.List.{List, [], ◌∷◌, ◌++◌, map, append_assoc}
use native.Mathlib.Omega.{arith}
use Rattle.std.proofs.Math.ListN.{length, length-append}
use Rattle.std.proofs.Math.Seq.{get_or-append_seam}
use Rattle.base.specs.Alls.{All}
use Rattle.definition.specs.Texts.{Text, the_space, at}
use Rattle.definition.specs.Tables.{Decomposition, Tables}
use Rattle.definition.specs.Edges.{Edge}
use Rattle.definition.specs.Paths.{joined}
use Rattle.definition.specs.Decomposing.{path, edges}
use Rattle.definition.specs.Call.{Inputs, tables, decompositions, characters}
use Rattle.definition.specs.Cover.{Abut}
use Rattle.definition.specs.Parts.{Accepts}
use Rattle.stretches.specs.Demand.{Taken, space_edge, over, After, end, shift, Alone}
use Rattle.stretches.specs.Given.{Stretch}
use Rattle.stretches.specs.Building.{Inside}
use Rattle.stretches.specs.Driver.{spaced}

-- The string of two lists of edges, one behind the other, and of moved edges
pub joined-append : (l k : List Edge) → joined (l ++ k) ≡ joined l ++ joined k
unfolding joined
joined-append [] k = refl
joined-append (x ∷ l) k = ap (λ t. x.text ++ t) (joined-append l k) ∙ sym (append_assoc x.text (joined l) (joined k))

pub joined-shift : (a : ℕ) (l : List Edge) → joined (map (shift a) l) ≡ joined l
unfolding joined shift
joined-shift a [] = refl
joined-shift a (x ∷ l) = ap (λ t. x.text ++ t) (joined-shift a l)

pub after-spaced : (ws : List Text) → After (spaced ws)
unfolding spaced
after-spaced [] = end
after-spaced (w ∷ ws) = After.space (w ++ spaced ws)

-- Where the next word starts: after this one and a space
pub past : (x w r : Text) → x ++ (w ++ the_space ∷ r) ≡ ((x ++ w) ++ the_space ∷ []) ++ r
past x w r = sym (append_assoc x w (the_space ∷ r)) ∙ sym (append_assoc (x ++ w) (the_space ∷ []) r)

-- A word of the line: it reads there as alone, and alone it is accepted
pub record Reading (i : Inputs) (w : Text) : Type 0 where
  pub start : ℕ
  pub alone : Alone (tables i) (decompositions i) (characters i) w start
  pub accepts : Accepts i w
  -- where it stands, and its own edges
  pub place : Stretch (characters i) w start
  pub full : All (Inside 0 (length w)) (edges (tables i) (decompositions i) w)

module _ (i : Inputs) (taken : Taken i) where
  abbrev pub D : Tables
  D = tables i

  abbrev pub ds : List Decomposition
  ds = decompositions i

  abbrev pub T : Text
  T = characters i

  -- Over a space goes its own edge and no other
  module _ (m : ℕ) (l : m < length T) (sp : at T m ≡ the_space) where
    abbrev pub Own : Edge → Type 0
    Own y = over m y ≡ true → y ≡ space_edge D.classes m

  -- The path's edges from `a` on are `l`
  pub record Onward (a : ℕ) (l : List Edge) : Type 0 where
    pub before : List Edge
    pub whole : path D ds T ≡ before ++ l
    pub fore : Abut 0 a before
    pub aft : Abut a (length T) l

  -- Along a word and over the space after it
  module _ (x w y : Text) (l : List Edge) (e : T ≡ x ++ (w ++ the_space ∷ y)) (o : Onward (length x) l) where
    abbrev pub m : ℕ
    m = length x + length w

    pub long : m < length T
    long = omega (arith, ap length e, length-append x (w ++ the_space ∷ y), length-append w (the_space ∷ y))

    pub sp : at T m ≡ the_space
    unfolding at
    sp = rw (e ∙ sym (append_assoc x w (the_space ∷ y)), sym (length-append x w))
        (get_or-append_seam (x ++ w) the_space y the_space)

    abbrev pub Mine : Edge → Type 0
    Mine = Own m long sp
