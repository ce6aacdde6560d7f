-- How every call ends: with the romanization, or with one numbered refusal and zeros.
-- (Proved in proofs/Endings.)
use Rattle.std.specs.Prelude.{ℕ, zero, suc, ◌-◌, ◌/◌, ◌≤◌, Bool, true, false, ◌||◌, List, [], ◌∷◌, ◌++◌, ◌≡◌, ◌⊎◌, eqb, leb, length, replicate}
use Rattle.std.proofs.Common.{◌∙◌}
use Rattle.std.proofs.Math.Option.{Option, none, some}
use Rattle.std.proofs.Math.Path.{refl, ap}
use Rattle.base.specs.Pick.{pick}
use Rattle.base.specs.Lists.{any, or_else, first_of}
use Rattle.base.specs.ListLaws.{any_append}
use Rattle.base.specs.Alls.{All}
use Rattle.definition.specs.Limits.{slot_bytes}
use Rattle.definition.specs.Texts.{Text}
use Rattle.definition.specs.Tables.{Decomposition, Tables}
use Rattle.definition.specs.Edges.{Edge}
use Rattle.definition.specs.Decomposing.{lattice}
use Rattle.definition.specs.Listing.{shown}
use Rattle.definition.specs.Refusals.{Refusal, refuse, when, placed, early_numbers, numbers}
use Rattle.definition.specs.Refusals.{refused_room, refused_listing, refused_output}
use Rattle.definition.specs.Capacity.{bytes, misfit, placed_at, overflow}
use Rattle.definition.specs.Call.{Inputs, Called, tables, decompositions, characters, refusal, refused, uncounted}

-- what a call is to show: the string, the path, its alternatives or all edges
abbrev pub romanization : Inputs → List ℕ
romanization i = shown (tables i) (characters i) i.mode (lattice (tables i) (decompositions i) (characters i))

-- nothing was refused: neither the inputs, nor the slots and the room, nor what is listed, nor the output
pub record Romanized (i : Inputs) (r : Called) : Type 0 where
  pub accepted : refusal i ≡ none
  pub held : overflow (tables i) (decompositions i) (characters i) (i.slots / slot_bytes) i.room (lattice (tables i) (decompositions i) (characters i)).0 ≡ none
  pub counted : uncounted i.mode (romanization i) ≡ false
  pub fits : length (romanization i) ≤ i.out
  pub number : r.number ≡ 0
  pub place : r.place ≡ 0
  pub written : r.length ≡ length (romanization i)
  pub count : r.edges ≡ length (lattice (tables i) (decompositions i) (characters i)).0
  pub shows : r.output ≡ romanization i ++ replicate (i.out - length (romanization i)) 0

pub record Refused (i : Inputs) (r : Called) : Type 0 where
  pub number : any (eqb r.number) numbers ≡ true
  pub written : r.length ≡ 0
  pub count : r.edges ≡ 0
  pub zeros : r.output ≡ replicate i.out 0

-- a refusal that has one of the numbers before anything is shown, where there is one
unfoldable pub Numbered : Option Refusal → Type 0
Numbered none = Unit {0}
Numbered (some r) = any (eqb r.number) early_numbers ≡ true

pub when-numbered : (b : Bool) (n p : ℕ) → any (eqb n) early_numbers ≡ true → Numbered (when b n p)
unfolding Numbered when pick
when-numbered true n p h = h
when-numbered false n p h = tt

pub placed-numbered : (o : Option ℕ) (n : ℕ) → any (eqb n) early_numbers ≡ true → Numbered (placed n o)
unfolding Numbered placed
placed-numbered none n h = tt
placed-numbered (some p) n h = h

pub or_numbered : (a b : Option Refusal) → Numbered a → Numbered b → Numbered (or_else a b)
unfolding Numbered
or_numbered none b x y = y
or_numbered (some r) b x y = x

pub first-numbered : (l : List (Option Refusal)) → All Numbered l → Numbered (first_of l)
unfolding first_of Numbered
first-numbered [] h = tt
first-numbered (o ∷ l) h = or_numbered o (first_of l) h.0 (first-numbered l h.1)

pub misfit-numbered : (k r : ℕ) (l : List Edge) → Numbered (misfit k r l)
unfolding Numbered misfit any
misfit-numbered k r [] = tt
misfit-numbered zero r (x ∷ l) = refl
misfit-numbered (suc k) r (x ∷ l) = fits (leb (bytes x) r) (misfit-numbered k (r - bytes x) l)
  where
    fits : (b : Bool) → Numbered (misfit k (r - bytes x) l)
        → Numbered (elim b [ true ↦ misfit k (r - bytes x) l | false ↦ some (refuse refused_room x.from) ])
    fits true h = h
    fits false h = refl

pub placed_at-numbered : (p : ℕ) (o : Option Refusal) → Numbered o → Numbered (placed_at p o)
unfolding Numbered placed_at
placed_at-numbered p none h = tt
placed_at-numbered p (some r) h = h

-- which is one of all
pub early : (n : ℕ) → any (eqb n) early_numbers ≡ true → any (eqb n) numbers ≡ true
early n h = any_append (eqb n) early_numbers (refused_listing ∷ refused_output ∷ []) ∙ ap (λ b. b || any (eqb n) (refused_listing ∷ refused_output ∷ [])) h

pub refused_so : (i : Inputs) (r : Refusal) → any (eqb r.number) numbers ≡ true → Refused i (refused i r)
unfolding refused
refused_so i r h = record { number = h; written = refl; count = refl; zeros = refl }

-- a string is no listing
pub string-counted : (m : ℕ) (w : List ℕ) → m ≡ 0 → uncounted m w ≡ false
unfolding uncounted
string-counted m w e = rw e

-- Every call ends in one of the two ways
module _ (i : Inputs) where
  abbrev pub D : Tables
  D = tables i

  abbrev pub t : Text
  t = characters i

  abbrev pub ds : List Decomposition
  ds = decompositions i

  abbrev pub fault : Option Refusal
  fault = overflow D ds t (i.slots / slot_bytes) i.room (lattice D ds t).0

  abbrev pub Ends : Called → Type 0
  Ends r = Romanized i r ⊎ Refused i r

  -- 19 comes of a listing that is too large, and of nothing else; and it comes whatever the output's length
  abbrev pub TooLarge : Type 0
  TooLarge = (refusal i ≡ none) × (fault ≡ none) × (uncounted i.mode (romanization i) ≡ true)

  abbrev pub LargeWhere : Called → Type 0
  LargeWhere r = r.number ≡ refused_listing → TooLarge
