-- How far building has come where characters stand for others: slots, room and places keep a state of the definition, and
-- nothing has overflowed; or there is the refusal that the scan of its edges gives.
use Rattle.std.specs.Prelude.{Ok, Err, ℕ, ◌-◌, ◌/◌, ◌≤◌, ◌<◌, List, [], ◌∷◌, ◌++◌, ◌≡◌}
use Rattle.std.proofs.Math.Option.{Option, none, some}
use Rattle.std.proofs.Math.Path.{refl, sym, ap}
use Rattle.std.proofs.Common.{◌∙◌}
use Rattle.std.proofs.Math.ListN.{length}
use Rattle.base.specs.Lists.{or_else, first_of}
use Rattle.base.specs.Alls.{All}
use Rattle.definition.specs.Limits.{slot_bytes}
use Rattle.definition.specs.Notes.{note_orig, note_decomp}
use Rattle.definition.specs.Texts.{Text}
use Rattle.definition.specs.Tables.{Class, Decomposition, Tables}
use Rattle.definition.specs.Edges.{Edge, State}
use Rattle.definition.specs.Refusals.{Refusal, refuse, refused_slots, refused_room, refused_edge_text}
use Rattle.definition.specs.Capacity.{misfit, before_edge, overflow}
use Rattle.definition.specs.DecompositionRows.{decompositions_of}
use Rattle.definition.specs.Growth.{all_bytes, misfit-after}
use Rattle.definition.proofs.Decomposed.{overflow-after, overflow-ruled}
use Rattle.definition.specs.Call.{tables_of}
use Rattle.edge.specs.declared.Filled.{Filled}
use Rattle.noting.specs.Keeps.{Keeps}
use Rattle.words.specs.Given.{World, kinds, size}
use Rattle.words.specs.declared.given.Dicts.{Dicts}
use Rattle.passes.specs.Reached.{Over, Rooms, state_of}
use Rattle.decomp.specs.declared.Unfit.TheVariants.{Slots, Room, TooLong}
use Rattle.decomp.specs.Answers.{Grew}

module _ (D : Tables) (ds : List Decomposition) (t : Text) (ks : List Class) (n : ℕ) (S R S' R' P' : List ℕ) (most : ℕ) (st : State) where
  abbrev lost : Option Refusal
  lost = overflow D ds t (length S / slot_bytes) (length R) st.0

  abbrev Came : Grew → Type 0
  Came (Ok t) = Keeps ks n S' R' P' t.count t.used st × (t.used ≤ most) × (lost ≡ none)
  Came (Err (Slots p)) = lost ≡ some (refuse refused_slots p)
  Came (Err (Room p)) = lost ≡ some (refuse refused_room p)
  Came (Err (TooLong p)) = lost ≡ some (refuse refused_edge_text p)

  pub record GrewTo (r : Grew) : Type 0 where
    pub slots : length S' ≡ length S
    pub room : length R' ≡ length R
    pub came : Came r

-- no edge of this kind starts at `p` or behind it yet
abbrev pub Before : ℕ → List Edge → Type 0
Before p es = All (λ x. x.note ≡ note_decomp → x.from < p) es

-- What a step at the start `p` promises: of every world over what was lent, of which nothing has overflowed and no character
-- from `p` on has its edge yet, it reaches where the definition's step `f` leads
abbrev pub GrowsAt : Dicts → List ℕ → List ℕ → Rooms → Rooms → Filled → ℕ → ℕ → (Tables → List Decomposition → Text → State → State) → Grew → Type 0
GrowsAt dicts code line before after filled p most f r =
    (w : World) → w.classes ≡ dicts.classes.now → Over w dicts.ready.now line before.0 before.1 before.2 filled
    → overflow (tables_of w.choices dicts.rules.now w.classes dicts.vowels.now code) (decompositions_of dicts.decompositions.now) w.text
    (length before.0 / slot_bytes) (length before.1) w.edges ≡ none
    → Before p w.edges
    → GrewTo (tables_of w.choices dicts.rules.now w.classes dicts.vowels.now code) (decompositions_of dicts.decompositions.now) w.text (kinds w) (size w)
    before.0 before.1 after.0 after.1 after.2 most
    (f (tables_of w.choices dicts.rules.now w.classes dicts.vowels.now code) (decompositions_of dicts.decompositions.now) w.text (state_of w before.2)) r

-- Behind edges that fit
module _ (D : Tables) (ds : List Decomposition) (t : Text) (k r : ℕ) (es : List Edge) (h : overflow D ds t k r es ≡ none) (f : misfit k r es ≡ none) where
  -- those of rules and fallbacks ask slots and room alone
  pub overflow-behind : (more : List Edge) → All (λ x. x.note ≤ note_orig) more → overflow D ds t k r (es ++ more) ≡ misfit k r (es ++ more)
  overflow-behind more a =
      overflow-after D ds t k r es more h ∙ overflow-ruled D ds t (k - length es) (r - all_bytes es) more a ∙ sym (misfit-after k r es more f)

  -- and so does one more, of which nothing is to be asked before
  pub overflow-one : (x : Edge) → before_edge D ds t (k - length es) (r - all_bytes es) x ≡ none → overflow D ds t k r (es ++ x ∷ []) ≡ misfit k r (es ++ x ∷ [])
  unfolding overflow first_of
  overflow-one x e =
      overflow-after D ds t k r es (x ∷ []) h ∙ ap (λ (o : Option Refusal). or_else o (or_else (misfit (k - length es) (r - all_bytes es) (x ∷ [])) none)) e
      ∙ last (misfit (k - length es) (r - all_bytes es) (x ∷ [])) ∙ sym (misfit-after k r es (x ∷ []) f)
    where
      last : (o : Option Refusal) → or_else o none ≡ o
      last none = refl
      last (some y) = refl

  -- what it is refused for before
  pub overflow-before : (x : Edge) (y : Refusal) → before_edge D ds t (k - length es) (r - all_bytes es) x ≡ some y → overflow D ds t k r (es ++ x ∷ []) ≡ some y
  unfolding overflow first_of
  overflow-before x y e =
      overflow-after D ds t k r es (x ∷ []) h ∙ ap (λ (o : Option Refusal). or_else o (or_else (misfit (k - length es) (r - all_bytes es) (x ∷ [])) none)) e
