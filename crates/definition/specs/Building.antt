-- Building edges (`romanize.rs`): each start's rising ends, then a fallback for each character left uncovered.
use Rattle.std.specs.Prelude.{Bool, true, false, not, ◌&&◌, ◌||◌, List, [], ◌∷◌, ℕ, zero, suc, ◌+◌, eqb, length, drop, replicate}
use Rattle.std.proofs.Math.Option.{Option, none, some}
use Rattle.base.specs.Pick.{pick}
use Rattle.base.specs.Lists.{all, head, tail, is, maybe, same, starts}
use Rattle.definition.specs.Limits.{most_source}
use Rattle.definition.specs.Notes.{note_none, note_rom, note_core, note_tail, note_single, note_Mn, note_Cf, note_Co, note_Zs, note_orig}
use Rattle.definition.specs.Texts.{Text, among, at, vowels, the_space, plus_sign, letter_n}
use Rattle.definition.specs.Tables.{Lexicon, Tables, lexicon, category_Mn, category_Cf, category_Co, category_Zs}
use Rattle.definition.specs.Classes.{class}
use Rattle.definition.specs.Edges.{Edge, View, M, State, covered, add, view, ret, ◌>>=◌}
use Rattle.definition.specs.Rules.{is_prefix, simple}
use Rattle.definition.specs.Syllables.{full}
use Rattle.definition.specs.Vowels.{vowel_step}
use Rattle.definition.specs.Expansion.{Work, expand}

-- A tail: + and one byte, or + and two that start with n; it loses its +
unfoldable pub is_tail : Text → Bool
is_tail w =
    is (eqb plus_sign) (head w)
    && (eqb (length (tail w)) 1 || (eqb (length (tail w)) 2 && is (eqb letter_n) (head (tail w))))

unfoldable pub without_plus : Text → Text
without_plus w = pick (is_tail w) (tail w) w

-- did the vowel step, from `rom` to `new`, only put vowels behind?
unfoldable pub grown : Text → Text → Bool
grown rom new =
    let more = drop (length rom) new in
    starts rom new && not (same more []) && all vowels more

-- The edge of a romanization `rom` that the vowel step made `new`: annotated by the expansion where that acted,
-- else with a core where only vowels were added, as a tail, or as plain
unfoldable pub as_edge : Bool → Text → Text → Work → Edge
as_edge tail-edge rom new x =
    let own = eqb x.note note_none in
    record {
      from = x.from;
      to = x.to;
      note = pick own (pick (grown rom new) note_core (pick tail-edge note_tail note_rom)) x.note;
      core = pick (own && grown rom new) (length rom) 0;
      text = x.rom;
    }

-- an edge over one character
unfoldable pub single : ℕ → ℕ → Text → Edge
single p n w = record { from = p; to = p + 1; note = n; core = 0; text = w }

-- a fallback's + is dropped before m, n, g or r
unfoldable pub fallback_plus : Text → Bool
fallback_plus w = is (eqb plus_sign) (head w) && is (among "mngr") (head (tail w))

-- what simple search answered, or else the character itself
unfoldable pub fallback_by : Text → ℕ → Option Text → Edge
fallback_by t p o =
    maybe o (single p note_orig (at t p ∷ []))
    (λ w. single p note_single (pick (fallback_plus w) (tail w) w))

-- what a step finds is added, and what it remembers kept
unfoldable pub put_in : (List Edge → M (Option Edge)) → State → State
put_in f st = let r = f st.0 st.1 in (add st.0 r.0, r.1)

-- a step at each of `k` positions from `p` on
unfoldable pub each : (ℕ → State → State) → ℕ → ℕ → State → State
each f zero p st = st
each f (suc k) p st = each f k (p + 1) (f p st)

-- The fallback by category, else by simple search (`get_fallback_rom_and_annot`)
unfoldable pub fallback_edge : Lexicon → Text → View → ℕ → M (Option Edge)
fallback_edge L t v p =
    let k = (class L.classes (at t p)).category in
    pick (eqb k category_Mn) (ret (some (single p note_Mn [])))
    (pick (eqb k category_Cf) (ret (some (single p note_Cf [])))
    (pick (eqb k category_Co) (ret (some (single p note_Co [])))
    (pick (eqb k category_Zs) (ret (some (single p note_Zs (the_space ∷ []))))
    (do
      o ← simple L t v p (p + 1)
      ret (some (fallback_by t p o))))))

module _ (D : Tables) (t : Text) where
  module _ (v : View) where
    unfoldable pub edge_of : Bool → Text → ℕ → ℕ → M Edge
    edge_of tail-edge rom s e = do
      new ← vowel_step (lexicon D) t v D.vowels tail-edge rom s e
      x ← expand (lexicon D) t v D.choices new s e
      ret (as_edge tail-edge rom new x)

    -- the edge of a span: what full search answers, without the + of a tail, through vowel step and expansion
    unfoldable pub span_edge : ℕ → ℕ → M (Option Edge)
    span_edge s e = do
      o ← full (lexicon D) t v s e
      maybe o (ret none) (λ w. do
        x ← edge_of (is_tail w) (without_plus w) s e
        ret (some x))

  -- Ends rise while the span is a prefix of a source, which `b` says of the first. No source of an accepted table
  -- is longer than 16 characters, so 16 ends are all (Ranges)
  unfoldable pub rise : ℕ → Bool → ℕ → ℕ → State → State
  rise zero b s e st = st
  rise (suc k) false s e st = st
  rise (suc k) true s e st =
      rise k (is_prefix D.rules t s (e + 1)) s (e + 1)
      (put_in (λ es. span_edge (view D.classes es) s e) st)

  -- `add_romanization` at one start, but for a decomposition
  unfoldable pub build : ℕ → State → State
  build p st = rise most_source (is_prefix D.rules t p (p + 1)) p (p + 1) st

  -- `add_rom_fall_back_singles` at one start
  unfoldable pub fall : ℕ → State → State
  fall p st =
      pick (covered st.0 p) st
      (put_in (λ es. fallback_edge (lexicon D) t (view D.classes es) p) st)

  -- Both passes from no edges, nothing remembered: a step at each start, then the fallbacks
  unfoldable pub lattice_by : (ℕ → State → State) → State
  lattice_by step = each fall (length t) 0 (each step (length t) 0 ([], replicate (length t) 0))

  -- The lattice of a text in which no character stands for others: the step is the edges of each start's spans
  unfoldable pub rule_lattice : State
  rule_lattice = lattice_by build
