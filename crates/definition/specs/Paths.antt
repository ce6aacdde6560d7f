-- Path, alternatives, and all edges in order (`paths.rs`).
use Rattle.std.specs.Prelude.{Bool, ◌&&◌, ◌||◌, List, [], ◌∷◌, ◌++◌, ℕ, zero, suc, ◌+◌, eqb, length, take, drop}
use Rattle.std.proofs.Math.Option.{Option, none, some}
use Rattle.base.specs.Pick.{pick}
use Rattle.base.specs.Lists.{keep, is, maybe, same}
use Rattle.definition.specs.Notes.{note_core, note_alt, note_alt2, note_alt3}
use Rattle.definition.specs.Texts.{Text}
use Rattle.definition.specs.Tables.{Rule, Choices, Lexicon, Tables, lexicon}
use Rattle.definition.specs.Edges.{Edge, View, M, State, starting, right_best, new_in, view, ret, ◌>>=◌}
use Rattle.definition.specs.Rules.{valids}

-- The path takes the longest edge at each position, then goes on at its end (`best_rom_edge_path`)
abbrev pub join : Option Edge → List Edge → List Edge
join none l = l
join (some x) l = x ∷ l

abbrev pub next : Option Edge → ℕ → ℕ
next none p = p + 1
next (some x) p = x.to

unfoldable pub path_from : ℕ → ℕ → List Edge → List Edge
path_from zero p es = []
path_from (suc k) p es = join (right_best es p) (path_from k (next (right_best es p) p) es)

-- the texts of some edges, one behind the other
unfoldable pub joined : List Edge → Text
joined [] = []
joined (x ∷ l) = x.text ++ joined l

-- Alternatives (`add_alternatives`): `seen` is the path and what was found so far (`existing_edges`);
-- none is added whose span and text are there
unfoldable pub akin : Edge → Edge → Bool
akin x y = eqb x.to y.to && same x.text y.text

unfoldable pub other : Edge → ℕ → Text → Edge
other x n w = record { from = x.from; to = x.to; note = n; core = 0; text = w }

-- a rule's alternatives, each with the vowel `more` behind it
unfoldable pub also_all : Edge → Text → List Text → List Edge → List Edge
also_all x more [] seen = seen
also_all x more (w ∷ ws) seen = also_all x more ws (new_in akin seen (other x note_alt (w ++ more)))

-- is the target the edge's core? Only "rom c:.. s:.." has one (ROM_SUFFIX_RE: \bc:([a-zA-Z]+)\s+s:([a-zA-Z]+)\b)
unfoldable pub cored : Edge → Text → Bool
cored x w = eqb x.note note_core && same w (take x.core x.text)

-- A rule whose target `w` is the edge's text or core gives its alternatives, by the core with the edge's vowel
unfoldable pub by_target : Edge → Rule → List Edge → Text → List Edge
by_target x r seen w =
    pick (same w x.text || cored x w)
    (also_all x (pick (cored x w) (drop x.core x.text) []) r.others seen) seen

-- are readings chosen? What asks it takes the answer, `b`
abbrev pub reads : Choices → Bool
reads c = eqb c.readings 1

-- Where they are, and its target is the edge's text, its end target. (The Rust's "rom-alt2" stands here, and gives that target
-- again, which is there already: Alt2)
unfoldable pub by_reading : Bool → Edge → Rule → List Edge → Text → List Edge
by_reading b x r seen w =
    pick (b && same w x.text) (maybe r.end_target seen (λ u. new_in akin seen (other x note_alt2 u))) seen

-- and where its end target is the edge's text, its target
unfoldable pub by_end_target : Edge → Rule → List Edge → Text → List Edge
by_end_target x r seen w =
    pick (is (λ u. same u x.text) r.end_target) (new_in akin seen (other x note_alt3 w)) seen

-- a rule without target gives nothing
unfoldable pub by_rule : Bool → Edge → Rule → List Edge → List Edge
by_rule b x r seen = maybe r.target seen (λ w. by_end_target x r (by_reading b x r (by_target x r seen w) w) w)

unfoldable pub by_rules : Bool → Edge → List Rule → List Edge → List Edge
by_rules b x [] seen = seen
by_rules b x (r ∷ rs) seen = by_rules b x rs (by_rule b x r seen)

-- each edge of the path in turn, by the valid rules of its span
unfoldable pub by_edges : Bool → Lexicon → Text → View → List Edge → List Edge → M (List Edge)
by_edges b L t v [] seen = ret seen
by_edges b L t v (x ∷ xs) seen = do
  rs ← valids L t v x.from x.to
  by_edges b L t v xs (by_rules b x rs seen)

-- All edges (`all_edges`): by start, longer first, then as added. From `p`, at most `k` wide; from `p` on, `k` starts
unfoldable pub longer : List Edge → ℕ → ℕ → List Edge
longer es p zero = []
longer es p (suc k) = keep (λ x. eqb x.to (p + suc k)) (starting es p) ++ longer es p k

unfoldable pub sorted : List Edge → ℕ → ℕ → List Edge
sorted es zero p = []
sorted es (suc k) p = longer es p (suc k) ++ sorted es k (p + 1)

module _ (D : Tables) (t : Text) where
  -- The lists of a built lattice: the path; the path, then the alternatives; all edges in order
  unfoldable pub path_of : State → List Edge
  path_of st = path_from (length t) 0 st.0

  unfoldable pub with_alternatives_of : State → List Edge
  with_alternatives_of st =
      (by_edges (reads D.choices) (lexicon D) t (view D.classes st.0) (path_of st) (path_of st) st.1).0

  unfoldable pub all_edges_of : State → List Edge
  all_edges_of st = sorted st.0 (length t) 0
