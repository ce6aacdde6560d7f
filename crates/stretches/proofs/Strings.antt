-- A line's string is its words' strings, joined by spaces: from word to word, and the whole.
use Rattle.std.specs.Prelude.{◌≡◌, refl, ℕ, ◌+◌, ◌≤◌, ◌<◌}
use Rattle.std.proofs.Math.Path.{sym, ap, subst}
use Rattle.std.proofs.Common.{◌∙◌, inl, inr}
use mathlib.Core.List.{List, [], ◌∷◌, ◌++◌, map, append-nil, append_assoc}
use native.Mathlib.Omega.{arith}
use Rattle.std.proofs.Math.Decide.{dec_le}
use Rattle.std.proofs.Math.ListN.{length, length-append}
use borrow.Author.Tests.{le-leb, lt-ltb}
use Rattle.base.specs.Lists.{keep}
use Rattle.base.specs.ListLaws.{keep_only}
use Rattle.base.specs.Alls.{All, All-map, All-left, All-right}
use Rattle.definition.specs.Texts.{Text, the_space, at}
use Rattle.definition.specs.Edges.{Edge}
use Rattle.definition.specs.Building.{single}
use Rattle.definition.specs.Paths.{joined, path_from, path_of}
use Rattle.definition.specs.Decomposing.{lattice, path, edges}
use Rattle.definition.specs.Call.{Inputs}
use Rattle.definition.specs.Cover.{Abut}
use Rattle.definition.proofs.Cover.{path-whole}
use Rattle.definition.specs.Alternatives.{path_sound}
use Rattle.stretches.specs.Demand.{Taken, space_edge, over, Before, start, After, end, First_if, within}
use Rattle.stretches.specs.Given.{Stretch}
use Rattle.stretches.proofs.Given.{fair_tables, stretch}
use Rattle.stretches.proofs.Lattice.{lattice-inside}
use Rattle.stretches.specs.Driver.{spaced, line_of, string, Strings}
use Rattle.stretches.proofs.Proved.{demand}
use Rattle.stretches.specs.Abutting.{abut_goes, abut_append, abut_none, Parted, Split, split, middle}
use Rattle.stretches.specs.Strings.{D, Mine, Onward, Own, Reading, T, after-spaced, ds, joined-append, joined-shift, long, m, past, sp}

module _ (i : Inputs) (taken : Taken i) where
  word : (x w : Text) (ws : List Text) → T i taken ≡ x ++ (w ++ spaced ws) → Before x → First_if (D i taken).choices w → Reading i w
  unfolding edges
  word x w ws e b f =
      let r = (demand i taken).stretches x w (spaced ws) e b (after-spaced ws) f in
      let h = subst (λ t. Stretch t w (length x)) (sym e) (stretch x w (spaced ws) b (after-spaced ws)) in
      record {
        start = length x;
        alone = r.0;
        accepts = r.1;
        place = h;
        full = (lattice-inside (fair_tables i taken) h f).edges.full;
      }

  words : (x w : Text) (ws : List Text) → T i taken ≡ x ++ (w ++ spaced ws) → Before x → All (First_if (D i taken).choices) (w ∷ ws)
      → All (Reading i) (w ∷ ws)
  unfolding spaced
  words x w [] e b f = (word x w [] e b f.0, tt)
  words x w (v ∷ vs) e b f = (
    word x w (v ∷ vs) e b f.0,
    words ((x ++ w) ++ the_space ∷ []) v vs (e ∙ past x w (v ++ spaced vs)) (Before.space (x ++ w)) f.1,
  )

  pub line-words : (ws : List Text) → T i taken ≡ line_of ws → All (First_if (D i taken).choices) ws → All (Reading i) ws
  unfolding line_of
  line-words [] e f = tt
  line-words (w ∷ ws) e f = words [] w ws e start f

  module _ (m : ℕ) (l : m < length (T i taken)) (sp : at (T i taken) m ≡ the_space) where
    own : All (Own i taken m l sp) (path (D i taken) (ds i taken) (T i taken))
    unfolding path path_of edges
    own = path_sound (Own i taken m l sp) (length (T i taken)) 0 (lattice (D i taken) (ds i taken) (T i taken)).0
        (keep_only (over m) (space_edge (D i taken).classes m) (lattice (D i taken) (ds i taken) (T i taken)).0 ((demand i taken).spaces m l sp))

    own-place : (y : Edge) → Own i taken m l sp y → y.from ≤ m → m < y.to → (y.from ≡ m) × (y.to ≡ m + 1)
    unfolding over space_edge single
    own-place y o a b =
        let e = o (rw (le-leb y.from m a, lt-ltb m y.to b)) in
        (ap (λ z. z.from) e, ap (λ z. z.to) e)

    parted : (y : Edge) → Own i taken m l sp y → Parted m y × Parted (m + 1) y
    parted y o = go (dec_le y.to m) (dec_le (m + 1) y.from)
      where
        go : Dec (y.to ≤ m) → Dec (m + 1 ≤ y.from) → Parted m y × Parted (m + 1) y
        go (yes a) d = (inl a, inl (omega arith))
        go (no a) (yes b) = (inr (omega arith), inr b)
        go (no a) (no b) = let p = own-place y o (omega arith) (omega arith) in
            let f = p.0 in let t = p.1 in (inr (omega arith), inl (omega arith))

    -- edges that abut from a space's start to its end have the string of one space
    over_space : (es : List Edge) → All (Own i taken m l sp) es → Abut m (m + 1) es → joined es ≡ the_space ∷ []
    unfolding joined over space_edge single
    over_space [] o h = absurd (let e : m ≡ m + 1 = h in omega arith)
    over_space (y ∷ l) o h =
        let r = abut_goes y.to (m + 1) l h.2 in
        let s = h.1 in
        let f = h.0 in
        let e = o.0 (rw (le-leb y.from m (omega arith), lt-ltb m y.to (omega arith))) in
        let t : y.to ≡ m + 1 = omega arith in
        let n = abut_none (m + 1) l (subst (λ z. Abut z (m + 1) l) t h.2) in
        rw (n, e)

  -- the edges of the path along a word are the word's own path, moved
  along : (x w y : Text) (l r : List Edge) → T i taken ≡ x ++ (w ++ y) → Before x → After y → First_if (D i taken).choices w
      → Onward i taken (length x) (l ++ r) → Abut (length x) (length x + length w) l → Abut (length x + length w) (length (T i taken)) r
      → joined l ≡ string (D i taken) (ds i taken) w
  unfolding string
  along x w y l r e b c f o h j =
      ap joined (sym (middle (length x) (length w) (length (T i taken)) o.before l r o.fore h j)
      ∙ ap (keep (within (length x) (length w))) (sym o.whole) ∙ ((demand i taken).stretches x w y e b c f).0.path)
      ∙ joined-shift (length x) (path (D i taken) (ds i taken) w)

  module _ (x w y : Text) (l : List Edge) (e : T i taken ≡ x ++ (w ++ the_space ∷ y)) (o : Onward i taken (length x) l) where
    mine : All (Mine i taken x w y l e o) l
    mine = All-right (Mine i taken x w y l e o) o.before l (subst (All (Mine i taken x w y l e o)) o.whole (own (m i taken x w y l e o) (long i taken x w y l e o) (sp i taken x w y l e o)))

    one : Split (length x) (m i taken x w y l e o) (length (T i taken)) l
    one =
        let n = long i taken x w y l e o in
        split (length x) (m i taken x w y l e o) (length (T i taken)) l o.aft (omega arith) (omega arith)
        (All-map (λ z c. (parted (m i taken x w y l e o) (long i taken x w y l e o) (sp i taken x w y l e o) z c).0) l mine)

    mine_next : All (Mine i taken x w y l e o) one.right
    mine_next = All-right (Mine i taken x w y l e o) one.left one.right (subst (All (Mine i taken x w y l e o)) one.is mine)

    two : Split (m i taken x w y l e o) (m i taken x w y l e o + 1) (length (T i taken)) one.right
    two =
        let n = long i taken x w y l e o in
        split (m i taken x w y l e o) (m i taken x w y l e o + 1) (length (T i taken)) one.right one.aft (omega arith) (omega arith)
        (All-map (λ z c. (parted (m i taken x w y l e o) (long i taken x w y l e o) (sp i taken x w y l e o) z c).1) one.right mine_next)

    -- the word, the space, and what is left
    abbrev here : List Edge
    here = one.left

    abbrev gap : List Edge
    gap = two.left

    abbrev rest : List Edge
    rest = two.right

    is : l ≡ here ++ (gap ++ rest)
    is = one.is ∙ ap (λ t. here ++ t) two.is

    gap-string : joined gap ≡ the_space ∷ []
    gap-string = over_space (m i taken x w y l e o) (long i taken x w y l e o) (sp i taken x w y l e o) gap (All-left (Mine i taken x w y l e o) gap rest (subst (All (Mine i taken x w y l e o)) two.is mine_next)) two.fore

    here-string : Before x → First_if (D i taken).choices w → joined here ≡ string (D i taken) (ds i taken) w
    here-string b f =
        along x w (the_space ∷ y) here one.right e b (After.space y) f own-onward one.fore one.aft
      where
        own-onward : Onward i taken (length x) (here ++ one.right)
        own-onward = subst (Onward i taken (length x)) one.is o

    word_string : Before x → First_if (D i taken).choices w → joined l ≡ string (D i taken) (ds i taken) w ++ the_space ∷ joined rest
    word_string b f = ap joined is ∙ joined-append here (gap ++ rest)
        ∙ ap (λ t. t ++ joined (gap ++ rest)) (here-string b f)
        ∙ ap (λ t. string (D i taken) (ds i taken) w ++ t) (joined-append gap rest ∙ ap (λ t. t ++ joined rest) gap-string)

    onward : Onward i taken (length ((x ++ w) ++ the_space ∷ [])) rest
    onward =
        let k = o.before in
        let n : m i taken x w y l e o + 1 ≡ length ((x ++ w) ++ the_space ∷ []) =
        omega (arith, length-append (x ++ w) (the_space ∷ []), length-append x w) in
        subst (λ z. Onward i taken z rest) n (record {
          before = k ++ (here ++ gap);
          whole = o.whole ∙ ap (λ t. k ++ t) (is ∙ sym (append_assoc here gap rest))
              ∙ sym (append_assoc k (here ++ gap) rest);
          fore = abut_append 0 (length x) (m i taken x w y l e o + 1) k (here ++ gap) o.fore
              (abut_append (length x) (m i taken x w y l e o) (m i taken x w y l e o + 1) here gap one.fore two.fore);
          aft = two.aft;
        })

  -- From a word's start on, word by word
  from_word : (x w : Text) (ws : List Text) (l : List Edge) → T i taken ≡ x ++ (w ++ spaced ws) → Before x
      → All (First_if (D i taken).choices) (w ∷ ws) → Onward i taken (length x) l → joined l ≡ line_of (map (string (D i taken) (ds i taken)) (w ∷ ws))
  unfolding spaced line_of
  from_word x w [] l e b f o =
      let n : length (T i taken) ≡ length x + length w =
      omega (arith, ap length e, length-append x (w ++ []), length-append w []) in
      along x w [] l [] e b end f.0 (subst (Onward i taken (length x)) (sym (append-nil l)) o)
      (subst (λ z. Abut (length x) z l) n o.aft) (sym n)
      ∙ sym (append-nil (string (D i taken) (ds i taken) w))
  from_word x w (v ∷ vs) l e b f o =
      let y = v ++ spaced vs in
      word_string x w y l e o b f.0
      ∙ ap (λ t. string (D i taken) (ds i taken) w ++ the_space ∷ t)
      (from_word ((x ++ w) ++ the_space ∷ []) v vs (rest x w y l e o) (e ∙ past x w y) (Before.space (x ++ w)) f.1
      (onward x w y l e o))

  line-string : (ws : List Text) → T i taken ≡ line_of ws → All (First_if (D i taken).choices) ws
      → string (D i taken) (ds i taken) (T i taken) ≡ line_of (map (string (D i taken) (ds i taken)) ws)
  unfolding line_of string path path_of path_from joined
  line-string [] e f = rw e
  line-string (w ∷ ws) e f = from_word [] w ws (path (D i taken) (ds i taken) (T i taken)) e start f
      (record { before = []; whole = refl; fore = refl; aft = path-whole i taken.accepted })

-- The statement in characters, proved
pub strings : Strings
strings = line-string
