-- How many bytes a listing's rows have in each mode, and that the length that a listing begins with is exact.
use Rattle.std.specs.Prelude.{true, false, ◌≡◌, drop}
use Rattle.std.proofs.Common.{sym, ◌∙◌, lt-ltb, le-ltb, ltb-true, ltb-false}
use Rattle.std.proofs.Math.Path.{refl, ap}
use mathlib.Core.List.{List}
use Rattle.std.proofs.Math.Option.{none}
use Prim.Native.Nat.{ℕ, zero, suc, ◌*◌, ◌≤◌, ◌<◌}
use native.Mathlib.Omega.{arith}
use Rattle.std.proofs.Math.ListN.{length, length-append}
use Rattle.base.specs.Big.{be4}
use Rattle.base.specs.Alls.{All, All-map}
use Rattle.definition.specs.Limits.{most_characters, most_alternative, most_bytes, most_listed}
use Rattle.definition.specs.Blocks.{head_bytes, version_1, headed}
use Rattle.definition.specs.Tables.{lexicon}
use Rattle.definition.specs.Edges.{Edge, view}
use Rattle.definition.specs.Paths.{reads, path_of, with_alternatives_of, all_edges_of}
use Rattle.definition.specs.Decomposing.{lattice, edges, edge_count, path, with_alternatives, alternatives, all_edges}
use Rattle.definition.specs.Listing.{edge_rows, listing, shown}
use Rattle.definition.specs.Capacity.{bytes}
use Rattle.definition.specs.Call.{Inputs, tables_of, tables, decompositions, characters, refusal, uncounted}
use Rattle.definition.specs.Accepted.{accepted_of}
use Rattle.definition.proofs.Accepted.{rules_few}
use Rattle.definition.specs.Promises.{Held}
use Rattle.definition.proofs.Promises.{few_characters, few_edges, sound_edges}
use Rattle.definition.specs.Alternatives.{path_sound}
use Rattle.definition.proofs.Alternatives.{listed}
use Rattle.definition.specs.Alt2.{in_own}
use Rattle.definition.specs.Counts.{path_few, for_edge}
use Rattle.definition.proofs.Counts.{rules-others, edges-grown}
use Rattle.definition.specs.AllEdges.{sorted_all, sorted_few}
use Rattle.definition.specs.Sizes.{block-headed, block-length, listed-append, listed-most, listed_bytes, lists, most_alternatives_listed, most_edges_listed, rows_are, shown_in}

pub listing-counted : (m : ℕ) (l : List Edge) → 0 < m → listed_bytes l ≤ most_listed → uncounted m (listing l) ≡ false
listing-counted m l h k = lists m l h ∙ le-ltb most_listed (length (edge_rows l)) (omega (arith, rows_are l))

pub listing-uncounted : (m : ℕ) (l : List Edge) → 0 < m → most_listed < listed_bytes l → uncounted m (listing l) ≡ true
listing-uncounted m l h k = lists m l h ∙ lt-ltb most_listed (length (edge_rows l)) (omega (arith, rows_are l))

pub uncounted-listing : (m : ℕ) (l : List Edge) → 0 < m → uncounted m (listing l) ≡ true → most_listed < listed_bytes l
uncounted-listing m l h e =
    let k = ltb-true most_listed (length (edge_rows l)) (sym (lists m l h) ∙ e) in
    omega (arith, rows_are l)

-- The four bytes before the rows of one that is counted say exactly how many bytes these are
pub listing_exact : (m : ℕ) (l : List Edge) → 0 < m → uncounted m (listing l) ≡ false → be4 (listing l) 1 ≡ length (drop head_bytes (listing l))
unfolding listing
listing_exact m l h e = block-length (edge_rows l) (ltb-false most_listed (length (edge_rows l)) (sym (lists m l h) ∙ e))

-- and its header is right, as the checks of a table's header say it
pub listing-headed : (m : ℕ) (l : List Edge) → 0 < m → uncounted m (listing l) ≡ false → headed version_1 (listing l) ≡ true
unfolding listing
listing-headed m l h e = block-headed (edge_rows l) (listing_exact m l h e)

-- Of a call that is not refused for its mode, tables, code, text or room: the edges of the path, and the alternatives
module _ (i : Inputs) (ok : refusal i ≡ none) (held : Held i) where
  few_path : length (path (tables i) (decompositions i) (characters i)) ≤ most_characters
  unfolding path path_of
  few_path = let n = few_characters i ok in let k = path_few (length (characters i)) 0 (lattice (tables i) (decompositions i) (characters i)).0 in omega arith

  short-path : All (λ x. bytes x ≤ most_bytes) (path (tables i) (decompositions i) (characters i))
  unfolding path path_of edges
  short-path = path_sound (λ x. bytes x ≤ most_bytes) (length (characters i)) 0 (lattice (tables i) (decompositions i) (characters i)).0
      (All-map (λ x s. s.short) (lattice (tables i) (decompositions i) (characters i)).0 (sound_edges i ok held))

  few_alternatives : length (alternatives (tables i) (decompositions i) (characters i)) ≤ for_edge * length (path (tables i) (decompositions i) (characters i))
  unfolding path path_of with_alternatives with_alternatives_of tables tables_of
  few_alternatives =
      let D = tables i in
      let t = characters i in
      let st = lattice D (decompositions i) t in
      let n = rules_few i.rules (accepted_of i ok).rules in
      let o = rules-others i.rules (accepted_of i ok).rules in
      let xs = path_of D t st in
      let g = ((edges-grown (lexicon D) t (view D.classes st.0) (reads D.choices) n o xs xs (in_own xs)).gives st.1).few in
      let w = ap (λ (l : List Edge). length l) (listed i ok).whole in
      omega (arith, length-append (path D (decompositions i) t) (alternatives D (decompositions i) t))

  -- The rows of mode 1, of mode 2 and of mode 3
  pub path-size : listed_bytes (path (tables i) (decompositions i) (characters i)) ≤ most_edges_listed
  path-size =
      let xs = path (tables i) (decompositions i) (characters i) in
      let n = few_path in
      let r = listed-most most_bytes xs short-path in
      omega arith

  pub alternatives-size : listed_bytes (with_alternatives (tables i) (decompositions i) (characters i)) ≤ most_alternatives_listed
  alternatives-size =
      let xs = path (tables i) (decompositions i) (characters i) in
      let ys = alternatives (tables i) (decompositions i) (characters i) in
      let n = few_path in
      let m = few_alternatives in
      let r = listed-most most_bytes xs short-path in
      let q = listed-most most_alternative ys (All-map (λ x s. s.short) ys (listed i ok).alternatives) in
      let w = ap listed_bytes (listed i ok).whole in
      omega (arith, listed-append xs ys)

  pub all-size : listed_bytes (all_edges (tables i) (decompositions i) (characters i)) ≤ most_edges_listed
  unfolding all_edges all_edges_of edges edge_count
  all-size =
      let t = characters i in
      let es = (lattice (tables i) (decompositions i) t).0 in
      let n = few_characters i ok in
      let m = few_edges i in
      let k = sorted_few es (length t) 0 in
      let l = all_edges (tables i) (decompositions i) t in
      let r = listed-most most_bytes l (sorted_all (λ x. bytes x ≤ most_bytes) es (length t) 0 (All-map (λ x s. s.short) es (sound_edges i ok held))) in
      omega arith

  -- So in no mode but 2 is a listing too large: mode 0 has none, and the rows of the others are few
  pub counted_but_2 : (m : ℕ) → (m ≡ 2 → ⊥) → uncounted m (shown_in i m) ≡ false
  unfolding shown path all_edges
  counted_but_2 zero n = unfold uncounted in refl
  counted_but_2 (suc zero) n = listing-counted 1 _ (omega arith) (let h = path-size in omega arith)
  counted_but_2 (suc (suc zero)) n = absurd (n refl)
  counted_but_2 (suc (suc (suc m))) n = listing-counted (suc (suc (suc m))) _ (omega arith) (let h = all-size in omega arith)

-- What is shown by a mode that lists, where it is counted
module _ (i : Inputs) where
  pub length_exact : (m : ℕ) → 0 < m → uncounted m (shown_in i m) ≡ false → be4 (shown_in i m) 1 ≡ length (drop head_bytes (shown_in i m))
  unfolding shown
  length_exact zero l e = absurd (omega arith)
  length_exact (suc zero) l e = listing_exact 1 _ l e
  length_exact (suc (suc zero)) l e = listing_exact 2 _ l e
  length_exact (suc (suc (suc m))) l e = listing_exact (suc (suc (suc m))) _ l e

  pub shown-headed : (m : ℕ) → 0 < m → uncounted m (shown_in i m) ≡ false → headed version_1 (shown_in i m) ≡ true
  unfolding shown
  shown-headed zero l e = absurd (omega arith)
  shown-headed (suc zero) l e = listing-headed 1 _ l e
  shown-headed (suc (suc zero)) l e = listing-headed 2 _ l e
  shown-headed (suc (suc (suc m))) l e = listing-headed (suc (suc (suc m))) _ l e
