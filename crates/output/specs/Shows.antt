-- What a call shows of a built lattice, put at the front of its output where it fits.
use Prim.Native.Nat.{ℕ, zero, suc, ◌+◌, ◌-◌, ◌≤◌}
use Rattle.std.specs.Prelude.{true, false, List, ◌∷◌, ◌++◌, ◌≡◌, leb, drop}
use Rattle.std.proofs.Common.{append_assoc, ◌∙◌, arith, length-append}
use Rattle.std.proofs.Math.Path.{refl, sym, ap}
use Rattle.std.proofs.Math.ListN.{length}
use borrow.Author.Tests.{le-leb, leb-true}
use Rattle.base.specs.Pick.{pick, pick_ind}
use Rattle.base.specs.Big.{two, three, four}
use Rattle.base.specs.Alls.{All, All-map}
use Rattle.definition.specs.Texts.{Text}
use Rattle.definition.specs.Tables.{Tables, lexicon}
use Rattle.definition.specs.Utf8.{encoded}
use Rattle.definition.specs.Edges.{Edge, Mem, State, view}
use Rattle.definition.specs.Paths.{joined, reads, path_from, sorted, path_of, with_alternatives_of, all_edges_of}
use Rattle.definition.specs.Offers.{found_all}
use Rattle.definition.proofs.Offers.{alternatives_are}
use Rattle.definition.specs.Bounds.{Sound, sound_formed}
use Rattle.definition.specs.Listing.{edge_rows, block, listing, shown}
use Rattle.lent_bytes.specs.Puts.{put_at, put-from, put-length}
use Rattle.listing.specs.Items.{items-rows, items-texts, put_items, put_items-end, put_items-length, put_items-all}

-- some bytes that need so much, written where they fit
pub record Shows (w out out' : List ℕ) (r : ℕ) : Type 0 where
  pub needed : r ≡ length w
  pub kept : length out' ≡ length out
  pub written : length w ≤ length out → out' ≡ put_at 0 w out

-- the edges that a mode lists; mode 0 shows those of mode 1 as a string
unfoldable pub listed : Tables → Text → ℕ → State → List Edge
listed D t zero st = path_of D t st
listed D t (suc zero) st = path_of D t st
listed D t (suc (suc zero)) st = with_alternatives_of D t st
listed D t (suc (suc (suc m))) st = all_edges_of D t st

module _ (D : Tables) (t : Text) (n : ℕ) (l : length t ≡ n) (mode : ℕ) (es : List Edge) (m : Mem) where
  -- mode 3: all edges in order
  pub lists-all : mode ≡ 3 → listed D t mode (es, m) ≡ sorted es n 0
  unfolding listed all_edges_of
  lists-all e = ap (λ k. listed D t k (es, m)) e ∙ ap (λ k. sorted es k 0) l

  -- mode 2: the path, then its alternatives
  pub lists-alternatives : mode ≡ 2 → All (Sound n) es
      → listed D t mode (es, m) ≡ path_from n 0 es ++ found_all (reads D.choices) (lexicon D) t (view D.classes es) m (path_from n 0 es)
  unfolding listed with_alternatives_of path_of
  lists-alternatives e h =
      ap (λ k. listed D t k (es, m)) e ∙ alternatives_are (reads D.choices) (lexicon D) t (view D.classes es) n es (All-map sound_formed es h) (length t) 0 m
      ∙ ap (λ k. path_from k 0 es ++ found_all (reads D.choices) (lexicon D) t (view D.classes es) m (path_from k 0 es)) l

  -- below: the path
  pub lists-path : mode ≤ 1 → listed D t mode (es, m) ≡ path_from n 0 es
  unfolding path_of
  lists-path h = go mode h ∙ ap (λ k. path_from k 0 es) l
    where
      go : (k : ℕ) → k ≤ 1 → listed D t k (es, m) ≡ path_of D t (es, m)
      go zero h = unfold listed in refl
      go (suc zero) h = unfold listed in refl
      go (suc (suc k)) h = absurd (omega arith)

-- Mode 0 shows its list as a string, each other as a listing
pub shown-string : (D : Tables) (t : Text) (mode : ℕ) (st : State) → mode ≡ 0
    → shown D t mode st ≡ encoded (joined (path_of D t st))
unfolding shown
shown-string D t mode st e = ap (λ k. shown D t k st) e

pub shown-listed : (D : Tables) (t : Text) (mode : ℕ) (st : State) → 1 ≤ mode
    → shown D t mode st ≡ listing (listed D t mode st)
unfolding shown listed
shown-listed D t zero st h = absurd (omega arith)
shown-listed D t (suc zero) st h = refl
shown-listed D t (suc (suc zero)) st h = refl
shown-listed D t (suc (suc (suc m))) st h = refl

-- What comes in front of bytes that stand already
put_front : (n : ℕ) (x y s : List ℕ) → length x ≡ n → n ≤ length s
    → put_at 0 x (put_at n y s) ≡ put_at 0 (x ++ y) s
unfolding put_at
put_front n x y s e h =
    ap (λ k. x ++ drop k (put_at n y s)) {x = 0 + length x} {y = n} (omega (arith, e))
    ∙ ap (◌++◌ x) (put-from n y s h)
    ∙ sym (append_assoc x y (drop (n + length y) s))
    ∙ ap (λ k. (x ++ y) ++ drop k s) {x = n + length y} {y = 0 + length (x ++ y)} (omega (arith, e, length-append x y))

-- A string is written from the front on
pub shows_string : (l : List Edge) (out : List ℕ) {out' : List ℕ} {r : ℕ} → (r, out') ≡ put_items false l (0, out)
    → Shows (encoded (joined l)) out out' r
shows_string l out {out'} {r} e =
    let w = items-texts l in
    let k = ap length w in
    let z = put_items-end false l (0, out) in record {
      needed = ap (λ p. p.0) e ∙ omega (arith, z, k);
      kept = ap (λ p. length p.1) e ∙ put_items-length false l (0, out);
      written = λ h. ap (λ p. p.1) e ∙ put_items-all false l (0, out) (omega (arith, h, k)) ∙ ap (λ b. put_at 0 b out) w;
    }

-- A listing's rows are written behind the place of its header, then the header in front of them
module _ (l : List Edge) (out : List ℕ) {mid : List ℕ} {e : ℕ} (rows : (e, mid) ≡ put_items true l (5, out)) where
  pub rows_end : e ≡ 5 + length (edge_rows l)
  rows_end = ap (λ p. p.0) rows ∙ put_items-end true l (5, out) ∙ ap (λ b. 5 + length b) (items-rows l)

  rows-kept : length mid ≡ length out
  rows-kept = ap (λ p. length p.1) rows ∙ put_items-length true l (5, out)

  rows_written : e ≤ length out → mid ≡ put_at 5 (edge_rows l) out
  rows_written h =
      let k = ap length (items-rows l) in
      let z = rows_end in
      ap (λ p. p.1) rows ∙ put_items-all true l (5, out) (omega (arith, h, k, z)) ∙ ap (λ b. put_at 5 b out) (items-rows l)

  length_of-listing : length (listing l) ≡ e
  unfolding listing block four three two
  length_of-listing = let z = rows_end in omega (arith, z)

  head-written : e ≤ length out → put_at 0 (1 ∷ four (e - 5)) mid ≡ put_at 0 (listing l) out
  unfolding listing block
  head-written h =
      let z = rows_end in
      let k : e - 5 ≡ length (edge_rows l) = omega (arith, z) in
      ap (λ b. put_at 0 (1 ∷ four (e - 5)) b) (rows_written h)
      ∙ ap (λ n. put_at 0 (1 ∷ four n) (put_at 5 (edge_rows l) out)) k
      ∙ put_front 5 (1 ∷ four (length (edge_rows l))) (edge_rows l) out (unfold four three two in refl) (omega (arith, h, z))

  pub shows_listing : {out' : List ℕ} → out' ≡ pick (leb e (length mid)) (put_at 0 (1 ∷ four (e - 5)) mid) mid
      → Shows (listing l) out out' e
  unfolding pick four three two
  shows_listing {out'} d =
      let k = rows-kept in
      let z = rows_end in record {
        needed = sym length_of-listing;
        kept = ap length d ∙ pick_ind (λ b. length b ≡ length out) (leb e (length mid)) (put_at 0 (1 ∷ four (e - 5)) mid) mid
            (λ t. let g = leb-true e (length mid) t in put-length 0 (1 ∷ four (e - 5)) mid (omega (arith, g, z)) ∙ k) (λ t. k);
        written = λ h.
            let g : e ≤ length out = omega (arith, h, length_of-listing) in
            d ∙ ap (λ b. pick b (put_at 0 (1 ∷ four (e - 5)) mid) mid) (le-leb e (length mid) (omega (arith, g, k)))
            ∙ head-written g;
      }
