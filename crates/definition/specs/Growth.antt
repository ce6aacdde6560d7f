-- Edges are only appended; a character brings 17 at most; and a list that does not fit in the room fits no more when it has grown.
use Rattle.std.specs.Prelude.{Bool, ◌||◌, ◌≡◌, refl, eqb, leb, length}
use Rattle.std.proofs.Math.Bool.{true, false, or-true}
use Rattle.std.proofs.Common.{sym, ◌∙◌, subst, length-append, eq-eqb}
use Rattle.std.proofs.Math.Path.{ap}
use mathlib.Core.List.{List, [], ◌∷◌, ◌++◌, append-nil, append_assoc}
use Rattle.std.proofs.Math.Option.{Option, none, some}
use Prim.Native.Nat.{ℕ, zero, suc, ◌+◌, ◌-◌, ◌*◌, ◌≤◌, ◌<◌}
use native.Mathlib.Omega.{arith}
use Rattle.std.proofs.Math.ListN.{replicate}
use Rattle.base.specs.Pick.{pick_all}
use Rattle.base.specs.Lists.{put, keep, any}
use Rattle.base.specs.ListLaws.{any_append, keep_append}
use Rattle.base.specs.Alls.{All, All-map, All-append, Opt}
use Rattle.definition.specs.Limits.{most_source, most_edges}
use Rattle.definition.specs.Texts.{Text}
use Rattle.definition.specs.Tables.{Tables, lexicon}
use Rattle.definition.specs.Edges.{Edge, M, State, starting, covered, alike, new_in, add, view}
use Rattle.definition.specs.Rules.{is_prefix}
use Rattle.definition.specs.Building.{put_in, each, span_edge, fallback_edge, rise, build, fall, lattice_by, rule_lattice}
use Rattle.definition.specs.Refusals.{Refusal, refuse, refused_room}
use Rattle.definition.specs.Capacity.{bytes, misfit}

-- The second list is the first with some edges behind it, each as `P` says
pub record Added (P : Edge → Type 0) (es fs : List Edge) : Type 0 where
  pub more : List Edge
  pub is : fs ≡ es ++ more
  pub all : All P more

pub added_not : {P : Edge → Type 0} (es : List Edge) → Added P es es
added_not es = record { more = []; is = sym (append-nil es); all = tt }

pub added_twice : {P : Edge → Type 0} {es fs gs : List Edge} → Added P es fs → Added P fs gs → Added P es gs
added_twice {P} {es} {fs} {gs} a b = record {
  more = a.more ++ b.more;
  is = b.is ∙ ap (λ l. l ++ b.more) a.is ∙ append_assoc es a.more b.more;
  all = All-append P a.more b.more a.all b.all;
}

pub added-map : {P Q : Edge → Type 0} {es fs : List Edge} → ((x : Edge) → P x → Q x) → Added P es fs → Added Q es fs
added-map f a = record { more = a.more; is = a.is; all = All-map f a.more a.all }

pub added-one : {P : Edge → Type 0} (es : List Edge) (x : Edge) → P x → Added P es (es ++ x ∷ [])
added-one es x p = record { more = x ∷ []; is = refl; all = (p, tt) }

pub added_new : {P : Edge → Type 0} (like : Edge → Edge → Bool) (es : List Edge) (x : Edge) → P x → Added P es (new_in like es x)
unfolding new_in
added_new {P} like es x p = pick_all (Added P es) (any (like x) (starting es x.from)) (added_not es) (added-one es x p)

pub add-added : {P : Edge → Type 0} (es : List Edge) (o : Option Edge) → Opt P o → Added P es (add es o)
unfolding add
add-added es none p = added_not es
add-added es (some x) p = added_new alike es x p

-- all edges, where there were none
pub added-all : {P : Edge → Type 0} {fs : List Edge} → Added P [] fs → All P fs
added-all {P} a = subst (All P) (sym a.is) a.all

-- `n` of them at most
pub record Grown (n : ℕ) (es fs : List Edge) : Type 0 where
  pub added : Added (λ x. Unit {0}) es fs
  pub few : length fs ≤ length es + n

pub grown_not : (n : ℕ) (es : List Edge) → Grown n es es
grown_not n es = record { added = added_not es; few = omega arith }

pub grown_twice : (m n : ℕ) {es fs gs : List Edge} → Grown m es fs → Grown n fs gs → Grown (m + n) es gs
grown_twice m n a b =
    record { added = added_twice a.added b.added; few = let p = a.few in let q = b.few in omega arith }

pub grown-wide : {m : ℕ} (n : ℕ) {es fs : List Edge} → m ≤ n → Grown m es fs → Grown n es fs
grown-wide n l a = record { added = a.added; few = let p = a.few in omega arith }

-- what is found among the edges from a start, is found when there are more
pub found-append : (q : Edge → Bool) (es fs : List Edge) (p : ℕ)
    → any q (starting (es ++ fs) p) ≡ (any q (starting es p) || any q (starting fs p))
unfolding starting
found-append q es fs p =
    let f : Edge → Bool = λ x. eqb x.from p in
    ap (any q) (keep_append f es fs) ∙ any_append q (keep f es) (keep f fs)

pub found-added : {P : Edge → Type 0} (q : Edge → Bool) (p : ℕ) {es fs : List Edge} → Added P es fs
    → any q (starting es p) ≡ true → any q (starting fs p) ≡ true
found-added q p {es} {fs} g e =
    ap (λ l. any q (starting l p)) g.is ∙ found-append q es g.more p ∙ ap (λ b. b || any q (starting g.more p)) e

pub found-new : (q : Edge → Bool) (es : List Edge) (x : Edge) → q x ≡ true → any q (starting (es ++ x ∷ []) x.from) ≡ true
found-new q es x e = found-append q es (x ∷ []) x.from ∙ ap (λ b. any q (starting es x.from) || b) own ∙ or-true (any q (starting es x.from))
  where
    own : any q (starting (x ∷ []) x.from) ≡ true
    own = unfold starting keep any in
        (ap (λ b. any q (put b x [])) (eq-eqb x.from x.from refl) ∙ ap (λ b. b || false) e)

-- By one step
pub new-grown : (like : Edge → Edge → Bool) (es : List Edge) (x : Edge) → Grown 1 es (new_in like es x)
unfolding new_in
new-grown like es x = pick_all (Grown 1 es) (any (like x) (starting es x.from))
    (grown_not 1 es) (record { added = added-one es x tt; few = omega (arith, length-append es (x ∷ [])) })

pub add-grown : (es : List Edge) (o : Option Edge) → Grown 1 es (add es o)
unfolding add
add-grown es none = grown_not 1 es
add-grown es (some x) = new-grown alike es x

pub put_in-grown : (f : List Edge → M (Option Edge)) (st : State) → Grown 1 st.0 (put_in f st).0
unfolding put_in
put_in-grown f st = add-grown st.0 (f st.0 st.1).0

pub put_in-added : {P : Edge → Type 0} (f : List Edge → M (Option Edge)) (st : State) → Opt P (f st.0 st.1).0
    → Added P st.0 (put_in f st).0
unfolding put_in
put_in-added f st p = add-added st.0 (f st.0 st.1).0 p

-- By a pass
pub each-added : {P : Edge → Type 0} (n : ℕ) (f : ℕ → State → State) → ((p : ℕ) (st : State) → p < n → Added P st.0 (f p st).0)
    → (k p : ℕ) (st : State) → p + k ≤ n → Added P st.0 (each f k p st).0
unfolding each
each-added n f g zero p st l = added_not st.0
each-added n f g (suc k) p st l = added_twice (g p st (omega arith)) (each-added n f g k (p + 1) (f p st) (omega arith))

pub each-grown : (f : ℕ → State → State) (n : ℕ) → ((p : ℕ) (st : State) → Grown n st.0 (f p st).0)
    → (k p : ℕ) (st : State) → Grown (n * k) st.0 (each f k p st).0
unfolding each
each-grown f n g zero p st = grown_not (n * 0) st.0
each-grown f n g (suc k) p st = grown-wide (n * suc k) (omega (arith, mul_suc n k))
    (grown_twice n (n * k) (g p st) (each-grown f n g k (p + 1) (f p st)))
  where
    mul_suc : (n k : ℕ) → n * suc k ≡ n + n * k
    mul_suc n k = omega arith

module _ (D : Tables) (t : Text) where
  pub rise-grown : (k : ℕ) (b : Bool) (s e : ℕ) (st : State) → Grown k st.0 (rise D t k b s e st).0
  unfolding rise
  rise-grown zero b s e st = grown_not 0 st.0
  rise-grown (suc k) false s e st = grown_not (suc k) st.0
  rise-grown (suc k) true s e st =
      let f : List Edge → M (Option Edge) = λ es. span_edge D t (view D.classes es) s e in
      grown-wide (suc k) (omega arith) (grown_twice 1 k (put_in-grown f st)
      (rise-grown k (is_prefix D.rules t s (e + 1)) s (e + 1) (put_in f st)))

  pub build-grown : (p : ℕ) (st : State) → Grown most_source st.0 (build D t p st).0
  unfolding build
  build-grown p st = rise-grown most_source (is_prefix D.rules t p (p + 1)) p (p + 1) st

  pub fall-grown : (p : ℕ) (st : State) → Grown 1 st.0 (fall D t p st).0
  unfolding fall
  fall-grown p st =
      let f : List Edge → M (Option Edge) = λ es. fallback_edge (lexicon D) t (view D.classes es) p in
      pick_all (λ S. Grown 1 st.0 S.0) (covered st.0 p) {x = st} {y = put_in f st}
      (grown_not 1 st.0) (put_in-grown f st)

  -- At most 17 edges for each character, where none stands for others
  pub rule_lattice_few : length (rule_lattice D t).0 ≤ most_edges * length t
  unfolding rule_lattice lattice_by
  rule_lattice_few =
      let st : State = each (build D t) (length t) 0 ([], replicate (length t) 0) in
      let a = (each-grown (build D t) most_source build-grown (length t) 0 ([], replicate (length t) 0)).few in
      let b = (each-grown (fall D t) 1 fall-grown (length t) 0 st).few in
      omega arith

-- What does not fit, does not fit with more behind it; and what fits uses that many slots and bytes
pub misfit-grown : (k r : ℕ) (es more : List Edge) (x : Refusal) → misfit k r es ≡ some x → misfit k r (es ++ more) ≡ some x
unfolding misfit
misfit-grown k r [] more x e = absurd (let w : ◌≡◌ {A = ℕ} 0 1 = cc in omega arith)
misfit-grown zero r (y ∷ es) more x e = e
misfit-grown (suc k) r (y ∷ es) more x e = go (leb (bytes y) r) e (misfit-grown k (r - bytes y) es more x)
  where
    go : (b : Bool) → elim b [ true ↦ misfit k (r - bytes y) es | false ↦ some (refuse refused_room y.from) ] ≡ some x → (misfit k (r - bytes y) es ≡ some x → misfit k (r - bytes y) (es ++ more) ≡ some x)
        → elim b [ true ↦ misfit k (r - bytes y) (es ++ more) | false ↦ some (refuse refused_room y.from) ] ≡ some x
    go true e f = f e
    go false e f = e

-- the bytes of some edges' texts
unfoldable pub all_bytes : List Edge → ℕ
all_bytes [] = 0
all_bytes (x ∷ l) = bytes x + all_bytes l

pub misfit-after : (k r : ℕ) (es more : List Edge) → misfit k r es ≡ none → misfit k r (es ++ more) ≡ misfit (k - length es) (r - all_bytes es) more
unfolding misfit all_bytes
misfit-after k r [] more e = let p : k - 0 ≡ k = omega arith in let q : r - 0 ≡ r = omega arith in rw (p, q)
misfit-after zero r (y ∷ es) more e = absurd (let w : ◌≡◌ {A = ℕ} 0 1 = cc in omega arith)
misfit-after (suc k) r (y ∷ es) more e = go (leb (bytes y) r) e (misfit-after k (r - bytes y) es more)
  where
    go : (b : Bool) → ◌≡◌ {A = Option Refusal} (elim b [ true ↦ misfit k (r - bytes y) es | false ↦ some (refuse refused_room y.from) ]) none
        → (misfit k (r - bytes y) es ≡ none → misfit k (r - bytes y) (es ++ more) ≡ misfit (k - length es) (r - bytes y - all_bytes es) more)
        → elim b [ true ↦ misfit k (r - bytes y) (es ++ more) | false ↦ some (refuse refused_room y.from) ] ≡ misfit (suc k - length (y ∷ es)) (r - (bytes y + all_bytes es)) more
    go true e f =
        let p : suc k - length (y ∷ es) ≡ k - length es = omega arith in
        let q : r - (bytes y + all_bytes es) ≡ r - bytes y - all_bytes es = omega arith in rw (p, q) (f e)
    go false e f = absurd (let w : ◌≡◌ {A = ℕ} 0 1 = cc in omega arith)
