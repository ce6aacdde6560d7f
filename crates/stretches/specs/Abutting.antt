-- Edges that abut, one after another from a start to an end, and the parts of such a list.
use Rattle.std.specs.Prelude.{◌≡◌, refl, List, [], ◌∷◌, ◌++◌, ◌⊎◌, ℕ, ◌+◌, ◌≤◌, ◌<◌}
use Rattle.std.proofs.Common.{sym, ◌∙◌, ap, subst, append-nil, inl, inr, arith, le-leb}
use Rattle.std.proofs.Math.Decide.{ℕ_discrete}
use Rattle.std.proofs.lemmas.Bool.{lt-leb}
use Rattle.base.specs.Lists.{keep}
use Rattle.base.specs.ListLaws.{keep_every, keep_append, keep-none}
use Rattle.base.specs.Alls.{All, All-map}
use Rattle.definition.specs.Edges.{Edge}
use Rattle.definition.specs.Cover.{Abut}
use Rattle.stretches.specs.Demand.{within}

pub abut_goes : (p q : ℕ) (l : List Edge) → Abut p q l → p ≤ q
abut_goes p q [] h = omega (arith, h)
abut_goes p q (x ∷ l) h = let r = abut_goes x.to q l h.2 in let s = h.1 in omega arith

pub abut_append : (p q r : ℕ) (l k : List Edge) → Abut p q l → Abut q r k → Abut p r (l ++ k)
abut_append p q r [] k h j = subst (λ z. Abut z r k) (sym h) j
abut_append p q r (x ∷ l) k h j = (h.0, h.1, abut_append x.to q r l k h.2 j)

pub abut_none : (p : ℕ) (l : List Edge) → Abut p p l → l ≡ []
abut_none p [] h = refl
abut_none p (x ∷ l) h = let r = abut_goes x.to p l h.2 in let s = h.1 in absurd (omega arith)

-- An edge that starts at `p` or later, ends at `q` or earlier, and goes forward
record Between (p q : ℕ) (x : Edge) : Type 0 where
  pub starts : p ≤ x.from
  pub goes : x.from < x.to
  pub ends : x.to ≤ q

abut_between : (p q : ℕ) (l : List Edge) → Abut p q l → All (Between p q) l
abut_between p q [] h = tt
abut_between p q (x ∷ l) h =
    let r = abut_goes x.to q l h.2 in
    let e = h.0 in
    let s = h.1 in (
      record { starts = omega arith; goes = omega arith; ends = r },
      All-map (λ y b. record { starts = omega arith; goes = b.goes; ends = b.ends }) l (abut_between x.to q l h.2),
    )

-- An edge that does not reach over `m`; where no edge of an abutting list does, `m` parts the list
abbrev pub Parted : ℕ → Edge → Type 0
Parted m x = (x.to ≤ m) ⊎ (m ≤ x.from)

pub record Split (p m q : ℕ) (l : List Edge) : Type 0 where
  pub left : List Edge
  pub right : List Edge
  pub is : l ≡ left ++ right
  pub fore : Abut p m left
  pub aft : Abut m q right

pub split : (p m q : ℕ) (l : List Edge) → Abut p q l → p ≤ m → m ≤ q → All (Parted m) l → Split p m q l
split p m q [] h i j a =
    let e : p ≡ m = omega (arith, h) in
    let f : m ≡ q = omega (arith, h) in
    record { left = []; right = []; is = refl; fore = e; aft = f }
split p m q (x ∷ l) h i j a = go (ℕ_discrete p m) a.0 (λ k. split x.to m q l h.2 k j a.1)
  where
    go : Dec (p ≡ m) → Parted m x → (x.to ≤ m → Split x.to m q l) → Split p m q (x ∷ l)
    go (yes e) c f =
        record { left = []; right = x ∷ l; is = refl; fore = e; aft = subst (λ z. Abut z q (x ∷ l)) e h }
    go (no n) (inl k) f =
        let r = f k in
        record {
          left = x ∷ r.left;
          right = r.right;
          is = ap (λ t. x ∷ t) r.is;
          fore = (h.0, h.1, r.fore);
          aft = r.aft;
        }
    go (no n) (inr k) f = let e = h.0 in absurd (omega arith)

-- What lies within the middle of three parts is that part
pub middle : (a n N : ℕ) (k l r : List Edge) → Abut 0 a k → Abut a (a + n) l → Abut (a + n) N r
    → keep (within a n) (k ++ (l ++ r)) ≡ l
unfolding within
middle a n N k l r x y z =
    keep_append (within a n) k (l ++ r)
    ∙ ap (λ t. t ++ keep (within a n) (l ++ r))
    (keep-none (Between 0 a) (within a n) k (abut_between 0 a k x)
    (λ e b. let s = b.goes in let t = b.ends in rw (lt-leb a e.from (omega arith))))
    ∙ keep_append (within a n) l r
    ∙ ap (λ t. t ++ keep (within a n) r)
    (keep_every (within a n) l (All-map
    (λ e b. rw (le-leb a e.from b.starts, le-leb e.to (a + n) b.ends)) l (abut_between a (a + n) l y)))
    ∙ ap (λ t. l ++ t)
    (keep-none (Between (a + n) N) (within a n) r (abut_between (a + n) N r z)
    (λ e b. let s = b.goes in let t = b.starts in
    rw (le-leb a e.from (omega arith), lt-leb e.to (a + n) (omega arith))))
    ∙ append-nil l
