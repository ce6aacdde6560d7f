-- What is remembered of the positions of a stretch, and the one relation between a computation on the whole text and
-- one on the stretch, with its laws.
use Rattle.std.specs.Prelude.{Bool, ◌≡◌, ◌⊎◌, ℕ, zero, suc, ◌+◌, ◌-◌, ◌≤◌, ◌<◌, take, drop, get_or, set, replicate}
use Rattle.std.proofs.Math.Bool.{true, false}
use Rattle.std.proofs.Math.Path.{refl, ap, subst}
use Rattle.std.proofs.Common.{◌∙◌, inl, inr, ⊎_elim, arith, get_or-take, get_or-drop, drop-set-lt}
use Rattle.std.proofs.Math.Option.{Option, none, some, map}
use Rattle.std.proofs.lemmas.List.{drop-set-add, take-set-le}
use Rattle.std.proofs.Math.Seq.{take-set-lt}
use Rattle.base.specs.Pick.{pick}
use Rattle.base.specs.Lists.{maybe}
use Rattle.base.specs.Alls.{Opt}
use Rattle.base.specs.ListLaws.{take-replicate}
use Rattle.definition.specs.Edges.{Mem, M, ret, ◌>>=◌, remember}
use Rattle.definition.specs.Posts.{Post}

-- of the `n` positions from `a` on
unfoldable pub window : ℕ → ℕ → Mem → Mem
window a n m = take n (drop a m)

pub window-at : (a n : ℕ) (m : Mem) (p : ℕ) → p < n → get_or (window a n m) p 0 ≡ get_or m (a + p) 0
unfolding window
window-at a n m p l = rw (get_or-take, get_or-drop)

window-set : (a n : ℕ) (m : Mem) (p k : ℕ) → p < n → window a n (set m (a + p) k) ≡ set (window a n m) p k
unfolding window
window-set a n m p k l = rw (drop-set-add, take-set-lt)

window_apart : (a n : ℕ) (m : Mem) (q k : ℕ) → (q < a) ⊎ (a + n ≤ q) → window a n (set m q k) ≡ window a n m
unfolding window
window_apart a n m q k (inl l) = rw (drop-set-lt a m q k l)
window_apart a n m q k (inr l) =
    let e : q ≡ a + (q - a) = omega arith in
    rw (e, drop-set-add, take-set-le n (drop a m) (q - a) k (omega arith))

-- at first nothing is remembered
pub window_zero : (a n k : ℕ) → a + n ≤ k → window a n (replicate k 0) ≡ replicate n 0
unfolding window
window_zero zero n k l = take-replicate 0 n k (omega arith)
window_zero (suc a) zero zero l = refl
window_zero (suc a) (suc n) zero l = absurd (omega arith)
window_zero (suc a) n (suc k) l = window_zero a n k (omega arith)

-- two stretches that do not overlap
abbrev pub Apart : ℕ → ℕ → ℕ → ℕ → Type 0
Apart a n b k = (b + k ≤ a) ⊎ (a + n ≤ b)

-- `f` on the whole text does what `g` does on the stretch of length `n` from `a` on: its answer is that of `g`, which
-- is as `Q` says, moved by `φ`; of the stretch it remembers what `g` does; of other stretches it remembers nothing new
pub record Sim (a n : ℕ) (A : Type 0) (φ : A → A) (Q : A → Type 0) (f g : M A) : Type 0 where
  pub value : (m : Mem) → (f m).0 ≡ φ (g (window a n m)).0
  pub post : (m : Mem) → Q (g (window a n m)).0
  pub known : (m : Mem) → window a n (f m).1 ≡ (g (window a n m)).1
  pub frame : (m : Mem) (b k : ℕ) → Apart a n b k → window b k (f m).1 ≡ window b k m

-- with the same answer
abbrev pub Agree : ℕ → ℕ → (A : Type 0) → M A → M A → Type 0
Agree a n A f g = Sim a n A (λ x. x) (λ x. Unit {0}) f g

module _ {a n : ℕ} {A : Type 0} {φ : A → A} {Q : A → Type 0} where
  -- Answers
  pub sim_ret-by : (X x : A) → X ≡ φ x → Q x → Sim a n A φ Q (ret X) (ret x)
  unfolding ret
  sim_ret-by X x e q = record { value = λ m. e; post = λ m. q; known = λ m. refl; frame = λ m b k d. refl }

  pub sim_ret : (x : A) → Q x → Sim a n A φ Q (ret (φ x)) (ret x)
  sim_ret x q = sim_ret-by (φ x) x refl q

  -- a fact of the answer that was proved by itself
  pub sim_post : {f g : M A} (R : A → Type 0) → Sim a n A φ Q f g → Post A R g → Sim a n A φ R f g
  sim_post R s p = record { value = s.value; post = λ m. p.gives (window a n m); known = s.known; frame = s.frame }

  -- Choices
  pub sim_if : (b : Bool) {f g F G : M A} → (b ≡ true → Sim a n A φ Q f g) → (b ≡ false → Sim a n A φ Q F G)
      → Sim a n A φ Q (pick b f F) (pick b g G)
  unfolding pick
  sim_if true s S = s refl
  sim_if false s S = S refl

  pub sim_pick : (b : Bool) {f g F G : M A} → Sim a n A φ Q f g → Sim a n A φ Q F G
      → Sim a n A φ Q (pick b f F) (pick b g G)
  sim_pick b s S = sim_if b (λ e. s) (λ e. S)

  pub sim_maybe : {B : Type 0} (R : B → Type 0) (o : Option B) {f g : M A} {F G : B → M A} → Opt R o
      → Sim a n A φ Q f g → ((x : B) → R x → Sim a n A φ Q (F x) (G x)) → Sim a n A φ Q (maybe o f F) (maybe o g G)
  unfolding maybe
  sim_maybe R none r s S = s
  sim_maybe R (some x) r s S = S x r

  pub sim_maybe-moved : {B : Type 0} (ψ : B → B) (R : B → Type 0) (o : Option B)
      {f g : M A} (F : B → M A) {G : B → M A} → Opt R o
      → Sim a n A φ Q f g → ((x : B) → R x → Sim a n A φ Q (F (ψ x)) (G x))
      → Sim a n A φ Q (maybe (map ψ o) f F) (maybe o g G)
  unfolding maybe
  sim_maybe-moved ψ R none F r s S = s
  sim_maybe-moved ψ R (some x) F r s S = S x r

  -- One after the other
  pub sim_bind : {B : Type 0} {ψ : B → B} {R : B → Type 0} {f g : M A} (F : A → M B) {G : A → M B}
      → Sim a n A φ Q f g → ((x : A) → Q x → Sim a n B ψ R (F (φ x)) (G x)) → Sim a n B ψ R (f >>= F) (g >>= G)
  unfolding ◌>>=◌
  sim_bind {B} {ψ} {R} {f} {g} F {G} s S = record {
    value = λ m. ap (λ x. (F x (f m).1).0) (s.value m)
        ∙ (next m).value (f m).1 ∙ ap (λ u. ψ (G (own m) u).0) (s.known m);
    post = λ m. subst (λ u. R (G (own m) u).0) (s.known m) ((next m).post (f m).1);
    known = λ m. ap (λ x. window a n (F x (f m).1).1) (s.value m)
        ∙ (next m).known (f m).1 ∙ ap (λ u. (G (own m) u).1) (s.known m);
    frame = λ m b k d. ap (λ x. window b k (F x (f m).1).1) (s.value m)
        ∙ (next m).frame (f m).1 b k d ∙ s.frame m b k d;
  }
    where
      own : Mem → A
      own m = (g (window a n m)).0

      next : (m : Mem) → Sim a n B ψ R (F (φ (own m))) (G (own m))
      next m = S (own m) (s.post m)

-- What is remembered of a position of the stretch
pub remember-inside : (a n p : ℕ) (b : Bool) → p < n → Agree a n Bool (remember (a + p) b) (remember p b)
unfolding remember
remember-inside a n p b l = record {
  value = λ m. refl;
  post = λ m. tt;
  known = λ m. window-set a n m p (pick b 1 2) l;
  frame = λ m c k d. window_apart c k m (a + p) (pick b 1 2)
      (⊎_elim (λ e. inr (omega arith)) (λ e. inl (omega arith)) d);
}
