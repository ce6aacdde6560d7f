-- What every answer of a computation is, whatever is remembered.
use Rattle.std.specs.Prelude.{Bool, true, false, ◌≡◌, refl, ℕ}
use mathlib.Core.List.{List, [], ◌∷◌}
use Rattle.std.proofs.Math.Option.{Option, none, some}
use Rattle.base.specs.Pick.{pick}
use Rattle.base.specs.Lists.{maybe, keep, best}
use Rattle.base.specs.Alls.{All, All-put, All-keep, All-best, Opt, or_else-all}
use Rattle.definition.specs.Texts.{Text}
use Rattle.definition.specs.Tables.{Rule, Lexicon}
use Rattle.definition.specs.Edges.{View, Mem, M, ret, ◌>>=◌}
use Rattle.definition.specs.Rules.{spans, higher, targeted, winner, valid, sift, valids, choose}

pub record Post (A : Type 0) (P : A → Type 0) (f : M A) : Type 0 where
  pub gives : (m : Mem) → P (f m).0

pub post_ret : {A : Type 0} {P : A → Type 0} (x : A) → P x → Post A P (ret x)
unfolding ret
post_ret x p = record { gives = λ m. p }

pub post_bind : {A B : Type 0} (Q : A → Type 0) {P : B → Type 0} {f : M A} (g : A → M B)
    → Post A Q f → ((x : A) → Q x → Post B P (g x)) → Post B P (f >>= g)
unfolding ◌>>=◌
post_bind Q {f = f} g a b = record { gives = λ m. (b (f m).0 (a.gives m)).gives (f m).1 }

pub post_any : {A : Type 0} (f : M A) → Post A (λ x. Unit {0}) f
post_any f = record { gives = λ m. tt }

pub both : {A : Type 0} {P Q : A → Type 0} {f : M A} → Post A P f → Post A Q f → Post A (λ x. P x × Q x) f
both a b = record { gives = λ m. (a.gives m, b.gives m) }

-- an answer that is not looked at
pub post_then : {A B : Type 0} {P : B → Type 0} (f : M A) (g : A → M B) → ((x : A) → Post B P (g x)) → Post B P (f >>= g)
post_then f g b = post_bind (λ x. Unit {0}) g (post_any f) (λ x q. b x)

pub post_if : {A : Type 0} {P : A → Type 0} (b : Bool) {f g : M A}
    → (b ≡ true → Post A P f) → (b ≡ false → Post A P g) → Post A P (pick b f g)
unfolding pick
post_if true p q = p refl
post_if false p q = q refl

pub post_pick : {A : Type 0} {P : A → Type 0} (b : Bool) {f g : M A} → Post A P f → Post A P g → Post A P (pick b f g)
post_pick b p q = post_if b (λ e. p) (λ e. q)

pub post_maybe : {A B : Type 0} {P : A → Type 0} (o : Option B) (R : B → Type 0) {f : M A} {F : B → M A}
    → Opt R o → Post A P f → ((x : B) → R x → Post A P (F x)) → Post A P (maybe o f F)
unfolding maybe
post_maybe none R r p q = p
post_maybe (some x) R r p q = q x r

-- Rule choice: what holds of every rule holds of the valid ones, and of the one that wins
module _ (L : Lexicon) (t : Text) (v : View) (P : Rule → Type 0) where
  sift-all : (s e : ℕ) (rs : List Rule) → All P rs → Post (List Rule) (All P) (sift L t v s e rs)
  unfolding sift
  sift-all s e [] h = post_ret [] tt
  sift-all s e (r ∷ rs) h = post_then (valid L t v s e r) _ (λ b. post_bind (All P) _ (sift-all s e rs h.1)
      (λ l q. post_ret _ (All-put P b r l (λ z. h.0) q)))

  pub valids-all : (s e : ℕ) → All P L.rules → Post (List Rule) (All P) (valids L t v s e)
  unfolding valids
  valids-all s e h = sift-all s e (keep (spans t s e) L.rules) (All-keep P (spans t s e) L.rules h)

  winner-all : (rs : List Rule) → All P rs → Opt P (winner rs)
  unfolding winner
  winner-all rs h = or_else-all P (best higher (keep targeted rs)) (best higher rs)
      (All-best P higher (keep targeted rs) (All-keep P targeted rs h)) (All-best P higher rs h)

  pub choose-all : (s e : ℕ) → All P L.rules → Post (Option Rule) (Opt P) (choose L t v s e)
  unfolding choose
  choose-all s e h = post_bind (All P) _ (valids-all s e h) (λ rs q. post_ret _ (winner-all rs q))
