-- The capitalizing step makes no text longer, and what it has made small letters of is not doubled.
use Rattle.std.specs.Prelude.{Bool, true, false, ◌&&◌, ◌||◌, ◌≡◌, refl, ℕ, ◌+◌, eqb}
use Rattle.std.proofs.Math.Bool.{and-false}
use Rattle.std.proofs.Common.{true≢false, sym, ap, ◌∙◌, arith}
use mathlib.Core.List.{List, [], ◌∷◌}
use borrow.Author.Tests.{ne_eqb, not-true}
use Rattle.base.specs.Pick.{pick}
use Rattle.base.specs.Bools.{and_left, and_right}
use Rattle.base.specs.Lists.{any, head, same, starts}
use Rattle.definition.specs.Texts.{Text, at, prev, capital}
use Rattle.definition.specs.Blocks.{small}
use Rattle.definition.specs.Tables.{Class, Choices}
use Rattle.definition.specs.Classes.{script}
use Rattle.definition.specs.Expansion.{Work, work, upper_case, capitalized, capitalizes, doubling, doubled, small_tsu, double}
use Rattle.definition.specs.Shorts.{Low, Short}
use Rattle.definition.specs.Capitals.{capitalized-all, capitalized-length, doubling-small}

pub capitalized-short : {n : ℕ} {w : Text} → Short n w → Short n (capitalized w)
capitalized-short {n} {w} s = record {
  long = let l = s.long in omega (arith, capitalized-length w);
  low = capitalized-all Low (λ c l g. omega arith) w s.low;
}

not_doubling : (c : ℕ) → small c ≡ false → doubling c ≡ false
not_doubling c e = go (doubling c) refl
  where
    go : (b : Bool) → doubling c ≡ b → b ≡ false
    go true q = absurd (true≢false (sym (doubling-small c q) ∙ e))
    go false q = refl

undoubled : (c : ℕ) (w : Text) → any small w ≡ false → doubled c (capitalized w) ≡ []
unfolding doubled capitalized any starts head pick small
undoubled c [] e = refl
undoubled c (x ∷ w) e =
    let f = neither (small x) (any small w) e in
    rw (ne_eqb 99 x (λ z. true≢false (ap small z ∙ f)), not_doubling x f)
  where
    neither : (a b : Bool) → (a || b) ≡ false → a ≡ false
    neither true b q = q
    neither false b q = refl

pub capitals_undoubled : (c : Choices) (ks : List Class) (t : Text) (o : ℕ) (w : Work) → capitalizes c ks t w ≡ true
    → double ks t o (work (capitalized w.rom) w.from w.to w.note) ≡ work (capitalized w.rom) w.from w.to w.note
unfolding capitalizes upper_case double same pick
capitals_undoubled c ks t o w e =
    let upper = and_right (eqb c.capitals 1 && eqb (w.from + 1) w.to) (upper_case w.rom) (and_left _ _ e) in
    let none = not-true (any small w.rom) (and_right (any capital w.rom) _ upper) in
    rw (undoubled (prev t o) w.rom none, and-false (small_tsu (prev t o) && eqb (script ks (prev t o)) (script ks (at t o))))
