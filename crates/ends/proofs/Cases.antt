-- The cases of the three forms, as positions.
use Prim.Native.Nat.{ℕ, suc, ◌<◌, ◌≤◌}
use mathlib.Core.List.{[], ◌++◌, append-nil}
use mathlib.Core.Bool.{Bool, true, false, true≢false}
use mathlib.Core.Path.{◌≡◌, refl, sym, ap, ◌∙◌}
use native.Mathlib.Omega.{arith}
use lib.Dec.{eqb}
use lib.ListN.{length, get_or, take}
use lib.Seq.{slice, take-length}
use Rattle.base.specs.Pick.{pick}
use Rattle.definition.specs.Texts.{Text, consonants}
use Rattle.definition.specs.Vowels.{bases}
use Rattle.ends.specs.Back.{run}
use Rattle.ends.specs.Ends.{inherent, y_from, stem, kept, none-empty, none-vowel, first, second, neither}
use Rattle.ends.specs.Shown.{Within, unmatched, shown}
use Rattle.ends.specs.declared.Forms.{Forms}

module _ (ao : Bool) (s : Text) (one : Bool) where
  -- the contract
  abbrev pub Right : Forms → Type 0
  Right r = Within (length s) r × ((vowel : Text) → shown s vowel r ≡ bases ao vowel s one)

  -- what no pattern matches
  none : ((vowel : Text) → bases ao vowel s one ≡ (s, s, s ++ vowel)) → (r : Forms) → r ≡ unmatched (length s) → Right r
  unfolding shown pick
  none h r e =
      rw e (
        (omega arith, omega arith, omega arith, omega arith, λ z. (refl, refl)),
        λ vowel. ap (λ (x : Text). (x, x, x ++ vowel)) (take-length s) ∙ sym (h vowel),
      )

  module _ (e : ℕ) (d : e ≡ stem s) where
    pub empty : e ≡ 0 → (r : Forms) → r ≡ unmatched (length s) → Right r
    empty z = none (λ vowel. none-empty ao vowel s one (sym d ∙ z))

    module _ (i : ℕ) (z : e ≡ suc i) (v : ℕ) (w : v ≡ get_or s i 0) where
      pub other : inherent ao v ≡ false → (r : Forms) → r ≡ unmatched (length s) → Right r
      other g = none (λ vowel. none-vowel ao vowel s one i (sym d ∙ z) (ap (inherent ao) (sym w) ∙ g))

      module _ (g : inherent ao v ≡ true) (k : ℕ) (l : k ≡ run (eqb v) s e) (f : ℕ) (y : f ≡ y_from s k) where
        here : inherent ao (get_or s i 0) ≡ true
        here = ap (inherent ao) (sym w) ∙ g

        ran : k ≡ run (eqb (get_or s i 0)) s (stem s)
        ran = l ∙ ap (λ (x : ℕ). run (eqb x) s e) w ∙ ap (run (eqb (get_or s i 0)) s) d

        pub with_y : f < k → k ≤ e → e ≤ length s → (n : ℕ) → n ≡ length s
            → Right (record { rom = n; from = f; to = k; end = e; add = false })
        unfolding shown pick
        with_y u a b n m = (
          (omega arith, omega arith, omega arith, omega arith, λ z. absurd (true≢false (sym z))),
          λ vowel.
              ap (λ (x : Text). (x, slice f k s, slice f e s ++ [])) (ap (λ (x : ℕ). take x s) m ∙ take-length s)
              ∙ ap (λ (x : Text). (s, slice f k s, x)) (append-nil (slice f e s) ∙ ap (λ (x : ℕ). slice f x s) d)
              ∙ sym (first ao vowel s one i (sym d ∙ z) here k ran f y u),
        )

        module _ (u : k ≤ f) (c : ℕ) (q : c ≡ run consonants s i) where
          pub after-consonants : c < i → e ≤ length s → (n : ℕ) → n ≡ kept one s → n ≤ length s
              → Right (record { rom = n; from = c; to = i; end = e; add = false })
          unfolding shown pick
          after-consonants t b n m a = (
            (omega arith, omega arith, omega arith, omega arith, λ z. absurd (true≢false (sym z))),
            λ vowel.
                ap (λ (x : ℕ). (take x s, slice c i s, slice c e s ++ [])) m
                ∙ ap (λ (x : Text). (take (kept one s) s, slice c i s, x)) (append-nil (slice c e s) ∙ ap (λ (x : ℕ). slice c x s) d)
                ∙ sym (second ao vowel s one i (sym d ∙ z) here k ran f y u c q t),
          )

          pub none_before : i ≤ c → (r : Forms) → r ≡ unmatched (length s) → Right r
          none_before t = none (λ vowel. neither ao vowel s one i (sym d ∙ z) here k ran f y u c q t)
