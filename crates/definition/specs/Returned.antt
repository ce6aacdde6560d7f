-- What every call returns: the whole output slice, zero past its length; after a refusal nothing but number and place.
-- (Proved in proofs/Returned.)
use Rattle.std.specs.Prelude.{◌≡◌, List, ℕ, ◌-◌, ◌≤◌, ltb, length, drop, replicate}
use Rattle.std.proofs.Common.{arith, length-append, ltb-false}
use Rattle.std.proofs.lemmas.List.{length-replicate}
use Rattle.std.proofs.Math.Seq.{drop-append_seam}
use Rattle.base.specs.Pick.{pick_ind, pick_all}
use Rattle.definition.specs.Refusals.{Refusal}
use Rattle.definition.specs.Call.{Inputs, Called, refused, uncounted, written}

pub record Returned (i : Inputs) (r : Called) : Type 0 where
  pub whole : length r.output ≡ i.out
  pub fits : r.length ≤ i.out
  pub zeros : drop r.length r.output ≡ replicate (i.out - r.length) 0

pub refused-returned : (i : Inputs) (r : Refusal) → Returned i (refused i r)
unfolding refused
refused-returned i r = record {
  whole = length-replicate i.out 0;
  fits = omega arith;
  zeros = let e : i.out - 0 ≡ i.out = omega arith in rw e;
}

pub written-returned : (i : Inputs) (n : ℕ) (w : List ℕ) → Returned i (written i n w)
unfolding written
written-returned i n w = pick_all (Returned i) (uncounted i.mode w) (refused-returned i _)
    (pick_ind (Returned i) (ltb i.out (length w)) _ _ (λ e. refused-returned i _)
    (λ e. let l = ltb-false i.out (length w) e in record {
      whole = omega (arith, length-append w (replicate (i.out - length w) 0), length-replicate {A = ℕ} (i.out - length w) 0);
      fits = l;
      zeros = drop-append_seam w (replicate (i.out - length w) 0);
    }))
