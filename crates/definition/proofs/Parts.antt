-- A part of an accepted text is an accepted text, with the same tables and code.
use Rattle.std.specs.Prelude.{true, false, ◌≡◌, refl, ◌++◌, ℕ, length}
use Rattle.std.proofs.Common.{ap, subst, arith, length-append}
use Rattle.std.proofs.Math.Option.{none}
use Rattle.base.specs.Alls.{All, All-left, All-right}
use Rattle.definition.specs.Texts.{Text, left_out}
use Rattle.definition.specs.Utf8.{scalar}
use Rattle.definition.specs.Call.{Inputs, tables, decompositions, characters, refusal}
use Rattle.definition.specs.Accepted.{Accepted, accepted_of, refusal_of}
use Rattle.definition.proofs.Roundtrip.{decoded-encoded, encoded-right}
use Rattle.definition.specs.Parts.{Accepts, all-kept, kept-all, scalars, with_text}

pub part-accepted : (i : Inputs) → refusal i ≡ none → (x w y : Text) → characters i ≡ x ++ (w ++ y) → Accepts i w
unfolding with_text tables decompositions
part-accepted i e x w y q = record {
  accepted = refusal_of (with_text i w) (kept (accepted_of i e));
  characters = own;
  tables = refl;
  decompositions = refl;
}
  where
    part : (P : ℕ → Type 0) → All P (characters i) → All P w
    part P h = All-left P w y (All-right P x (w ++ y) (subst (All P) q h))

    own : characters (with_text i w) ≡ w
    own = unfold characters in decoded-encoded w (part (λ c. scalar c ≡ true) (scalars i))

    kept : Accepted i → Accepted (with_text i w)
    kept a = record {
      mode = a.mode;
      capitals = a.capitals;
      o_ang = a.o_ang;
      readings = a.readings;
      rules = a.rules;
      classes = a.classes;
      vowels = a.vowels;
      decompositions = a.decompositions;
      code = a.code;
      text = encoded-right w (part (λ c. scalar c ≡ true) (scalars i));
      size = rw own (let z = a.size in let l = ap length q in omega (arith, length-append x (w ++ y), length-append w y));
      kept = rw own (all-kept 0 w (part (λ c. left_out c ≡ false) (kept-all 0 (characters i) a.kept)));
    }
