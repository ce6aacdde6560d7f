-- What the premises of demand 3 give: tables as the proof takes them, and a stretch that stands in the text.
use Rattle.std.specs.Prelude.{◌≡◌, refl, ◌++◌, ℕ, zero, suc, ◌+◌, ◌≤◌, ◌<◌, length, get_or}
use Rattle.std.proofs.Common.{sym, ◌∙◌, arith, length-append, get_or-append-add}
use Rattle.std.proofs.Math.Decide.{dec_lt}
use Rattle.std.proofs.Math.ListN.{get_or-append}
use Rattle.base.specs.Alls.{all-all}
use Rattle.definition.specs.Texts.{Text, the_space, at, prev}
use Rattle.definition.specs.ClassRows.{classes_of}
use Rattle.definition.specs.Call.{Inputs, tables_of, tables, decompositions}
use Rattle.definition.specs.Accepted.{classes-all, vowels-all, accepted_of}
use Rattle.definition.proofs.Blank.{blank}
use Rattle.definition.specs.DecompositionLaws.{space_stands}
use Rattle.stretches.specs.Demand.{spaceless_rule, Taken, Before, After}
use Rattle.stretches.specs.Given.{FairTables, Solid, SolidRule, SpaceRow, Stretch, at_after, at_outside, prev-before, prev_suc, prev_zero, solid_rule, solid_vowel, space_checked, space_row}

pub fair_tables : (i : Inputs) → Taken i → FairTables (tables i) (decompositions i)
unfolding tables tables_of decompositions
fair_tables i t =
    let a = accepted_of i t.accepted in
    record {
      lexicon = record {
        blank = blank i.classes a.classes;
        row = space_row (classes_of i.classes) (classes-all SpaceRow space_checked i.classes a.classes);
        rules = all-all SolidRule spaceless_rule solid_rule (tables i).rules t.no_space;
      };
      vowels = vowels-all (λ y. Solid y.letters) solid_vowel i.vowels a.vowels;
      itself = space_stands i.decompositions a.decompositions;
      o_ang = a.o_ang;
    }

pub stretch : (x st y : Text) → Before x → After y → Stretch (x ++ (st ++ y)) st (length x)
unfolding at
stretch x st y b c =
    record { look = look; back = back; room = omega (arith, length-append x (st ++ y), length-append st y) }
  where
    look : (P p : ℕ) → P ≡ length x + p → p ≤ length st → at (x ++ (st ++ y)) P ≡ at st p
    look P p i l = rw (i, get_or-append-add x (st ++ y) p the_space) (go (dec_lt p (length st)))
      where
        go : Dec (p < length st) → get_or (st ++ y) p the_space ≡ get_or st p the_space
        go (yes k) = get_or-append st y the_space p k
        go (no k) =
            let e : p ≡ length st = omega arith in
            rw e (at_after st c ∙ sym (at_outside st (length st) (omega arith)))

    back : (P p : ℕ) → P ≡ length x + p → p ≤ length st → prev (x ++ (st ++ y)) P ≡ prev st p
    back P zero i l = let e : P ≡ length x = omega arith in rw e (prev-before (st ++ y) b ∙ sym (prev_zero st))
    back P (suc p) i l =
        let e : P ≡ suc (length x + p) = omega arith in
        rw (e, prev_suc (x ++ (st ++ y)) (length x + p), prev_suc st p) (look (length x + p) p refl (omega arith))
