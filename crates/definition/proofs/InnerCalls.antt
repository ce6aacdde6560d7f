-- The characters of a row as a text of their own: the call of them alone gives what they give inside a text.
use Rattle.std.specs.Prelude.{true, ◌≡◌, replicate}
use Rattle.std.proofs.Math.Bool.{false}
use Rattle.std.proofs.Common.{true≢false, sym, ◌∙◌, le-ltb}
use Rattle.std.proofs.Math.Path.{refl, ap, subst}
use mathlib.Core.List.{List, [], ◌∷◌}
use Rattle.std.proofs.Math.Option.{none, some}
use Prim.Native.Nat.{ℕ, ◌-◌, ◌/◌, ◌≤◌, ◌<◌}
use native.Mathlib.Omega.{arith}
use Rattle.std.proofs.Math.ListN.{length}
use Rattle.std.proofs.Math.Seq.{take-append_seam}
use Rattle.base.specs.Pick.{pick}
use Rattle.base.specs.Lists.{keep, any, same}
use Rattle.base.specs.Alls.{All, All-at, All-map, Opt}
use Rattle.definition.specs.Limits.{slot_bytes}
use Rattle.definition.specs.Refusals.{Refusal}
use Rattle.definition.specs.Texts.{Text, at, the_space}
use Rattle.definition.specs.Utf8.{encoded}
use Rattle.definition.specs.Tables.{Tables}
use Rattle.definition.specs.Edges.{Edge, starting, covered}
use Rattle.definition.specs.Building.{each, build, fall, lattice_by, rule_lattice}
use Rattle.definition.specs.DecompositionRows.{has_row}
use Rattle.definition.specs.Decomposing.{stands_for, uncoded, inner_lattice, inner_string}
use Rattle.definition.specs.Listing.{shown}
use Rattle.definition.specs.Capacity.{misfit}
use Rattle.definition.specs.Call.{Inputs, tables_of, tables, decompositions, characters, code_right, refusal, refused, uncounted, written, within_room, unless_refused, called}
use Rattle.definition.specs.Accepted.{Accepted, accepted_of, refusal_of}
use Rattle.definition.specs.DecompositionLaws.{decompositions-all}
use Rattle.definition.specs.Growth.{fall-grown}
use Rattle.definition.specs.Covers.{fall_covers, each_covers}
use Rattle.definition.specs.Bounds.{Bounded}
use Rattle.definition.proofs.Promises.{tables-bounded}
use Rattle.definition.proofs.Roundtrip.{decoded-encoded, encoded-right}
use Rattle.definition.specs.Parts.{all-kept}
use Rattle.definition.specs.FormsOff.{stands-all, by_rules_alone}
use Rattle.definition.proofs.FormsOff.{accepted_off}
use Rattle.definition.specs.InnerCalls.{D, Final, ReadAlone, alone, own, rowless_stands, slot_left}

-- Every row's characters are such a text, whatever its tag
pub rows_final : (i : Inputs) → refusal i ≡ none → All (λ d. Final (decompositions i) d.into) (decompositions i)
unfolding decompositions
rows_final i e = All-map (λ d q. record { least = q.least; most = q.most; scalars = q.scalars; kept = q.kept; rowless = q.final })
    (decompositions i) (decompositions-all i.decompositions (accepted_of i e).decompositions)

pub stands_final : (i : Inputs) → refusal i ≡ none → (c : ℕ) (w : Text) → stands_for (decompositions i) c ≡ some w → Final (decompositions i) w
stands_final i e c w q =
    let ds = decompositions i in
    subst (Opt (Final ds)) q (stands-all (Final ds) ds c (rows_final i e))

module _ (i : Inputs) (ok : refusal i ≡ none) (w : Text) (f : Final (decompositions i) w) (slots room out : ℕ) where
  own-tables : tables (own i ok w f slots room out) ≡ uncoded (D i ok w f slots room out)
  unfolding tables tables_of alone
  own-tables = refl

  own-characters : characters (own i ok w f slots room out) ≡ w
  unfolding characters alone
  own-characters = decoded-encoded w f.scalars

  own-accepted : refusal (own i ok w f slots room out) ≡ none
  own-accepted = refusal_of (own i ok w f slots room out) (parts (accepted_of i ok))
    where
      parts : Accepted i → Accepted (own i ok w f slots room out)
      parts a = unfold alone in record {
        mode = omega arith;
        capitals = a.capitals;
        o_ang = a.o_ang;
        readings = a.readings;
        rules = a.rules;
        classes = a.classes;
        vowels = a.vowels;
        decompositions = a.decompositions;
        code = unfold code_right same in refl;
        text = encoded-right w f.scalars;
        size = rw own-characters (let z = f.most in omega arith);
        kept = rw own-characters (all-kept 0 w f.kept);
      }

  own-bounded : Bounded (uncoded (D i ok w f slots room out))
  unfolding tables tables_of
  own-bounded = let a = accepted_of i ok in
      tables-bounded i.choices i.rules i.classes i.vowels [] a.rules a.classes a.vowels

  -- Alone its characters are asked for the same edges, and answer with the same string
  pub alone-called : called (own i ok w f slots room out) ≡ within_room (own i ok w f slots room out) (uncoded (D i ok w f slots room out)) w (inner_lattice (D i ok w f slots room out) w) (misfit (slots / slot_bytes) room (inner_lattice (D i ok w f slots room out) w).0)
  unfolding called unless_refused inner_lattice by_rules_alone alone decompositions
  alone-called = rw (own-accepted, own-tables, own-characters)
      (accepted_off (own i ok w f slots room out) (uncoded (D i ok w f slots room out)) w own-bounded (λ p l. rowless_stands (decompositions i) (at w p) (own_rowless p l)))
    where
      own_rowless : (p : ℕ) → p < length w → has_row (decompositions i) (at w p) ≡ false
      own_rowless p l = unfold at in All-at (λ c. has_row (decompositions i) c ≡ false) w p the_space f.rowless l

  -- where slots, room and output are enough, the call is done
  pub alone-read : misfit (slots / slot_bytes) room (inner_lattice (D i ok w f slots room out) w).0 ≡ none → length (encoded (inner_string (D i ok w f slots room out) w)) ≤ out
      → ReadAlone (D i ok w f slots room out) w (called (own i ok w f slots room out))
  unfolding inner_string
  alone-read h l = subst (ReadAlone (D i ok w f slots room out) w) (sym (alone-called ∙ ap (within_room (own i ok w f slots room out) (uncoded (D i ok w f slots room out)) w (inner_lattice (D i ok w f slots room out) w)) h)) done
    where
      string : List ℕ
      string = encoded (inner_string (D i ok w f slots room out) w)

      done : ReadAlone (D i ok w f slots room out) w (within_room (own i ok w f slots room out) (uncoded (D i ok w f slots room out)) w (inner_lattice (D i ok w f slots room out) w) none)
      done = unfold within_room uncounted written shown alone pick in (rw (le-ltb out (length string) l) (record {
        number = refl;
        place = refl;
        written = refl;
        count = refl;
        shows = take-append_seam string (replicate (out - length string) 0);
      }))

  -- and where they are not, it is refused as the character is that stands for them, but for the place
  pub alone-refused : (x : Refusal) → misfit (slots / slot_bytes) room (inner_lattice (D i ok w f slots room out) w).0 ≡ some x → called (own i ok w f slots room out) ≡ refused (own i ok w f slots room out) x
  unfolding within_room
  alone-refused x h = alone-called ∙ ap (within_room (own i ok w f slots room out) (uncoded (D i ok w f slots room out)) w (inner_lattice (D i ok w f slots room out) w)) h

-- So it is with every character that stands for others in an accepted call
pub stands_read : (i : Inputs) → refusal i ≡ none → (c : ℕ) (w : Text) → stands_for (decompositions i) c ≡ some w → (slots room out : ℕ)
    → misfit (slots / slot_bytes) room (inner_lattice (tables i) w).0 ≡ none → length (encoded (inner_string (tables i) w)) ≤ out
    → ReadAlone (tables i) w (called (alone i w slots room out))
stands_read i ok c w q slots room out h l = alone-read i ok w (stands_final i ok c w q) slots room out h l

-- and with every row, whatever its tag
pub rows-read : (i : Inputs) → refusal i ≡ none → (slots room out : ℕ)
    → All (λ d. misfit (slots / slot_bytes) room (inner_lattice (tables i) d.into).0 ≡ none → length (encoded (inner_string (tables i) d.into)) ≤ out
    → ReadAlone (tables i) d.into (called (alone i d.into slots room out))) (decompositions i)
rows-read i ok slots room out =
    All-map (λ d q h l. alone-read i ok d.into q slots room out h l) (decompositions i) (rows_final i ok)

-- Some edge they have, so where theirs find slots there is one: the edge of the character that stands for them is never refused one
lattice_some : (D : Tables) (t : Text) → 0 < length t → 0 < length (rule_lattice D t).0
unfolding rule_lattice lattice_by
lattice_some D t l = go (rule_lattice D t).0
    (each_covers (fall D t) (λ p st. (fall-grown D t p st).added) (λ p. Unit {0}) (λ p st u. fall_covers D t p st) (length t) 0
    (each (build D t) (length t) 0 ([], replicate (length t) 0)) 0 (omega arith) (omega arith) tt)
  where
    go : (es : List Edge) → covered es 0 ≡ true → 0 < length es
    go [] e = unfold covered starting keep any in absurd (true≢false (sym e))
    go (x ∷ es) e = omega arith

pub stands-slot : (i : Inputs) → refusal i ≡ none → (c : ℕ) (w : Text) → stands_for (decompositions i) c ≡ some w → (k r : ℕ)
    → misfit k r (inner_lattice (tables i) w).0 ≡ none → 0 < k
unfolding inner_lattice
stands-slot i ok c w q k r e =
    let f = (stands_final i ok c w q).least in
    slot_left k r (rule_lattice (uncoded (tables i)) w).0 (lattice_some (uncoded (tables i)) w (omega arith)) e
