-- Every call ends with the romanization, or with one numbered refusal and zeros; and 19 comes of a listing that is too large, and
-- of nothing else.
use Rattle.std.specs.Prelude.{ℕ, ◌-◌, ◌/◌, ◌≤◌, ◌<◌, true, false, List, [], ◌∷◌, ◌≡◌, eqb, ltb, length}
use Rattle.std.proofs.Common.{true≢false, sym, ◌∙◌, arith}
use Rattle.std.proofs.Math.Option.{Option, none, some}
use Rattle.std.proofs.Math.Path.{refl, ap}
use Rattle.std.proofs.Math.Logic.{inl, inr}
use borrow.Author.Tests.{ltb-false, le-ltb}
use Rattle.base.specs.Pick.{pick, pick_ind, pick_all}
use Rattle.base.specs.Lists.{any}
use Rattle.definition.specs.Limits.{most_bytes, slot_bytes}
use Rattle.definition.specs.Notes.{note_decomp}
use Rattle.definition.specs.Texts.{Text}
use Rattle.definition.specs.Tables.{Decomposition, Tables}
use Rattle.definition.specs.Edges.{Edge}
use Rattle.definition.specs.Decomposing.{lattice}
use Rattle.definition.specs.Refusals.{Refusal, refuse, when, early_numbers, numbers, refused_mode, refused_capitals, refused_o_ang, refused_readings, refused_classes, refused_vowels, refused_decompositions, refused_code}
use Rattle.definition.specs.Refusals.{refused_utf8, refused_too_long, refused_left_out, refused_edge_text, refused_listing, refused_output}
use Rattle.definition.specs.RuleFaults.{rule_fault}
use Rattle.definition.proofs.RuleNumbers.{fault_number}
use Rattle.definition.specs.Capacity.{bytes, misfit, placed_at, inner_edges, before_edge, overflow}
use Rattle.definition.specs.Call.{Inputs, before_text, text_refusal, refusal, refused, uncounted, written, within_room, with_lattice, accepted, unless_refused, called}
use Rattle.definition.specs.Endings.{D, Ends, LargeWhere, Numbered, Romanized, TooLarge, ds as all_ds, early, fault, first-numbered, misfit-numbered, or_numbered, placed-numbered, placed_at-numbered, refused_so, romanization, t, when-numbered}

rules_numbered : (b : List ℕ) (o : Option Refusal) → rule_fault b ≡ o → Numbered o
unfolding Numbered any
rules_numbered b none e = tt
rules_numbered b (some r) e = fault_number (λ k. any (eqb k) early_numbers ≡ true)
    (record { of_length = refl; of_range = refl; of_letter = refl; of_byte = refl; of_order = refl; of_rows = refl }) b r e

refusal-numbered : (i : Inputs) → Numbered (refusal i)
unfolding refusal before_text text_refusal any
refusal-numbered i = or_numbered _ _
    (first-numbered _ (
      when-numbered _ refused_mode 0 refl,
      (
        when-numbered _ refused_capitals 0 refl,
        (
          when-numbered _ refused_o_ang 0 refl,
          (
            when-numbered _ refused_readings 0 refl,
            (
              rules_numbered i.rules (rule_fault i.rules) refl,
              (
                placed-numbered _ refused_classes refl,
                (
                  placed-numbered _ refused_vowels refl,
                  (placed-numbered _ refused_decompositions refl, (when-numbered _ refused_code 0 refl, tt)),
                ),
              ),
            ),
          ),
        ),
      ),
    ))
    (first-numbered _ (placed-numbered _ refused_utf8 refl, (when-numbered _ refused_too_long _ refl, (placed-numbered _ refused_left_out refl, tt))))

overflow-numbered : (D : Tables) (ds : List Decomposition) (t : Text) (k r : ℕ) (l : List Edge) → Numbered (overflow D ds t k r l)
unfolding overflow any Numbered
overflow-numbered D ds t k r [] = tt
overflow-numbered D ds t k r (x ∷ l) =
    first-numbered (before_edge D ds t k r x ∷ misfit k r (x ∷ []) ∷ overflow D ds t (k - 1) (r - bytes x) l ∷ [])
    (before-numbered, (misfit-numbered k r (x ∷ []), (overflow-numbered D ds t (k - 1) (r - bytes x) l, tt)))
  where
    inner : Option Refusal
    inner = misfit k r (inner_edges D ds t x.from)

    before-numbered : Numbered (before_edge D ds t k r x)
    before-numbered = unfold before_edge in pick_all Numbered (eqb x.note note_decomp)
        (or_numbered (placed_at x.from inner) (when (ltb most_bytes (bytes x)) refused_edge_text x.from)
        (placed_at-numbered x.from inner (misfit-numbered k r (inner_edges D ds t x.from)))
        (when-numbered (ltb most_bytes (bytes x)) refused_edge_text x.from refl)) tt

module _ (i : Inputs) where
  by-room : refusal i ≡ none → (o : Option Refusal) → fault i ≡ o → Numbered o → Ends i (within_room i (D i) (t i) (lattice (D i) (all_ds i) (t i)) o)
  unfolding Numbered within_room written any
  by-room q none e h =
      pick_ind (Ends i) (uncounted i.mode (romanization i)) _ _
      (λ u. inr (refused_so i (refuse refused_listing 0) refl))
      (λ u. pick_ind (Ends i) (ltb i.out (length (romanization i))) _ _
      (λ l. inr (refused_so i (refuse refused_output (length (romanization i))) refl))
      (λ l. inl (record {
        accepted = q;
        held = e;
        counted = u;
        fits = ltb-false i.out (length (romanization i)) l;
        number = refl;
        place = refl;
        written = refl;
        count = refl;
        shows = refl;
      })))
  by-room q (some r) e h = inr (refused_so i r (early r.number h))

  by-refusal : (o : Option Refusal) → refusal i ≡ o → Numbered o → Ends i (unless_refused i o)
  unfolding Numbered unless_refused accepted with_lattice
  by-refusal none e h = by-room e (fault i) refl (overflow-numbered (D i) (all_ds i) (t i) (i.slots / slot_bytes) i.room (lattice (D i) (all_ds i) (t i)).0)
  by-refusal (some r) e h = inr (refused_so i r (early r.number h))

  pub ends : Ends i (called i)
  unfolding called
  ends = by-refusal (refusal i) refl (refusal-numbered i)

  -- A call that ends with number 0 has romanized
  pub romanized : (called i).number ≡ 0 → Romanized i (called i)
  romanized e = go ends
    where
      go : Ends i (called i) → Romanized i (called i)
      go (inl h) = h
      go (inr h) = absurd (true≢false (sym h.number ∙ (unfold any in ap (λ n. any (eqb n) numbers) e)))

  -- where nothing is refused the number is 0
  pub unrefused : refusal i ≡ none → fault i ≡ none → uncounted i.mode (romanization i) ≡ false → length (romanization i) ≤ i.out → (called i).number ≡ 0
  unfolding called unless_refused accepted with_lattice within_room written pick
  unrefused e h u l = rw (e, h, u, le-ltb i.out (length (romanization i)) l)

  not_early : (r : Refusal) → any (eqb r.number) early_numbers ≡ true → r.number ≡ refused_listing → ⊥
  not_early r h e = true≢false (sym h ∙ (unfold any in ap (λ n. any (eqb n) early_numbers) e))

  lesser : (n : ℕ) → n < refused_listing → n ≡ refused_listing → TooLarge i
  lesser n l e = absurd (omega arith)

  large_by-room : refusal i ≡ none → (o : Option Refusal) → fault i ≡ o → Numbered o → LargeWhere i (within_room i (D i) (t i) (lattice (D i) (all_ds i) (t i)) o)
  unfolding Numbered within_room written refused
  large_by-room q none e h = pick_ind (LargeWhere i) (uncounted i.mode (romanization i)) _ _
      (λ u n. (q, e, u))
      (λ u. pick_all (LargeWhere i) (ltb i.out (length (romanization i)))
      (lesser refused_output (omega arith)) (lesser 0 (omega arith)))
  large_by-room q (some r) e h = λ n. absurd (not_early r h n)

  large_by-refusal : (o : Option Refusal) → refusal i ≡ o → Numbered o → LargeWhere i (unless_refused i o)
  unfolding Numbered unless_refused accepted with_lattice refused
  large_by-refusal none q h = large_by-room q (fault i) refl (overflow-numbered (D i) (all_ds i) (t i) (i.slots / slot_bytes) i.room (lattice (D i) (all_ds i) (t i)).0)
  large_by-refusal (some r) q h = λ n. absurd (not_early r h n)

  pub too_large : LargeWhere i (called i)
  unfolding called
  too_large = large_by-refusal (refusal i) refl (refusal-numbered i)

  pub refused_large : TooLarge i → called i ≡ refused i (refuse refused_listing 0)
  unfolding called unless_refused accepted with_lattice within_room written pick
  refused_large h = rw (h.0, h.1, h.2)
