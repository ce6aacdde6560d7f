-- Parts of one list lent one after the other and come back: what is prepared, and a line.
use Prim.Native.Nat.{ℕ, ◌+◌, ◌-◌, ◌*◌, ◌/◌, ◌≤◌, ◌<◌}
use mathlib.Core.List.{List, ◌++◌}
use mathlib.Core.Path.{◌≡◌, refl, sym, ap, ◌∙◌, subst}
use native.Mathlib.Omega.{arith}
use lib.ListN.{length, take, drop, set, get_or, replicate, length-append, length-drop, length-set, length-replicate, get_or-append}
use lib.Seq.{take_at, drop_at, take-take, drop-drop, take-append-le, drop-append-le, take-append-add, drop-append-add, length-take-le}
use lib.Seq.{get_or-take, get_or-drop, get_or-append-add, get_or-set_same, get_or-set_other, drop-set-lt}
use borrow.Rule.Slice.PartMut.{put_mid, mid_of}
use Rattle.base.specs.Loans.{lent-end, back_end}
use Rattle.base.specs.ListLaws.{drop-take, take-replicate}
use Rattle.definition.specs.Limits.{ascii_characters}
use Rattle.definition.specs.Texts.{Text}
use Rattle.utf8.specs.Lines.{spaced}
use Rattle.table_classes.specs.Told.{kinds_of, alphas_of}
use Rattle.table_classes.specs.Packing.{alphas_length, kinds-length}
use Rattle.rule_memo.specs.Kept.{all_places, Kept}
use Rattle.table_decompositions.specs.Index.{index_of}
use Rattle.words.specs.Given.{letters_in, choices_in, mode_in, form_entries, forms_from, forms_in, index_from, all_ready, ready_in, line_in}
use Rattle.definition.specs.Tables.{Choices}
use Rattle.jettyfig.specs.Verdicts.{choose}
use Rattle.jettyfig.specs.Calls.{drop-zeros}
use Rattle.jettyfig.specs.Steps.{with_kinds, LineRoom, asking, Fresh, Blank, MadeReady}

-- all choices
chosen_by : {a b c d m n : ℕ} → a ≡ b → c ≡ d → m ≡ n → choose a c m ≡ choose b d n
chosen_by {a} {b} {c} {d} {m} {n} e f g = ap (λ (k : ℕ). choose k c m) e ∙ ap (λ (k : ℕ). choose b k m) f ∙ ap (choose b d) g

-- A front of a list, and others behind it: what stands within the front stays
module _ (l : List ℕ) (a : ℕ) (h : a ≤ length l) where
  front_length : length (take a l) ≡ a
  front_length = length-take-le a l h

  pub cut-part : (i n : ℕ) → i + n ≤ a → take n (drop i (take a l)) ≡ take n (drop i l)
  cut-part i n k =
      ap (λ (m : ℕ). take n (drop i (take m l))) {x = a} {y = i + (a - i)} (omega arith)
      ∙ ap (take n) (drop-take i (a - i) l) ∙ take-take n (a - i) (drop i l) (omega arith)

  module _ (x : List ℕ) where
    pub stays_at : (i : ℕ) → i < a → get_or (take a l ++ x) i 0 ≡ get_or l i 0
    stays_at i k = get_or-append (take a l) x 0 i (omega (arith, front_length)) ∙ get_or-take a l i 0 k

    pub stays_part : (i n : ℕ) → i + n ≤ a → take n (drop i (take a l ++ x)) ≡ take n (drop i l)
    stays_part i n k =
        ap (take n) (drop-append-le i (take a l) x (omega (arith, front_length)))
        ∙ take-append-le n (drop i (take a l)) x (omega (arith, front_length, length-drop i (take a l))) ∙ cut-part i n k

    pub stays_behind : drop a (take a l ++ x) ≡ x
    stays_behind = drop_at (take a l) x a front_length

-- The letters have come back to the front of what is prepared, and from the index of the rule table on it is lent
module _ (classes old letters : List ℕ) (long : all_ready ≤ length old) (a : letters ≡ alphas_of classes) where
  abbrev came : List ℕ
  came = letters ++ drop ascii_characters old

  lettered : length letters ≡ ascii_characters
  lettered = ap length a ∙ alphas_length classes

  pub as_long : length came ≡ length old
  as_long = omega (arith, lettered, length-append letters (drop ascii_characters old), length-drop ascii_characters old, long)

  came-at : (i j : ℕ) → i ≡ ascii_characters + j → get_or came i 0 ≡ get_or old i 0
  came-at i j e =
      ap (λ (k : ℕ). get_or came k 0) {x = i} {y = length letters + j} (omega (arith, lettered))
      ∙ get_or-append-add letters (drop ascii_characters old) j 0 ∙ get_or-drop ascii_characters old j 0 ∙ ap (λ (k : ℕ). get_or old k 0) (sym e)

  came_from : (i j : ℕ) → i ≡ ascii_characters + j → drop i came ≡ drop i old
  came_from i j e =
      ap (λ (k : ℕ). drop k came) {x = i} {y = length letters + j} (omega (arith, lettered))
      ∙ drop-append-add letters (drop ascii_characters old) j ∙ drop-drop j ascii_characters old ∙ ap (λ (k : ℕ). drop k old) (sym e)

  abbrev index_lent : List ℕ
  index_lent = mid_of index_from (length came - index_from) came

  lent_is : index_lent ≡ drop index_from old
  lent_is = lent-end came index_from ∙ came_from index_from (index_from - ascii_characters) refl

  pub zeros-lent : take all_places (drop index_from old) ≡ replicate all_places 0 → take all_places index_lent ≡ replicate all_places 0
  zeros-lent z = ap (take all_places) lent_is ∙ z

  pub room-lent : (half : ℕ) → half ≡ (length came - all_ready) / 2 → all_places + half ≤ length index_lent
  room-lent half e = omega (arith, ap length lent_is, length-drop index_from old, as_long, long, e)

  module _ (rules back : List ℕ) (k : Kept rules (take all_places back)) (b : drop all_places back ≡ drop all_places index_lent) (l : length back ≡ length index_lent) where
    abbrev after : List ℕ
    after = put_mid index_from (length came - index_from) came back

    within : index_from ≤ length came
    within = omega (arith, as_long, long)

    after_is : after ≡ take index_from came ++ back
    after_is = back_end came index_from back

    stays_long : length after ≡ length old
    stays_long =
        omega (
          arith,
          ap length after_is,
          length-append (take index_from came) back,
          length-take-le index_from came within,
          l,
          ap length lent_is,
          length-drop index_from old,
          as_long,
          long,
        )

    kept_at : (i j : ℕ) → i ≡ ascii_characters + j → i < index_from → get_or after i 0 ≡ get_or old i 0
    kept_at i j e h = ap (λ (l : List ℕ). get_or l i 0) after_is ∙ stays_at came index_from within back i h ∙ came-at i j e

    behind : drop index_from after ≡ back
    behind = ap (drop index_from) after_is ∙ stays_behind came index_from within back

    pub made_ready : MadeReady rules classes old after
    made_ready = record {
      letters = ap (take ascii_characters) after_is ∙ stays_part came index_from within back 0 ascii_characters (omega arith)
          ∙ take_at letters (drop ascii_characters old) ascii_characters lettered ∙ a;
      choices = chosen_by (kept_at ascii_characters 0 refl (omega arith)) (kept_at (ascii_characters + 1) 1 refl (omega arith))
          (kept_at (ascii_characters + 2) 2 refl (omega arith));
      mode = kept_at (ascii_characters + 3) 3 refl (omega arith);
      forms = ap forms_in after_is ∙ stays_part came index_from within back forms_from form_entries (omega arith)
          ∙ ap (take form_entries) (came_from forms_from 4 refl);
      index = subst (Kept rules) (sym (ap (take all_places) behind)) k;
      line = sym (drop-drop all_places index_from after) ∙ ap (drop all_places) behind ∙ b ∙ ap (drop all_places) lent_is
          ∙ drop-drop all_places index_from old;
      long = stays_long;
    }

-- A line has come back behind what is made ready, and both are lent as far as the line goes
module _ (old line : List ℕ) (long : all_ready ≤ length old) (k : ℕ) (h : k ≤ length line) where
  abbrev pub whole : List ℕ
  whole = put_mid all_ready (length old - all_ready) old line

  abbrev pub cut : List ℕ
  cut = take (all_ready + k) whole

  whole_is : whole ≡ take all_ready old ++ line
  whole_is = back_end old all_ready line

  fronted : length (take all_ready old) ≡ all_ready
  fronted = length-take-le all_ready old long

  cut-is : cut ≡ take all_ready old ++ take k line
  cut-is =
      ap (take (all_ready + k)) whole_is
      ∙ ap (λ (m : ℕ). take m (take all_ready old ++ line)) {x = all_ready + k} {y = length (take all_ready old) + k} (omega (arith, fronted))
      ∙ take-append-add (take all_ready old) line k

  pub whole_long : all_ready + k ≤ length whole
  whole_long = omega (arith, ap length whole_is, length-append (take all_ready old) line, fronted, h)

  cut_at : (i : ℕ) → i < all_ready → get_or cut i 0 ≡ get_or old i 0
  cut_at i l = ap (λ (l : List ℕ). get_or l i 0) cut-is ∙ stays_at old all_ready long (take k line) i l

  pub cut-mode : mode_in cut ≡ mode_in old
  cut-mode = cut_at (ascii_characters + 3) (omega arith)

  pub cut-choices : choices_in cut ≡ choices_in old
  cut-choices = chosen_by (cut_at ascii_characters (omega arith)) (cut_at (ascii_characters + 1) (omega arith)) (cut_at (ascii_characters + 2) (omega arith))

  pub cut_line : line_in cut ≡ take k line
  cut_line = ap line_in cut-is ∙ stays_behind old all_ready long (take k line)

  pub cut-forms : forms_in cut ≡ forms_in old
  cut-forms = ap forms_in cut-is ∙ stays_part old all_ready long (take k line) forms_from form_entries (omega arith)

  pub cut_blank : (decompositions : List ℕ) → Blank decompositions old → Blank decompositions cut
  cut_blank decompositions b = record {
    long = omega (arith, length-take-le (all_ready + k) whole whole_long);
    zeros = ap (λ (l : List ℕ). take all_places (drop index_from l)) cut-is ∙ stays_part old all_ready long (take k line) index_from all_places (omega arith) ∙ b.zeros;
    forms = cut-forms ∙ b.forms;
  }

-- What is made ready is cut off: its parts are there
module _ (prepared : List ℕ) (long : all_ready ≤ length prepared) where
  pub ready_letters : letters_in (ready_in prepared) ≡ letters_in prepared
  ready_letters = cut-part prepared all_ready long 0 ascii_characters (omega arith)

  pub ready_choices : choices_in (ready_in prepared) ≡ choices_in prepared
  ready_choices =
      chosen_by (get_or-take all_ready prepared ascii_characters 0 (omega arith)) (get_or-take all_ready prepared (ascii_characters + 1) 0 (omega arith))
      (get_or-take all_ready prepared (ascii_characters + 2) 0 (omega arith))

  pub ready_mode : mode_in (ready_in prepared) ≡ mode_in prepared
  ready_mode = get_or-take all_ready prepared (ascii_characters + 3) 0 (omega arith)

  pub ready_forms : forms_in (ready_in prepared) ≡ forms_in prepared
  ready_forms = cut-part prepared all_ready long forms_from form_entries (omega arith)

  pub ready_index : drop index_from (ready_in prepared) ≡ take all_places (drop index_from prepared)
  ready_index = drop-take index_from all_places prepared

  pub ready_long : index_from ≤ length (ready_in prepared)
  ready_long = omega (arith, length-take-le all_ready prepared long)

-- What is asked stands in what is prepared, and nothing behind it has changed
module _ (mode : ℕ) (a : Choices) (old : List ℕ) (long : all_ready ≤ length old) where
  abbrev first : List ℕ
  first = set old ascii_characters a.capitals

  abbrev second : List ℕ
  second = set first (ascii_characters + 1) a.o_ang

  abbrev third : List ℕ
  third = set second (ascii_characters + 2) a.readings

  first-long : length first ≡ length old
  first-long = length-set old ascii_characters a.capitals

  second-long : length second ≡ length old
  second-long = length-set first (ascii_characters + 1) a.o_ang ∙ first-long

  third-long : length third ≡ length old
  third-long = length-set second (ascii_characters + 2) a.readings ∙ second-long

  pub asking-long : length (asking mode a old) ≡ length old
  asking-long = length-set third (ascii_characters + 3) mode ∙ third-long

  pub asking-mode : mode_in (asking mode a old) ≡ mode
  asking-mode = get_or-set_same third (ascii_characters + 3) mode 0 (omega (arith, third-long))

  -- a number stays as it is when one behind it is written
  past-mode : (i : ℕ) → i < ascii_characters + 3 → get_or (asking mode a old) i 0 ≡ get_or third i 0
  past-mode i h = get_or-set_other third (ascii_characters + 3) i mode 0 (λ e. omega arith)

  past-readings : (i : ℕ) → i < ascii_characters + 2 → get_or third i 0 ≡ get_or second i 0
  past-readings i h = get_or-set_other second (ascii_characters + 2) i a.readings 0 (λ e. omega arith)

  pub asking-choices : choices_in (asking mode a old) ≡ a
  asking-choices = chosen_by
      (past-mode ascii_characters (omega arith) ∙ past-readings ascii_characters (omega arith)
      ∙ get_or-set_other first (ascii_characters + 1) ascii_characters a.o_ang 0 (λ e. omega arith)
      ∙ get_or-set_same old ascii_characters a.capitals 0 (omega (arith, long)))
      (past-mode (ascii_characters + 1) (omega arith) ∙ past-readings (ascii_characters + 1) (omega arith)
      ∙ get_or-set_same first (ascii_characters + 1) a.o_ang 0 (omega (arith, first-long)))
      (past-mode (ascii_characters + 2) (omega arith) ∙ get_or-set_same second (ascii_characters + 2) a.readings 0 (omega (arith, second-long)))

  asking-behind : drop forms_from (asking mode a old) ≡ drop forms_from old
  asking-behind =
      drop-set-lt forms_from third (ascii_characters + 3) mode (omega arith)
      ∙ drop-set-lt forms_from second (ascii_characters + 2) a.readings (omega arith)
      ∙ drop-set-lt forms_from first (ascii_characters + 1) a.o_ang (omega arith)
      ∙ drop-set-lt forms_from old ascii_characters a.capitals (omega arith)

-- over zeros with room for a text, the tables can be checked
module _ (mode : ℕ) (a : Choices) (text : List ℕ) (size : ℕ) (l : all_ready ≤ size) (h : LineRoom text (size - all_ready)) where
  abbrev zeros : List ℕ
  zeros = replicate size 0

  pub zeros-long : length zeros ≡ size
  zeros-long = length-replicate {A = ℕ} size 0

  pub enough : all_ready ≤ length zeros
  enough = omega (arith, zeros-long)

  pub fresh : Fresh text (asking mode a zeros)
  fresh = record {
    long = omega (arith, asking-long mode a zeros enough, enough);
    zeros = ap (take (form_entries + all_places)) (asking-behind mode a zeros enough ∙ drop-zeros forms_from size)
        ∙ take-replicate 0 (form_entries + all_places) (size - forms_from) (omega arith);
    room = subst (LineRoom text) {x = size - all_ready} {y = length (asking mode a zeros) - all_ready} (omega (arith, asking-long mode a zeros enough, zeros-long)) h;
  }

-- The index of the decomposition table is lent from what is prepared, and has come back
module _ {text : List ℕ} (old : List ℕ) (h : Fresh text old) where
  pub forms-lent : mid_of forms_from form_entries old ≡ replicate form_entries 0
  forms-lent = sym (take-take form_entries (form_entries + all_places) (drop forms_from old) (omega arith)) ∙ ap (take form_entries) h.zeros

  module _ (index : List ℕ) (l : length index ≡ form_entries) where
    abbrev pub asked : List ℕ
    asked = put_mid forms_from form_entries old index

    abbrev rest : List ℕ
    rest = drop form_entries (drop forms_from old)

    within_old : forms_from ≤ length old
    within_old = omega (arith, h.long)

    pub asked-long : length asked ≡ length old
    asked-long =
        omega (
          arith,
          h.long,
          length-append (take forms_from old) (index ++ rest),
          length-append index rest,
          l,
          length-take-le forms_from old within_old,
          length-drop form_entries (drop forms_from old),
          length-drop forms_from old,
        )

    asked-at : (i : ℕ) → i < forms_from → get_or asked i 0 ≡ get_or old i 0
    asked-at i k = stays_at old forms_from within_old (index ++ rest) i k

    pub asked-mode : mode_in asked ≡ mode_in old
    asked-mode = asked-at (ascii_characters + 3) (omega arith)

    pub asked-choices : choices_in asked ≡ choices_in old
    asked-choices =
        chosen_by (asked-at ascii_characters (omega arith)) (asked-at (ascii_characters + 1) (omega arith)) (asked-at (ascii_characters + 2) (omega arith))

    asked-forms : drop forms_from asked ≡ index ++ rest
    asked-forms = stays_behind old forms_from within_old (index ++ rest)

    pub asked_blank : (decompositions : List ℕ) → index ≡ index_of decompositions → Blank decompositions asked
    asked_blank decompositions e = record {
      long = omega (arith, asked-long, h.long);
      zeros = ap (take all_places) (sym (drop-drop form_entries forms_from asked) ∙ ap (drop form_entries) asked-forms ∙ drop_at index rest form_entries l)
          ∙ sym (drop-take form_entries all_places (drop forms_from old)) ∙ ap (drop form_entries) h.zeros;
      forms = ap (take form_entries) asked-forms ∙ take_at index rest form_entries l ∙ e;
    }

    pub asked-room : LineRoom text (length asked - all_ready)
    asked-room = subst (λ (n : ℕ). LineRoom text (n - all_ready)) (sym asked-long) h.room

-- A line begins with a text between spaces, and as much again is lent with it for the classes
module _ (line : List ℕ) (t : Text) (n : ℕ) (full : 2 * (n + 3) ≤ length line) (s : take (n + 3) line ≡ spaced t) where
  abbrev lent : List ℕ
  lent = take (2 * (n + 3)) line

  pub lent_length : length lent ≡ 2 * (n + 3)
  lent_length = length-take-le (2 * (n + 3)) line full

  abbrev half : List ℕ
  half = take (length lent / 2) lent

  half_is : half ≡ spaced t
  half_is =
      ap (λ (k : ℕ). take k lent) {x = length lent / 2} {y = n + 3} (omega (arith, lent_length))
      ∙ take-take (n + 3) (2 * (n + 3)) line (omega arith) ∙ s

  pub laid_out : (classes back : List ℕ) → back ≡ half ++ kinds_of classes half → take (2 * (n + 3)) (back ++ drop (2 * (n + 3)) line) ≡ with_kinds classes t
  unfolding with_kinds
  laid_out classes back b =
      let h = length-take-le (length lent / 2) lent (omega arith) in
      let l : length back ≡ 2 * (n + 3) = omega (arith, ap length b, length-append half (kinds_of classes half), kinds-length classes half, h, lent_length) in
      take_at back (drop (2 * (n + 3)) line) (2 * (n + 3)) l ∙ b ∙ ap (λ (w : List ℕ). w ++ kinds_of classes w) half_is
