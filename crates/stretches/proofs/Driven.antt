-- What a driver sees, proved: from the line's call to its words' calls.
use Rattle.std.specs.Prelude.{◌≡◌, refl, List, [], ◌∷◌, ◌++◌, map, ℕ, ◌+◌, ◌/◌, ◌≤◌}
use Rattle.std.proofs.Common.{sym, ◌∙◌, subst, arith}
use Rattle.std.proofs.Math.Path.{ap}
use Rattle.std.proofs.lemmas.Simd.{map-map}
use Rattle.std.proofs.Math.Option.{none}
use Rattle.std.proofs.Math.ListN.{length}
use Rattle.base.specs.Alls.{All, All-map, All-both, All-to, All_of, map_cong}
use Rattle.definition.specs.Limits.{slot_bytes}
use Rattle.definition.specs.Texts.{Text}
use Rattle.definition.specs.Utf8.{bad_sequence, decoded, encoded}
use Rattle.definition.specs.Decomposing.{edges}
use Rattle.definition.specs.Call.{Inputs, tables_of, tables, decompositions, characters, refusal, called}
use Rattle.definition.specs.Accepted.{accepted_of}
use Rattle.definition.specs.Promises.{Held}
use Rattle.definition.specs.Roundtrip.{encoded-append}
use Rattle.definition.proofs.Rewritten.{encoded-decoded}
use Rattle.definition.specs.Parts.{with_text}
use Rattle.definition.specs.Endings.{romanization, Romanized, string-counted}
use Rattle.definition.proofs.Endings.{romanized, unrefused}
use Rattle.stretches.specs.Demand.{Taken, First_if, within}
use Rattle.stretches.specs.Driver.{spaced, line_of, string, WordCall, Line, Spaceless, Firsts, wrote, Reads, Promise}
use Rattle.stretches.specs.Cuts.{Cuts}
use Rattle.stretches.proofs.Cuts.{cuts}
use Rattle.stretches.specs.Rooms.{held-part}
use Rattle.stretches.specs.Strings.{Reading}
use Rattle.stretches.proofs.Strings.{line-words, strings}
use Rattle.stretches.specs.Driven.{answer, encoded-spaced, line-long, mode_zero, same-refusal, wrote-is}

encoded-line : (ws : List Text) → encoded (line_of ws) ≡ line_of (map encoded ws)
unfolding line_of encoded
encoded-line [] = refl
encoded-line (w ∷ ws) = encoded-append w (spaced ws) ∙ ap (λ t. encoded w ++ t) (encoded-spaced ws)

-- A word's call
module _ (i j : Inputs) (c : WordCall i j) where
  same_tables : tables j ≡ tables i
  unfolding tables
  same_tables = rw (c.choices, c.rules, c.classes, c.vowels, c.code)

  same-decompositions : decompositions j ≡ decompositions i
  unfolding decompositions
  same-decompositions = rw c.decompositions

  word_accepted : bad_sequence j.text ≡ none → Reading i (characters j) → refusal j ≡ none
  unfolding with_text characters
  word_accepted e r =
      same-refusal j (with_text i (characters j)) c.mode c.choices c.rules c.classes c.vowels
      c.decompositions c.code (sym (encoded-decoded j.text e))
      ∙ r.accepts.accepted

  word_held : Held i → Reading i (characters j) → Held j
  word_held h r =
      let D = tables i in
      let ds = decompositions i in
      let T = characters i in
      let w = characters j in
      let a = r.start in
      let s = c.slots in
      rw (same_tables, same-decompositions)
      (held-part D ds T w (within a (length w)) a (edges D ds T) (edges D ds w) r.alone.edges
      (All-map (λ x y. r.place.look (a + x.from) x.from refl (omega arith)) (edges D ds w) r.full)
      (i.slots / slot_bytes) i.room (j.slots / slot_bytes) j.room h (omega arith) c.room)

  -- a word's romanization is the bytes of its string under the line's tables
  word_string : i.mode ≡ 0 → romanization j ≡ answer i (characters j)
  word_string e = mode_zero j (c.mode ∙ e) ∙ ap (λ D. encoded (string D (decompositions j) (characters j))) same_tables
      ∙ ap (λ ds. encoded (string (tables i) ds (characters j))) same-decompositions

  -- a word's call ends with number 0, and writes those bytes
  word_done : i.mode ≡ 0 → Romanized i (called i) → bad_sequence j.text ≡ none → Reading i (characters j)
      → length (answer i (characters j)) ≤ length (romanization i)
      → ((called j).number ≡ 0) × (wrote (called j) ≡ answer i (characters j))
  unfolding edges
  word_done e h b r l =
      let f = h.fits in
      let o = c.out in
      let d = unrefused j (word_accepted b r) (word_held h.held r) (string-counted j.mode (romanization j) (c.mode ∙ e)) (omega (arith, ap length (word_string e))) in
      (d, wrote-is j (romanized j d) ∙ word_string e)

-- A line's call and its words' calls
module _ (i : Inputs) (words : List Inputs) (h : Line i words) (no_space : Spaceless i) (firsts : Firsts i words) where
  line : Romanized i (called i)
  line = romanized i h.done

  taken : Taken i
  taken = record { accepted = line.accepted; no_space = no_space }

  bytes : Cuts (map (λ j. j.text) words)
  bytes = cuts (map (λ j. j.text) words)
      (subst (λ t. bad_sequence t ≡ none) h.text (accepted_of i line.accepted).text)

  texts : characters i ≡ line_of (map characters words)
  unfolding characters
  texts = ap decoded h.text ∙ bytes.characters ∙ ap line_of (map-map decoded (λ j. j.text) words)

  first : All (First_if (tables i).choices) (map characters words)
  unfolding tables tables_of
  first = All-to (First_if i.choices) characters words firsts

  readings : All (λ j. Reading i (characters j)) words
  readings = All_of (Reading i) characters words (line-words i taken (map characters words) texts first)

  right : All (λ j. bad_sequence j.text ≡ none) words
  right = All_of (λ b. bad_sequence b ≡ none) (λ j. j.text) words bytes.each

  line-bytes : romanization i ≡ line_of (map (λ j. answer i (characters j)) words)
  line-bytes = mode_zero i h.mode ∙ ap encoded (strings i taken (map characters words) texts first)
      ∙ encoded-line (map (string (tables i) (decompositions i)) (map characters words))
      ∙ ap line_of (map-map encoded (string (tables i) (decompositions i)) (map characters words)
      ∙ map-map (answer i) characters words)

  -- A word's bytes are no more than the line's
  short : All (λ j. length (answer i (characters j)) ≤ length (romanization i)) words
  short =
      let f : Inputs → List ℕ = λ j. answer i (characters j) in
      rw line-bytes (All_of (λ w. length w ≤ length (line_of (map f words))) f words (line-long (map f words)))

  each : All (λ j. ((called j).number ≡ 0) × (wrote (called j) ≡ answer i (characters j))) words
  each =
      let C = WordCall i in
      let B : Inputs → Type 0 = λ j. bad_sequence j.text ≡ none in
      let R : Inputs → Type 0 = λ j. Reading i (characters j) in
      let S : Inputs → Type 0 = λ j. length (answer i (characters j)) ≤ length (romanization i) in
      All-map (λ j k. word_done i j k.0.0 h.mode line k.0.1 k.1.0 k.1.1) words
      (All-both (λ j. C j × B j) (λ j. R j × S j) words
      (All-both C B words h.calls right) (All-both R S words readings short))

  reads : Reads i words
  reads = record {
    done = All-map (λ j k. k.0) words each;
    output = wrote-is i line ∙ line-bytes ∙ ap line_of (sym (map_cong (λ j. wrote (called j))
        (λ j. answer i (characters j)) words (All-map (λ j k. k.1) words each)));
  }

-- What a driver sees
pub driven : Promise
driven = reads
