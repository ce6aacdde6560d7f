-- `second_pass::add_fallback`: the annotation is the category's, and the edge of each of the three ways is the definition's.
use mathlib.Core.Bool.{false}
use mathlib.Core.Path.{◌≡◌, refl, sym, ap, ◌∙◌}
use mathlib.Core.List.{List, [], ◌∷◌}
use Prim.Native.Nat.{ℕ, ◌<◌}
use native.Mathlib.Omega.{arith}
use lib.ListN.{length}
use Rattle.definition.specs.Limits.{most_characters}
use Rattle.definition.specs.Notes.{note_none}
use Rattle.definition.specs.Texts.{the_space, at}
use Rattle.definition.specs.Utf8.{encode}
use Rattle.definition.specs.Classes.{class}
use Rattle.utf8.specs.Encodings.{low_bytes}
use Rattle.edge.specs.declared.Numbers.{Numbers}
use Rattle.edge.specs.Adding.{Writable}
use Rattle.edge_places.specs.declared.Ending.{Ending}
use Rattle.words.specs.Given.{World, kinds}
use Rattle.rule_choice.specs.Chosen.{chosen_means}
use Rattle.spans.specs.Spans.{category_note}
use Rattle.passes.specs.Reached.{Over}
use Rattle.second_pass.specs.Fallback.{single_numbers, search_note, category_text, spaced, unspaced, own-inside}
use Rattle.second_pass.proofs.Falls.{at-inside, at_few, at_own, at-bytes, at_size, note_at, Ready, fall_ready}
use Rattle.second_pass.proofs.Falls.{Puts, Ended, category-fits, category-puts, search_places, search_fits, search_puts}
use Rattle.second_pass.proofs.add_fallback.Goals as goal

pub single-numbers-requires : goal.single-numbers-requires
single-numbers-requires c =
    let few : c.args.here.p < most_characters = at_few c.requires.0 c.requires.2.over.lent.text in
    let l = few in omega arith

pub ending_of-requires : goal.ending_of-requires
ending_of-requires c = low_bytes (the_space ∷ []) (omega arith, tt)

pub add_edge-requires : goal.add_edge-requires
add_edge-requires c =
    let few : c.args.here.p < most_characters = at_few c.requires.0 c.requires.2.over.lent.text in
    let category-ready : (b : List ℕ) → (z : b ≡ category_text c.category_note-note.result) → Ready c.args.slots.now c.args.room.now c.args.filled c.args.places.now c.single-numbers.result b = λ b. λ z. let o = c.requires.2.over in
    let long = o.lent.edges.long in
    let inside = at-inside c.requires.0 o.lent.text in
    let note = c.category_note-note.result in
    fall_ready c.requires.3 o.stored c.args.places.now (omega arith) c.single-numbers.result note b c.single-numbers.ensures
    (category-fits c.args.here.p c.args.filled.used (few) c.requires.1 note b z c.single-numbers.result c.single-numbers.ensures) in
    category-ready (the_space ∷ []) (spaced c.category_note-note.result c.if-note-eq-ZS.true)

pub returns-then-note-eq-ZS : goal.returns-then-note-eq-ZS
returns-then-note-eq-ZS c =
    let noted : (w : World) → (o : (Over w c.args.dicts.now.ready.now c.args.line.now c.args.slots.now c.args.room.now c.args.places.now c.args.filled)) → c.category_note-note.result ≡ category_note (class (kinds w) (at w.text c.args.here.p)).category = λ w. λ o. note_at o.lent.text c.args.here.p c.kind_at.result c.category.result c.category_note-note.result (at-inside c.requires.0 o.lent.text)
    c.kind_at.ensures c.category.ensures c.category_note-note.ensures in
    let category-adds : (b : List ℕ) → (z : b ≡ category_text c.category_note-note.result) → (h : c.category_note-note.result ≡ note_none → ⊥) → (w : World) → (o : (Over w c.args.dicts.now.ready.now c.args.line.now c.args.slots.now c.args.room.now c.args.places.now c.args.filled)) → (end : Ending) → (ends : Ended c.args.dicts.now.rules.now c.args.dicts.now.code.now o c.args.here.p (at-inside c.requires.0 o.lent.text) c.requires.1 b false end) → Puts c.args.dicts.now.rules.now c.args.dicts.now.code.now o c.args.here.p (at-inside c.requires.0 o.lent.text) c.requires.1 c.single-numbers.result b c.args.places.now end = λ b. λ z. λ h. λ w. λ o. λ end. λ ends. category-puts c.args.dicts.now.rules.now c.args.dicts.now.code.now o c.args.here.p (at-inside c.requires.0 o.lent.text) c.requires.1 c.category_note-note.result b z
    c.single-numbers.result c.single-numbers.ensures (noted w o) h end ends in
    let i = c.if-note-eq-ZS.true in
    λ vowels w o.
    category-adds (the_space ∷ []) (spaced c.category_note-note.result i) (λ e. omega (arith, e, i)) w o c.ending_of.result (c.ending_of.ensures (kinds w)) vowels
    c.add_edge.new.slots c.add_edge.new.room c.add_edge.new.places c.add_edge.result c.add_edge.ensures.edge.0 c.add_edge.ensures.edge.1 c.add_edge.ensures.edge.2 c.add_edge.ensures.places

pub ending_of-requires-then-note-ne-UNTOUCHED : goal.ending_of-requires-then-note-ne-UNTOUCHED
ending_of-requires-then-note-ne-UNTOUCHED c = low_bytes [] tt

pub add_edge-requires-then-note-ne-UNTOUCHED : goal.add_edge-requires-then-note-ne-UNTOUCHED
add_edge-requires-then-note-ne-UNTOUCHED c =
    let few : c.args.here.p < most_characters = at_few c.requires.0 c.requires.2.over.lent.text in
    let category-ready : (b : List ℕ) → (z : b ≡ category_text c.category_note-note.result) → Ready c.args.slots.now c.args.room.now c.args.filled c.args.places.now c.single-numbers.result b = λ b. λ z. let o = c.requires.2.over in
    let long = o.lent.edges.long in
    let inside = at-inside c.requires.0 o.lent.text in
    let note = c.category_note-note.result in
    fall_ready c.requires.3 o.stored c.args.places.now (omega arith) c.single-numbers.result note b c.single-numbers.ensures
    (category-fits c.args.here.p c.args.filled.used (few) c.requires.1 note b z c.single-numbers.result c.single-numbers.ensures) in
    category-ready [] (unspaced c.category_note-note.result c.if-note-eq-ZS.false)

pub returns-then-note-ne-UNTOUCHED : goal.returns-then-note-ne-UNTOUCHED
returns-then-note-ne-UNTOUCHED c =
    let noted : (w : World) → (o : (Over w c.args.dicts.now.ready.now c.args.line.now c.args.slots.now c.args.room.now c.args.places.now c.args.filled)) → c.category_note-note.result ≡ category_note (class (kinds w) (at w.text c.args.here.p)).category = λ w. λ o. note_at o.lent.text c.args.here.p c.kind_at.result c.category.result c.category_note-note.result (at-inside c.requires.0 o.lent.text)
    c.kind_at.ensures c.category.ensures c.category_note-note.ensures in
    let category-adds : (b : List ℕ) → (z : b ≡ category_text c.category_note-note.result) → (h : c.category_note-note.result ≡ note_none → ⊥) → (w : World) → (o : (Over w c.args.dicts.now.ready.now c.args.line.now c.args.slots.now c.args.room.now c.args.places.now c.args.filled)) → (end : Ending) → (ends : Ended c.args.dicts.now.rules.now c.args.dicts.now.code.now o c.args.here.p (at-inside c.requires.0 o.lent.text) c.requires.1 b false end) → Puts c.args.dicts.now.rules.now c.args.dicts.now.code.now o c.args.here.p (at-inside c.requires.0 o.lent.text) c.requires.1 c.single-numbers.result b c.args.places.now end = λ b. λ z. λ h. λ w. λ o. λ end. λ ends. category-puts c.args.dicts.now.rules.now c.args.dicts.now.code.now o c.args.here.p (at-inside c.requires.0 o.lent.text) c.requires.1 c.category_note-note.result b z
    c.single-numbers.result c.single-numbers.ensures (noted w o) h end ends in
    let i = c.if-note-eq-ZS.false in
    let h = c.if-note-ne-UNTOUCHED.true in
    λ vowels w o.
    category-adds [] (unspaced c.category_note-note.result i) h w o c.ending_of-then-note-ne-UNTOUCHED.result (c.ending_of-then-note-ne-UNTOUCHED.ensures (kinds w)) vowels
    c.add_edge-then-note-ne-UNTOUCHED.new.slots c.add_edge-then-note-ne-UNTOUCHED.new.room c.add_edge-then-note-ne-UNTOUCHED.new.places c.add_edge-then-note-ne-UNTOUCHED.result c.add_edge-then-note-ne-UNTOUCHED.ensures.edge.0 c.add_edge-then-note-ne-UNTOUCHED.ensures.edge.1 c.add_edge-then-note-ne-UNTOUCHED.ensures.edge.2 c.add_edge-then-note-ne-UNTOUCHED.ensures.places

pub fallback_text-own-requires : goal.fallback_text-own-requires
fallback_text-own-requires c =
    let o = c.requires.2.over in
    let q = at_size c.requires.0 o.lent.text c.encoded_len-len.result c.number_at.result c.encoded_len-len.ensures.0 c.number_at.ensures in
    let i = own-inside c.args.text.now c.requires.2.world.text c.args.here.p c.args.here.at (at-inside c.requires.0 o.lent.text) (at-bytes c.requires.0 o.lent.text) in
    (c.simple_top_romanization_candidate_for_span-chosen.ensures.1, omega (arith, q, i))

pub ending_of-end-requires : goal.ending_of-end-requires
ending_of-end-requires c =
    let size-at : (w : World) → (o : (Over w c.args.dicts.now.ready.now c.args.line.now c.args.slots.now c.args.room.now c.args.places.now c.args.filled)) → c.encoded_len-len.result ≡ length (encode (at w.text c.args.here.p)) = λ w. λ o. at_size c.requires.0 o.lent.text c.encoded_len-len.result c.number_at.result c.encoded_len-len.ensures.0 c.number_at.ensures in
    let search-writes : (x : Numbers) → (y : x ≡ single_numbers c.args.here.p (search_note ((chosen_means c.args.dicts.now.rules.now c.simple_top_romanization_candidate_for_span-chosen.result)))) → Writable c.args.filled.used x c.fallback_text-own.result.now = λ x. λ y. let w = c.requires.2.world in
    let o = c.requires.2.over in
    let l = o.lent.text in
    search_fits c.args.dicts.now.rules.now c.args.dicts.now.code.now o c.args.here.p (at-inside c.requires.0 l) c.requires.1 c.args.dicts.now.prepared c.args.text.now c.args.here.at (at-bytes c.requires.0 l) (at_own c.requires.0 l)
    ((chosen_means c.args.dicts.now.rules.now c.simple_top_romanization_candidate_for_span-chosen.result)) c.simple_top_romanization_candidate_for_span-chosen.new.places (c.simple_top_romanization_candidate_for_span-chosen.ensures.0 w o.told o.lent) c.encoded_len-len.result (size-at w o)
    c.fallback_text-own.result.now c.fallback_text-own.ensures x y in
    (search-writes (single_numbers c.args.here.p (search_note ((chosen_means c.args.dicts.now.rules.now c.simple_top_romanization_candidate_for_span-chosen.result)))) refl).utf8

pub single-requires : goal.single-requires
single-requires c =
    let few : c.args.here.p < most_characters = at_few c.requires.0 c.requires.2.over.lent.text in
    let l = few in omega arith

pub add_edge-requires-2 : goal.add_edge-requires-2
add_edge-requires-2 c =
    let size-at : (w : World) → (o : (Over w c.args.dicts.now.ready.now c.args.line.now c.args.slots.now c.args.room.now c.args.places.now c.args.filled)) → c.encoded_len-len.result ≡ length (encode (at w.text c.args.here.p)) = λ w. λ o. at_size c.requires.0 o.lent.text c.encoded_len-len.result c.number_at.result c.encoded_len-len.ensures.0 c.number_at.ensures in
    let search-writes : (x : Numbers) → (y : x ≡ single_numbers c.args.here.p (search_note ((chosen_means c.args.dicts.now.rules.now c.simple_top_romanization_candidate_for_span-chosen.result)))) → Writable c.args.filled.used x c.fallback_text-own.result.now = λ x. λ y. let w = c.requires.2.world in
    let o = c.requires.2.over in
    let l = o.lent.text in
    search_fits c.args.dicts.now.rules.now c.args.dicts.now.code.now o c.args.here.p (at-inside c.requires.0 l) c.requires.1 c.args.dicts.now.prepared c.args.text.now c.args.here.at (at-bytes c.requires.0 l) (at_own c.requires.0 l)
    ((chosen_means c.args.dicts.now.rules.now c.simple_top_romanization_candidate_for_span-chosen.result)) c.simple_top_romanization_candidate_for_span-chosen.new.places (c.simple_top_romanization_candidate_for_span-chosen.ensures.0 w o.told o.lent) c.encoded_len-len.result (size-at w o)
    c.fallback_text-own.result.now c.fallback_text-own.ensures x y in
    let search-ready : (x : Numbers) → (y : x ≡ single_numbers c.args.here.p (search_note ((chosen_means c.args.dicts.now.rules.now c.simple_top_romanization_candidate_for_span-chosen.result)))) → Ready c.args.slots.now c.args.room.now c.args.filled c.simple_top_romanization_candidate_for_span-chosen.new.places x c.fallback_text-own.result.now = λ x. λ y. let w = c.requires.2.world in
    let o = c.requires.2.over in
    let l = o.lent.text in
    fall_ready c.requires.3 o.stored c.simple_top_romanization_candidate_for_span-chosen.new.places
    (search_places c.args.dicts.now.rules.now c.args.dicts.now.code.now o c.args.here.p (at-inside c.requires.0 l) c.requires.1 c.args.dicts.now.prepared c.args.text.now c.args.here.at (at-bytes c.requires.0 l) (at_own c.requires.0 l)
    ((chosen_means c.args.dicts.now.rules.now c.simple_top_romanization_candidate_for_span-chosen.result)) c.simple_top_romanization_candidate_for_span-chosen.new.places (c.simple_top_romanization_candidate_for_span-chosen.ensures.0 w o.told o.lent))
    x (search_note ((chosen_means c.args.dicts.now.rules.now c.simple_top_romanization_candidate_for_span-chosen.result))) c.fallback_text-own.result.now y (search-writes x y) in
    search-ready c.single.result (c.single.ensures ∙ ap (single_numbers c.args.here.p) (c.search_note.ensures c.args.dicts.now.rules.now))

pub returns : goal.returns
returns c =
    let noted : (w : World) → (o : (Over w c.args.dicts.now.ready.now c.args.line.now c.args.slots.now c.args.room.now c.args.places.now c.args.filled)) → c.category_note-note.result ≡ category_note (class (kinds w) (at w.text c.args.here.p)).category = λ w. λ o. note_at o.lent.text c.args.here.p c.kind_at.result c.category.result c.category_note-note.result (at-inside c.requires.0 o.lent.text)
    c.kind_at.ensures c.category.ensures c.category_note-note.ensures in
    let size-at : (w : World) → (o : (Over w c.args.dicts.now.ready.now c.args.line.now c.args.slots.now c.args.room.now c.args.places.now c.args.filled)) → c.encoded_len-len.result ≡ length (encode (at w.text c.args.here.p)) = λ w. λ o. at_size c.requires.0 o.lent.text c.encoded_len-len.result c.number_at.result c.encoded_len-len.ensures.0 c.number_at.ensures in
    let y = c.single.ensures ∙ ap (single_numbers c.args.here.p) (c.search_note.ensures c.args.dicts.now.rules.now) in
    let j = c.if-note-ne-UNTOUCHED.false in
    let none : c.category_note-note.result ≡ note_none = omega arith in
    λ vowels w o.
    let l = o.lent.text in
    search_puts c.args.dicts.now.rules.now c.args.dicts.now.code.now o c.args.here.p (at-inside c.requires.0 l) c.requires.1 c.args.dicts.now.prepared c.args.text.now c.args.here.at (at-bytes c.requires.0 l) (at_own c.requires.0 l)
    ((chosen_means c.args.dicts.now.rules.now c.simple_top_romanization_candidate_for_span-chosen.result)) c.simple_top_romanization_candidate_for_span-chosen.new.places (c.simple_top_romanization_candidate_for_span-chosen.ensures.0 w o.told o.lent) c.encoded_len-len.result (size-at w o)
    c.fallback_text-own.result.now c.fallback_text-own.ensures c.single.result y (sym (noted w o) ∙ none)
    c.falls_on_letter.result (c.falls_on_letter.ensures c.args.dicts.now.rules.now) c.ending_of-end.result (c.ending_of-end.ensures (kinds w)) vowels
    c.add_edge-2.new.slots c.add_edge-2.new.room c.add_edge-2.new.places c.add_edge-2.result c.add_edge-2.ensures.edge.0 c.add_edge-2.ensures.edge.1 c.add_edge-2.ensures.edge.2 c.add_edge-2.ensures.places
