-- `called`, to compute with: whatever unfolds `compute` unfolds the whole definition. Written by tests/definition/names.py.
use Rattle.std.specs.Prelude.{◌≡◌, refl}
use Rattle.base.specs.Pick.{pick}
use Rattle.base.specs.Lists.{keep, any, all, head, empty, holds, front, after, best_of, best, first_of, maybe, same, starts}
use Rattle.base.specs.Turn.{turns}
use Rattle.base.specs.Big.{two, three, four}
use Rattle.base.specs.Bits.{flagged}
use Rattle.base.specs.Rows.{rows_by, rows, counted, AllOf}
use Rattle.definition.specs.Refusals.{when, placed}
use Rattle.definition.specs.Texts.{among, at, prev, stands, fits, begins, latin, vowels, consonants, left_out, capital, lower, last_is}
use Rattle.definition.specs.Utf8.{scalar, six, checked, sequence, read, bad_from, bad_sequence, decode_by, decoded, encode, encoded}
use Rattle.definition.specs.Blocks.{headed, past, row_turn, fault_from, fault, offset_where, small}
use Rattle.definition.specs.RuleRows.{printable, text_size, text_of, text_right, texts_of, texts_size, texts_right, rule_size, rule_flag, rule_count, source_count, codes_at, past_text, codes_count_from, target_from, end_target_from, others_from, others_end, others_of, others_right, three_at, code_of, rule_source, codes_from, text_where, rule_of, rises, fits_from, codes_right_from, target_right_from, end_target_right_from, source_right, rule_right, rules_of}
use Rattle.definition.specs.RuleFields.{and_then, field, fields, character_right, code_small, byte_right, read_text, read_texts, read_text_if, read_flags, read_source, read_codes, read_others, read_end, read_tail, read_parts, read_row}
use Rattle.definition.specs.RuleFaults.{field_fault, row_fault, rule_fault}
use Rattle.definition.specs.ClassRows.{class_size, class_by, class_of, class_next, class_fits, space_right, latin_right, class_right, class_fault, classes_of}
use Rattle.definition.specs.VowelRows.{vowel_size, vowel_letters, vowel_of, vowel_next, vowel_fits, letters_right, vowel_right, vowel_fault, vowels_of}
use Rattle.definition.specs.DecompositionRows.{decomposition_size, threes, decomposition_into, decomposition_of, decomposition_next, decomposition_fits, into_right, decomposition_right, decompositions_of, has_row, into_final, own_fault, right_part, nested_fault, decomposition_fault}
use Rattle.definition.specs.Classes.{plain, class, alpha, mark, script}
use Rattle.definition.specs.Edges.{ending, starting, left_best, right_best, covered, new_in, alike, add, closing, walk, view, ret, ◌>>=◌, remember}
use Rattle.definition.specs.Boundaries.{goes_on, word_end, fresh, recall, word_start}
use Rattle.definition.specs.Rules.{spans, is_prefix, higher, targeted, winner, first_rule, lang, asks_start, holds_at, valid, sift, valids, choose, simple}
use Rattle.definition.specs.Syllables.{opens, past_tone, next_rom, o_ang_test, vowel_test, syllable_at, syllable_end, full}
use Rattle.definition.specs.Vowels.{vowel_row, before_y, pattern_y, pattern_c, bases, consonant_only, keeps_end, before_yo, bare, vowel_in, vowel_by, vowel_step}
use Rattle.definition.specs.Expansion.{upper_case, capitalized, capitalizes, capitalize, doubling, doubled, small_tsu, double, framed, widen, around_by, around, pre_vowel, before, stretch_start, walk_start, o_ang_side, between, silent, small_ya, small_target, lengthens, trim_front, trim_back, trim, finish, grave, small_y, rest, o_ang_step, thai, by_script, expand}
use Rattle.definition.specs.Building.{is_tail, without_plus, grown, as_edge, single, fallback_plus, fallback_by, put_in, each, fallback_edge, edge_of, span_edge, rise, build, fall, lattice_by, rule_lattice}
use Rattle.definition.specs.Paths.{path_from, joined, akin, other, also_all, cored, by_target, by_reading, by_end_target, by_rule, by_rules, by_edges, longer, sorted, path_of, with_alternatives_of, all_edges_of}
use Rattle.definition.specs.Decomposing.{row_of, stands_for, inner_lattice, inner_string, number, slashed, parted, decomp_text, decomp_edge, start, lattice, edges, edge_count, path, with_alternatives, alternatives, all_edges}
use Rattle.definition.specs.Listing.{edge_row, edge_rows, block, listing, shown}
use Rattle.definition.specs.Capacity.{bytes, misfit, placed_at, inner_edges, before_edge, overflow}
use Rattle.definition.specs.Call.{tables_of, tables, decompositions, characters, code_right, first_left_out, before_text, text_refusal, refusal, refused, uncounted, written, within_room, with_lattice, accepted, unless_refused, called}
use Rattle.definition.specs.Call.{Inputs, Called}

unfoldable pub compute : Inputs → Called
unfolding pick keep any all head empty holds front after best_of best first_of maybe same starts turns two three
    four flagged rows_by rows counted AllOf when placed among at prev stands fits begins latin vowels consonants
    left_out capital lower last_is scalar six checked sequence read bad_from bad_sequence decode_by decoded encode
    encoded headed past row_turn fault_from fault offset_where small printable text_size text_of text_right texts_of
    texts_size texts_right rule_size rule_flag rule_count source_count codes_at past_text codes_count_from
    target_from end_target_from others_from others_end others_of others_right three_at code_of rule_source
    codes_from text_where rule_of rises fits_from codes_right_from target_right_from end_target_right_from
    source_right rule_right rules_of and_then field fields character_right code_small byte_right read_text
    read_texts read_text_if read_flags read_source read_codes read_others read_end read_tail read_parts read_row
    field_fault row_fault rule_fault class_size class_by class_of class_next class_fits space_right latin_right
    class_right class_fault classes_of vowel_size vowel_letters vowel_of vowel_next vowel_fits letters_right
    vowel_right vowel_fault vowels_of decomposition_size threes decomposition_into decomposition_of
    decomposition_next decomposition_fits into_right decomposition_right decompositions_of has_row into_final
    own_fault right_part nested_fault decomposition_fault plain class alpha mark script ending starting left_best
    right_best covered new_in alike add closing walk view ret ◌>>=◌ remember goes_on word_end fresh recall
    word_start spans is_prefix higher targeted winner first_rule lang asks_start holds_at valid sift valids choose
    simple opens past_tone next_rom o_ang_test vowel_test syllable_at syllable_end full vowel_row before_y pattern_y
    pattern_c bases consonant_only keeps_end before_yo bare vowel_in vowel_by vowel_step upper_case capitalized
    capitalizes capitalize doubling doubled small_tsu double framed widen around_by around pre_vowel before
    stretch_start walk_start o_ang_side between silent small_ya small_target lengthens trim_front trim_back trim
    finish grave small_y rest o_ang_step thai by_script expand is_tail without_plus grown as_edge single
    fallback_plus fallback_by put_in each fallback_edge edge_of span_edge rise build fall lattice_by rule_lattice
    path_from joined akin other also_all cored by_target by_reading by_end_target by_rule by_rules by_edges longer
    sorted path_of with_alternatives_of all_edges_of row_of stands_for inner_lattice inner_string number slashed
    parted decomp_text decomp_edge start lattice edges edge_count path with_alternatives alternatives all_edges
    edge_row edge_rows block listing shown bytes misfit placed_at inner_edges before_edge overflow tables_of tables
    decompositions characters code_right first_left_out before_text text_refusal refusal refused uncounted written
    within_room with_lattice accepted unless_refused called
compute i = called i

pub compute-is : (i : Inputs) → compute i ≡ called i
unfolding compute
compute-is i = refl
