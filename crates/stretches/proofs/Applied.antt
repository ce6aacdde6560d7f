-- Demand 3 applied: its equations for the lines of specs/Applied.
use Rattle.std.specs.Prelude.{◌≡◌, refl, [], ◌∷◌, map}
use Rattle.std.proofs.Common.{ap, arith}
use Rattle.base.specs.Lists.{keep}
use Rattle.definition.specs.Notes.{note_rom, note_core, note_exp, note_single, note_Zs, note_orig, note_alt2, note_decomp}
use Rattle.definition.specs.Texts.{chars}
use Rattle.definition.specs.Building.{single}
use Rattle.definition.specs.Paths.{joined}
use Rattle.definition.specs.Decomposing.{edges, path, alternatives}
use Rattle.definition.specs.Call.{tables, decompositions, characters}
use Rattle.definition.specs.Compute.{compute}
use Rattle.definition.specs.Sample.{o_ang_by}
use Rattle.definition.specs.Parts.{Accepts}
use Rattle.stretches.specs.Demand.{has_row, space_edge, over, Before, start, After, end, within, shift, Alone}
use Rattle.stretches.proofs.Proved.{demand}
use Rattle.stretches.specs.Applied.{capital_line, capital_taken, edge, first_by, free_by, half_line, half_taken, line, line_taken, o_ang_line, o_ang_taken, reading_line, reading_taken}

pub first_word : Alone (tables line) (decompositions line) (characters line) (chars "कत") 0 × Accepts line (chars "कत")
unfolding compute
first_word = (demand line line_taken).stretches [] (chars "कत") (chars " क्त") refl start (After.space (chars "क्त"))
    (λ z. first_by (chars "कत") refl)

pub second_word : Alone (tables line) (decompositions line) (characters line) (chars "क्त") 3
    × Accepts line (chars "क्त")
unfolding compute
second_word = (demand line line_taken).stretches (chars "कत ") (chars "क्त") [] refl (Before.space (chars "कत")) end
    (λ z. first_by (chars "क्त") refl)

-- the space between them
pub line_space : keep (over 2) (edges (tables line) (decompositions line) (characters line))
    ≡ single 2 note_Zs (chars " ") ∷ []
unfolding compute has_row space_edge
line_space = (demand line line_taken).spaces 2 (omega arith) refl

-- The edges of the second word in the line are those of the word alone, moved by 3
pub second-edges :
    keep (within 3 3) (edges (tables line) (decompositions line) (characters line))
    ≡ map (shift 3) (edges (tables line) (decompositions line) (chars "क्त"))
second-edges = second_word.0.edges

pub second-edges_are : keep (within 3 3) (edges (tables line) (decompositions line) (characters line))
    ≡ edge 3 5 note_exp 0 "k" ∷ edge 4 5 note_rom 0 "" ∷ edge 5 6 note_core 1 "ta" ∷ edge 3 4 note_single 0 "k" ∷ []
unfolding compute shift
second-edges_are = second-edges

pub capital_word : Alone (tables capital_line) (decompositions capital_line) (characters capital_line) (chars "Жж") 2
    × Accepts capital_line (chars "Жж")
unfolding compute
capital_word = (demand capital_line capital_taken).stretches (chars "ж ") (chars "Жж") (chars " ж") refl
    (Before.space (chars "ж")) (After.space (chars "ж")) (λ z. first_by (chars "Жж") refl)

-- The word's edges alone, moved by 2: Ж before a lower-case letter is "Zh"
pub capital-edges :
    keep (within 2 2) (edges (tables capital_line) (decompositions capital_line) (characters capital_line))
    ≡ edge 2 3 note_rom 0 "Zh" ∷ edge 3 4 note_rom 0 "zh" ∷ []
unfolding compute shift
capital-edges = capital_word.0.edges

pub reading_word : Alone (tables reading_line) (decompositions reading_line) (characters reading_line) (chars "ж") 2
    × Accepts reading_line (chars "ж")
unfolding compute
reading_word = (demand reading_line reading_taken).stretches (chars "ж ") (chars "ж") [] refl (Before.space (chars "ж")) end
    (λ z. first_by (chars "ж") refl)

-- The word's alternatives alone, moved by 2: that reading
pub reading-alternatives :
    keep (within 2 1) (alternatives (tables reading_line) (decompositions reading_line) (characters reading_line))
    ≡ edge 2 3 note_alt2 0 "t" ∷ []
unfolding compute shift
reading-alternatives = reading_word.0.alternatives

pub half_word : Alone (tables half_line) (decompositions half_line) (characters half_line) (chars "½1") 2
    × Accepts half_line (chars "½1")
unfolding compute
half_word = (demand half_line half_taken).stretches (chars "1 ") (chars "½1") [] refl (Before.space (chars "1")) end
    (λ z. first_by (chars "½1") refl)

-- The word's edges alone, moved by 2: ½ is parted from the number beside it, and not from the one beyond the space
pub half-edges : keep (within 2 2) (edges (tables half_line) (decompositions half_line) (characters half_line))
    ≡ edge 2 3 note_decomp 0 "1/2 " ∷ edge 3 4 note_orig 0 "1" ∷ []
unfolding compute shift
half-edges = half_word.0.edges

pub o_ang_word : Alone (tables o_ang_line) (decompositions o_ang_line) (characters o_ang_line) (chars "่อก") 2
    × Accepts o_ang_line (chars "่อก")
unfolding compute
o_ang_word = (demand o_ang_line o_ang_taken).stretches (chars "ก ") (chars "่อก") [] refl (Before.space (chars "ก")) end
    (free_by (o_ang_by 1) (chars "่อก") refl)

-- In the line the word gives what it gives alone, "k"; the whole is "k k"
pub o_ang-path :
    joined (keep (within 2 3) (path (tables o_ang_line) (decompositions o_ang_line) (characters o_ang_line)))
    ≡ chars "k"
unfolding compute shift
o_ang-path = ap joined o_ang_word.0.path
