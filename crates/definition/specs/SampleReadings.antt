-- End-of-syllable readings among the alternatives: what mode 2 lists with the choice and without, computed.
use Rattle.std.specs.Prelude.{Bool, true, ◌&&◌, ◌≡◌, refl, List, [], ◌∷◌, ◌++◌, ℕ, length}
use Prim.Native.String.{String}
use Rattle.base.specs.Big.{two}
use Rattle.definition.specs.Texts.{chars}
use Rattle.definition.specs.Listing.{block}
use Rattle.definition.specs.Call.{called}
use Rattle.definition.specs.Compute.{compute}
use Rattle.definition.specs.Sample.{joint, threes, sized, rule, sample_classes, readings_by, sample_with, gave}

-- A rule with a count, a source, a target, an end target and alternatives
abbrev texts : List String → List ℕ
texts [] = []
texts (w ∷ l) = length (chars w) ∷ (chars w ++ texts l)

abbrev by_flags : ℕ → ℕ → String → List String → List String → List ℕ
by_flags flags count c w others =
    sized (flags ∷ (two count ++ (length (chars c) ∷ (threes (chars c) ++ 0 ∷ (texts w ++ length others ∷ texts others)))))

abbrev pub ended : ℕ → String → String → String → List String → List ℕ
ended count c w u others = by_flags 96 count c (w ∷ u ∷ []) others

-- one with an end target alone
abbrev only_ended : String → String → List ℕ
only_ended c u = by_flags 64 0 c (u ∷ []) []

-- The row of an edge in a listing
abbrev edge : ℕ → ℕ → ℕ → ℕ → String → List ℕ
edge from to note core w = sized (two from ++ (two to ++ note ∷ core ∷ chars w))

-- Mode 2 of a text by some rules lists these edges, with this choice of readings
abbrev lists : ℕ → List (List ℕ) → String → List (List ℕ) → Bool
lists n rules text es = gave (called (sample_with 2 (readings_by n) (block (joint rules)) sample_classes "" text)) (block (joint es))

-- of ж, whose path has the one edge "k"
abbrev offers : ℕ → List (List ℕ) → List (List ℕ) → Bool
offers n rules es = lists n rules "ж" (edge 0 1 1 0 "k" ∷ es)

abbrev alt : String → List ℕ
alt w = edge 0 1 12 0 w

abbrev reading : String → List ℕ
reading w = edge 0 1 13 0 w

abbrev alt3 : String → List ℕ
alt3 w = edge 0 1 14 0 w

-- The end target is listed where readings are chosen: as it is stored, with a leading plus too, and where it is empty; behind
-- the rule's alternatives
pub sample-readings : (
    offers 0 (ended 0 "ж" "k" "t" [] ∷ []) [] && offers 1 (ended 0 "ж" "k" "t" [] ∷ []) (reading "t" ∷ [])
    && offers 1 (ended 0 "ж" "k" "+n" [] ∷ []) (reading "+n" ∷ [])
    && offers 1 (ended 0 "ж" "k" "" [] ∷ []) (reading "" ∷ [])
    && offers 1 (ended 0 "ж" "k" "t" ("g" ∷ "q" ∷ []) ∷ []) (alt "g" ∷ alt "q" ∷ reading "t" ∷ [])) ≡ true
unfolding compute
sample-readings = refl

-- It is not where its text is listed: it is the edge's own, one of the rule's alternatives, or what an earlier rule has given. And
-- what is listed so keeps later ones out. A rule without a target gives nothing
pub readings-once : (
    offers 1 (ended 0 "ж" "k" "k" [] ∷ []) []
    && offers 1 (ended 0 "ж" "k" "t" ("t" ∷ []) ∷ []) (alt "t" ∷ [])
    && offers 1 (ended 0 "ж" "k" "t" [] ∷ ended 0 "ж" "k" "t" [] ∷ []) (reading "t" ∷ [])
    && offers 1 (ended 0 "ж" "k" "t" [] ∷ ended 0 "ж" "k" "d" ("t" ∷ "g" ∷ []) ∷ []) (reading "t" ∷ alt "g" ∷ reading "d" ∷ [])
    && offers 1 (rule "ж" "k" ∷ only_ended "ж" "t" ∷ []) []) ≡ true
unfolding compute
readings-once = refl

-- Beside it, "rom-alt3" is as it was: where the end target is the edge's text, the target. Of the two rules that give the same
-- text so, the first that stands in the table lists it
pub readings_order : (
    offers 1 (ended 0 "ж" "k" "t" [] ∷ ended 0 "ж" "t" "k" [] ∷ []) (reading "t" ∷ [])
    && offers 1 (ended 0 "ж" "t" "k" [] ∷ ended 1 "ж" "k" "t" [] ∷ []) (alt3 "t" ∷ [])
    && offers 0 (ended 0 "ж" "k" "t" [] ∷ ended 0 "ж" "t" "k" [] ∷ []) (alt3 "t" ∷ [])) ≡ true
unfolding compute
readings_order = refl

-- The target has to be the edge's text: not its core, by which the alternatives come all the same, and not what a tail was made of
abbrev core_rules : List (List ℕ)
core_rules = ended 0 "क" "k" "t" ("q" ∷ []) ∷ rule "त" "t" ∷ []

abbrev tail_rules : List (List ℕ)
tail_rules = ended 0 "ж" "+n" "t" [] ∷ []

pub readings-text : (
    lists 1 core_rules "कत" (edge 0 1 2 1 "ka" ∷ edge 1 2 1 0 "t" ∷ edge 0 1 12 0 "qa" ∷ [])
    && lists 1 tail_rules "ж" (edge 0 1 3 0 "n" ∷ [])) ≡ true
unfolding compute
readings-text = refl

-- Each span has its own list: the same reading of two characters is listed twice
pub readings-spans :
    lists 1 (ended 0 "ж" "k" "t" [] ∷ []) "ж ж" (
    edge 0 1 1 0 "k" ∷ edge 1 2 10 0 " " ∷ edge 2 3 1 0 "k" ∷ edge 0 1 13 0 "t" ∷ edge 2 3 13 0 "t" ∷ []) ≡ true
unfolding compute
readings-spans = refl
