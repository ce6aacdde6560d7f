-- What a driver sees: from the line's call to its words' calls. (Proved in proofs/Driven.)
use Rattle.std.specs.Prelude.{◌≡◌, refl, List, [], ◌∷◌, ◌++◌, map, ℕ, ◌-◌, ◌≤◌, replicate}
use Rattle.std.proofs.Common.{◌∙◌, arith, length-append}
use Rattle.std.proofs.Math.Path.{ap}
use Rattle.std.proofs.Math.ListN.{length}
use Rattle.std.proofs.Math.Seq.{take-append_seam}
use Rattle.base.specs.Pick.{pick}
use Rattle.base.specs.Alls.{All}
use Rattle.definition.specs.Texts.{Text, the_space}
use Rattle.definition.specs.Utf8.{encode, encoded}
use Rattle.definition.specs.Decomposing.{path}
use Rattle.definition.specs.Listing.{shown}
use Rattle.definition.specs.Call.{Inputs, tables, decompositions, characters, refusal, called}
use Rattle.definition.specs.Roundtrip.{encoded-append}
use Rattle.definition.specs.Endings.{romanization, Romanized}
use Rattle.stretches.specs.Driver.{spaced, line_of, string, wrote}

-- A line's bytes, and a word's among them
pub encoded-spaced : (ws : List Text) → encoded (spaced ws) ≡ spaced (map encoded ws)
unfolding spaced encoded encode pick
encoded-spaced [] = refl
encoded-spaced (w ∷ ws) =
    ap (λ t. the_space ∷ t) (encoded-append w (spaced ws) ∙ ap (λ t. encoded w ++ t) (encoded-spaced ws))

-- A word is no longer than its line
spaced-long : (n : ℕ) (ws : List (List ℕ)) → length (spaced ws) ≤ n → All (λ w. length w ≤ n) ws
unfolding spaced
spaced-long n [] l = tt
spaced-long n (w ∷ ws) l =
    let e = length-append w (spaced ws) in
    (omega arith, spaced-long n ws (omega arith))

pub line-long : (ws : List (List ℕ)) → All (λ w. length w ≤ length (line_of ws)) ws
unfolding line_of
line-long [] = tt
line-long (w ∷ ws) =
    let e = length-append w (spaced ws) in
    (omega arith, spaced-long (length (w ++ spaced ws)) ws (omega arith))

-- A call that ends with number 0 has written its romanization
pub wrote-is : (i : Inputs) → Romanized i (called i) → wrote (called i) ≡ romanization i
unfolding wrote
wrote-is i h = rw (h.shows, h.written) (take-append_seam (romanization i) (replicate (i.out - length (romanization i)) 0))

-- the bytes of a text's string, under the tables of a call; in mode 0 they are the romanization
abbrev pub answer : Inputs → Text → List ℕ
answer i w = encoded (string (tables i) (decompositions i) w)

pub mode_zero : (i : Inputs) → i.mode ≡ 0 → romanization i ≡ answer i (characters i)
unfolding shown string path
mode_zero i e = rw e

-- Calls with one mode, choices, tables, code and text are refused alike, but for what they are lent
pub same-refusal : (j k : Inputs) → j.mode ≡ k.mode → j.choices ≡ k.choices → j.rules ≡ k.rules → j.classes ≡ k.classes
    → j.vowels ≡ k.vowels → j.decompositions ≡ k.decompositions → j.code ≡ k.code → j.text ≡ k.text
    → refusal j ≡ refusal k
unfolding refusal characters
same-refusal j k a o b c d g e f = rw (a, o, b, c, d, g, e, f)
