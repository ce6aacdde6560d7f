-- A line of words that is UTF-8: so is each of its words, and its characters are theirs, joined.
use Rattle.std.specs.Prelude.{◌≡◌, refl, List, [], ◌∷◌, ℕ}
use Rattle.std.proofs.Math.Option.{none}
use Rattle.definition.specs.Utf8.{bad_sequence}
use Rattle.definition.specs.Utf8Turns.{decoded-none}
use Rattle.stretches.specs.Driver.{line_of}
use Rattle.stretches.specs.Cuts.{Cuts, cuts-from}

pub cuts : (ws : List (List ℕ)) → bad_sequence (line_of ws) ≡ none → Cuts ws
unfolding line_of
cuts [] e = record { each = tt; characters = decoded-none [] refl }
cuts (w ∷ ws) e = cuts-from w ws e
