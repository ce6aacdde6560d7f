-- What the answers of this crate's functions say, in the definition's terms.
use Rattle.std.specs.Prelude.{ℕ, zero, suc, ◌+◌, ◌*◌, ◌≤◌, ◌<◌, List, [], ◌∷◌, map, ◌≡◌, Option, Some, None}
use Rattle.std.proofs.Math.Option.{none}
use Rattle.base.specs.Bits.{bit}
use Rattle.definition.specs.Limits.{most_script, ascii_characters}
use Rattle.definition.specs.Tables.{Class, category_Zs}
use Rattle.definition.specs.ClassRows.{class_by, class_fault, classes_of}
use Rattle.definition.specs.Classes.{plain, class, alpha}
use Rattle.table_classes.specs.declared.ClassRow.{ClassRow}

-- A class table that was checked
abbrev pub Fine : List ℕ → Type 0
Fine b = class_fault b ≡ none

-- a character's class by its row, or the default
unfoldable pub class_means : ℕ → Option ClassRow → Class
class_means c (Some r) = class_by c r.category r.script r.flags
class_means c None = plain c

-- a row's numbers are within those of an accepted table, and its flags are a byte
unfoldable pub Ranged : Option ClassRow → Type 0
Ranged (Some r) = (r.category ≤ category_Zs) × (r.script ≤ most_script) × (r.flags < 256)
Ranged None = Unit {0}

-- A class in one number: category in bits 0 to 2, script in 3 to 9, flags from 10 on
unfoldable pub flags_of : Class → ℕ
flags_of k =
    bit k.sign + bit k.medial * 2 + bit k.subjoined * 4 + bit k.virama * 8
    + bit k.vocalic * 16 + bit k.tone * 32 + bit k.pre * 64
    + bit k.lowercase * 128

unfoldable pub packed : Class → ℕ
packed k = k.category + k.script * 8 + flags_of k * 1024

-- the packed classes of some characters
unfoldable pub kinds_of : List ℕ → List ℕ → List ℕ
kinds_of b t = map (λ c. packed (class (classes_of b) c)) t

-- the numbers from `k` on, as many as `n`
unfoldable pub from : ℕ → ℕ → List ℕ
from k zero = []
from k (suc n) = k ∷ from (k + 1) n

-- of each character below 128 whether it is a letter or a mark
unfoldable pub alphas_of : List ℕ → List ℕ
alphas_of b = map (λ c. bit (alpha (classes_of b) c)) (from 0 ascii_characters)
