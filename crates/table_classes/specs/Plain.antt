-- Class rows of the commonest kind, past the Latin letters and below the surrogates.
use Rattle.std.specs.Prelude.{true, List, ◌≡◌, ℕ, ◌+◌, ◌-◌, ◌<◌, ◌≤◌, length, drop}
use Rattle.std.proofs.Math.Bool.{and-false}
use Rattle.std.proofs.Math.Option.{Option}
use Rattle.std.proofs.Common.{sym, arith, length-drop}
use borrow.Author.Tests.{le-leb, lt-leb, lt-ltb, ne_eqb}
use Rattle.definition.specs.Tables.{category_Zs}
use Rattle.definition.specs.Limits.{most_script}
use Rattle.definition.specs.Texts.{latin}
use Rattle.definition.specs.Utf8.{scalar}
use Rattle.definition.specs.Checking.{from, next}
use Rattle.definition.specs.Accepted.{class_moves}
use Rattle.definition.specs.ClassRows.{class_size, class_next, class_char, class_category, class_script, class_fits, space_right, latin_right, class_right}
use Rattle.table_blocks.specs.Held.{held}

-- the first fault of a table from a row on
abbrev pub fault_from : List ℕ → ℕ → ℕ → ℕ → Option ℕ
fault_from b at left low = from class_size class_next class_right at left low b

-- a right row, and the character past its own
pub record Plain (low : ℕ) (s : List ℕ) (past : ℕ) : Type 0 where
  pub inside : 6 ≤ length s
  pub right : true ≡ class_right low s
  pub passed : past ≡ class_char s + 1

-- 0 says nothing
pub not_plain : {low : ℕ} {s : List ℕ} → 0 < 0 → Plain low s 0
not_plain e = absurd (omega arith)

-- a row is plain where the tests say so
module _ (s : List ℕ) (low : ℕ) (l : 6 ≤ length s) (r : low ≤ class_char s) (h : 122 < class_char s) (g : class_char s < 0xD800)
    (k : class_category s ≤ category_Zs) (n : class_script s ≤ most_script) where
  fits : class_fits low s ≡ true
  unfolding class_fits scalar
  fits = simp (
    held 6 s l,
    lt-ltb (class_char s) 0xD800 g,
    le-leb low (class_char s) r,
    le-leb (class_category s) 7 k,
    le-leb (class_script s) most_script n,
  )

  right-past : class_right low s ≡ true
  unfolding class_right space_right latin_right latin
  right-past = simp (
    fits,
    ne_eqb (class_char s) 32 (λ e. omega arith),
    lt-leb (class_char s) 90 (omega arith),
    lt-leb (class_char s) 122 h,
    and-false,
  )

  pub told : (c : ℕ) → c ≡ class_char s → Plain low s (c + 1)
  told c e = record { inside = l; right = sym right-past; passed = omega arith }

-- Past a plain row the first fault is as before it
module _ (b : List ℕ) (at left low past : ℕ) (p : Plain low (drop at b) past) where
  pub walk_inside : at + 6 ≤ length b
  walk_inside = let l = p.inside in omega (arith, length-drop at b)

  pub walk_on : 0 < left → (to rest : ℕ) → to ≡ at + 6 → rest ≡ left - 1 → fault_from b to rest past ≡ fault_from b at left low
  unfolding class_size class_next
  walk_on h to rest e f =
      let l = walk_inside in
      next class_size class_next class_right class_moves b at left low (omega arith) h p.right to rest past e f p.passed
