-- Characters that stand for others: a small table of them, what texts read by it, and each of its refusals, computed.
use Rattle.std.specs.Prelude.{Bool, true, ◌&&◌, ◌≡◌, refl, List, [], ◌∷◌, ◌++◌, ℕ, length, replicate}
use Prim.Native.String.{String}
use Rattle.base.specs.Lists.{all}
use Rattle.definition.specs.Texts.{Text, chars}
use Rattle.definition.specs.Utf8.{encoded}
use Rattle.definition.specs.Listing.{block}
use Rattle.definition.specs.Call.{Inputs, called}
use Rattle.definition.specs.Compute.{compute}
use Rattle.definition.specs.Sample.{joint, threes, sized, rule, class_by, letters, as_port, gave, hex, sample_vowels, Refused, refused_at, refused_so}

-- A row: a character, its tag, and the characters that it stands for
abbrev form_by : ℕ → String → Text → List ℕ
form_by tag c w = threes (chars c) ++ (tag ∷ length w ∷ threes w)

abbrev form : String → String → List ℕ
form c w = form_by 5 c (chars w)

-- The tables. A half is one, a fraction slash and two; two characters stand for ones that rules read; one has the tag of compat
abbrev sample_forms : List ℕ
sample_forms = block (joint (
    form "½" "1⁄2" ∷ form "①" "1" ∷ form "㌕" "きゃ" ∷ form "㌖" "कत" ∷ form "㎕" "μl" ∷ form_by 4 "ﬁ" (chars "fi")
    ∷ form "Ａ" "A" ∷ form "Ｂ" "B" ∷ []))

-- rules, with some between Devanagari and kana
abbrev rules_with : List (List ℕ) → List ℕ
rules_with more = block (joint (rule "क" "k" ∷ rule "त" "t" ∷ joint more ∷ rule "か" "ka" ∷ rule "き" "ki" ∷ rule "ゃ" "ya" ∷ []))

-- characters of category 4
abbrev numbers : Text → List ℕ
numbers [] = []
numbers (c ∷ w) = class_by c 4 0 0 ++ numbers w

-- classes, with these numbers before Devanagari and between it and kana
abbrev classes_with : String → String → List ℕ
classes_with low high = block (joint (
    class_by 0x20 7 0 0 ∷ numbers (chars low) ∷ letters 5 (chars "कत") ∷ numbers (chars high) ∷ letters 3 (chars "かきゃ") ∷ []))

abbrev with_numbers : List ℕ
with_numbers = classes_with "0123456789½" "①"

-- A call with these tables, this much room, code and text
abbrev asked : ℕ → List ℕ → List ℕ → List ℕ → ℕ → ℕ → ℕ → String → String → Inputs
asked mode rules classes forms slots room out code text = record {
  mode = mode;
  choices = as_port;
  rules = rules;
  classes = classes;
  vowels = sample_vowels;
  decompositions = forms;
  code = chars code;
  text = encoded (chars text);
  slots = slots;
  room = room;
  out = out;
}

-- with room enough
abbrev line : ℕ → List ℕ → List ℕ → String → String → Inputs
line mode rules classes code text = asked mode rules classes sample_forms 1200 1000 100 code text

-- A text and its string, under a language code
record Reading : Type 0 where
  code : String
  text : String
  string : String

abbrev reads : String → String → Reading
reads t w = record { code = ""; text = t; string = w }

abbrev reads_under : String → String → String → Reading
reads_under c t w = record { code = c; text = t; string = w }

abbrev read_so : List ℕ → Reading → Bool
read_so classes r = gave (called (line 0 (rules_with []) classes r.code r.text)) (encoded (chars r.string))

-- A number stands apart from numbers beside it. Where both stand for others each puts its own space, so there are two. A fraction slash
-- of a row becomes a slash, one of the text does not. Tag 4 gives no edge. The language code is not used inside
abbrev readings : List Reading
readings =
    reads "①" "1"
    ∷ reads "ＡＢ" "AB"
    ∷ reads "①2" "1 2"
    ∷ reads "2①" "2 1"
    ∷ reads "2①2" "2 1 2"
    ∷ reads "①①" "1  1"
    ∷ reads "½" "1/2"
    ∷ reads "1½" "1 1/2"
    ∷ reads "1⁄2" "1⁄2"
    ∷ reads "①か" "1ka"
    ∷ reads "2Ａ2" "2A2"
    ∷ reads "㎕" "μl"
    ∷ reads "ﬁ" "ﬁ"
    ∷ reads "㌕" "kya"
    ∷ reads "か㌕" "kakya"
    ∷ reads "㌖" "kat"
    ∷ reads_under "san" "㌖" "kat"
    ∷ reads_under "san" "कत" "kata"
    ∷ []

pub forms-read : all (read_so with_numbers) readings ≡ true
unfolding compute
forms-read = refl

-- without classes that say so they are no numbers
pub forms_unparted : all (read_so (classes_with "" "")) (reads "①2" "12" ∷ reads "½" "1⁄2" ∷ reads "1½" "11⁄2" ∷ []) ≡ true
unfolding compute
forms_unparted = refl

-- The edge in a listing: annotation 15, no core
abbrev lists : ℕ → List (List ℕ) → String → Bool
lists mode more w = gave (called (line mode (rules_with more) with_numbers "" "①")) (hex (chars w))

pub forms-listed : (lists 1 [] "01000000090007000000010f0031" && lists 2 [] "01000000090007000000010f0031" && lists 3 [] "01000000090007000000010f0031") ≡ true
unfolding compute
forms-listed = refl

-- A rule for the same character comes before it: it is the path, and of all edges the first
abbrev one : List (List ℕ)
one = rule "①" "one" ∷ []

pub rules-first : (
    gave (called (line 0 (rules_with one) with_numbers "" "①")) (chars "one")
    && lists 1 one "010000000b00090000000101006f6e65"
    && lists 3 one "010000001400090000000101006f6e650007000000010f0031") ≡ true
unfolding compute
rules-first = refl

-- What is wrong with such a table, and where: か under it, with vowels and a code
abbrev tabled : List ℕ → List ℕ → String → Inputs
tabled vowels forms code = record {
  mode = 0;
  choices = as_port;
  rules = rules_with [];
  classes = with_numbers;
  vowels = vowels;
  decompositions = forms;
  code = chars code;
  text = encoded (chars "か");
  slots = 12;
  room = 2;
  out = 2;
}

abbrev rowed : List (List ℕ) → Inputs
rowed rows = tabled sample_vowels (block (joint rows)) ""

-- a block whose only row is one byte
abbrev cut : List ℕ
cut = block (0 ∷ [])

-- A row of one character has 8 bytes, so rows stand at 5, 13 and 21. In this order: no header; a row that is cut; tag 6; U+0020; no
-- characters, 19, and 18, which are right; a surrogate; a character that every text leaves out; rows that fall, and a row twice.
-- A character with a row: of a row before it, of a row behind it, its own, and whatever that row's tag. It has none where the row is
-- faulty by itself: then that row is the first. Last the order: 4, 13, 5
abbrev form_faults : List Refused
form_faults =
    refused_at 13 0 (tabled sample_vowels [] "")
    ∷ refused_at 13 5 (tabled sample_vowels cut "")
    ∷ refused_at 13 5 (rowed (form_by 6 "a" (chars "1") ∷ []))
    ∷ refused_at 13 5 (rowed (form " " "1" ∷ []))
    ∷ refused_at 13 5 (rowed (form "a" "" ∷ []))
    ∷ refused_at 13 5 (rowed (form_by 5 "a" (replicate 19 0x31) ∷ []))
    ∷ refused_at 0 0 (rowed (form_by 5 "a" (replicate 18 0x31) ∷ []))
    ∷ refused_at 13 5 (rowed (form_by 5 "a" (0xD800 ∷ []) ∷ []))
    ∷ refused_at 13 5 (rowed (form "a" "ༀ" ∷ []))
    ∷ refused_at 13 13 (rowed (form "b" "1" ∷ form "a" "1" ∷ []))
    ∷ refused_at 13 13 (rowed (form "a" "1" ∷ form "a" "2" ∷ []))
    ∷ refused_at 13 13 (rowed (form "a" "1" ∷ form "b" "a" ∷ []))
    ∷ refused_at 13 5 (rowed (form "a" "b" ∷ form "b" "1" ∷ []))
    ∷ refused_at 13 5 (rowed (form "a" "b" ∷ form "b" "1" ∷ form_by 6 "c" (chars "1") ∷ []))
    ∷ refused_at 13 5 (rowed (form "a" "a" ∷ []))
    ∷ refused_at 13 13 (rowed (form_by 0 "a" (chars "1") ∷ form "b" "a" ∷ []))
    ∷ refused_at 13 13 (rowed (form "a" "b" ∷ form_by 6 "b" (chars "1") ∷ []))
    ∷ refused_at 13 13 (rowed (form "a" "b" ∷ form "b" "ༀ" ∷ []))
    ∷ refused_at 4 5 (tabled cut [] "hi")
    ∷ refused_at 13 0 (tabled sample_vowels [] "hi")
    ∷ refused_at 5 0 (tabled sample_vowels sample_forms "hi")
    ∷ []

pub sample-form_faults : all refused_so form_faults ≡ true
unfolding compute
sample-form_faults = refl

-- What of the room is refused. The edges of きゃ are "kya", "ya" and "ki" for the first character alone: three slots and 7 bytes for a while
abbrev lent : ℕ → ℕ → ℕ → String → Inputs
lent slots room out text = asked 0 (rules_with []) with_numbers sample_forms slots room out "" text

-- One slot serves ① and then its own edge. For か㌕ the string's edges are asked behind か, and 9 and 10 name ㌕; in 2① the edge is
-- asked before the fallback of 2, and its space is a byte of its own
abbrev form_room : List Refused
form_room =
    refused_at 0 0 (lent 12 1 1 "①")
    ∷ refused_at 9 0 (lent 11 1 1 "①")
    ∷ refused_at 10 0 (lent 12 0 1 "①")
    ∷ refused_at 11 1 (lent 12 1 0 "①")
    ∷ refused_at 0 0 (lent 48 9 5 "か㌕")
    ∷ refused_at 9 1 (lent 47 9 5 "か㌕")
    ∷ refused_at 9 1 (lent 12 9 5 "か㌕")
    ∷ refused_at 9 0 (lent 0 9 5 "か㌕")
    ∷ refused_at 10 1 (lent 48 8 5 "か㌕")
    ∷ refused_at 0 0 (lent 24 3 3 "2①")
    ∷ refused_at 10 0 (lent 24 2 3 "2①")
    ∷ refused_at 10 1 (lent 24 1 3 "2①")
    ∷ refused_at 10 1 (lent 24 0 3 "2①")
    ∷ refused_at 9 0 (lent 12 3 3 "2①")
    ∷ []

pub sample-form_room : all refused_so form_room ≡ true
unfolding compute
sample-form_room = refl

-- A string of 607 bytes, and one of 606: three targets of 200 bytes, and one of 7 or 6
abbrev rule_long : String → ℕ → List ℕ
rule_long w n = sized (32 ∷ 0 ∷ 0 ∷ 1 ∷ (threes (chars w) ++ (0 ∷ n ∷ (replicate n 0x61 ++ 0 ∷ []))))

abbrev long_rules : List ℕ
long_rules = block (joint (rule_long "x" 200 ∷ rule_long "y" 7 ∷ rule_long "z" 6 ∷ rule "か" "ka" ∷ []))

abbrev long_forms : List ℕ
long_forms = block (joint (form "ⓐ" "xxxy" ∷ form "ⓑ" "xxxz" ∷ []))

abbrev long : List ℕ → ℕ → ℕ → ℕ → String → Inputs
long classes slots room out text = asked 0 long_rules classes long_forms slots room out "" text

-- 14 names the character. It comes behind 9 and 10 of the string's edges, before 10 of the edge itself (a number's space makes 607), and
-- before 11. Its own 9 can't come: the string's edges had a slot
abbrev long_faults : List Refused
long_faults =
    refused_at 14 0 (long with_numbers 48 607 607 "ⓐ")
    ∷ refused_at 0 0 (long with_numbers 48 606 606 "ⓑ")
    ∷ refused_at 14 1 (long with_numbers 60 609 609 "かⓐ")
    ∷ refused_at 9 0 (long with_numbers 0 607 607 "ⓐ")
    ∷ refused_at 9 0 (long with_numbers 47 607 607 "ⓐ")
    ∷ refused_at 10 0 (long with_numbers 48 606 607 "ⓐ")
    ∷ refused_at 14 0 (long with_numbers 48 607 0 "ⓐ")
    ∷ refused_at 0 0 (long with_numbers 60 607 607 "2ⓑ")
    ∷ refused_at 14 1 (long (classes_with "2" "ⓑ") 60 700 700 "2ⓑ")
    ∷ refused_at 14 1 (long (classes_with "2" "ⓑ") 48 606 700 "2ⓑ")
    ∷ refused_at 0 0 (long (classes_with "2" "ⓑ") 48 606 606 "ⓑ")
    ∷ []

pub sample-long_forms : all refused_so long_faults ≡ true
unfolding compute
sample-long_forms = refl
