-- Document 01's sample tables, as bytes, and its sixteen results, computed; capitals; O ang; and each refusal once.
use Rattle.std.specs.Prelude.{Bool, true, not, ◌&&◌, ◌≡◌, refl, List, [], ◌∷◌, ◌++◌, ℕ, ◌+◌, ◌-◌, ◌*◌, eqb, ltb, length, take, replicate}
use Prim.Native.String.{String}
use Rattle.base.specs.Pick.{pick}
use Rattle.base.specs.Big.{two, three}
use Rattle.base.specs.Lists.{all, same}
use Rattle.definition.specs.Texts.{Text, chars}
use Rattle.definition.specs.Utf8.{encoded}
use Rattle.definition.specs.Listing.{block}
use Rattle.definition.specs.Tables.{Choices}
use Rattle.definition.specs.Call.{Inputs, Called, called}
use Rattle.definition.specs.Compute.{compute}

-- Rows as bytes
abbrev pub joint : List (List ℕ) → List ℕ
joint [] = []
joint (r ∷ l) = r ++ joint l

abbrev pub threes : Text → List ℕ
threes [] = []
threes (c ∷ w) = three c ++ threes w

abbrev pub sized : List ℕ → List ℕ
sized r = two (length r) ++ r

-- a rule with flags, a count, a source and a target: no codes, no alternatives
abbrev rule_by : ℕ → ℕ → String → String → List ℕ
rule_by flags count w r =
    sized (flags ∷ (two count ++ (length (chars w) ∷ (threes (chars w)
    ++ (0 ∷ length (chars r) ∷ (chars r ++ 0 ∷ []))))))

abbrev pub rule : String → String → List ℕ
rule w r = rule_by 32 0 w r

-- one at a start of word only, of count 1
abbrev rule_first : String → String → List ℕ
rule_first w r = rule_by 33 1 w r

-- a character with category, script and flags
abbrev pub class_by : ℕ → ℕ → ℕ → ℕ → List ℕ
class_by c k s f = three c ++ k ∷ s ∷ f ∷ []

-- letters of a script
abbrev pub letters : ℕ → Text → List ℕ
letters s [] = []
letters s (c ∷ w) = class_by c 1 s 0 ++ letters s w

abbrev vowel : ℕ → String → List ℕ
vowel s w = s ∷ 0 ∷ length (chars w) ∷ chars w

-- The tables, in the order that their blocks want. Rules: Cyrillic, Devanagari, Thai, Khmer, kana
abbrev pub sample_rules : List ℕ
sample_rules = block (joint (
    rule "Ж" "ZH" ∷ rule "ж" "zh" ∷ rule_first "ж" "j" ∷ rule_first "ж" "dj" ∷ rule "р" "+ng" ∷ rule "с" "+ar"
    ∷ rule "क" "k" ∷ rule "त" "t" ∷ rule "ि" "i" ∷ rule "्" ""
    ∷ rule "ก" "k" ∷ rule "อ" "o" ∷ rule "า" "a" ∷ rule "เ" "e" ∷ rule "เ–า" "ao"
    ∷ rule "ក" "k" ∷ rule "ង" "ng" ∷ rule "យ" "y"
    ∷ rule "か" "ka" ∷ rule "き" "ki" ∷ rule "ち" "chi" ∷ rule "っ" "tsu" ∷ rule "ゃ" "ya" ∷ []))

-- Classes: the space, Cyrillic 7, Devanagari 5 with a vowel sign and a virama, Thai 1 with a pre-vowel
-- and a tone mark, Khmer 6, Hiragana 3, and the long mark of no script. The flags of ж are given
abbrev pub sample_classes_by : ℕ → List ℕ
sample_classes_by f = block (joint (
    class_by 0x20 7 0 0 ∷ letters 7 (chars "Ж") ∷ class_by 0x436 1 7 f ∷ letters 7 (chars "рс")
    ∷ letters 5 (chars "कत") ∷ class_by 0x93F 3 5 1 ∷ class_by 0x94D 2 5 8
    ∷ letters 1 (chars "กอา") ∷ class_by 0xE40 1 1 64 ∷ class_by 0xE48 2 1 32
    ∷ letters 6 (chars "កងយ") ∷ letters 3 (chars "かきちっゃ") ∷ letters 0 (chars "ー") ∷ []))

abbrev pub sample_classes : List ℕ
sample_classes = sample_classes_by 0

abbrev pub sample_vowels : List ℕ
sample_vowels = block (vowel 5 "a" ++ vowel 6 "a")

-- no character stands for others
abbrev pub no_decompositions : List ℕ
no_decompositions = block []

-- Choices: these numbers for capitals, for O ang and for readings; one of them alone; or none, as the port has it
abbrev pub choose : ℕ → ℕ → ℕ → Choices
choose capitals o_ang readings = record { capitals = capitals; o_ang = o_ang; readings = readings }

abbrev pub capitals_by : ℕ → Choices
capitals_by n = choose n 0 0

abbrev pub o_ang_by : ℕ → Choices
o_ang_by n = choose 0 n 0

abbrev pub readings_by : ℕ → Choices
readings_by n = choose 0 0 n

abbrev pub as_port : Choices
as_port = choose 0 0 0

-- A call with choices, rules and classes, and room enough; and one with the sample's
abbrev pub sample_with : ℕ → Choices → List ℕ → List ℕ → String → String → Inputs
sample_with mode choices rules classes code text = record {
  mode = mode;
  choices = choices;
  rules = rules;
  classes = classes;
  vowels = sample_vowels;
  decompositions = no_decompositions;
  code = chars code;
  text = encoded (chars text);
  slots = 1200;
  room = 1000;
  out = 100;
}

abbrev pub sample : ℕ → String → String → Inputs
sample mode code text = sample_with mode as_port sample_rules sample_classes code text

-- the call is done, and its output is these bytes
abbrev pub gave : Called → List ℕ → Bool
gave r w = eqb r.number 0 && eqb r.length (length w) && same (take (length w) r.output) w

-- A row of document 01's table: code, text, result, and the edge count or 0 where none is said
pub record Result : Type 0 where
  pub code : String
  pub text : String
  pub string : String
  pub edges : ℕ

abbrev gives : String → String → String → ℕ → Result
gives c t w n = record { code = c; text = t; string = w; edges = n }

abbrev pub results : List Result
results =
    gives "" "कत" "kat" 0
    ∷ gives "san" "कत" "kata" 0
    ∷ gives "" "कित" "kit" 0
    ∷ gives "" "क्त" "kta" 4
    ∷ gives "" "ងយ" "ngya" 0
    ∷ gives "" "កយ" "kaya" 0
    ∷ gives "" "っか" "kka" 0
    ∷ gives "" "っち" "tchi" 0
    ∷ gives "" "きゃ" "kya" 0
    ∷ gives "" "かー" "kaa" 0
    ∷ gives "" "เกา" "kao" 0
    ∷ gives "" "เก" "ke" 0
    ∷ gives "" "жж" "jzh" 0
    ∷ gives "" "Жж" "ZHzh" 0
    ∷ gives "" "р" "ng" 0
    ∷ gives "" "с" "+ar" 0
    ∷ []

abbrev pub holds_of : Result → Bool
holds_of r =
    let a = called (sample 0 r.code r.text) in
    gave a (chars r.string) && pick (eqb r.edges 0) true (eqb a.edges r.edges)

pub sample-results : all holds_of results ≡ true
unfolding compute
sample-results = refl

-- A hex digit's value, and the bytes of a hex line
abbrev digit : ℕ → ℕ
digit c = pick (ltb c 97) (c - 48) (c - 87)

abbrev pub hex : Text → List ℕ
hex [] = []
hex (a ∷ []) = []
hex (a ∷ b ∷ w) = (digit a * 16 + digit b) ∷ hex w

-- the sample program's line for कत
pub sample-line : gave (called (sample 1 "" "कत"))
    (hex (chars "010000001300080000000102016b61000700010002010074")) ≡ true
unfolding compute
sample-line = refl

-- what document 01 has run: why demand 3 has its premise
pub premise_needed : all holds_of (gives "" "ก ่อก" "k ok" 0 ∷ gives "" "่อก" "k" 0 ∷ []) ≡ true
unfolding compute
premise_needed = refl

-- Capitals: with ж's row saying that it is lower case (flag 7), Жж is "Zhzh" where that is chosen
abbrev pub lower_case : ℕ
lower_case = 128

abbrev spelt : List ℕ → List ℕ → ℕ → String → String → Bool
spelt rules classes n text w =
    gave (called (sample_with 0 (capitals_by n) rules classes "" text)) (encoded (chars w))

abbrev sample_spelt : ℕ → String → String → Bool
sample_spelt n text w = spelt sample_rules (sample_classes_by lower_case) n text w

pub sample-capitals : (
    sample_spelt 1 "Жж" "Zhzh" && sample_spelt 0 "Жж" "ZHzh" && sample_spelt 1 "Ж" "ZH"
    && sample_spelt 1 "ЖЖж" "ZHZhzh" && sample_spelt 1 "Ж ж" "ZH j") ≡ true
unfolding compute
sample-capitals = refl

-- and in a table where these are lower case: ж, small ya and the long mark. The first byte stays whatever it is, digits and
-- signs are no letters, two characters are not one, and small ya and the long mark see what became of the letters
abbrev capital_rules : List ℕ
capital_rules = block (joint (
    rule "Ж" "1Z2H+" ∷ rule "Щ" "+NA" ∷ rule "ж" "zh" ∷ rule "き" "KKI" ∷ rule "ちき" "CHIKI" ∷ rule "ゃ" "ya" ∷ rule "カ" "KA" ∷ []))

abbrev capital_classes : List ℕ
capital_classes = block (joint (
    letters 7 (chars "ЖЩ") ∷ class_by 0x436 1 7 lower_case ∷ letters 3 (chars "きち") ∷ class_by 0x3083 1 3 lower_case
    ∷ letters 4 (chars "カ") ∷ class_by 0x30FC 1 0 lower_case ∷ []))

abbrev capital_spelt : ℕ → String → String → Bool
capital_spelt n text w = spelt capital_rules capital_classes n text w

pub capitals-seen : (
    capital_spelt 1 "Жж" "1z2h+zh" && capital_spelt 1 "Щж" "+nazh"
    && capital_spelt 1 "きゃ" "Kkya" && capital_spelt 0 "きゃ" "KKIya" && capital_spelt 1 "ちきゃ" "CHIKIya"
    && capital_spelt 1 "カー" "Kaa" && capital_spelt 0 "カー" "KAー") ≡ true
unfolding compute
capitals-seen = refl

-- Alternatives are those of rules whose target is the edge's text: of a rule for "ZH" with the alternative "J", Жж has it
-- without the choice, and none where "ZH" has become "Zh"
abbrev other_rules : List ℕ
other_rules = block (joint (
    sized (32 ∷ 0 ∷ 0 ∷ 1 ∷ (three 0x416 ++ 0 ∷ 2 ∷ (chars "ZH" ++ 1 ∷ 1 ∷ chars "J"))) ∷ rule "ж" "zh" ∷ []))

abbrev listed : ℕ → ℕ → List ℕ
listed n mode = (called (sample_with mode (capitals_by n) other_rules (sample_classes_by lower_case) "" "Жж")).output

pub capitals_unlisted : (same (listed 1 2) (listed 1 1) && not (same (listed 0 2) (listed 0 1))) ≡ true
unfolding compute
capitals_unlisted = refl

-- O ang: the walk back ends at a space where that is chosen. Over the space it finds the k of the word before
abbrev walked : List ℕ → List ℕ → ℕ → String → String → Bool
walked rules classes n text w =
    gave (called (sample_with 0 (o_ang_by n) rules classes "" text)) (encoded (chars w))

abbrev sample_walked : ℕ → String → String → Bool
sample_walked n text w = walked sample_rules sample_classes n text w

pub sample-o_ang : (
    sample_walked 0 "ก ่อก" "k ok" && sample_walked 1 "ก ่อก" "k k"
    && sample_walked 0 "ก่อก" "kok" && sample_walked 1 "ก่อก" "kok") ≡ true
unfolding compute
sample-o_ang = refl

-- It is the nearest space that ends it: behind the last of two nothing is spoken, though between them and before them there is.
-- And in the second word, where a consonant stands behind the space, O ang is spoken either way
pub nearest_space : (
    sample_walked 0 "ก ก ่อก" "k k ok" && sample_walked 1 "ก ก ่อก" "k k k"
    && sample_walked 1 "ก  ่อก" "k  k" && sample_walked 1 "่ ก่อก" " kok") ≡ true
unfolding compute
nearest_space = refl

-- Another character of category 7, here U+00B7, does not end it. A rule for the space itself gives its edge a text, which is not read. An edge
-- over a space is read whole where it ends behind that space, and where its text is empty the walk is over
abbrev o_ang_rules : List ℕ
o_ang_rules = block (joint (
    rule " " "k" ∷ rule "ก" "k" ∷ rule "ข ค" "" ∷ rule "ง จ" "ng" ∷ rule "อ" "o" ∷ []))

abbrev o_ang_classes : List ℕ
o_ang_classes = block (joint (
    class_by 0x20 7 0 0 ∷ class_by 0xB7 7 0 0 ∷ letters 1 (chars "กขคงจอ") ∷ class_by 0xE48 2 1 32 ∷ []))

abbrev o_ang_walked : ℕ → String → String → Bool
o_ang_walked n text w = walked o_ang_rules o_ang_classes n text w

pub o_ang-readings : (
    o_ang_walked 0 "ก·่อก" "k ok" && o_ang_walked 1 "ก·่อก" "k ok"
    && o_ang_walked 0 " ่อก" "kok" && o_ang_walked 1 " ่อก" "kk"
    && o_ang_walked 0 "ง จอก" "ngok" && o_ang_walked 1 "ง จอก" "ngok"
    && o_ang_walked 0 "กข คอก" "kok" && o_ang_walked 1 "กข คอก" "kk") ≡ true
unfolding compute
o_ang-readings = refl

-- Each number of a refusal with its place: कत, where one thing is wrong or too small.
-- The change of a call, and what it is refused with
pub record Refused : Type 0 where
  pub call : Inputs
  pub number : ℕ
  pub place : ℕ

abbrev pub refused_at : ℕ → ℕ → Inputs → Refused
refused_at n p i = record { call = i; number = n; place = p }

-- a call with these tables and choices, and one with this code, text and room
abbrev chosen : ℕ → Choices → List ℕ → List ℕ → List ℕ → Inputs
chosen mode choices r c v = record {
  mode = mode;
  choices = choices;
  rules = r;
  classes = c;
  vowels = v;
  decompositions = no_decompositions;
  code = [];
  text = encoded (chars "कत");
  slots = 24;
  room = 3;
  out = 3;
}

abbrev tabled : List ℕ → List ℕ → List ℕ → Inputs
tabled r c v = chosen 0 as_port r c v

abbrev roomed : ℕ → List ℕ → List ℕ → ℕ → ℕ → ℕ → Inputs
roomed mode code text slots room out = record {
  mode = mode;
  choices = as_port;
  rules = sample_rules;
  classes = sample_classes;
  vowels = sample_vowels;
  decompositions = no_decompositions;
  code = code;
  text = text;
  slots = slots;
  room = room;
  out = out;
}

-- a block whose only row is one byte
abbrev cut : List ℕ
cut = block (0 ∷ [])

abbrev kata : List ℕ
kata = encoded (chars "कत")

abbrev pub refusals : List Refused
refusals =
    refused_at 1 0 (roomed 4 [] kata 24 3 3)
    ∷ refused_at 1 0 (chosen 4 (choose 2 2 2) sample_rules sample_classes sample_vowels)
    ∷ refused_at 12 0 (chosen 0 (choose 2 2 2) cut sample_classes sample_vowels)
    ∷ refused_at 15 0 (chosen 0 (choose 1 2 2) cut sample_classes sample_vowels)
    ∷ refused_at 17 0 (chosen 0 (choose 1 1 2) cut sample_classes sample_vowels)
    ∷ refused_at 20 5 (tabled cut sample_classes sample_vowels)
    ∷ refused_at 3 5 (tabled sample_rules (block (class_by 0x20 7 0 lower_case)) sample_vowels)
    ∷ refused_at 3 5 (tabled sample_rules cut sample_vowels)
    ∷ refused_at 4 5 (tabled sample_rules sample_classes cut)
    ∷ refused_at 4 0 (tabled sample_rules sample_classes [])
    ∷ refused_at 5 0 (roomed 0 (chars "hi") kata 24 3 3)
    ∷ refused_at 6 3 (roomed 0 [] (encoded (chars "क") ++ 0x80 ∷ []) 24 3 3)
    ∷ refused_at 7 4096 (roomed 0 [] (replicate 4097 0x61) 24 3 3)
    ∷ refused_at 8 1 (roomed 0 [] (encoded (chars "कༀ")) 24 3 3)
    ∷ refused_at 9 1 (roomed 0 [] kata 23 3 3)
    ∷ refused_at 9 0 (roomed 0 [] (encoded (chars "っか")) 12 10 10)
    ∷ refused_at 10 1 (roomed 0 [] kata 24 2 3)
    ∷ refused_at 11 3 (roomed 0 [] kata 24 3 2)
    ∷ refused_at 0 0 (roomed 0 [] kata 24 3 3)
    ∷ []

abbrev pub refused_so : Refused → Bool
refused_so r = eqb (called r.call).number r.number && eqb (called r.call).place r.place

pub sample-refusals : all refused_so refusals ≡ true
unfolding compute
sample-refusals = refl

-- What is wrong with a rule table, each kind with its field's place: in this order the header; a rest of one byte, a row past the
-- block's end, a row without flags, half a restriction count; bit 7, no source, nine codes, a target of 201 bytes, nine alternatives;
-- a surrogate, a capital in a code; a character and a code that are cut, whatever their bytes are; a byte of a target, one that is
-- missing; a byte left over; a source that does not rise, and one whose row has a byte left over too
abbrev ruled : List ℕ → Inputs
ruled rows = tabled (block rows) sample_classes sample_vowels

abbrev pub rule_faults : List Refused
rule_faults =
    refused_at 20 0 (tabled [] sample_classes sample_vowels)
    ∷ refused_at 20 5 (ruled (0 ∷ []))
    ∷ refused_at 20 5 (ruled (0 ∷ 9 ∷ 0 ∷ []))
    ∷ refused_at 20 7 (ruled (0 ∷ 0 ∷ []))
    ∷ refused_at 20 8 (ruled (0 ∷ 2 ∷ 0 ∷ 0 ∷ []))
    ∷ refused_at 21 7 (ruled (0 ∷ 9 ∷ 0x80 ∷ 0 ∷ 0 ∷ 1 ∷ 0 ∷ 0 ∷ 0x62 ∷ 0 ∷ 0 ∷ []))
    ∷ refused_at 21 10 (ruled (0 ∷ 6 ∷ 0 ∷ 0 ∷ 0 ∷ 0 ∷ 0 ∷ 0 ∷ []))
    ∷ refused_at 21 14 (ruled (0 ∷ 9 ∷ 0 ∷ 0 ∷ 0 ∷ 1 ∷ 0 ∷ 0 ∷ 0x62 ∷ 9 ∷ 0 ∷ []))
    ∷ refused_at 21 15 (ruled (0 ∷ 9 ∷ 0x20 ∷ 0 ∷ 0 ∷ 1 ∷ 0 ∷ 0 ∷ 0x62 ∷ 0 ∷ 0xC9 ∷ []))
    ∷ refused_at 21 15 (ruled (0 ∷ 9 ∷ 0 ∷ 0 ∷ 0 ∷ 1 ∷ 0 ∷ 0 ∷ 0x62 ∷ 0 ∷ 9 ∷ []))
    ∷ refused_at 22 11 (ruled (0 ∷ 9 ∷ 0 ∷ 0 ∷ 0 ∷ 1 ∷ 0 ∷ 0xD8 ∷ 0 ∷ 0 ∷ 0 ∷ []))
    ∷ refused_at 22 15 (ruled (0 ∷ 12 ∷ 0 ∷ 0 ∷ 0 ∷ 1 ∷ 0 ∷ 0 ∷ 0x62 ∷ 1 ∷ 0x61 ∷ 0x62 ∷ 0x41 ∷ 0 ∷ []))
    ∷ refused_at 20 11 (ruled (0 ∷ 6 ∷ 0 ∷ 0 ∷ 0 ∷ 1 ∷ 0 ∷ 0xD8 ∷ []))
    ∷ refused_at 20 15 (ruled (0 ∷ 10 ∷ 0 ∷ 0 ∷ 0 ∷ 1 ∷ 0 ∷ 0 ∷ 0x62 ∷ 1 ∷ 0x61 ∷ 0x41 ∷ []))
    ∷ refused_at 23 16 (ruled (0 ∷ 11 ∷ 0x20 ∷ 0 ∷ 0 ∷ 1 ∷ 0 ∷ 0 ∷ 0x62 ∷ 0 ∷ 1 ∷ 0x7F ∷ 0 ∷ []))
    ∷ refused_at 20 17 (ruled (0 ∷ 10 ∷ 0x20 ∷ 0 ∷ 0 ∷ 1 ∷ 0 ∷ 0 ∷ 0x62 ∷ 0 ∷ 3 ∷ 0x61 ∷ []))
    ∷ refused_at 20 16 (ruled (0 ∷ 10 ∷ 0 ∷ 0 ∷ 0 ∷ 1 ∷ 0 ∷ 0 ∷ 0x62 ∷ 0 ∷ 0 ∷ 7 ∷ []))
    ∷ refused_at 24 16 (ruled (0 ∷ 9 ∷ 0 ∷ 0 ∷ 0 ∷ 1 ∷ 0 ∷ 0 ∷ 0x62 ∷ 0 ∷ 0 ∷ 0 ∷ 9 ∷ 0 ∷ 0 ∷ 0 ∷ 1 ∷ 0 ∷ 0 ∷ 0x61 ∷ 0 ∷ 0 ∷ []))
    ∷ refused_at 20 27 (ruled (0 ∷ 9 ∷ 0 ∷ 0 ∷ 0 ∷ 1 ∷ 0 ∷ 0 ∷ 0x62 ∷ 0 ∷ 0 ∷ 0 ∷ 10 ∷ 0 ∷ 0 ∷ 0 ∷ 1 ∷ 0 ∷ 0 ∷ 0x61 ∷ 0 ∷ 0 ∷ 7 ∷ []))
    ∷ []

pub sample-rule_faults : all refused_so rule_faults ≡ true
unfolding compute
sample-rule_faults = refl
