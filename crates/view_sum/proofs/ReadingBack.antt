-- What is written for a value is read back.
use Rattle.std.proofs.Common.{◌≡◌, ◌∙◌, ℕ, suc, ◌^◌, ◌<◌, Bool, true, false, List, [], ◌∷◌, ◌++◌, Some, decimal, IsUtf8, refl, sym, ap, ap₂, subst, arith, append-nil, append_assoc, max, length, get_or, lt-ltb}
use Rattle.std.specs.Prelude.{option_map, option_and_then}
use Rattle.std.proofs.lemmas.Str.{IsUtf8-append, IsUtf8-nil}
use Rattle.json.specs.Json as json
use Rattle.json.specs.Lex.{tokens}
use Rattle.json.specs.Print.{print, quoted}
use Rattle.json.specs.Tree.{HasNumbers, ItemsHaveNumbers, MembersHaveNumbers, json_tokens}
use Rattle.json.specs.Tree as tree
use Rattle.json.proofs.Printed.Tokens.{tokens-print}
use Rattle.json.proofs.Printed.Trees.{ArePrintable-json_tokens, value-json_tokens}
use Rattle.json.proofs.Printed.Decimals.{IsNumber-decimal}
use Rattle.json.proofs.Printed.Utf8.{IsUtf8-are_ascii, IsUtf8-key, IsUtf8-quoted, are_ascii}
use Rattle.std.proofs.lemmas.Bool.{and_from}
use Rattle.std.proofs.lemmas.Fmt.{decimal_is_IsNumeral}
use Rattle.std.proofs.lemmas.Str.Parse.{digit_at}
use Rattle.serde_json.specs.Data.{Num, unsigned, negative, float, Data, null, boolean, number, string, array, object, Items, no_items, item, Members, no_members, member, put, depth, items_depth, members_depth}
use Rattle.serde_json.specs.Read.{number_of, of_json, of_items, of_members, read, max_depth}
use Rattle.serde_json.specs.Written.{comma_if, compact_text, items_text, members_text, number_text, outline, items_outline, members_outline}
use Rattle.serde_json.proofs.Numbers.{number_of-decimal}
use Rattle.serde_json.proofs.Texts.{print-outline}
use Rattle.view_sum.specs.Plain.{ArePlain, HasPlain, IsPlain, IsPlainNumber, IsReadable, inserted}

-- ---- the numbers are numbers

number_has : (n : Num) → IsPlainNumber n → HasNumbers (json.number (number_text n))
number_has (unsigned n) plain = IsNumber-decimal n plain
number_has (negative z) plain = absurd plain
number_has (float x) plain = absurd plain

mutual
  has_numbers : (d : Data) → IsPlain d → HasNumbers (outline d)
  has_numbers null plain = tt
  has_numbers (boolean b) plain = tt
  has_numbers (number n) plain = number_has n plain
  has_numbers (string s) plain = tt
  has_numbers (array ds) plain = items_have ds plain
  has_numbers (object ms) plain = members_have ms plain.0

  items_have : (ds : Items) → ArePlain ds → ItemsHaveNumbers (items_outline ds)
  items_have no_items plain = tt
  items_have (item d ds) plain = (has_numbers d plain.0, items_have ds plain.1)

  members_have : (ms : Members) → HasPlain ms → MembersHaveNumbers (members_outline ms)
  members_have no_members plain = tt
  members_have (member k d ms) plain = (has_numbers d plain.1, members_have ms plain.2)

-- ---- they nest as deep

mutual
  same_depth : (d : Data) → tree.depth (outline d) ≡ depth d
  same_depth null = refl
  same_depth (boolean b) = refl
  same_depth (number n) = refl
  same_depth (string s) = refl
  same_depth (array ds) = ap suc (same_items ds)
  same_depth (object ms) = ap suc (same_members ms)

  same_items : (ds : Items) → tree.items_depth (items_outline ds) ≡ items_depth ds
  same_items no_items = refl
  same_items (item d ds) = ap₂ max (same_depth d) (same_items ds)

  same_members : (ms : Members) → tree.members_depth (members_outline ms) ≡ members_depth ms
  same_members no_members = refl
  same_members (member k d ms) = ap₂ max (same_depth d) (same_members ms)

-- ---- the value of the outline

number_is : (n : Num) → IsPlainNumber n → option_map number (number_of (number_text n)) ≡ Some (number n)
number_is (unsigned n) plain = ap (option_map number) (number_of-decimal n plain)
number_is (negative z) plain = absurd plain
number_is (float x) plain = absurd plain

mutual
  value_is : (d : Data) → IsPlain d → of_json (outline d) ≡ Some d
  value_is null plain = refl
  value_is (boolean b) plain = refl
  value_is (number n) plain = number_is n plain
  value_is (string s) plain = refl
  value_is (array ds) plain = ap (option_map array) (items_are ds plain)
  value_is (object ms) plain = ap (option_map object) (members_are ms no_members plain.0 ∙ ap Some plain.1)

  items_are : (ds : Items) → ArePlain ds → of_items (items_outline ds) ≡ Some ds
  items_are no_items plain = refl
  items_are (item d ds) plain = ap (option_and_then (λ e. option_map (item e) (of_items (items_outline ds)))) (value_is d plain.0) ∙ ap (option_map (item d)) (items_are ds plain.1)

  members_are : (ms found : Members) → HasPlain ms → of_members (members_outline ms) found ≡ Some (inserted ms found)
  members_are no_members found plain = refl
  members_are (member k d ms) found plain = ap (option_and_then (λ e. of_members (members_outline ms) (put k e found))) (value_is d plain.1) ∙ members_are ms (put k d found) plain.2

pub read_back : (d : Data) → IsReadable d → read (compact_text d) ≡ Some d
read_back d (plain, shallow) =
    let j = outline d in
    let text : compact_text d ≡ print (json_tokens j) = sym (print-outline d) in
    let lexed : tokens (compact_text d) ≡ json_tokens j ++ [] = ap tokens text ∙ tokens-print (json_tokens j) (ArePrintable-json_tokens j (has_numbers d plain)) ∙ sym (append-nil (json_tokens j)) in
    let deep = same_depth d in
    let parsed : json.value max_depth (tokens (compact_text d)) ≡ Some (j, []) = ap (json.value max_depth) lexed ∙ value-json_tokens j max_depth [] (omega (arith, shallow, deep)) in
    ap (λ o. option_and_then of_json (option_and_then (λ p. json.if_last p.0 p.1) o)) parsed ∙ value_is d plain

-- ---- its text is UTF-8

ascii_by : (ds : List ℕ) → ((i : ℕ) → i < length ds → get_or ds i 0 < 128) → are_ascii ds ≡ true
ascii_by [] small = refl
ascii_by (d ∷ ds) small = and_from _ _ (lt-ltb _ _ (small 0 (omega arith))) (ascii_by ds (λ i less. small (suc i) (omega (arith, less))))

digits_utf8 : (n : ℕ) → n < 2 ^ 64 → IsUtf8 (decimal n)
digits_utf8 n small =
    IsUtf8-are_ascii (decimal n) (ascii_by (decimal n) (λ i less. let digit = digit_at (decimal n) i (decimal_is_IsNumeral n small).0.1 less in omega (arith, digit.1)))

number_utf8 : (n : Num) → IsPlainNumber n → IsUtf8 (number_text n)
number_utf8 (unsigned n) plain = digits_utf8 n plain
number_utf8 (negative z) plain = absurd plain
number_utf8 (float x) plain = absurd plain

boolean_utf8 : (b : Bool) → IsUtf8 (compact_text (boolean b))
boolean_utf8 true = IsUtf8-are_ascii _ refl
boolean_utf8 false = IsUtf8-are_ascii _ refl

comma_utf8 : (b : Bool) → IsUtf8 (comma_if b)
comma_utf8 true = IsUtf8-are_ascii (44 ∷ []) refl
comma_utf8 false = IsUtf8-nil

three : (a b c : List ℕ) → IsUtf8 a → IsUtf8 b → IsUtf8 c → IsUtf8 (a ++ (b ++ c))
three a b c one two last = IsUtf8-append a (b ++ c) one (IsUtf8-append b c two last)

mutual
  pub text_utf8 : (d : Data) → IsPlain d → IsUtf8 (compact_text d)
  text_utf8 null plain = IsUtf8-are_ascii _ refl
  text_utf8 (boolean b) plain = boolean_utf8 b
  text_utf8 (number n) plain = number_utf8 n plain
  text_utf8 (string s) plain = IsUtf8-quoted s plain
  text_utf8 (array ds) plain = IsUtf8-append (91 ∷ []) (items_text false ds) (IsUtf8-are_ascii _ refl) (items_utf8 false ds plain)
  text_utf8 (object ms) plain = IsUtf8-append (123 ∷ []) (members_text false ms) (IsUtf8-are_ascii _ refl) (members_utf8 false ms plain.0)

  items_utf8 : (later : Bool) (ds : Items) → ArePlain ds → IsUtf8 (items_text later ds)
  items_utf8 later no_items plain = IsUtf8-are_ascii (93 ∷ []) refl
  items_utf8 later (item d ds) plain = three (comma_if later) (compact_text d) (items_text true ds) (comma_utf8 later) (text_utf8 d plain.0) (items_utf8 true ds plain.1)

  members_utf8 : (later : Bool) (ms : Members) → HasPlain ms → IsUtf8 (members_text later ms)
  members_utf8 later no_members plain = IsUtf8-are_ascii (125 ∷ []) refl
  members_utf8 later (member k d ms) plain =
      let value = IsUtf8-append (compact_text d) (members_text true ms) (text_utf8 d plain.1) (members_utf8 true ms plain.2) in
      let key = IsUtf8-append (quoted k ++ 58 ∷ []) (compact_text d ++ members_text true ms) (IsUtf8-key k plain.0) value in
      IsUtf8-append (comma_if later) (quoted k ++ 58 ∷ (compact_text d ++ members_text true ms)) (comma_utf8 later) (subst IsUtf8 (append_assoc (quoted k) (58 ∷ []) (compact_text d ++ members_text true ms)) key)
