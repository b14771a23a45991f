-- The printed text says the protocol, and no text that says it is shorter.
use Rattle.std.proofs.Common.{arith, ◌≡◌, ℕ, ◌+◌, ◌<◌, ◌≤◌, Bool, true, false, not, ◌&&◌, leb, eqb, cond, List, [], ◌∷◌, ◌++◌, append_assoc, length, map, refl, sym, ap, ◌∙◌, subst, ◌⊎◌, inl, inr}
use Rattle.std.specs.List.{flat_map, list_all}
use Rattle.std.specs.Fmt.{decimal}
use Rattle.std.proofs.lemmas.Bool.{and_parts, and_from, and_left, and_right, leb-true, le-leb, lt-leb, ne_eqb, not_from_false}
use Rattle.std.proofs.lemmas.List.{append-nil, length-append, length-map}
use Rattle.std.proofs.lemmas.Fmt.{decimal_nonempty}
use Rattle.protocol_lang.specs.Numbers.{greatest, is_digit}
use Rattle.protocol_lang.specs.Tokens.{is_blank, is_letter, word_spelling, symbol_spelling}
use Rattle.protocol_lang.specs.Trees.{Expression, ComparisonOf, ActionRuleOf, RuleOf, TreeOf, Tree}
use Rattle.protocol_lang.specs.Grammar.{Written, Number, Named, Calling, Operating, Group, expression_of, word_for, call_word, operator_symbol, comparator_symbol, kind_word, enclosed_tokens, expression_tokens, conditions_tokens, action_rule_tokens, rule_tokens, tree_tokens, is_formed, depth_of, is_expression, is_comparison, is_rule, IsFormed, comparison_of, action_rule_of, rule_of, tree_of, IsSpelled, goes_on, EndsBefore, Spells, IsText}
use Rattle.protocol_lang.specs.Printing.{grouped_unless, on_left, on_right, shortest, shortest_comparison, shortest_action_rule, shortest_rule, shortest_tree, is_word, spelling, gap, spelled_behind, printed}
use Rattle.protocol_lang.specs.declared.token.Word.{Word}
use Rattle.protocol_lang.specs.declared.token.Word.TheVariants as words
use Rattle.protocol_lang.specs.declared.token.Symbol.{Symbol}
use Rattle.protocol_lang.specs.declared.token.Symbol.TheVariants as symbols
use Rattle.protocol_lang.specs.declared.token.Token.{Token}
use Rattle.protocol_lang.specs.declared.token.Token.TheVariants as tokens
use Rattle.protocol_lang.proofs.Numerals.{digits_of-decimal}
use Rattle.protocol_lang.proofs.Shortest.{one_if, size, ends_with_word, width, narrower, shortest_says, shortest_view, shortest_expression}

-- ---- how many bytes tokens take

abbrev bytes : Bool → List Token → ℕ
bytes behind all = length (spelled_behind behind all)

abbrev begins : List Token → Bool
begins [] = false
begins (token ∷ more) = is_word token

gap_length : (b : Bool) → length {A = ℕ} (cond b (32 ∷ []) []) ≡ one_if b
gap_length true = refl
gap_length false = refl

bytes_more : (behind : Bool) (token : Token) (more : List Token) → bytes behind (token ∷ more) ≡ one_if (behind && is_word token) + (length (spelling token) + bytes (is_word token) more)
bytes_more behind token more =
    length-append (gap behind token) (spelling token ++ spelled_behind (is_word token) more)
    ∙ ap (λ n. n + length (spelling token ++ spelled_behind (is_word token) more)) (gap_length (behind && is_word token))
    ∙ ap (λ n. one_if (behind && is_word token) + n) (length-append (spelling token) (spelled_behind (is_word token) more))

none_behind : (behind : Bool) → one_if (behind && false) ≡ 0
none_behind true = refl
none_behind false = refl

bytes_behind : (behind : Bool) (all : List Token) → bytes behind all ≡ one_if (behind && begins all) + bytes false all
bytes_behind behind [] = omega (arith, none_behind behind)
bytes_behind behind (token ∷ more) = omega (arith, bytes_more behind token more, bytes_more false token more)

enclosed_first : (inner rest : List Token) → enclosed_tokens inner ++ rest ≡ tokens.Symbol symbols.Open ∷ (inner ++ tokens.Symbol symbols.Close ∷ rest)
enclosed_first inner rest = ap (λ all. tokens.Symbol symbols.Open ∷ all) (append_assoc inner (tokens.Symbol symbols.Close ∷ []) rest)

symbol_first : (left right rest : List Token) (token : Token) → (left ++ token ∷ right) ++ rest ≡ left ++ token ∷ (right ++ rest)
symbol_first left right rest token = append_assoc left (token ∷ right) rest

bytes_enclosed : (inner : Written) (rest : List Token) → ((r : List Token) → bytes false (expression_tokens inner ++ r) ≡ width false inner (begins r) + bytes false r) → (behind : Bool) → bytes behind (enclosed_tokens (expression_tokens inner) ++ rest) ≡ 2 + size inner + bytes false rest
bytes_enclosed inner rest within behind =
    let close = tokens.Symbol symbols.Close ∷ rest in
    ap (bytes behind) (enclosed_first (expression_tokens inner) rest)
    ∙ omega (arith, bytes_more behind (tokens.Symbol symbols.Open) (expression_tokens inner ++ close), none_behind behind, within close, bytes_more false (tokens.Symbol symbols.Close) rest, none_behind (ends_with_word inner))

bytes_expression : (w : Written) (behind : Bool) (rest : List Token) → bytes behind (expression_tokens w ++ rest) ≡ width behind w (begins rest) + bytes false rest
bytes_expression (Number value) behind rest = omega (arith, bytes_more behind (tokens.Number value) rest)
bytes_expression (Named name) behind rest = omega (arith, bytes_more behind (tokens.Word (word_for name)) rest, bytes_behind true rest)
bytes_expression (Calling function argument) behind rest =
    omega (arith, bytes_more behind (tokens.Word (call_word function)) (enclosed_tokens (expression_tokens argument) ++ rest), bytes_enclosed argument rest (bytes_expression argument false) true)
bytes_expression (Operating operator left right) behind rest =
    let symbol = tokens.Symbol (operator_symbol operator) in
    ap (bytes behind) (symbol_first (expression_tokens left) (expression_tokens right) rest symbol)
    ∙ omega (arith, bytes_expression left behind (symbol ∷ (expression_tokens right ++ rest)), bytes_more false symbol (expression_tokens right ++ rest), bytes_expression right false rest, none_behind (ends_with_word left))
bytes_expression (Group inner) behind rest = omega (arith, bytes_enclosed inner rest (bytes_expression inner false) behind, none_behind behind)

-- ---- tokens that end before the next

abbrev is_number : Token → Bool
is_number (tokens.Number value) = true
is_number token = false

-- a symbol between operands or behind them
abbrev is_infix : Token → Bool
is_infix (tokens.Symbol symbols.Open) = false
is_infix (tokens.Symbol symbols.Close) = false
is_infix (tokens.Symbol symbol) = true
is_infix token = false

abbrev may_meet : Token → Token → Bool
may_meet token next = not (is_number token && is_number next) && not (is_infix token && is_infix next)

abbrev meets : Token → List Token → Bool
meets token [] = true
meets token (next ∷ more) = may_meet token next

abbrev is_apart : List Token → Bool
is_apart [] = true
is_apart (token ∷ more) = meets token more && is_apart more

abbrev pub is_spellable : Token → Bool
is_spellable (tokens.Number value) = leb value greatest
is_spellable tokens.End = false
is_spellable token = true

not_both : (a b : Bool) → (a ≡ false) ⊎ (b ≡ false) → not (a && b) ≡ true
not_both a b (inl none) = not_from_false (a && b) (and_left a b none)
not_both a b (inr none) = not_from_false (a && b) (and_right a b none)

meet : (token next : Token) → (is_number token ≡ false) ⊎ (is_number next ≡ false) → (is_infix token ≡ false) ⊎ (is_infix next ≡ false) → may_meet token next ≡ true
meet token next numbers infixes = and_from _ _ (not_both (is_number token) (is_number next) numbers) (not_both (is_infix token) (is_infix next) infixes)

abbrev numbers_first : List Token → Bool
numbers_first [] = false
numbers_first (token ∷ more) = is_number token

-- what stands behind an operand
operand_meets : (token : Token) (rest : List Token) → is_infix token ≡ false → numbers_first rest ≡ false → meets token rest ≡ true
operand_meets token [] inner number = refl
operand_meets token (next ∷ rest) inner number = meet token next (inr number) (inl inner)

-- an operand behind a token
meets_operand : (token next : Token) → is_number token ≡ false → is_infix next ≡ false → may_meet token next ≡ true
meets_operand token next number operand = meet token next (inl number) (inr operand)

-- tokens behind this one are apart from it and from each other
abbrev Apart : Token → List Token → Type 0
Apart token rest = is_apart (token ∷ rest) ≡ true

symbol_number : (symbol : Symbol) → is_number (tokens.Symbol symbol) ≡ false
symbol_number symbol = refl

enclosed_apart : (inner rest : List Token) → is_apart rest ≡ true → numbers_first rest ≡ false
    → (Apart (tokens.Symbol symbols.Close) rest → Apart (tokens.Symbol symbols.Open) (inner ++ tokens.Symbol symbols.Close ∷ rest)) → is_apart (enclosed_tokens inner ++ rest) ≡ true
enclosed_apart inner rest apart number within =
    subst (λ all. is_apart all ≡ true) (sym (enclosed_first inner rest)) (within (and_from _ _ (operand_meets (tokens.Symbol symbols.Close) rest refl number) apart))

expression_apart : (w : Written) (token : Token) (rest : List Token) → is_number token ≡ false → is_apart rest ≡ true → numbers_first rest ≡ false → Apart token (expression_tokens w ++ rest)
expression_apart (Number value) token rest first apart number =
    and_from _ _ (meets_operand token (tokens.Number value) first refl) (and_from _ _ (operand_meets (tokens.Number value) rest refl number) apart)
expression_apart (Named name) token rest first apart number =
    and_from _ _ (meets_operand token (tokens.Word (word_for name)) first refl) (and_from _ _ (operand_meets (tokens.Word (word_for name)) rest refl number) apart)
expression_apart (Calling function argument) token rest first apart number =
    and_from _ _ (meets_operand token (tokens.Word (call_word function)) first refl)
    (and_from _ _ refl (enclosed_apart (expression_tokens argument) rest apart number (λ close. expression_apart argument (tokens.Symbol symbols.Open) (tokens.Symbol symbols.Close ∷ rest) refl close refl)))
expression_apart (Operating operator left right) token rest first apart number =
    let symbol = tokens.Symbol (operator_symbol operator) in
    subst (Apart token) (sym (symbol_first (expression_tokens left) (expression_tokens right) rest symbol))
    (expression_apart left token (symbol ∷ (expression_tokens right ++ rest)) first (expression_apart right symbol rest refl apart number) refl)
expression_apart (Group inner) token rest first apart number =
    and_from _ _ (meets_operand token (tokens.Symbol symbols.Open) first refl)
    (enclosed_apart (expression_tokens inner) rest apart number (λ close. expression_apart inner (tokens.Symbol symbols.Open) (tokens.Symbol symbols.Close ∷ rest) refl close refl))

-- ---- tokens that can be spelled

all_append : (xs ys : List Token) → list_all is_spellable xs ≡ true → list_all is_spellable ys ≡ true → list_all is_spellable (xs ++ ys) ≡ true
all_append [] ys left right = right
all_append (x ∷ xs) ys left right = let parts = and_parts (is_spellable x) (list_all is_spellable xs) left in and_from _ _ parts.0 (all_append xs ys parts.1 right)

pub all_parts : (xs ys : List Token) → list_all is_spellable (xs ++ ys) ≡ true → (list_all is_spellable xs ≡ true) × (list_all is_spellable ys ≡ true)
all_parts [] ys all = (refl, all)
all_parts (x ∷ xs) ys all =
    let parts = and_parts (is_spellable x) (list_all is_spellable (xs ++ ys)) all in
    let rest = all_parts xs ys parts.1 in
    (and_from _ _ parts.0 rest.0, rest.1)

abbrev Spellable : Written → Type 0
Spellable w = list_all is_spellable (expression_tokens w) ≡ true

all_enclosed : (inner : List Token) → list_all is_spellable inner ≡ true → list_all is_spellable (enclosed_tokens inner) ≡ true
all_enclosed inner all = all_append inner (tokens.Symbol symbols.Close ∷ []) all refl

pub all_within : (inner : List Token) → list_all is_spellable (enclosed_tokens inner) ≡ true → list_all is_spellable inner ≡ true
all_within inner all = (all_parts inner (tokens.Symbol symbols.Close ∷ []) all).0

grouped_spellable : (stands : Bool) (w : Written) → Spellable w → Spellable (grouped_unless stands w)
grouped_spellable true w all = all
grouped_spellable false w all = all_enclosed (expression_tokens w) all

shortest_spellable : (w : Written) → Spellable w → Spellable (shortest (expression_of w))
shortest_spellable (Number value) all = all
shortest_spellable (Named name) all = all
shortest_spellable (Calling function argument) all =
    all_enclosed (expression_tokens (shortest (expression_of argument))) (shortest_spellable argument (all_within (expression_tokens argument) all))
shortest_spellable (Operating operator left right) all =
    let symbol = tokens.Symbol (operator_symbol operator) in
    let parts = all_parts (expression_tokens left) (symbol ∷ expression_tokens right) all in
    let l = shortest (expression_of left) in
    let r = shortest (expression_of right) in
    all_append (expression_tokens (on_left operator l)) (symbol ∷ expression_tokens (on_right operator r))
    (grouped_spellable _ l (shortest_spellable left parts.0)) (grouped_spellable _ r (shortest_spellable right parts.1))
shortest_spellable (Group inner) all = shortest_spellable inner (all_within (expression_tokens inner) all)

-- ---- how they are spelled

never_longer : (text : List ℕ) → EndsBefore (λ byte. false) text
never_longer [] = tt
never_longer (byte ∷ text) = refl

digit_no_letter : (byte : ℕ) → is_digit byte ≡ true → is_letter byte ≡ false
digit_no_letter byte is = let parts = and_parts (leb 48 byte) (leb byte 57) is in and_left (leb 97 byte) (leb byte 122) (lt-leb 97 byte (omega (arith, leb-true byte 57 parts.1)))

digit_no_equals : (byte : ℕ) → is_digit byte ≡ true → eqb byte 61 ≡ false
digit_no_equals byte is = let parts = and_parts (leb 48 byte) (leb byte 57) is in ne_eqb byte 61 (λ same. omega (arith, leb-true byte 57 parts.1, same))

digits_end : (longer : ℕ → Bool) → ((byte : ℕ) → is_digit byte ≡ true → longer byte ≡ false) → (digits rest : List ℕ) → list_all is_digit digits ≡ true → 0 < length digits → EndsBefore longer (digits ++ rest)
digits_end longer unlike [] rest all some = absurd (omega (arith, some))
digits_end longer unlike (digit ∷ digits) rest all some = unlike digit (and_parts (is_digit digit) (list_all is_digit digits) all).0

number_end : (longer : ℕ → Bool) → ((byte : ℕ) → is_digit byte ≡ true → longer byte ≡ false) → (value : ℕ) (rest : List ℕ) → leb value greatest ≡ true → EndsBefore longer (decimal value ++ rest)
number_end longer unlike value rest small =
    let most = leb-true value greatest small in
    digits_end longer unlike (decimal value) rest (digits_of-decimal value most) (decimal_nonempty value (omega (arith, most)))

word_no_digit : (word : Word) (rest : List ℕ) → EndsBefore is_digit (word_spelling word ++ rest)
word_no_digit words.First rest = refl
word_no_digit word rest = refl

word_no_equals : (word : Word) (rest : List ℕ) → EndsBefore (λ byte. eqb byte 61) (word_spelling word ++ rest)
word_no_equals words.First rest = refl
word_no_equals word rest = refl

symbol_no_letter : (symbol : Symbol) (rest : List ℕ) → EndsBefore is_letter (symbol_spelling symbol ++ rest)
symbol_no_letter symbols.Semicolon rest = refl
symbol_no_letter symbol rest = refl

symbol_no_digit : (symbol : Symbol) (rest : List ℕ) → EndsBefore is_digit (symbol_spelling symbol ++ rest)
symbol_no_digit symbols.Semicolon rest = refl
symbol_no_digit symbol rest = refl

-- `<` or `>` before what is no such symbol itself
no_equals : (more : List Token) → meets (tokens.Symbol symbols.Less) more ≡ true → list_all is_spellable more ≡ true → EndsBefore (λ byte. eqb byte 61) (spelled_behind false more)
no_equals [] apart fine = tt
no_equals (tokens.Word word ∷ more) apart fine = word_no_equals word _
no_equals (tokens.Number value ∷ more) apart fine = number_end (λ byte. eqb byte 61) digit_no_equals value _ (and_parts (leb value greatest) (list_all is_spellable more) fine).0
no_equals (tokens.Symbol symbols.Open ∷ more) apart fine = refl
no_equals (tokens.Symbol symbols.Close ∷ more) apart fine = refl
no_equals (tokens.Symbol symbol ∷ more) apart fine = absurd cc
no_equals (tokens.End ∷ more) apart fine = absurd cc

no_letter : (more : List Token) → list_all is_spellable more ≡ true → EndsBefore is_letter (spelled_behind true more)
no_letter [] fine = tt
no_letter (tokens.Word word ∷ more) fine = refl
no_letter (tokens.Number value ∷ more) fine = number_end is_letter digit_no_letter value _ (and_parts (leb value greatest) (list_all is_spellable more) fine).0
no_letter (tokens.Symbol symbol ∷ more) fine = symbol_no_letter symbol _
no_letter (tokens.End ∷ more) fine = absurd cc

no_digit : (value : ℕ) (more : List Token) → meets (tokens.Number value) more ≡ true → list_all is_spellable more ≡ true → EndsBefore is_digit (spelled_behind false more)
no_digit value [] apart fine = tt
no_digit value (tokens.Word word ∷ more) apart fine = word_no_digit word _
no_digit value (tokens.Number next ∷ more) apart fine = absurd cc
no_digit value (tokens.Symbol symbol ∷ more) apart fine = symbol_no_digit symbol _
no_digit value (tokens.End ∷ more) apart fine = absurd cc

meets_alike : (more : List Token) → meets (tokens.Symbol symbols.Greater) more ≡ true → meets (tokens.Symbol symbols.Less) more ≡ true
meets_alike [] apart = apart
meets_alike (next ∷ more) apart = apart

ends_there : (token : Token) (more : List Token) → meets token more ≡ true → list_all is_spellable more ≡ true → EndsBefore (goes_on token) (spelled_behind (is_word token) more)
ends_there (tokens.Word word) more apart fine = no_letter more fine
ends_there (tokens.Number value) more apart fine = no_digit value more apart fine
ends_there (tokens.Symbol symbols.Less) more apart fine = no_equals more apart fine
ends_there (tokens.Symbol symbols.Greater) more apart fine = no_equals more (meets_alike more apart) fine
ends_there (tokens.Symbol symbol) more apart fine = never_longer _
ends_there tokens.End more apart fine = never_longer _

is_spelled : (token : Token) → is_spellable token ≡ true → IsSpelled token (spelling token)
is_spelled (tokens.Word word) fine = refl
is_spelled (tokens.Number value) fine = (refl, leb-true value greatest fine)
is_spelled (tokens.Symbol symbol) fine = refl
is_spelled tokens.End fine = absurd cc

gap_blank : (b : Bool) → list_all is_blank (cond b (32 ∷ []) []) ≡ true
gap_blank true = refl
gap_blank false = refl

-- the bytes of tokens are spelled as those tokens
spells : (all : List Token) (behind : Bool) → is_apart all ≡ true → list_all is_spellable all ≡ true → Spells all (spelled_behind behind all)
spells [] behind apart fine = refl
spells (token ∷ more) behind apart fine =
    let parts = and_parts (meets token more) (is_apart more) apart in
    let both = and_parts (is_spellable token) (list_all is_spellable more) fine in
    (gap behind token, spelling token, spelled_behind (is_word token) more, refl, gap_blank (behind && is_word token), is_spelled token both.0, ends_there token more parts.0 both.1, spells more (is_word token) parts.1 both.1)

spellable_token : (token : Token) (bytes : List ℕ) → IsSpelled token bytes → is_spellable token ≡ true
spellable_token (tokens.Word word) bytes is = refl
spellable_token (tokens.Number value) bytes is = le-leb value greatest is.1
spellable_token (tokens.Symbol symbol) bytes is = refl
spellable_token tokens.End bytes is = absurd is

pub spellable : (all : List Token) (text : List ℕ) → Spells all text → list_all is_spellable all ≡ true
spellable [] text is = refl
spellable (token ∷ more) text is = and_from _ _ (spellable_token token is.1 is.5) (spellable more is.2 is.7)

-- ---- no text of the tokens is shorter

spelled_length : (token : Token) (bytes : List ℕ) → IsSpelled token bytes → length bytes ≡ length (spelling token)
spelled_length (tokens.Word word) bytes is = ap length is
spelled_length (tokens.Number value) bytes is = ap length is.0
spelled_length (tokens.Symbol symbol) bytes is = ap length is
spelled_length tokens.End bytes is = absurd is

letter_first : (word : Word) (rest : List ℕ) → EndsBefore is_letter (word_spelling word ++ rest) → ⊥
letter_first words.First rest e = absurd cc
letter_first word rest e = absurd cc

needs_blank : (word : Word) (blanks spelled rest text : List ℕ) → text ≡ blanks ++ (spelled ++ rest) → spelled ≡ word_spelling word → EndsBefore is_letter text → 1 ≤ length blanks
needs_blank word [] spelled rest text is same ends =
    absurd (letter_first word rest (subst (λ s. EndsBefore is_letter (s ++ rest)) same (subst (EndsBefore is_letter) is ends)))
needs_blank word (blank ∷ blanks) spelled rest text is same ends = omega arith

needs_gap : (behind : Bool) (token : Token) (blanks spelled rest text : List ℕ) → text ≡ blanks ++ (spelled ++ rest) → IsSpelled token spelled → (behind ≡ true → EndsBefore is_letter text) → one_if (behind && is_word token) ≤ length blanks
needs_gap false token blanks spelled rest text is same ends = omega arith
needs_gap true (tokens.Word word) blanks spelled rest text is same ends = needs_blank word blanks spelled rest text is same (ends refl)
needs_gap true (tokens.Number value) blanks spelled rest text is same ends = omega arith
needs_gap true (tokens.Symbol symbol) blanks spelled rest text is same ends = omega arith
needs_gap true tokens.End blanks spelled rest text is same ends = omega arith

word_ends : (token : Token) (rest : List ℕ) → EndsBefore (goes_on token) rest → is_word token ≡ true → EndsBefore is_letter rest
word_ends (tokens.Word word) rest ends is = ends
word_ends (tokens.Number value) rest ends is = absurd cc
word_ends (tokens.Symbol symbol) rest ends is = absurd cc
word_ends tokens.End rest ends is = absurd cc

at_least : (all : List Token) (text : List ℕ) (behind : Bool) → Spells all text → (behind ≡ true → EndsBefore is_letter text) → bytes behind all ≤ length text
at_least [] text behind is ends = omega arith
at_least (token ∷ more) text behind is ends =
    let rest = at_least more is.2 (is_word token) is.7 (word_ends token is.2 is.6) in
    let space = needs_gap behind token is.0 is.1 is.2 text is.3 is.5 ends in
    let parts : length text ≡ length is.0 + (length is.1 + length is.2) = ap length is.3 ∙ length-append is.0 (is.1 ++ is.2) ∙ ap (λ n. length is.0 + n) (length-append is.1 is.2) in
    omega (arith, rest, space, parts, spelled_length token is.1 is.5, bytes_more behind token more)

-- ---- the printed tokens in place of others

record Printable (printing other : List Token) : Type 0 where
  shorter : bytes false printing ≤ bytes false other
  first : begins printing ≡ begins other
  apart : is_apart printing ≡ true
  number : numbers_first printing ≡ false
  fine : list_all is_spellable other ≡ true → list_all is_spellable printing ≡ true

nothing : Printable [] []
nothing = record { shorter = omega arith; first = refl; apart = refl; number = refl; fine = λ all. all }

moved : (printing other printing' other' : List Token) → printing ≡ printing' → other ≡ other' → Printable printing' other' → Printable printing other
moved printing other printing' other' same same' p = subst (λ all. Printable all other) (sym same) (subst (Printable printing') (sym same') p)

shorter_behind : (printing other : List Token) (behind : Bool) → Printable printing other → bytes behind printing ≤ bytes behind other
shorter_behind printing other behind p =
    let same : one_if (behind && begins printing) ≡ one_if (behind && begins other) = ap (λ b. one_if (behind && b)) p.first in
    omega (arith, bytes_behind behind printing, bytes_behind behind other, p.shorter, same)

token_before : (token : Token) (printing other : List Token) → is_number token ≡ false → meets token printing ≡ true → Printable printing other → Printable (token ∷ printing) (token ∷ other)
token_before token printing other plain apart p = record {
  shorter = omega (arith, bytes_more false token printing, bytes_more false token other, shorter_behind printing other (is_word token) p);
  first = refl;
  apart = and_from _ _ apart p.apart;
  number = plain;
  fine = λ all. let parts = and_parts (is_spellable token) (list_all is_spellable other) all in and_from _ _ parts.0 (p.fine parts.1);
}

word_meets : (word : Word) (rest : List Token) → meets (tokens.Word word) rest ≡ true
word_meets word [] = refl
word_meets word (next ∷ rest) = refl

word_before : (word : Word) (printing other : List Token) → Printable printing other → Printable (tokens.Word word ∷ printing) (tokens.Word word ∷ other)
word_before word printing other p = token_before (tokens.Word word) printing other refl (word_meets word printing) p

semicolon_meets : (rest : List Token) → begins rest ≡ true → meets (tokens.Symbol symbols.Semicolon) rest ≡ true
semicolon_meets [] word = refl
semicolon_meets (tokens.Word next ∷ rest) word = refl
semicolon_meets (tokens.Number next ∷ rest) word = absurd cc
semicolon_meets (tokens.Symbol next ∷ rest) word = absurd cc
semicolon_meets (tokens.End ∷ rest) word = absurd cc

expression_shorter : (token : Token) (w : Written) (printing other : List Token) → is_formed w ≡ true → Printable printing other
    → bytes false (token ∷ (expression_tokens (shortest (expression_of w)) ++ printing)) ≤ bytes false (token ∷ (expression_tokens w ++ other))
expression_shorter token w printing other formed p =
    let s = shortest (expression_of w) in
    let same : width (is_word token) s (begins printing) ≡ width (is_word token) s (begins other) = ap (λ b. width (is_word token) s b) p.first in
    omega (
      arith,
      bytes_more false token (expression_tokens s ++ printing),
      bytes_more false token (expression_tokens w ++ other),
      bytes_expression s (is_word token) printing,
      bytes_expression w (is_word token) other,
      narrower w formed (is_word token) (begins other),
      p.shorter,
      same,
    )

expression_fine : (token : Token) (w : Written) (printing other : List Token) → Printable printing other
    → list_all is_spellable (token ∷ (expression_tokens w ++ other)) ≡ true → list_all is_spellable (token ∷ (expression_tokens (shortest (expression_of w)) ++ printing)) ≡ true
expression_fine token w printing other p all =
    let parts = and_parts (is_spellable token) (list_all is_spellable (expression_tokens w ++ other)) all in
    let both = all_parts (expression_tokens w) other parts.1 in
    and_from _ _ parts.0 (all_append (expression_tokens (shortest (expression_of w))) printing (shortest_spellable w both.0) (p.fine both.1))

expression_before : (token : Token) (w : Written) (printing other : List Token) → is_expression w ≡ true → is_number token ≡ false → Printable printing other
    → Printable (token ∷ (expression_tokens (shortest (expression_of w)) ++ printing)) (token ∷ (expression_tokens w ++ other))
expression_before token w printing other is plain p = record {
  shorter = expression_shorter token w printing other (and_parts (is_formed w) (leb (depth_of w) 32) is).0 p;
  first = refl;
  apart = expression_apart (shortest (expression_of w)) token printing plain p.apart p.number;
  number = plain;
  fine = expression_fine token w printing other p;
}

-- ---- rules

action_rule_first : (kind : Word) (value rest : List Token) → (tokens.Word kind ∷ (value ++ tokens.Symbol symbols.Semicolon ∷ [])) ++ rest ≡ tokens.Word kind ∷ (value ++ tokens.Symbol symbols.Semicolon ∷ rest)
action_rule_first kind value rest = ap (λ all. tokens.Word kind ∷ all) (append_assoc value (tokens.Symbol symbols.Semicolon ∷ []) rest)

action_rule_before : (action_rule : ActionRuleOf Written) (printing other : List Token) → is_expression action_rule.value ≡ true → meets (tokens.Symbol symbols.Semicolon) printing ≡ true → Printable printing other
    → Printable (action_rule_tokens (shortest_action_rule (action_rule_of action_rule)) ++ printing) (action_rule_tokens action_rule ++ other)
action_rule_before action_rule printing other is apart p =
    let kind = kind_word action_rule.kind in
    let semicolon = tokens.Symbol symbols.Semicolon in
    let s = expression_tokens (shortest (expression_of action_rule.value)) in
    let w = expression_tokens action_rule.value in
    moved _ _ (tokens.Word kind ∷ (s ++ semicolon ∷ printing)) (tokens.Word kind ∷ (w ++ semicolon ∷ other)) (action_rule_first kind s printing) (action_rule_first kind w other)
    (expression_before (tokens.Word kind) action_rule.value (semicolon ∷ printing) (semicolon ∷ other) is refl (token_before semicolon printing other refl apart p))

spread : (left right more rest : List Token) (token : Token) → ((left ++ token ∷ right) ++ more) ++ rest ≡ left ++ token ∷ (right ++ (more ++ rest))
spread left right more rest token = append_assoc (left ++ token ∷ right) more rest ∙ append_assoc left (token ∷ right) (more ++ rest)

conditions_before : (word : Word) (conditions : List (ComparisonOf Written)) (printing other : List Token) → list_all is_comparison conditions ≡ true → Printable printing other
    → Printable (conditions_tokens word (map shortest_comparison (map comparison_of conditions)) ++ printing) (conditions_tokens word conditions ++ other)
conditions_before word [] printing other is p = p
conditions_before word (c ∷ more) printing other is p =
    let parts = and_parts (is_comparison c) (list_all is_comparison more) is in
    let both = and_parts (is_expression c.left) (is_expression c.right) parts.0 in
    let symbol = tokens.Symbol (comparator_symbol c.comparator) in
    let rest = conditions_tokens words.And (map shortest_comparison (map comparison_of more)) in
    let rest' = conditions_tokens words.And more in
    let l = expression_tokens (shortest (expression_of c.left)) in
    let r = expression_tokens (shortest (expression_of c.right)) in
    let l' = expression_tokens c.left in
    let r' = expression_tokens c.right in
    let behind = conditions_before words.And more printing other parts.1 p in
    let right = expression_before symbol c.right (rest ++ printing) (rest' ++ other) both.1 refl behind in
    moved _ _ (tokens.Word word ∷ (l ++ symbol ∷ (r ++ (rest ++ printing)))) (tokens.Word word ∷ (l' ++ symbol ∷ (r' ++ (rest' ++ other))))
    (ap (λ all. tokens.Word word ∷ all) (spread l r rest printing symbol)) (ap (λ all. tokens.Word word ∷ all) (spread l' r' rest' other symbol))
    (expression_before (tokens.Word word) c.left (symbol ∷ (r ++ (rest ++ printing))) (symbol ∷ (r' ++ (rest' ++ other))) both.0 refl right)

conditions_begin : (word : Word) (conditions : List (ComparisonOf Written)) (rest : List Token) → begins rest ≡ true → begins (conditions_tokens word conditions ++ rest) ≡ true
conditions_begin word [] rest first = first
conditions_begin word (c ∷ more) rest first = refl

rule_begins : (rule : RuleOf Written) (rest : List Token) → begins (rule_tokens rule ++ rest) ≡ true
rule_begins rule rest =
    subst (λ all. begins all ≡ true) (sym (append_assoc (conditions_tokens words.When rule.conditions) (action_rule_tokens rule.action_rule) rest)) (conditions_begin words.When rule.conditions (action_rule_tokens rule.action_rule ++ rest) refl)

rules_begin : (rules : List (RuleOf Written)) (rest : List Token) → begins rest ≡ true → begins (flat_map rule_tokens rules ++ rest) ≡ true
rules_begin [] rest first = first
rules_begin (rule ∷ rules) rest first =
    subst (λ all. begins all ≡ true) (sym (append_assoc (rule_tokens rule) (flat_map rule_tokens rules) rest)) (rule_begins rule (flat_map rule_tokens rules ++ rest))

abbrev printing_rules : List (RuleOf Written) → List (RuleOf Written)
printing_rules rules = map shortest_rule (map rule_of rules)

rule_parts : (rule : RuleOf Written) → is_rule rule ≡ true → (list_all is_comparison rule.conditions ≡ true) × (is_expression rule.action_rule.value ≡ true) × (leb 1 (length rule.conditions) && leb (length rule.conditions) 8 ≡ true)
rule_parts rule is =
    let counted = and_parts (leb 1 (length rule.conditions) && leb (length rule.conditions) 8 && list_all is_comparison rule.conditions) (is_expression rule.action_rule.value) is in
    let few = and_parts (leb 1 (length rule.conditions) && leb (length rule.conditions) 8) (list_all is_comparison rule.conditions) counted.0 in
    (few.1, counted.1, few.0)

rules_before : (rules : List (RuleOf Written)) (printing other : List Token) → list_all is_rule rules ≡ true → begins printing ≡ true → Printable printing other
    → Printable (flat_map rule_tokens (printing_rules rules) ++ printing) (flat_map rule_tokens rules ++ other)
rules_before [] printing other is first p = p
rules_before (rule ∷ rules) printing other is first p =
    let parts = and_parts (is_rule rule) (list_all is_rule rules) is in
    let one = rule_parts rule parts.0 in
    let rest = flat_map rule_tokens (printing_rules rules) ++ printing in
    let rest' = flat_map rule_tokens rules ++ other in
    let behind = rules_before rules printing other parts.1 first p in
    let s = shortest_rule (rule_of rule) in
    let action_rule = action_rule_before rule.action_rule rest rest' one.1 (semicolon_meets rest (rules_begin (printing_rules rules) printing first)) behind in
    let conditions = conditions_before words.When rule.conditions (action_rule_tokens s.action_rule ++ rest) (action_rule_tokens rule.action_rule ++ rest') one.0 action_rule in
    moved _ _ (conditions_tokens words.When s.conditions ++ (action_rule_tokens s.action_rule ++ rest)) (conditions_tokens words.When rule.conditions ++ (action_rule_tokens rule.action_rule ++ rest'))
    (append_assoc (rule_tokens s) (flat_map rule_tokens (printing_rules rules)) printing ∙ append_assoc (conditions_tokens words.When s.conditions) (action_rule_tokens s.action_rule) rest)
    (append_assoc (rule_tokens rule) (flat_map rule_tokens rules) other ∙ append_assoc (conditions_tokens words.When rule.conditions) (action_rule_tokens rule.action_rule) rest') conditions

-- ---- whole texts

last_before : (action_rule : ActionRuleOf Written) → is_expression action_rule.value ≡ true → Printable (action_rule_tokens (shortest_action_rule (action_rule_of action_rule))) (action_rule_tokens action_rule)
last_before action_rule is =
    moved _ _ (action_rule_tokens (shortest_action_rule (action_rule_of action_rule)) ++ []) (action_rule_tokens action_rule ++ []) (sym (append-nil (action_rule_tokens (shortest_action_rule (action_rule_of action_rule))))) (sym (append-nil (action_rule_tokens action_rule)))
    (action_rule_before action_rule [] [] is refl nothing)

tree_printable : (tree : TreeOf Written) → IsFormed tree → Printable (tree_tokens (shortest_tree (tree_of tree))) (tree_tokens tree)
tree_printable tree formed =
    let semicolon = tokens.Symbol symbols.Semicolon in
    let last = tokens.Word words.Else ∷ action_rule_tokens (shortest_action_rule (action_rule_of tree.last)) in
    let last' = tokens.Word words.Else ∷ action_rule_tokens tree.last in
    let rules = rules_before tree.rules last last' formed.rules refl (word_before words.Else (action_rule_tokens (shortest_action_rule (action_rule_of tree.last))) (action_rule_tokens tree.last) (last_before tree.last formed.last)) in
    let rest = flat_map rule_tokens (printing_rules tree.rules) ++ last in
    let rest' = flat_map rule_tokens tree.rules ++ last' in
    expression_before (tokens.Word words.First) tree.first (semicolon ∷ rest) (semicolon ∷ rest') formed.first refl
    (token_before semicolon rest rest' refl (semicolon_meets rest (rules_begin (printing_rules tree.rules) last refl)) rules)

-- ---- it says the same

comparison_says : (c : ComparisonOf Expression) → comparison_of (shortest_comparison c) ≡ c
comparison_says c =
    ap (λ left. record { left = left; comparator = c.comparator; right = expression_of (shortest c.right) }) (shortest_says c.left)
    ∙ ap (λ right. record { left = c.left; comparator = c.comparator; right = right }) (shortest_says c.right)

action_rule_says : (c : ActionRuleOf Expression) → action_rule_of (shortest_action_rule c) ≡ c
action_rule_says c = ap (λ value. record { kind = c.kind; value = value }) (shortest_says c.value)

conditions_say : (cs : List (ComparisonOf Expression)) → map comparison_of (map shortest_comparison cs) ≡ cs
conditions_say [] = refl
conditions_say (c ∷ cs) = ap (λ x. x ∷ map comparison_of (map shortest_comparison cs)) (comparison_says c) ∙ ap (λ xs. c ∷ xs) (conditions_say cs)

rule_says : (r : RuleOf Expression) → rule_of (shortest_rule r) ≡ r
rule_says r =
    ap (λ conditions. record { conditions = conditions; action_rule = action_rule_of (shortest_action_rule r.action_rule) }) (conditions_say r.conditions)
    ∙ ap (λ action_rule. record { conditions = r.conditions; action_rule = action_rule }) (action_rule_says r.action_rule)

rules_say : (rs : List (RuleOf Expression)) → map rule_of (map shortest_rule rs) ≡ rs
rules_say [] = refl
rules_say (r ∷ rs) = ap (λ x. x ∷ map rule_of (map shortest_rule rs)) (rule_says r) ∙ ap (λ xs. r ∷ xs) (rules_say rs)

tree_says : (tree : Tree) → tree_of (shortest_tree tree) ≡ tree
tree_says tree =
    ap (λ first. record { first = first; rules = map rule_of (map shortest_rule tree.rules); last = action_rule_of (shortest_action_rule tree.last) }) (shortest_says tree.first)
    ∙ ap (λ rules. record { first = tree.first; rules = rules; last = action_rule_of (shortest_action_rule tree.last) }) (rules_say tree.rules)
    ∙ ap (λ last. record { first = tree.first; rules = tree.rules; last = last }) (action_rule_says tree.last)

-- ---- and keeps to the grammar

comparison_formed : (c : ComparisonOf Written) → is_comparison c ≡ true → is_comparison (shortest_comparison (comparison_of c)) ≡ true
comparison_formed c is = let parts = and_parts (is_expression c.left) (is_expression c.right) is in and_from _ _ (shortest_expression c.left parts.0) (shortest_expression c.right parts.1)

conditions_formed : (cs : List (ComparisonOf Written)) → list_all is_comparison cs ≡ true → list_all is_comparison (map shortest_comparison (map comparison_of cs)) ≡ true
conditions_formed [] is = refl
conditions_formed (c ∷ cs) is = let parts = and_parts (is_comparison c) (list_all is_comparison cs) is in and_from _ _ (comparison_formed c parts.0) (conditions_formed cs parts.1)

as_many : (cs : List (ComparisonOf Written)) → length (map shortest_comparison (map comparison_of cs)) ≡ length cs
as_many cs = length-map (map comparison_of cs) shortest_comparison ∙ length-map cs comparison_of

rule_formed : (r : RuleOf Written) → is_rule r ≡ true → is_rule (shortest_rule (rule_of r)) ≡ true
rule_formed r is =
    let parts = rule_parts r is in
    let count = subst (λ n. leb 1 n && leb n 8 ≡ true) (sym (as_many r.conditions)) parts.2 in
    and_from _ _ (and_from _ _ count (conditions_formed r.conditions parts.0)) (shortest_expression r.action_rule.value parts.1)

rules_formed : (rs : List (RuleOf Written)) → list_all is_rule rs ≡ true → list_all is_rule (printing_rules rs) ≡ true
rules_formed [] is = refl
rules_formed (r ∷ rs) is = let parts = and_parts (is_rule r) (list_all is_rule rs) is in and_from _ _ (rule_formed r parts.0) (rules_formed rs parts.1)

tree_formed : (tree : TreeOf Written) → IsFormed tree → IsFormed (shortest_tree (tree_of tree))
tree_formed tree formed = record {
  first = shortest_expression tree.first formed.first;
  no_view_in_first = shortest_view tree.first ∙ formed.no_view_in_first;
  most_rules = omega (arith, formed.most_rules, length-map (map rule_of tree.rules) shortest_rule, length-map tree.rules rule_of);
  rules = rules_formed tree.rules formed.rules;
  last = shortest_expression tree.last.value formed.last;
}

-- ---- the two laws

written_shorter : (tree : TreeOf Written) (text : List ℕ) → IsFormed tree → Spells (tree_tokens tree) text → length (printed (tree_of tree)) ≤ length text
written_shorter tree text formed is = omega (arith, (tree_printable tree formed).shorter, at_least (tree_tokens tree) text false is (λ never. absurd cc))

-- no text that says the same is shorter
pub no_longer : (tree : Tree) (text : List ℕ) → IsText text tree → length (printed tree) ≤ length text
no_longer tree text is = subst (λ t. length (printed t) ≤ length text) is.says (written_shorter is.written text is.formed is.spelled)

written_again : (tree : TreeOf Written) (text : List ℕ) → IsFormed tree → length text ≤ 4096 → Spells (tree_tokens tree) text → IsText (printed (tree_of tree)) (tree_of tree)
written_again tree text formed short is =
    let p = tree_printable tree formed in
    record {
      written = shortest_tree (tree_of tree);
      says = tree_says (tree_of tree);
      formed = tree_formed tree formed;
      short = omega (arith, short, written_shorter tree text formed is);
      spelled = spells (tree_tokens (shortest_tree (tree_of tree))) false p.apart (p.fine (spellable (tree_tokens tree) text is));
    }

-- the printed text says it
pub again : (tree : Tree) (text : List ℕ) → IsText text tree → IsText (printed tree) tree
again tree text is = subst (λ t. IsText (printed t) t) is.says (written_again is.written text is.formed is.short is.spelled)
