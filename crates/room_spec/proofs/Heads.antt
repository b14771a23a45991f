-- The lines before the protocol's text: what each says is what it was written from.
use Rattle.std.proofs.Common.{◌≡◌, ℕ, ◌^◌, ◌<◌, ◌≤◌, Bool, true, false, not, ◌&&◌, List, [], ◌∷◌, ◌++◌, length, drop, map, Option, Some, None, Result, Ok, Err, cond, refl, sym, ap, ◌∙◌, subst, arith}
use Rattle.std.specs.Prelude.{codes, nat_eq, nat_le}
use Rattle.std.specs.List.{join_with_byte, list_all, slice_split, starts_with}
use Rattle.std.specs.Option.{option_and_then}
use Rattle.std.specs.Str.{bytes_eq}
use Rattle.std.specs.Fmt.{decimal}
use Rattle.std.proofs.lemmas.Bool.{and_parts, and_from, leb-true, le-leb}
use Rattle.std.proofs.lemmas.Bool.Decides.{Decides-eqb}
use Rattle.std.proofs.lemmas.List.{drop_at}
use Rattle.std.proofs.lemmas.List.Splits.{join_with_byte-slice_split}
use Rattle.std.proofs.lemmas.Option.{cond_some, same_Some}
use Rattle.std.proofs.lemmas.Slice.Eq.{bytes_eq-Decides, starts_is}
use Rattle.protocol_lang.specs.Numbers.{greatest, number_of}
use Rattle.room_spec.specs.Names.{is_name}
use Rattle.room_spec.specs.Texts.{is_space, first_line, later_lines, fields_of}
use Rattle.room_spec.specs.Rooms.{is_value}
use Rattle.protocol_lang.specs.Results.{◌>>=◌}
use Rattle.room_spec.specs.Blocks.{value_after, version_of, version_line, named, name_line, with_number, numbers_of, inputs_of, are_values, are_inputs, up_to_values, in_range, inputs_line, own_line, reduction_of, reduction_line, up_to, number_line, agreed, task_of, task_words}
use Rattle.room_spec.specs.Grammar.{version_text, values_line, agree_line, IsTaskLine}
use Rattle.room_spec.specs.declared.version.Version.{Version}
use Rattle.room_spec.specs.declared.version.Version.TheVariants.{One, Two}
use Rattle.room_spec.specs.declared.fault.SpecFault.{SpecFault}
use Rattle.room_spec.specs.declared.fault.SpecFault.TheVariants.{BadLine, BadName, Inputs, TaskLine}
use Rattle.room_spec.proofs.Lines.{passes_none, pass_none, pieces_cut, pieces_one}
use Rattle.protocol_lang.proofs.CallerLemmas.{number_to, number_from}
use Rattle.room_spec.proofs.Numerals.{decimal_passes, digit_no_space}

-- ---- steps that did not fail

pub bind_ok : {A B : Type 0} (r : Result A SpecFault) (next : A → Result B SpecFault) (y : B) → (r >>= next) ≡ Ok y → (x : A) × (r ≡ Ok x) × (next x ≡ Ok y)
bind_ok (Ok x) next y e = (x, refl, e)
bind_ok (Err fault) next y e = absurd cc

pub guard_ok : {A : Type 0} (b : Bool) (fault : SpecFault) (x y : A) → cond b (Ok x) (Err fault) ≡ Ok y → (b ≡ true) × (x ≡ y)
guard_ok true fault x y e = (refl, cc)
guard_ok false fault x y e = absurd cc

abbrev done : {A : Type 0} → A → Result A SpecFault
done x = Ok x

pub ok_is : {A : Type 0} (x y : A) → done x ≡ done y → x ≡ y
ok_is x y e = cc

with_rest : {A : Type 0} (r : Result A SpecFault) (rest : List ℕ) (y : A × List ℕ) → (r >>= λ x. Ok (x, rest)) ≡ Ok y → (r ≡ Ok y.0) × (rest ≡ y.1)
with_rest (Ok x) rest y e = let both = ok_is (x, rest) y e in (ap (λ (p : _ × List ℕ). Ok p.0) both, ap (λ (p : _ × List ℕ). p.1) both)
with_rest (Err fault) rest y e = absurd cc

-- ---- lines of fixed words

-- a line of one of the versions
pub version_said : (line : List ℕ) (version : Version) → version_of line ≡ Ok version → line ≡ version_text version
version_said line version e = by_one (bytes_eq line (codes "bgsim 1")) refl e
  where
    by_two : (b : Bool) → bytes_eq line (codes "bgsim 2") ≡ b → cond b (Ok Two) (Err (BadLine 1)) ≡ Ok version → line ≡ version_text version
    by_two b is two =
        let parts = guard_ok b (BadLine 1) Two version two in
        subst (λ (v : Version). line ≡ version_text v) parts.1 ((bytes_eq-Decides line (codes "bgsim 2")).0 (is ∙ parts.0))

    by_one : (b : Bool) → bytes_eq line (codes "bgsim 1") ≡ b → cond b (Ok One) (cond (bytes_eq line (codes "bgsim 2")) (Ok Two) (Err (BadLine 1))) ≡ Ok version → line ≡ version_text version
    by_one true is one = subst (λ (v : Version). line ≡ version_text v) (ok_is One version one) ((bytes_eq-Decides line (codes "bgsim 1")).0 is)
    by_one false is other = by_two (bytes_eq line (codes "bgsim 2")) refl other

pub version_known : (version : Version) → version_of (version_text version) ≡ Ok version
version_known One = refl
version_known Two = refl

pub version_found : (text : List ℕ) (read : Version × List ℕ) → version_line text ≡ Ok read → (first_line text ≡ version_text read.0) × (later_lines text ≡ read.1)
version_found text read e =
    let parts = with_rest (version_of (first_line text)) (later_lines text) read e in
    (version_said (first_line text) read.0 parts.0, parts.1)

pub version_again : (text : List ℕ) (version : Version) → first_line text ≡ version_text version → version_line text ≡ Ok (version, later_lines text)
version_again text version is = rw (is, version_known version) refl

-- the line of a reduction
pub reduction_said : (line : List ℕ) (version : Version) → reduction_of line ≡ Ok version → (line ≡ codes "reduction 1") × (Two ≡ version)
reduction_said line version e =
    let parts = guard_ok (bytes_eq line (codes "reduction 1")) (BadLine 1) Two version e in
    ((bytes_eq-Decides line (codes "reduction 1")).0 parts.0, parts.1)

pub reduction_found : (text : List ℕ) (read : Version × List ℕ) → reduction_line text ≡ Ok read → (first_line text ≡ codes "reduction 1") × (Two ≡ read.0) × (later_lines text ≡ read.1)
reduction_found text read e =
    let parts = with_rest (reduction_of (first_line text)) (later_lines text) read e in
    let line = reduction_said (first_line text) read.0 parts.0 in
    (line.0, line.1, parts.1)

pub reduction_again : (text : List ℕ) → first_line text ≡ codes "reduction 1" → reduction_line text ≡ Ok (Two, later_lines text)
reduction_again text is = rw is refl

-- ---- lines of a word and a value

pub value_found : (word line value : List ℕ) → value_after word line ≡ Some value → line ≡ word ++ value
value_found word line value e =
    let parts = cond_some (starts_with nat_eq line word) (drop (length word) line) value e in
    (starts_is Decides-eqb line word (starts_with nat_eq line word) refl).0 parts.0 ∙ ap (λ (v : List ℕ). word ++ v) parts.1

pub value_again : (word line value : List ℕ) → line ≡ word ++ value → value_after word line ≡ Some value
value_again word line value is =
    let starts : starts_with nat_eq line word ≡ true = (starts_is Decides-eqb line word (starts_with nat_eq line word) refl).1 value is in
    rw starts (ap Some (ap (drop (length word)) is ∙ drop_at word value (length word) refl))

pub named_found : (value : Option (List ℕ)) (name : List ℕ) → named value ≡ Ok name → (value ≡ Some name) × (is_name name ≡ true)
named_found None name e = absurd cc
named_found (Some value) name e =
    let parts = guard_ok (is_name value) BadName value name e in
    (ap Some parts.1, subst (λ (n : List ℕ). is_name n ≡ true) parts.1 parts.0)

pub name_found : (text : List ℕ) (read : List ℕ × List ℕ) → name_line text ≡ Ok read → (first_line text ≡ codes "room " ++ read.0) × (later_lines text ≡ read.1) × (is_name read.0 ≡ true)
name_found text read e =
    let parts = with_rest (named (value_after (codes "room ") (first_line text))) (later_lines text) read e in
    let name = named_found (value_after (codes "room ") (first_line text)) read.0 parts.0 in
    (value_found (codes "room ") (first_line text) read.0 name.0, parts.1, name.1)

pub name_again : (text name : List ℕ) → first_line text ≡ codes "room " ++ name → is_name name ≡ true → name_line text ≡ Ok (name, later_lines text)
name_again text name line is = rw (value_again (codes "room ") (first_line text) name line, is) refl

-- ---- lines of a word and a number

pub in_range_found : (most : ℕ) (fault : SpecFault) (line : ℕ) (found : Option ℕ) (number : ℕ) → up_to most fault line found ≡ Ok number → (found ≡ Some number) × (1 ≤ number) × (number ≤ most)
in_range_found most fault line None number e = absurd cc
in_range_found most fault line (Some read) number e =
    let parts = guard_ok (nat_le 1 read && nat_le read most) fault read number e in
    let range = and_parts (nat_le 1 read) (nat_le read most) parts.0 in
    (ap Some parts.1, omega (arith, leb-true 1 read range.0, parts.1), omega (arith, leb-true read most range.1, parts.1))

pub decimal_found : (value : Option (List ℕ)) (number : ℕ) → option_and_then number_of value ≡ Some number → number < 2 ^ 64 → value ≡ Some (decimal number)
decimal_found None number e small = absurd cc
decimal_found (Some text) number e small = ap Some (number_to text number e small)

-- what a line says that has a word and a number
pub record SaysNumber (word : List ℕ) (most : ℕ) (text : List ℕ) (number : ℕ) (rest : List ℕ) : Type 0 where
  pub line : first_line text ≡ word ++ decimal number
  pub rest_is : later_lines text ≡ rest
  pub range : (1 ≤ number) × (number ≤ most)

pub number_found : (line : ℕ) (word : List ℕ) (most : ℕ) (fault : SpecFault) (text : List ℕ) (read : ℕ × List ℕ) → most < 2 ^ 64 → number_line line word most fault text ≡ Ok read → SaysNumber word most text read.0 read.1
number_found line word most fault text read fits e =
    let parts = with_rest (up_to most fault line (option_and_then number_of (value_after word (first_line text)))) (later_lines text) read e in
    let number = in_range_found most fault line (option_and_then number_of (value_after word (first_line text))) read.0 parts.0 in
    record {
      line = value_found word (first_line text) (decimal read.0) (decimal_found (value_after word (first_line text)) read.0 number.0 (omega arith));
      rest_is = parts.1;
      range = (number.1, number.2);
    }

pub number_again : (line : ℕ) (word : List ℕ) (most : ℕ) (fault : SpecFault) (text : List ℕ) (number : ℕ) → most < 2 ^ 64 → first_line text ≡ word ++ decimal number → (1 ≤ number) × (number ≤ most) → number_line line word most fault text ≡ Ok (number, later_lines text)
number_again line word most fault text number fits is range =
    rw (value_again word (first_line text) (decimal number) is, number_from number (omega (arith, range.1)), le-leb 1 number range.0, le-leb number most range.1) refl

-- ---- the line `inputs`

with_number_found : (found : Option ℕ) (others : Option (List ℕ)) (values : List ℕ) → with_number found others ≡ Some values → (number : ℕ) × (more : List ℕ) × (found ≡ Some number) × (others ≡ Some more) × (values ≡ number ∷ more)
with_number_found None others values e = absurd cc
with_number_found (Some number) None values e = absurd cc
with_number_found (Some number) (Some more) values e = (number, more, refl, refl, cc)

pub test_found : (b : Bool) (found : Option (List ℕ)) (values : List ℕ) → cond b found None ≡ Some values → (b ≡ true) × (found ≡ Some values)
test_found true found values e = (refl, e)
test_found false found values e = absurd cc

pub small_value : (value : ℕ) → is_value value ≡ true → value < 2 ^ 64
small_value value is = omega (arith, leb-true value greatest is)

values_found : (fields : List (List ℕ)) (values : List ℕ) → numbers_of fields ≡ Some values → list_all is_value values ≡ true → fields ≡ map decimal values
values_found [] values e all = ap (map decimal) (same_Some [] values e)
values_found (field ∷ fields) values e all =
    let parts = with_number_found (number_of field) (numbers_of fields) values e in
    let each = and_parts (is_value parts.0) (list_all is_value parts.1) (subst (λ (v : List ℕ). list_all is_value v ≡ true) parts.4 all) in
    let field_is : field ≡ decimal parts.0 = number_to field parts.0 parts.2 (small_value parts.0 each.0) in
    let fields_is : fields ≡ map decimal parts.1 = values_found fields parts.1 parts.3 each.1 in
    ap (λ (f : List ℕ). f ∷ fields) field_is ∙ ap (λ (f : List (List ℕ)). decimal parts.0 ∷ f) fields_is ∙ ap (map decimal) (sym parts.4)

pub inputs_spelled : (pieces : List (List ℕ)) (values : List ℕ) → inputs_of pieces ≡ Some values → list_all is_value values ≡ true → pieces ≡ codes "inputs" ∷ map decimal values
inputs_spelled [] values e all = absurd cc
inputs_spelled (word ∷ fields) values e all =
    let parts = test_found (bytes_eq word (codes "inputs")) (numbers_of fields) values e in
    ap (λ (w : List ℕ). w ∷ fields) ((bytes_eq-Decides word (codes "inputs")).0 parts.0) ∙ ap (λ (f : List (List ℕ)). codes "inputs" ∷ f) (values_found fields values parts.1 all)

pub values_in_range : (most : ℕ) (found : Option (List ℕ)) (values : List ℕ) → up_to_values most found ≡ Ok values → (found ≡ Some values) × (are_values most values ≡ true)
values_in_range most None values e = absurd cc
values_in_range most (Some read) values e =
    let parts = guard_ok (are_values most read) Inputs read values e in
    (ap Some parts.1, subst (λ (v : List ℕ). are_values most v ≡ true) parts.1 parts.0)

pub inputs_in_range : (found : Option (List ℕ)) (values : List ℕ) → in_range found ≡ Ok values → (found ≡ Some values) × (are_inputs values ≡ true)
inputs_in_range found values e = values_in_range 16 found values e

pub are_all_values : (most : ℕ) (values : List ℕ) → are_values most values ≡ true → list_all is_value values ≡ true
are_all_values most values are = (and_parts _ (list_all is_value values) are).1

pub inputs_are_values : (values : List ℕ) → are_inputs values ≡ true → list_all is_value values ≡ true
inputs_are_values values are = are_all_values 16 values are

-- a line of inputs, of which there are at most this number
abbrev pub some_inputs_line : ℕ → List ℕ → Result (List ℕ × List ℕ) SpecFault
some_inputs_line most text = up_to_values most (inputs_of (fields_of (first_line text))) >>= λ values. Ok (values, later_lines text)

pub some_inputs_found : (most : ℕ) (text : List ℕ) (read : List ℕ × List ℕ) → some_inputs_line most text ≡ Ok read → (first_line text ≡ values_line read.0) × (later_lines text ≡ read.1) × (are_values most read.0 ≡ true)
some_inputs_found most text read e =
    let parts = with_rest (up_to_values most (inputs_of (fields_of (first_line text)))) (later_lines text) read e in
    let values = values_in_range most (inputs_of (fields_of (first_line text))) read.0 parts.0 in
    let pieces = inputs_spelled (fields_of (first_line text)) read.0 values.0 (are_all_values most read.0 values.1) in
    (sym (join_with_byte-slice_split 32 (first_line text)) ∙ ap (join_with_byte 32) pieces, parts.1, values.1)

pub inputs_found : (text : List ℕ) (read : List ℕ × List ℕ) → inputs_line text ≡ Ok read → (first_line text ≡ values_line read.0) × (later_lines text ≡ read.1) × (are_inputs read.0 ≡ true)
inputs_found text read e = some_inputs_found 16 text read e

pub own_found : (text : List ℕ) (read : List ℕ × List ℕ) → own_line text ≡ Ok read → (first_line text ≡ values_line read.0) × (later_lines text ≡ read.1) × (are_values 8 read.0 ≡ true)
own_found text read e = some_inputs_found 8 text read e

-- pieces that have no such byte come back from where they are joined by it
pub pieces_again : (p : ℕ → Bool) (byte : ℕ) (piece : List ℕ) (pieces : List (List ℕ)) → p byte ≡ true → pass_none p (piece ∷ pieces) ≡ true → slice_split p (join_with_byte byte (piece ∷ pieces)) ≡ piece ∷ pieces
pieces_again p byte piece [] is all = pieces_one p piece (and_parts (passes_none p piece) true all).0
pieces_again p byte piece (next ∷ pieces) is all =
    let parts = and_parts (passes_none p piece) (pass_none p (next ∷ pieces)) all in
    pieces_cut p piece byte (join_with_byte byte (next ∷ pieces)) parts.0 is ∙ ap (λ (more : List (List ℕ)). piece ∷ more) (pieces_again p byte next pieces is parts.1)

decimals_pass : (values : List ℕ) → list_all is_value values ≡ true → pass_none is_space (map decimal values) ≡ true
decimals_pass [] all = refl
decimals_pass (value ∷ values) all =
    let each = and_parts (is_value value) (list_all is_value values) all in
    and_from (passes_none is_space (decimal value)) (pass_none is_space (map decimal values)) (decimal_passes (λ byte. not (is_space byte)) value (small_value value each.0) digit_no_space) (decimals_pass values each.1)

values_again : (values : List ℕ) → list_all is_value values ≡ true → numbers_of (map decimal values) ≡ Some values
values_again [] all = refl
values_again (value ∷ values) all =
    let each = and_parts (is_value value) (list_all is_value values) all in
    rw (number_from value (small_value value each.0), values_again values each.1) refl

pub some_inputs_again : (most : ℕ) (text values : List ℕ) → first_line text ≡ values_line values → are_values most values ≡ true → some_inputs_line most text ≡ Ok (values, later_lines text)
some_inputs_again most text values line are =
    let all = are_all_values most values are in
    let fields : fields_of (first_line text) ≡ codes "inputs" ∷ map decimal values = ap fields_of line ∙ pieces_again is_space 32 (codes "inputs") (map decimal values) refl (decimals_pass values all) in
    rw (fields, values_again values all, are) refl

-- ---- the line of a task

-- that a task is said, by the words after `task`
pub agreed_found : (found : Option ℕ) (most : ℕ) → agreed found ≡ Ok most → (found ≡ Some most) × (1 ≤ most) × (most ≤ 16)
agreed_found None most e = absurd cc
agreed_found (Some read) most e =
    let parts = guard_ok (nat_le 1 read && nat_le read 16) (TaskLine 7) read most e in
    let range = and_parts (nat_le 1 read) (nat_le read 16) parts.0 in
    (ap Some parts.1, omega (arith, leb-true 1 read range.0, parts.1), omega (arith, leb-true read 16 range.1, parts.1))

-- only in version 2 a line is one of a task
pub words_begin : (version : Version) (line words : List ℕ) → task_words version line ≡ Some words → (version ≡ Two) × (value_after (codes "task ") line ≡ Some words)
words_begin One line words is = absurd cc
words_begin Two line words is = (refl, is)

pub task_said : (line words : List ℕ) (most : ℕ) → value_after (codes "task ") line ≡ Some words → task_of words ≡ Ok most → IsTaskLine line most
task_said line words most begins e =
    let says = agreed_found (option_and_then number_of (value_after (codes "agree ") words)) most e in
    let number = decimal_found (value_after (codes "agree ") words) most says.0 (omega (arith, says.2)) in
    (value_found (codes "task ") line words begins ∙ ap (λ (w : List ℕ). codes "task " ++ w) (value_found (codes "agree ") words (decimal most) number), says.1, says.2)

pub task_again : (most : ℕ) → 1 ≤ most → most ≤ 16 → task_of (codes "agree " ++ decimal most) ≡ Ok most
task_again most some few =
    rw (number_from most (omega (arith, few)), le-leb 1 most some, le-leb most 16 few) refl

pub task_begins : (most : ℕ) → value_after (codes "task ") (agree_line most) ≡ Some (codes "agree " ++ decimal most)
task_begins most = value_again (codes "task ") (agree_line most) (codes "agree " ++ decimal most) refl
