-- The faults of each line of a head.
use Rattle.std.proofs.Common.{◌≡◌, ℕ, ◌^◌, ◌<◌, ◌≤◌, ◌⊎◌, Bool, true, false, suc, List, [], ◌∷◌, ◌++◌, length, map, Option, Some, None, Result, Ok, Err, cond, refl, sym, ap, ◌∙◌, subst, arith, inl, inr}
use Rattle.std.specs.Prelude.{codes, nat_eq, nat_le, nat_lt, ◌&&◌}
use Rattle.std.specs.List.{join_with_byte}
use Rattle.std.specs.Option.{option_and_then}
use Rattle.std.specs.Str.{bytes_eq}
use Rattle.std.specs.Fmt.{decimal}
use Rattle.std.proofs.lemmas.Bool.{and_from, cases_lt, or_cases, false≢true, le-leb, leb-true, ltb-true, lt-ltb, eqb-true}
use Rattle.std.proofs.lemmas.List.Splits.{join_with_byte-slice_split}
use Rattle.std.proofs.lemmas.Option.{same_Some}
use Rattle.std.proofs.lemmas.Slice.Eq.{bytes_eq-Decides}
use Rattle.protocol_lang.specs.Numbers.{number_of}
use Rattle.room_spec.specs.Names.{is_name}
use Rattle.room_spec.specs.Rooms.{RoomSpec, has_own, is_reduction, is_value}
use Rattle.room_spec.specs.declared.version.Version.{Version}
use Rattle.room_spec.specs.declared.version.Version.TheVariants.{One, Two}
use Rattle.room_spec.specs.Texts.{fields_of}
use Rattle.room_spec.specs.Blocks.{Head, IsHeadWithin, value_after, version_of, reduction_of, named, numbers_of, inputs_of, are_values, up_to_values, up_to, fitting, is_protocol, fuse_in, of_simulator, has_fuse, unrepeated, line_behind, said, said_next}
use Rattle.room_spec.specs.Grammar.{version_text, crash_line, lines_before_text, lines_from_rounds, most_inputs, line_of, IsHead, IsNumberLine, IsInputsLine, BeginsWith, IsCrashOrProtocol, HasForm, IsOutOfRange, HasCrashOf, IsReason}
use Rattle.room_spec.specs.declared.fault.SpecFault.{SpecFault}
use Rattle.room_spec.specs.declared.fault.SpecFault.TheVariants.{BadLine, BadName, Inputs, TooWide, CrashLine, Repeated}
use Rattle.room_spec.proofs.Heads.{bind_ok, guard_ok, ok_is, value_found, value_again, in_range_found, decimal_found, test_found, inputs_spelled, values_in_range, are_all_values}
use Rattle.room_spec.proofs.Fuses.{TellsFuse, of_simulator_ok, no_fuses, tells_fuse, crash_line_found, crash_line_again}
use Rattle.room_spec.proofs.Locality.{err_cases, version_refusal, number_judge, fitting_judge}
use Rattle.room_spec.proofs.Standing.{plain, Stands, Starts, stands_for}

-- ---- the lines of fixed words, a name or inputs

pub guard_err : {A : Type 0} (b : Bool) (x : A) (refusal fault : SpecFault) → cond b (Ok x) (Err refusal) ≡ Err fault → (b ≡ false) × (refusal ≡ fault)
guard_err true x refusal fault e = absurd cc
guard_err false x refusal fault e = (refl, cc)

-- a room whose first four lines say this; what its other lines leave open is the least
abbrev pub made : Head → ℕ → ℕ → Option ℕ → List (ℕ × ℕ) → RoomSpec
made head rounds turns task fuses = record { version = head.version; name = head.name; inputs = head.inputs; own = head.own; simulators = head.simulators; rounds = rounds; turns = turns; task = task; fuses = fuses; protocol = plain }

pub head_made : (head : Head) (rounds turns : ℕ) → IsHeadWithin head → (1 ≤ rounds) × (rounds ≤ 15) → (1 ≤ turns) × (turns ≤ 65535) → IsHead (made head rounds turns None [])
head_made head rounds turns within some long = record {
  name = within.name;
  inputs = within.inputs;
  simulators = within.simulators;
  rounds = some;
  turns = long;
  task = tt;
  fuses = no_fuses head.simulators;
  values = refl;
  own = within.own;
}

pub least_made : (head : Head) → IsHeadWithin head → IsHead (made head 1 1 None [])
least_made head within = head_made head 1 1 within (omega arith, omega arith) (omega arith, omega arith)

pub starts_of : (reduction : Bool) (lines : List (List ℕ)) (room : RoomSpec) (more : List (List ℕ)) → IsHead room → is_reduction room ≡ reduction → length lines < 5 → lines_before_text reduction room ≡ lines ++ more → 1 ≤ length more → Starts reduction lines room
starts_of reduction lines room more head kind few parts unfinished = record { head = head; kind = kind; fits = λ five. absurd (omega (arith, few, five)); more = more; parts = parts; unfinished = unfinished }

abbrev pub room_line : List ℕ → List ℕ
room_line name = codes "room " ++ name

abbrev pub inputs_of_room : List ℕ → List ℕ
inputs_of_room inputs = join_with_byte 32 (codes "inputs" ∷ map decimal inputs)

abbrev pub number_of_room : List ℕ → ℕ → List ℕ
number_of_room word number = word ++ decimal number

-- the first, third and fourth line of a block of the kind
abbrev pub first_text : Bool → Version → List ℕ
first_text false version = version_text version
first_text true version = codes "reduction 1"

abbrev pub third_text : Bool → List ℕ → List ℕ → List ℕ
third_text false inputs own = inputs_of_room inputs
third_text true inputs own = inputs_of_room own

abbrev pub fourth_text : Bool → ℕ → ℕ → List ℕ
fourth_text false n m = number_of_room (codes "simulators ") m
fourth_text true n m = number_of_room (codes "processes ") n

-- these are the lines before that of the rounds
pub front_is : (reduction : Bool) (room : RoomSpec) → lines_before_text reduction room ≡ first_text reduction room.version ∷ room_line room.name ∷ third_text reduction room.inputs room.own ∷ fourth_text reduction (length room.inputs) room.simulators ∷ lines_from_rounds room
front_is false room = refl
front_is true room = refl

-- the lines before the one that is named
abbrev pub to_name : Bool → Version → List (List ℕ)
to_name reduction version = first_text reduction version ∷ []

abbrev pub to_inputs : Bool → Version → List ℕ → List (List ℕ)
to_inputs reduction version name = first_text reduction version ∷ room_line name ∷ []

abbrev pub to_count : Bool → Version → List ℕ → List ℕ → List ℕ → List (List ℕ)
to_count reduction version name inputs own = first_text reduction version ∷ room_line name ∷ third_text reduction inputs own ∷ []

abbrev pub to_rounds : Bool → Head → List (List ℕ)
to_rounds reduction head = first_text reduction head.version ∷ room_line head.name ∷ third_text reduction head.inputs head.own ∷ fourth_text reduction (length head.inputs) head.simulators ∷ []

abbrev pub to_turns : Bool → Head → ℕ → List (List ℕ)
to_turns reduction head rounds = first_text reduction head.version ∷ room_line head.name ∷ third_text reduction head.inputs head.own ∷ fourth_text reduction (length head.inputs) head.simulators ∷ number_of_room (codes "rounds ") rounds ∷ []

-- a room of the kind with this name, and otherwise the least
abbrev pub IsVersionOf : Bool → Version → Type 0
IsVersionOf false version = Unit {0}
IsVersionOf true version = version ≡ Two

abbrev least_own : Bool → List ℕ
least_own false = []
least_own true = 0 ∷ []

abbrev pub named_head : Bool → Version → List ℕ → Head
named_head reduction version name = record { version = version; name = name; inputs = 0 ∷ []; own = least_own reduction; simulators = 1 }

named_within : (reduction : Bool) (version : Version) (name : List ℕ) → IsVersionOf reduction version → is_name name ≡ true → IsHeadWithin (named_head reduction version name)
named_within false version name has is = record { name = is; inputs = refl; own = tt; simulators = (omega arith, omega arith) }
named_within true version name has is = record { name = is; inputs = refl; own = (has, refl, refl, refl); simulators = (omega arith, omega arith) }

least_kind : (reduction : Bool) → has_own (least_own reduction) ≡ reduction
least_kind false = refl
least_kind true = refl

abbrev pub named_room : Bool → Version → List ℕ → RoomSpec
named_room reduction version name = made (named_head reduction version name) 1 1 None []

abbrev pub least : Bool → Version → RoomSpec
least reduction version = named_room reduction version (codes "a")

named_made : (reduction : Bool) (version : Version) (name : List ℕ) → IsVersionOf reduction version → is_name name ≡ true → IsHead (named_room reduction version name)
named_made reduction version name has is = least_made (named_head reduction version name) (named_within reduction version name has is)

starts_none : (reduction : Bool) (version : Version) → IsVersionOf reduction version → Starts reduction [] (least reduction version)
starts_none reduction version has = starts_of reduction [] (least reduction version) (lines_before_text reduction (least reduction version)) (named_made reduction version (codes "a") has refl) (least_kind reduction) (omega arith) refl (let same = ap length (front_is reduction (least reduction version)) in omega (arith, same))

version_form : (bytes : List ℕ) (fault : SpecFault) → version_of bytes ≡ Err fault → (bytes ≡ codes "bgsim 1") ⊎ (bytes ≡ codes "bgsim 2") → ⊥
version_form bytes fault e (inl is) = absurd (let never : Ok One ≡ Err fault = sym (ap version_of is) ∙ e in cc)
version_form bytes fault e (inr is) = absurd (let never : Ok Two ≡ Err fault = sym (ap version_of is) ∙ e in cc)

pub version_refused : (bytes : List ℕ) (fault : SpecFault) → version_of bytes ≡ Err fault → Stands false fault [] bytes
version_refused bytes fault e = stands_for false [] (least false One) bytes (BadLine 1) fault (starts_none false One tt) (version_refusal bytes fault e) refl (version_form bytes fault e)

pub reduction_refused : (bytes : List ℕ) (fault : SpecFault) → reduction_of bytes ≡ Err fault → Stands true fault [] bytes
reduction_refused bytes fault e =
    let refused = guard_err (bytes_eq bytes (codes "reduction 1")) Two (BadLine 1) fault e in
    stands_for true [] (least true Two) bytes (BadLine 1) fault (starts_none true Two refl) refused.1 refl (λ is. false≢true (sym refused.0 ∙ (bytes_eq-Decides bytes (codes "reduction 1")).1 is))

-- what begins with the word has something behind it
pub begun_value : (word bytes : List ℕ) → value_after word bytes ≡ None → BeginsWith word bytes → ⊥
begun_value word bytes none form = absurd (let never : None ≡ Some form.0 = sym none ∙ value_again word bytes form.0 form.1 in cc)

starts_version : (reduction : Bool) (version : Version) → IsVersionOf reduction version → Starts reduction (to_name reduction version) (least reduction version)
starts_version reduction version has = starts_of reduction (to_name reduction version) (least reduction version) _ (named_made reduction version (codes "a") has refl) (least_kind reduction) (omega arith) (front_is reduction (least reduction version)) (omega arith)

-- by the form of the name's line
form_name : (reduction : Bool) (first bytes : List ℕ) → HasForm reduction (first ∷ []) bytes → BeginsWith (codes "room ") bytes
form_name false first bytes form = form
form_name true first bytes form = form

pub name_refused : (reduction : Bool) (version : Version) → IsVersionOf reduction version → (bytes : List ℕ) (value : Option (List ℕ)) (fault : SpecFault) → value_after (codes "room ") bytes ≡ value → named value ≡ Err fault → Stands reduction fault (to_name reduction version) bytes
name_refused reduction version has bytes None fault is e =
    let same : BadLine 2 ≡ fault = cc in
    stands_for reduction (to_name reduction version) (least reduction version) bytes (BadLine 2) fault (starts_version reduction version has) same refl (λ form. begun_value (codes "room ") bytes is (form_name reduction (first_text reduction version) bytes form))
name_refused reduction version has bytes (Some name) fault is e =
    let refused = guard_err (is_name name) name BadName fault e in
    stands_for reduction (to_name reduction version) (least reduction version) bytes BadName fault (starts_version reduction version has) refused.1 refl (name, value_found (codes "room ") bytes name is, refused.0)

inputs_in : (fields : List (List ℕ)) (values : List ℕ) → inputs_of fields ≡ Some values → (numerals : List (List ℕ)) × (fields ≡ codes "inputs" ∷ numerals) × (numbers_of numerals ≡ Some values)
inputs_in [] values e = absurd cc
inputs_in (word ∷ fields) values e =
    let parts = test_found (bytes_eq word (codes "inputs")) (numbers_of fields) values e in
    (fields, ap (λ (w : List ℕ). w ∷ fields) ((bytes_eq-Decides word (codes "inputs")).0 parts.0), parts.1)

starts_named : (reduction : Bool) (version : Version) (name : List ℕ) → IsVersionOf reduction version → is_name name ≡ true → Starts reduction (to_inputs reduction version name) (named_room reduction version name)
starts_named reduction version name has is = starts_of reduction (to_inputs reduction version name) (named_room reduction version name) _ (named_made reduction version name has is) (least_kind reduction) (omega arith) (front_is reduction (named_room reduction version name)) (omega arith)

inputs_form : (bytes : List ℕ) → inputs_of (fields_of bytes) ≡ None → (numbers : List ℕ) → IsInputsLine bytes numbers → ⊥
inputs_form bytes none numbers form = absurd (let never : None ≡ Some numbers = sym none ∙ ap inputs_of form.1 ∙ form.2 in cc)

form_inputs : (reduction : Bool) (first second bytes : List ℕ) → HasForm reduction (first ∷ second ∷ []) bytes → (numbers : List ℕ) × IsInputsLine bytes numbers
form_inputs false first second bytes form = form
form_inputs true first second bytes form = form

pub inputs_refused : (reduction : Bool) (version : Version) (name : List ℕ) → IsVersionOf reduction version → is_name name ≡ true → (bytes : List ℕ) (values : Option (List ℕ)) (fault : SpecFault) → inputs_of (fields_of bytes) ≡ values → up_to_values (most_inputs reduction) values ≡ Err fault → Stands reduction fault (to_inputs reduction version name) bytes
inputs_refused reduction version name has is_one bytes None fault is e =
    let same : BadLine 3 ≡ fault = cc in
    stands_for reduction (to_inputs reduction version name) (named_room reduction version name) bytes (BadLine 3) fault (starts_named reduction version name has is_one) same refl
    (λ form. let numbers = form_inputs reduction (first_text reduction version) (room_line name) bytes form in inputs_form bytes is numbers.0 numbers.1)
inputs_refused reduction version name has is_one bytes (Some values) fault is e =
    let refused = guard_err (are_values (most_inputs reduction) values) values Inputs fault e in
    stands_for reduction (to_inputs reduction version name) (named_room reduction version name) bytes Inputs fault (starts_named reduction version name has is_one) refused.1 refl (values, inputs_in (fields_of bytes) values is, refused.0)

pub inputs_said : (most : ℕ) (bytes values : List ℕ) → up_to_values most (inputs_of (fields_of bytes)) ≡ Ok values → (bytes ≡ inputs_of_room values) × (are_values most values ≡ true)
inputs_said most bytes values is =
    let says = values_in_range most (inputs_of (fields_of bytes)) values is in
    let pieces = inputs_spelled (fields_of bytes) values says.0 (are_all_values most values says.1) in
    (sym (join_with_byte-slice_split 32 bytes) ∙ ap (join_with_byte 32) pieces, says.1)

-- ---- the lines of a word and a number

outside : (most number : ℕ) → nat_le 1 number && nat_le number most ≡ false → (number < 1) ⊎ (most < number)
outside most number not_within =
    elim (cases_lt number 1) [
      | inl none ↦ inl none
      | inr least_one ↦ elim (cases_lt most number) [
        | inl more ↦ inr more
        | inr fits ↦ absurd (false≢true (sym not_within ∙ and_from (nat_le 1 number) (nat_le number most) (le-leb 1 number least_one) (le-leb number most fits)))
      ]
    ]

numeral_in : (value : Option (List ℕ)) (number : ℕ) → option_and_then number_of value ≡ Some number → (numeral : List ℕ) × (value ≡ Some numeral) × (number_of numeral ≡ Some number)
numeral_in None number e = absurd cc
numeral_in (Some numeral) number e = (numeral, refl, e)

number_form : (word bytes : List ℕ) (number : ℕ) → option_and_then number_of (value_after word bytes) ≡ None → IsNumberLine word bytes number → ⊥
number_form word bytes number none form =
    let found : option_and_then number_of (value_after word bytes) ≡ Some number = ap (option_and_then number_of) (value_again word bytes form.0 form.1) ∙ form.2 in
    absurd (let never : None ≡ Some number = sym none ∙ found in cc)

abbrev NumberRefused : ℕ → List ℕ → ℕ → SpecFault → List ℕ → SpecFault → Type 0
NumberRefused line word most refusal bytes fault = ((BadLine line ≡ fault) × (((number : ℕ) × IsNumberLine word bytes number) → ⊥)) ⊎ ((refusal ≡ fault) × IsOutOfRange word most bytes)

number_refused : (line : ℕ) (word : List ℕ) (most : ℕ) (refusal : SpecFault) (bytes : List ℕ) (found : Option ℕ) (fault : SpecFault) → option_and_then number_of (value_after word bytes) ≡ found → up_to most refusal line found ≡ Err fault → NumberRefused line word most refusal bytes fault
number_refused line word most refusal bytes None fault is e = inl (let same : BadLine line ≡ fault = cc in same, λ form. number_form word bytes form.0 is form.1)
number_refused line word most refusal bytes (Some number) fault is e =
    let refused = guard_err (nat_le 1 number && nat_le number most) number refusal fault e in
    let numeral = numeral_in (value_after word bytes) number is in
    inr (refused.1, (number, (numeral.0, value_found word bytes numeral.0 numeral.1, numeral.2), outside most number refused.0))

pub number_stands : (reduction : Bool) (so_far : List (List ℕ)) (room : RoomSpec) (line : ℕ) (word : List ℕ) (most : ℕ) (refusal : SpecFault) (bytes : List ℕ) (fault : SpecFault) → Starts reduction so_far room → line ≡ suc (length so_far) → line_of refusal ≡ Some line → (HasForm reduction so_far bytes → (number : ℕ) × IsNumberLine word bytes number) → (IsOutOfRange word most bytes → IsReason reduction refusal room so_far bytes) → number_judge line word most refusal bytes ≡ Err fault → Stands reduction fault so_far bytes
number_stands reduction so_far room line word most refusal bytes fault starts at own form range e =
    elim (number_refused line word most refusal bytes (option_and_then number_of (value_after word bytes)) fault refl e) [
      | inl (same, never) ↦ stands_for reduction so_far room bytes (BadLine line) fault starts same (ap Some at) (λ has. never (form has))
      | inr (same, out) ↦ stands_for reduction so_far room bytes refusal fault starts same (own ∙ ap Some at) (range out)
    ]

pub number_said : (line : ℕ) (word : List ℕ) (most : ℕ) (refusal : SpecFault) (bytes : List ℕ) (number : ℕ) → most < 2 ^ 64 → number_judge line word most refusal bytes ≡ Ok number → (bytes ≡ number_of_room word number) × (1 ≤ number) × (number ≤ most)
number_said line word most refusal bytes number fits e =
    let says = in_range_found most refusal line (option_and_then number_of (value_after word bytes)) number e in
    let value = decimal_found (value_after word bytes) number says.0 (omega (arith, fits, says.2)) in
    (value_found word bytes (decimal number) value, says.1, says.2)

-- ---- the rounds, with which the step numbers have to fit

wider : (most width : ℕ) → nat_le width most ≡ false → most < width
wider most width never =
    elim (cases_lt most width) [
      | inl wide ↦ wide
      | inr fits ↦ absurd (false≢true (sym never ∙ le-leb width most fits))
    ]

pub fitting_refused : (most : ℕ) (width : ℕ → ℕ) (rounds : Result ℕ SpecFault) (fault : SpecFault) → fitting_judge most width rounds ≡ Err fault → (rounds ≡ Err fault) ⊎ ((n : ℕ) × (rounds ≡ Ok n) × (TooWide ≡ fault) × (most < width n))
fitting_refused most width (Err own) fault e = inl (let same : own ≡ fault = cc in ap Err same)
fitting_refused most width (Ok n) fault e =
    elim (err_cases (fitting most (width n)) (λ bits. Ok n) fault e) [
      | inl wide ↦ let refused = guard_err (nat_le (width n) most) (width n) TooWide fault wide in inr (n, refl, refused.1, wider most (width n) refused.0)
      | inr (bits, fits, never) ↦ absurd (let h = never in cc)
    ]

pub fitting_said : (most : ℕ) (width : ℕ → ℕ) (rounds : Result ℕ SpecFault) (n : ℕ) → fitting_judge most width rounds ≡ Ok n → (rounds ≡ Ok n) × (width n ≤ most)
fitting_said most width (Err own) n e = absurd cc
fitting_said most width (Ok m) n e =
    let step = bind_ok (fitting most (width m)) (λ bits. Ok m) n e in
    let fits = guard_ok (nat_le (width m) most) TooWide (width m) step.0 step.1 in
    let same : m ≡ n = ok_is m n step.2 in
    (ap Ok same, subst (λ (k : ℕ). width k ≤ most) same (leb-true (width m) most fits.0))

-- ---- the crash lines and the line `protocol`

-- the line is that of a fuse of one of m simulators
abbrev pub IsOwnFuse : ℕ → List ℕ → ℕ × ℕ → Type 0
IsOwnFuse m line fuse = (line ≡ crash_line fuse) × (fuse.0 < m) × (is_value fuse.1 ≡ true)

-- why the line behind the crash lines of these fuses is refused
abbrev pub FuseRefused : ℕ → ℕ → List (ℕ × ℕ) → List ℕ → SpecFault → Type 0
FuseRefused from m fuses line fault =
    ((BadLine (line_behind from fuses) ≡ fault) × (IsCrashOrProtocol line → ⊥))
    ⊎ (((CrashLine (line_behind from fuses) ≡ fault) × BeginsWith (codes "crash ") line × ((fuse : ℕ × ℕ) → IsOwnFuse m line fuse → ⊥))
    ⊎ ((Repeated (line_behind from fuses) ≡ fault) × (fuse : ℕ × ℕ) × IsOwnFuse m line fuse × (has_fuse fuses fuse.0 ≡ true)))

crash_refused : (number m : ℕ) (found : Option (ℕ × ℕ)) (fault : SpecFault) → of_simulator number m found ≡ Err fault → (CrashLine number ≡ fault) × ((fuse : ℕ × ℕ) → found ≡ Some fuse → nat_lt fuse.0 m ≡ true → is_value fuse.1 ≡ true → ⊥)
crash_refused number m None fault e = (let same : CrashLine number ≡ fault = cc in same, λ fuse is below value. absurd (let never : None ≡ Some fuse = is in cc))
crash_refused number m (Some read) fault e =
    let refused = guard_err (nat_lt read.0 m && is_value read.1) read (CrashLine number) fault e in
    (refused.1, λ fuse is below value. (let same : read ≡ fuse = same_Some read fuse is in false≢true (sym refused.0 ∙ and_from (nat_lt read.0 m) (is_value read.1) (ap (λ (f : ℕ × ℕ). nat_lt f.0 m) same ∙ below) (ap (λ (f : ℕ × ℕ). is_value f.1) same ∙ value))))

-- the words of a fuse's line
own_words : (m : ℕ) (line words : List ℕ) (fuse : ℕ × ℕ) → m ≤ 8 → value_after (codes "crash ") line ≡ Some words → IsOwnFuse m line fuse → fuse_in (fields_of words) ≡ Some fuse
own_words m line words fuse few begins own =
    let below : nat_lt fuse.0 m ≡ true = lt-ltb fuse.0 m own.1 in
    let told : said_next 0 m [] line ≡ Ok (Some fuse) = ap (said_next 0 m []) own.0 ∙ crash_line_again 0 m [] fuse few below own.2 refl in
    let tells = tells_fuse 0 m [] line fuse told in
    let same : tells.words ≡ words = same_Some tells.words words (sym tells.begins ∙ begins) in
    ap (λ (w : List ℕ). fuse_in (fields_of w)) (sym same) ∙ tells.says

repeated_refused : (has : Bool) (fuse : Option (ℕ × ℕ)) (refusal fault : SpecFault) → cond has (Err refusal) (Ok fuse) ≡ Err fault → (has ≡ true) × (refusal ≡ fault)
repeated_refused true fuse refusal fault e = (refl, cc)
repeated_refused false fuse refusal fault e = absurd cc

-- a fuse that the line's words tell, within the limits
own_fuse : (m : ℕ) (line words : List ℕ) (fuse : ℕ × ℕ) → m ≤ 8 → value_after (codes "crash ") line ≡ Some words → of_simulator 0 m (fuse_in (fields_of words)) ≡ Ok fuse → IsOwnFuse m line fuse
own_fuse m line words fuse few begins read =
    let own = of_simulator_ok 0 m (fuse_in (fields_of words)) fuse read in
    let tells : TellsFuse m [] line fuse = record { words = words; begins = begins; says = own.0; below = own.1; value = own.2; new = refl } in
    (crash_line_found m [] line fuse few tells, ltb-true fuse.0 m own.1, own.2)

of_simulator_at : (number other m : ℕ) (found : Option (ℕ × ℕ)) (fuse : ℕ × ℕ) → of_simulator number m found ≡ Ok fuse → of_simulator other m found ≡ Ok fuse
of_simulator_at number other m found fuse e =
    let own = of_simulator_ok number m found fuse e in
    rw (own.0, own.1, own.2) refl

pub told_refused : (from m : ℕ) (fuses : List (ℕ × ℕ)) (line : List ℕ) (found : Option (List ℕ)) (fault : SpecFault) → m ≤ 8 → value_after (codes "crash ") line ≡ found → said from m fuses line found ≡ Err fault → FuseRefused from m fuses line fault
told_refused from m fuses line None fault few begins e =
    let refused = guard_err {A = Option (ℕ × ℕ)} (is_protocol line) None (BadLine (line_behind from fuses)) fault e in
    inl (
      refused.1,
      λ form. elim (form) [
        | inl crash ↦ begun_value (codes "crash ") line begins crash
        | inr is ↦ false≢true (sym refused.0 ∙ (bytes_eq-Decides line (codes "protocol")).1 is)
      ],
    )
told_refused from m fuses line (Some words) fault few begins e =
    elim (err_cases (of_simulator (line_behind from fuses) m (fuse_in (fields_of words))) (unrepeated (line_behind from fuses) fuses) fault e) [
      | inl here ↦
          let refused = crash_refused (line_behind from fuses) m (fuse_in (fields_of words)) fault here in
          inr (inl (refused.0, (words, value_found (codes "crash ") line words begins), λ fuse own. refused.1 fuse (own_words m line words fuse few begins own) (lt-ltb fuse.0 m own.1) own.2))
      | inr (fuse, read, there) ↦
          let refused = repeated_refused (has_fuse fuses fuse.0) (Some fuse) (Repeated (line_behind from fuses)) fault there in
          inr (inr (refused.1, fuse, own_fuse m line words fuse few begins (of_simulator_at (line_behind from fuses) 0 m (fuse_in (fields_of words)) fuse read), refused.0))
    ]

-- one of the crash lines is that of the simulator
pub crash_among : (fuses : List (ℕ × ℕ)) (simulator : ℕ) → has_fuse fuses simulator ≡ true → HasCrashOf (map crash_line fuses) simulator
crash_among [] simulator has = absurd cc
crash_among (first ∷ fuses) simulator has =
    elim (or_cases (nat_eq first.0 simulator) (has_fuse fuses simulator) has) [
      | inl is ↦ ([], first.1, map crash_line fuses, ap (λ (n : ℕ). crash_line (n, first.1) ∷ map crash_line fuses) (eqb-true first.0 simulator is))
      | inr later ↦
          let more = crash_among fuses simulator later in
          (crash_line first ∷ more.0, more.1, more.2, ap (λ (l : List (List ℕ)). crash_line first ∷ l) more.3)
    ]
