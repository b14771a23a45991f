-- What is read is said by the line, and what a line says is read.
use Rattle.std.proofs.Common.{◌≡◌, ℕ, ◌≤◌, ◌<◌, Bool, true, false, cond, not, eqb, ltb, leb, ◌&&◌, List, [], ◌∷◌, length, map, Option, Some, None, Result, Ok, Err, refl, sym, ap, subst, ◌∙◌, arith}
use Rattle.std.specs.Prelude.{IfOk, codes}
use Rattle.std.specs.List.{AllByRecursion, list_all, join_with_byte}
use Rattle.std.specs.Str.{bytes_eq}
use Rattle.std.specs.Fmt.{decimal}
use Rattle.std.proofs.lemmas.Bool.{ltb-false, leb-true, le-leb, lt-ltb, le-ltb, and_parts, false_from_ne_true, ltb-true}
use Rattle.std.proofs.lemmas.Fmt.{length-decimal-le}
use Rattle.std.proofs.lemmas.List.{length-map}
use Rattle.std.proofs.lemmas.List.Splits.{join_with_byte-slice_split}
use Rattle.std.proofs.lemmas.Slice.Eq.{bytes_eq-Decides}
use Rattle.protocol_lang.specs.Numbers.{greatest, is_digit, number_of}
use Rattle.room_spec.specs.Names.{is_name, is_name_byte}
use Rattle.room_spec.specs.Texts.{fields_of}
use Rattle.transcript.specs.declared.event.Event.{Event}
use Rattle.transcript.specs.declared.event.Event.TheVariants.{Write, Snap, Decide}
use Rattle.transcript.specs.declared.fault.LineFault.{LineFault}
use Rattle.transcript.specs.declared.fault.LineFault.TheVariants.{BadName, BadWord, BadNumber, BadLength, TooLong}
use Rattle.protocol_lang.specs.Limits.{IsEntry}
use Rattle.transcript.specs.Runs.{process_of}
use Rattle.transcript.specs.Grammar.{entry_text, event_fields, IsRow, HasValues, IsEventLine}
use Rattle.protocol_lang.specs.Results.{◌>>=◌}
use Rattle.transcript.specs.Lines.{up_to, number_in, entry_of, entry_in, entries_in, value_in, row_in, write_by, snap_by, decide_by, event_of, event_in, of_room, named_event, line_in}
use Rattle.transcript.proofs.Fields.{IsField, no_space_in, fields_of-join, length-join}
use Rattle.protocol_lang.proofs.CallerLemmas.{number_spelled, digits_of-decimal, number_of-decimal}

-- ---- what is read is said by the line

bind_ok : {A B : Type 0} (read : Result A LineFault) (next : A → Result B LineFault) (y : B) → (read >>= next) ≡ Ok y → (x : A) × (read ≡ Ok x) × (next x ≡ Ok y)
bind_ok (Ok x) next y e = (x, refl, e)
bind_ok (Err fault) next y e = absurd cc

guard_else : {A : Type 0} (b : Bool) (fault : LineFault) (read : Result A LineFault) (y : A) → cond b (Err fault) read ≡ Ok y → (b ≡ false) × (read ≡ Ok y)
guard_else true fault read y e = absurd cc
guard_else false fault read y e = (refl, e)

guard_then : {A : Type 0} (b : Bool) (fault : LineFault) (read : Result A LineFault) (y : A) → cond b read (Err fault) ≡ Ok y → (b ≡ true) × (read ≡ Ok y)
guard_then true fault read y e = (refl, e)
guard_then false fault read y e = absurd cc

up_to_found : (most : ℕ) (number : Option ℕ) (n : ℕ) → up_to most number ≡ Ok n → (number ≡ Some n) × (n ≤ most)
up_to_found most None n e = absurd cc
up_to_found most (Some m) n e =
    let g = guard_then (leb m most) BadNumber (Ok m) n e in
    let same : m ≡ n = let again = g.1 in cc in
    (ap Some same, omega (arith, leb-true m most g.0))

pub number_found : (most : ℕ) (field : List ℕ) (n : ℕ) → most ≤ greatest → number_in most field ≡ Ok n → (field ≡ decimal n) × (n ≤ most)
number_found most field n small e =
    let found = up_to_found most (number_of field) n e in
    (number_spelled field n found.0 (omega (arith, found.1)), found.1)

entry_by : (is_dot : Bool) (field : List ℕ) (entry : Option ℕ) → (is_dot ≡ true → field ≡ codes ".") → cond is_dot (Ok None) (number_in greatest field >>= entry_of) ≡ Ok entry → (field ≡ entry_text entry) × IsEntry entry
entry_by true field entry dot e =
    let same : None ≡ entry = cc in
    subst (λ (o : Option ℕ). (field ≡ entry_text o) × IsEntry o) same (dot refl, tt)
entry_by false field entry dot e =
    let b = bind_ok (number_in greatest field) entry_of entry e in
    let same : Some b.0 ≡ entry = let again = b.2 in cc in
    subst (λ (o : Option ℕ). (field ≡ entry_text o) × IsEntry o) same (number_found greatest field b.0 (omega arith) b.1)

entry_found : (field : List ℕ) (entry : Option ℕ) → entry_in field ≡ Ok entry → (field ≡ entry_text entry) × IsEntry entry
entry_found field entry e = entry_by (bytes_eq field (codes ".")) field entry (bytes_eq-Decides field (codes ".")).0 e

entries_found : (fields : List (List ℕ)) (entries : List (Option ℕ)) → entries_in fields ≡ Ok entries → (fields ≡ map entry_text entries) × AllByRecursion IsEntry entries
entries_found [] entries e =
    let none : [] ≡ entries = cc in
    subst (λ (es : List (Option ℕ)). ([] ≡ map entry_text es) × AllByRecursion IsEntry es) none (refl, tt)
entries_found (field ∷ fields) entries e =
    let b = bind_ok (entry_in field) (λ entry. entries_in fields >>= λ others. Ok (entry ∷ others)) entries e in
    let c = bind_ok (entries_in fields) (λ others. Ok (b.0 ∷ others)) entries b.2 in
    let first = entry_found field b.0 b.1 in
    let others = entries_found fields c.0 c.1 in
    let same : b.0 ∷ c.0 ≡ entries = let again = c.2 in cc in
    subst (λ (es : List (Option ℕ)). (field ∷ fields ≡ map entry_text es) × AllByRecursion IsEntry es) same (cc (first.0, others.0), (first.1, others.1))

value_found : (fields : List (List ℕ)) (v : ℕ) → value_in fields ≡ Ok v → (fields ≡ decimal v ∷ []) × (v ≤ greatest)
value_found [] v e = absurd cc
value_found (field ∷ []) v e = let found = number_found greatest field v (omega arith) e in (ap (λ (f : List ℕ). f ∷ []) found.0, found.1)
value_found (first ∷ second ∷ fields) v e = absurd cc

pub row_found : (fields : List (List ℕ)) (entries : List (Option ℕ)) → 0 < length fields → row_in fields ≡ Ok entries → (fields ≡ map entry_text entries) × IsRow entries
row_found fields entries some e =
    let g = guard_else (ltb 16 (length fields)) BadLength (entries_in fields) entries e in
    let few = ltb-false 16 (length fields) g.0 in
    let found = entries_found fields entries g.1 in
    let same = ap length found.0 ∙ length-map entries entry_text in
    (found.0, record { some = omega (arith, same); few = omega (arith, same, few); values = found.1 })

-- the fields behind the name say the event of process p
record Says (p : ℕ) (word : List ℕ) (fields : List (List ℕ)) (event : Event) : Type 0 where
  text : decimal p ∷ word ∷ fields ≡ event_fields event
  process : process_of event ≡ p
  values : HasValues event

write_found : (p : ℕ) (fields : List (List ℕ)) (event : Event) → (value_in fields >>= write_by p) ≡ Ok event → Says p (codes "write") fields event
write_found p fields event e =
    let b = bind_ok (value_in fields) (write_by p) event e in
    let found = value_found fields b.0 b.1 in
    let same : Write p b.0 ≡ event = let again = b.2 in cc in
    subst (Says p (codes "write") fields) same (record { text = ap (λ (fs : List (List ℕ)). decimal p ∷ codes "write" ∷ fs) found.0; process = refl; values = found.1 })

snap_found : (p : ℕ) (fields : List (List ℕ)) (event : Event) → 0 < length fields → (row_in fields >>= snap_by p) ≡ Ok event → Says p (codes "snap") fields event
snap_found p fields event some e =
    let b = bind_ok (row_in fields) (snap_by p) event e in
    let found = row_found fields b.0 some b.1 in
    let same : Snap p (record { items = b.0 }) ≡ event = let again = b.2 in cc in
    subst (Says p (codes "snap") fields) same (record { text = ap (λ (fs : List (List ℕ)). decimal p ∷ codes "snap" ∷ fs) found.0; process = refl; values = found.1 })

decide_found : (p : ℕ) (fields : List (List ℕ)) (event : Event) → (value_in fields >>= decide_by p) ≡ Ok event → Says p (codes "decide") fields event
decide_found p fields event e =
    let b = bind_ok (value_in fields) (decide_by p) event e in
    let found = value_found fields b.0 b.1 in
    let same : Decide p b.0 ≡ event = let again = b.2 in cc in
    subst (Says p (codes "decide") fields) same (record { text = ap (λ (fs : List (List ℕ)). decimal p ∷ codes "decide" ∷ fs) found.0; process = refl; values = found.1 })

by_word : (is_write is_snap is_decide : Bool) (p : ℕ) (word : List ℕ) (fields : List (List ℕ)) (event : Event) → (is_write ≡ true → word ≡ codes "write") → (is_snap ≡ true → word ≡ codes "snap") → (is_decide ≡ true → word ≡ codes "decide") → 0 < length fields
    → cond is_write (value_in fields >>= write_by p) (cond is_snap (row_in fields >>= snap_by p) (cond is_decide (value_in fields >>= decide_by p) (Err BadWord))) ≡ Ok event → Says p word fields event
by_word true is_snap is_decide p word fields event write snap decide some e = subst (λ (w : List ℕ). Says p w fields event) (sym (write refl)) (write_found p fields event e)
by_word false true is_decide p word fields event write snap decide some e = subst (λ (w : List ℕ). Says p w fields event) (sym (snap refl)) (snap_found p fields event some e)
by_word false false true p word fields event write snap decide some e = subst (λ (w : List ℕ). Says p w fields event) (sym (decide refl)) (decide_found p fields event e)
by_word false false false p word fields event write snap decide some e = absurd cc

event_of_found : (p : ℕ) (word : List ℕ) (fields : List (List ℕ)) (event : Event) → 0 < length fields → event_of word fields p ≡ Ok event → Says p word fields event
event_of_found p word fields event some e =
    by_word (bytes_eq word (codes "write")) (bytes_eq word (codes "snap")) (bytes_eq word (codes "decide")) p word fields event (bytes_eq-Decides word (codes "write")).0 (bytes_eq-Decides word (codes "snap")).0 (bytes_eq-Decides word (codes "decide")).0 some e

event_found : (fields : List (List ℕ)) (event : Event) → event_in fields ≡ Ok event → (fields ≡ event_fields event) × (process_of event ≤ 15) × HasValues event
event_found [] event e = absurd cc
event_found (process ∷ []) event e = absurd cc
event_found (process ∷ word ∷ fields) event e =
    let g = guard_then (ltb 0 (length fields)) BadLength (number_in 15 process >>= event_of word fields) event e in
    let b = bind_ok (number_in 15 process) (event_of word fields) event g.1 in
    let number = number_found 15 process b.0 (omega arith) b.1 in
    let says = event_of_found b.0 word fields event (ltb-true 0 (length fields) g.0) b.2 in
    (ap (λ (field : List ℕ). field ∷ word ∷ fields) number.0 ∙ says.text, omega (arith, says.process, number.1), says.values)

named_found : (fields : List (List ℕ)) (name : List ℕ) (event : Event) → named_event fields ≡ Ok (name, event) → (fields ≡ name ∷ event_fields event) × (is_name name ≡ true) × (process_of event ≤ 15) × HasValues event
named_found [] name event e = absurd cc
named_found (first ∷ fields) name event e =
    let g = guard_then (is_name first) BadName (event_in fields >>= of_room first) (name, event) e in
    let b = bind_ok (event_in fields) (of_room first) (name, event) g.1 in
    let found = event_found fields b.0 b.1 in
    let same : (first, b.0) ≡ (name, event) = let again = b.2 in cc in
    subst (λ (named : List ℕ × Event). (first ∷ fields ≡ named.0 ∷ event_fields named.1) × (is_name named.0 ≡ true) × (process_of named.1 ≤ 15) × HasValues named.1) same (ap (λ (fs : List (List ℕ)). first ∷ fs) found.0, g.0, found.1, found.2)

pub line_found : (line name : List ℕ) (event : Event) → line_in line ≡ Ok (name, event) → IsEventLine line name event
line_found line name event e =
    let g = guard_else (ltb 256 (length line)) TooLong (named_event (fields_of line)) (name, event) e in
    let found = named_found (fields_of line) name event g.1 in
    record { text = sym (join_with_byte-slice_split 32 line) ∙ ap (join_with_byte 32) found.0; room = found.1; process = found.2; values = found.3 }

-- ---- what a line says is read

pub number_again : (most n : ℕ) → most ≤ greatest → n ≤ most → number_in most (decimal n) ≡ Ok n
number_again most n small le = rw (number_of-decimal n (omega arith), le-leb n most le) refl

is_no_dot : (n : ℕ) → n ≤ greatest → bytes_eq (decimal n) (codes ".") ≡ false
is_no_dot n small =
    false_from_ne_true _ (λ e. absurd (let digits : list_all is_digit (codes ".") ≡ true = ap (list_all is_digit) (sym ((bytes_eq-Decides (decimal n) (codes ".")).0 e)) ∙ digits_of-decimal n small in cc))

entry_again : (entry : Option ℕ) → IsEntry entry → entry_in (entry_text entry) ≡ Ok entry
entry_again None small = refl
entry_again (Some value) small = rw (is_no_dot value small, number_again greatest value (omega arith) small) refl

entries_again : (entries : List (Option ℕ)) → AllByRecursion IsEntry entries → entries_in (map entry_text entries) ≡ Ok entries
entries_again [] small = refl
entries_again (entry ∷ entries) small = rw (entry_again entry small.0, entries_again entries small.1) refl

row_again : (entries : List (Option ℕ)) → IsRow entries → row_in (map entry_text entries) ≡ Ok entries
row_again entries row =
    rw (le-ltb 16 (length (map entry_text entries)) (omega (arith, length-map entries entry_text, row.few))) (entries_again entries row.values)

event_again : (event : Event) → process_of event ≤ 15 → HasValues event → event_in (event_fields event) ≡ Ok event
event_again (Write p v) process small = rw (number_again 15 p (omega arith) process, number_again greatest v (omega arith) small) refl
event_again (Snap p row) process values =
    rw (lt-ltb 0 (length (map entry_text row.items)) (omega (arith, length-map row.items entry_text, values.some)), number_again 15 p (omega arith) process, row_again row.items values) refl
event_again (Decide p v) process small = rw (number_again 15 p (omega arith) process, number_again greatest v (omega arith) small) refl

IsField-decimal : (n : ℕ) → n ≤ greatest → IsField 10 (decimal n)
IsField-decimal n small = record {
  no_space = no_space_in is_digit refl (decimal n) (digits_of-decimal n small);
  short = length-decimal-le 10 n (omega arith) (omega arith) (omega arith);
}

IsField-codes : (field : List ℕ) → list_all (λ byte. not (eqb byte 32)) field ≡ true → length field ≤ 10 → IsField 10 field
IsField-codes field passed short = record { no_space = no_space_in (λ byte. not (eqb byte 32)) refl field passed; short = short }

IsField-entry : (entry : Option ℕ) → IsEntry entry → IsField 10 (entry_text entry)
IsField-entry None small = IsField-codes (codes ".") refl (omega arith)
IsField-entry (Some value) small = IsField-decimal value small

IsField-entries : (entries : List (Option ℕ)) → AllByRecursion IsEntry entries → AllByRecursion (IsField 10) (map entry_text entries)
IsField-entries [] small = tt
IsField-entries (entry ∷ entries) small = (IsField-entry entry small.0, IsField-entries entries small.1)

-- the entries of a row, as the text that they are
pub row_spelled : (values : List ℕ) (entries : List (Option ℕ)) → IsRow entries → values ≡ join_with_byte 32 (map entry_text entries) → row_in (fields_of values) ≡ Ok entries
row_spelled values [] row is = let some = row.some in absurd (omega arith)
row_spelled values (entry ∷ entries) row is =
    rw (is, fields_of-join 10 (entry_text entry) (map entry_text entries) (IsField-entry entry row.values.0) (IsField-entries entries row.values.1)) (row_again (entry ∷ entries) row)

IsField-event : (event : Event) → process_of event ≤ 15 → HasValues event → AllByRecursion (IsField 10) (event_fields event)
IsField-event (Write p v) process small = (IsField-decimal p (omega arith), (IsField-codes (codes "write") refl (omega arith), (IsField-decimal v small, tt)))
IsField-event (Snap p row) process values = (IsField-decimal p (omega arith), (IsField-codes (codes "snap") refl (omega arith), IsField-entries row.items values.values))
IsField-event (Decide p v) process small = (IsField-decimal p (omega arith), (IsField-codes (codes "decide") refl (omega arith), (IsField-decimal v small, tt)))

IsField-name : (name : List ℕ) → is_name name ≡ true → IsField 32 name
IsField-name name e =
    let bytes = and_parts (leb 1 (length name) && leb (length name) 32) (list_all is_name_byte name) e in
    let lengths = and_parts (leb 1 (length name)) (leb (length name) 32) bytes.0 in
    record { no_space = no_space_in is_name_byte refl name bytes.1; short = leb-true (length name) 32 lengths.1 }

few_fields : (event : Event) → HasValues event → length (event_fields event) ≤ 18
few_fields (Write p v) small = omega arith
few_fields (Snap p row) values = omega (arith, length-map row.items entry_text, values.few)
few_fields (Decide p v) small = omega arith

pub line_again : (line name : List ℕ) (event : Event) → IsEventLine line name event → line_in line ≡ Ok (name, event)
line_again line name event says =
    let name_field = IsField-name name says.room in
    let event_field = IsField-event event says.process says.values in
    let short = length-join 32 name (event_fields event) name_field event_field in
    let few = few_fields event says.values in
    let same = ap length says.text in
    let fields : fields_of line ≡ name ∷ event_fields event = ap fields_of says.text ∙ fields_of-join 32 name (event_fields event) name_field event_field in
    rw (le-ltb 256 (length line) (omega (arith, same, short, few)), fields, says.room, event_again event says.process says.values) refl

pub is_found : (line : List ℕ) (read : Result (List ℕ × Event) LineFault) → read ≡ line_in line → IfOk read (λ named. IsEventLine line named.0 named.1)
is_found line (Ok named) e = line_found line named.0 named.1 (sym e)
is_found line (Err fault) e = tt

pub is_short : (line : List ℕ) (read : Result (List ℕ × Event) LineFault) → read ≡ line_in line → IfOk read (λ named. length line ≤ 256)
is_short line (Ok named) e = ltb-false 256 (length line) (guard_else (ltb 256 (length line)) TooLong (named_event (fields_of line)) named (sym e)).0
is_short line (Err fault) e = tt
