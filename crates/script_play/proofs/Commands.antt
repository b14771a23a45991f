-- A command is read exactly from its line.
use Rattle.std.proofs.Common.{◌≡◌, ◌∙◌, ℕ, ◌≤◌, ◌&&◌, Bool, true, false, cond, not, eqb, leb, List, [], ◌∷◌, length, Option, Some, None, refl, sym, ap, ap₂, subst, arith}
use Rattle.std.specs.Prelude.{IfSome, codes}
use Rattle.std.specs.Fmt.{decimal}
use Rattle.std.specs.List.{All, AllByRecursion, list_all, join_with_byte}
use Rattle.std.specs.Str.{bytes_eq}
use Rattle.std.proofs.lemmas.Bool.{and_parts, leb-true, le-leb}
use Rattle.std.proofs.lemmas.List.Splits.{join_with_byte-slice_split, slice_split_none, slice_split_at}
use Rattle.std.proofs.lemmas.Slice.Eq.{bytes_eq-Decides}
use Rattle.protocol_lang.specs.Numbers.{greatest, is_digit, number_of}
use Rattle.room_spec.specs.Names.{is_name, is_name_byte}
use Rattle.room_spec.specs.Texts.{fields_of, is_space}
use Rattle.protocol_lang.proofs.CallerLemmas.{number_spelled, digits_of-decimal, number_of-decimal}
use Rattle.transcript.proofs.CallerLemmas.{no_space_in}
use Rattle.service_core.specs.declared.command.Command.{Command}
use Rattle.service_core.specs.declared.command.Command.TheVariants.{Begin, Step, Crash, Settle, Report, Close}
use Rattle.service_core.specs.Replies.{name_in}
use Rattle.script_play.specs.Script.{HasNumbers, IsCommandLine, command_fields, command_in, command_of, command_to, crash_command, number_within, step_command, steps_for, within}

-- ---- what is read is what the line asks for

within_if : (b : Bool) (m n : ℕ) → cond b (Some m) None ≡ Some n → (b ≡ true) × (m ≡ n)
within_if true m n e = (refl, cc)
within_if false m n e = absurd cc

within_found : (least most : ℕ) (number : Option ℕ) (n : ℕ) → within least most number ≡ Some n → (number ≡ Some n) × (least ≤ n) × (n ≤ most)
within_found least most None n e = absurd cc
within_found least most (Some m) n e =
    let found = within_if (leb least m && leb m most) m n e in
    let parts = and_parts (leb least m) (leb m most) found.0 in
    let low = leb-true least m parts.0 in
    let high = leb-true m most parts.1 in
    (ap Some found.1, omega (arith, low, found.1), omega (arith, high, found.1))

-- a field that is a number in range is its decimal spelling
number_found : (least most : ℕ) (field : List ℕ) (n : ℕ) → most ≤ greatest → number_within least most field ≡ Some n → (field ≡ decimal n) × (least ≤ n) × (n ≤ most)
number_found least most field n small e =
    let found = within_found least most (number_of field) n e in
    (number_spelled field n found.0 (omega (arith, found.2)), found.1, found.2)

-- the fields are those of the command, and its numbers are in range
abbrev AreFields : List (List ℕ) → List ℕ → Command → Type 0
AreFields fields name command = (fields ≡ command_fields command) × (name_in command ≡ name) × HasNumbers command

bare_found : (is_settle is_report is_close : Bool) (word name : List ℕ) (command : Command) → (is_settle ≡ true → word ≡ codes "settle") → (is_report ≡ true → word ≡ codes "report") → (is_close ≡ true → word ≡ codes "close")
    → cond is_settle (Some (Settle name)) (cond is_report (Some (Report name)) (cond is_close (Some (Close name)) None)) ≡ Some command → AreFields (word ∷ name ∷ []) name command
bare_found true is_report is_close word name command settle report close e =
    let same : Settle name ≡ command = cc in
    subst (AreFields (word ∷ name ∷ []) name) same (ap (λ (w : List ℕ). w ∷ name ∷ []) (settle refl), refl, tt)
bare_found false true is_close word name command settle report close e =
    let same : Report name ≡ command = cc in
    subst (AreFields (word ∷ name ∷ []) name) same (ap (λ (w : List ℕ). w ∷ name ∷ []) (report refl), refl, tt)
bare_found false false true word name command settle report close e =
    let same : Close name ≡ command = cc in
    subst (AreFields (word ∷ name ∷ []) name) same (ap (λ (w : List ℕ). w ∷ name ∷ []) (close refl), refl, tt)
bare_found false false false word name command settle report close e = absurd cc

crash_found : (is_crash : Bool) (word name field : List ℕ) (sim : Option ℕ) (command : Command) → (is_crash ≡ true → word ≡ codes "crash") → number_within 0 255 field ≡ sim
    → cond is_crash (crash_command name sim) None ≡ Some command → AreFields (word ∷ name ∷ field ∷ []) name command
crash_found true word name field None command crash is e = absurd cc
crash_found true word name field (Some sim) command crash is e =
    let same : Crash name sim ≡ command = cc in
    let number = number_found 0 255 field sim (omega arith) is in
    subst (AreFields (word ∷ name ∷ field ∷ []) name) same (ap₂ (λ (w f : List ℕ). w ∷ name ∷ f ∷ []) (crash refl) number.0, refl, number.2)
crash_found false word name field sim command crash is e = absurd cc

step_found : (is_step : Bool) (word name field other : List ℕ) (sim count : Option ℕ) (command : Command) → (is_step ≡ true → word ≡ codes "step") → number_within 0 255 field ≡ sim → number_within 1 65535 other ≡ count
    → cond is_step (step_command name sim count) None ≡ Some command → AreFields (word ∷ name ∷ field ∷ other ∷ []) name command
step_found true word name field other None count command step is many e = absurd cc
step_found true word name field other (Some sim) None command step is many e = absurd cc
step_found true word name field other (Some sim) (Some count) command step is many e =
    let same : Step name sim count ≡ command = cc in
    let number = number_found 0 255 field sim (omega arith) is in
    let times = number_found 1 65535 other count (omega arith) many in
    subst (AreFields (word ∷ name ∷ field ∷ other ∷ []) name) same
    (ap (λ (w : List ℕ). w ∷ name ∷ field ∷ other ∷ []) (step refl) ∙ ap₂ (λ (f o : List ℕ). codes "step" ∷ name ∷ f ∷ o ∷ []) number.0 times.0, refl, (number.2, times.1, times.2))
step_found false word name field other sim count command step is many e = absurd cc

numbers_found : (word name : List ℕ) (numbers : List (List ℕ)) (command : Command) → command_to word name numbers ≡ Some command → AreFields (word ∷ name ∷ numbers) name command
numbers_found word name [] command e =
    bare_found (bytes_eq word (codes "settle")) (bytes_eq word (codes "report")) (bytes_eq word (codes "close")) word name command (bytes_eq-Decides word (codes "settle")).0 (bytes_eq-Decides word (codes "report")).0 (bytes_eq-Decides word (codes "close")).0 e
numbers_found word name (sim ∷ []) command e = crash_found (bytes_eq word (codes "crash")) word name sim (number_within 0 255 sim) command (bytes_eq-Decides word (codes "crash")).0 refl e
numbers_found word name (sim ∷ count ∷ []) command e =
    step_found (bytes_eq word (codes "step")) word name sim count (number_within 0 255 sim) (number_within 1 65535 count) command (bytes_eq-Decides word (codes "step")).0 refl refl e
numbers_found word name (sim ∷ count ∷ other ∷ others) command e = absurd cc

named_found : (is : Bool) (word name : List ℕ) (numbers : List (List ℕ)) (command : Command) → cond is (command_to word name numbers) None ≡ Some command → (is ≡ true) × AreFields (word ∷ name ∷ numbers) name command
named_found true word name numbers command e = (refl, numbers_found word name numbers command e)
named_found false word name numbers command e = absurd cc

command_found : (fields : List (List ℕ)) (command : Command) → command_of fields ≡ Some command → (fields ≡ command_fields command) × (is_name (name_in command) ≡ true) × HasNumbers command
command_found [] command e = absurd cc
command_found (word ∷ []) command e = absurd cc
command_found (word ∷ name ∷ numbers) command e =
    let found = named_found (is_name name) word name numbers command e in
    let are = found.1 in
    (are.0, ap is_name are.1 ∙ found.0, are.2)

pub is_found : (line : List ℕ) (read : Option Command) → read ≡ command_in line → IfSome read (λ command. IsCommandLine line command)
is_found line None e = tt
is_found line (Some command) e =
    let found = command_found (fields_of line) command (sym e) in
    record { text = sym (join_with_byte-slice_split 32 line) ∙ ap (join_with_byte 32) found.0; room = found.1; numbers = found.2 }

-- ---- what a line asks for is read

number_again : (least most n : ℕ) → most ≤ greatest → least ≤ n → n ≤ most → number_within least most (decimal n) ≡ Some n
number_again least most n small low high = rw (number_of-decimal n (omega arith), le-leb least n low, le-leb n most high) refl

fields_again : (command : Command) → is_name (name_in command) ≡ true → HasNumbers command → command_of (command_fields command) ≡ Some command
fields_again (Begin spec) named numbers = absurd numbers
fields_again (Step name sim count) named numbers = rw (named, number_again 0 255 sim (omega arith) (omega arith) numbers.0, number_again 1 65535 count (omega arith) numbers.1 numbers.2) refl
fields_again (Crash name sim) named numbers = rw (named, number_again 0 255 sim (omega arith) (omega arith) numbers) refl
fields_again (Settle name) named numbers = rw named refl
fields_again (Report name) named numbers = rw named refl
fields_again (Close name) named numbers = rw named refl

-- fields with no space in them, joined by spaces, are cut again
abbrev HasNoSpace : List ℕ → Type 0
HasNoSpace field = All (λ byte. is_space byte ≡ false) field

fields_joined : (first : List ℕ) (others : List (List ℕ)) → HasNoSpace first → AllByRecursion HasNoSpace others → fields_of (join_with_byte 32 (first ∷ others)) ≡ first ∷ others
fields_joined first [] one more = slice_split_none is_space first one
fields_joined first (second ∷ others) one more =
    slice_split_at is_space first 32 (join_with_byte 32 (second ∷ others)) one refl ∙ ap (λ (fields : List (List ℕ)). first ∷ fields) (fields_joined second others more.0 more.1)

no_space-decimal : (n : ℕ) → n ≤ 65535 → HasNoSpace (decimal n)
no_space-decimal n small = no_space_in is_digit refl (decimal n) (digits_of-decimal n (omega arith))

no_space-word : (word : List ℕ) → list_all (λ byte. not (eqb byte 32)) word ≡ true → HasNoSpace word
no_space-word word passed = no_space_in (λ byte. not (eqb byte 32)) refl word passed

no_space-name : (name : List ℕ) → is_name name ≡ true → HasNoSpace name
no_space-name name e = no_space_in is_name_byte refl name (and_parts (leb 1 (length name) && leb (length name) 32) (list_all is_name_byte name) e).1

fields_cut : (command : Command) → is_name (name_in command) ≡ true → HasNumbers command → fields_of (join_with_byte 32 (command_fields command)) ≡ command_fields command
fields_cut (Begin spec) named numbers = absurd numbers
fields_cut (Step name sim count) named numbers =
    fields_joined (codes "step") (name ∷ decimal sim ∷ decimal count ∷ []) (no_space-word (codes "step") refl)
    (no_space-name name named, (no_space-decimal sim (omega (arith, numbers.0)), (no_space-decimal count numbers.2, tt)))
fields_cut (Crash name sim) named numbers =
    fields_joined (codes "crash") (name ∷ decimal sim ∷ []) (no_space-word (codes "crash") refl) (no_space-name name named, (no_space-decimal sim (omega (arith, numbers)), tt))
fields_cut (Settle name) named numbers = fields_joined (codes "settle") (name ∷ []) (no_space-word (codes "settle") refl) (no_space-name name named, tt)
fields_cut (Report name) named numbers = fields_joined (codes "report") (name ∷ []) (no_space-word (codes "report") refl) (no_space-name name named, tt)
fields_cut (Close name) named numbers = fields_joined (codes "close") (name ∷ []) (no_space-word (codes "close") refl) (no_space-name name named, tt)

pub read_again : (line : List ℕ) (read : Option Command) → read ≡ command_in line → (command : Command) → IsCommandLine line command → read ≡ Some command
read_again line read e command asks =
    e ∙ ap command_in asks.text ∙ ap command_of (fields_cut command asks.room asks.numbers) ∙ fields_again command asks.room asks.numbers

-- ---- lines of steps

-- a number has no space in it
number_alone : (field : List ℕ) (n : ℕ) → number_within 1 65535 field ≡ Some n → fields_of field ≡ field ∷ []
number_alone field n e =
    let found = number_found 1 65535 field n (omega arith) e in
    slice_split_none is_space field (subst HasNoSpace (sym found.0) (no_space-decimal n found.2))

pub steps_read : (line word others name numbers sim count : List ℕ) (s c : ℕ) → fields_of line ≡ word ∷ fields_of others → word ≡ codes "step" → fields_of others ≡ name ∷ fields_of numbers → fields_of numbers ≡ sim ∷ fields_of count
    → Some s ≡ number_within 0 255 sim → Some c ≡ number_within 1 65535 count → command_in line ≡ steps_for name s c
steps_read line word others name numbers sim count s c first step second third is_sim is_count =
    ap command_of (first ∙ ap (λ (fields : List (List ℕ)). word ∷ fields) (second ∙ ap (λ (fields : List (List ℕ)). name ∷ fields) (third ∙ ap (λ (fields : List (List ℕ)). sim ∷ fields) (number_alone count c (sym is_count)))))
    ∙ rw (step, ← is_sim, ← is_count) refl
