-- Lines, read and spelled by the definitions.
use Rattle.std.proofs.Common.{◌≡◌, [], ◌∷◌, Some, None, Ok, Err, refl}
use Rattle.std.specs.Prelude.{codes}
use Rattle.std.specs.Fmt.{digits}
use Rattle.transcript.specs.declared.event.Event.TheVariants.{Write, Snap, Decide}
use Rattle.transcript.specs.declared.fault.LineFault.TheVariants.{BadName, BadWord, BadNumber, BadLength}
use Rattle.transcript.specs.Faults.{first_fault}
use Rattle.transcript.specs.Grammar.{event_line}
use Rattle.transcript.specs.Lines.{line_in}

writes : line_in (codes "one 0 write 5") ≡ Ok (codes "one", Write 0 5)
writes = refl

snaps : line_in (codes "pair 0 snap 7 .") ≡ Ok (codes "pair", Snap 0 (record { items = Some 7 ∷ None ∷ [] }))
snaps = refl

decides : line_in (codes "one 15 decide 4294967295") ≡ Ok (codes "one", Decide 15 4294967295)
decides = refl

bad_word : line_in (codes "one 0 wrote 5") ≡ Err BadWord
bad_word = refl

length_before_number : line_in (codes "one 16 write") ≡ Err BadLength
length_before_number = refl

number_before_word : line_in (codes "one 16 wrote 5") ≡ Err BadNumber
number_before_word = refl

word_before_length : line_in (codes "one 0 wrote 5 6") ≡ Err BadWord
word_before_length = refl

length_before_value : line_in (codes "one 0 write 05 6") ≡ Err BadLength
length_before_value = refl

empty_field : line_in (codes "one  0 write 5") ≡ Err BadNumber
empty_field = refl

empty_line : line_in [] ≡ Err BadName
empty_line = refl

no_fault : first_fault (codes "pair 0 snap 7 .") ≡ None
no_fault = refl

few_fields_first : first_fault (codes "one 16 wrote") ≡ Some BadLength
few_fields_first = refl

process_before_word : first_fault (codes "one 16 wrote 5 6") ≡ Some BadNumber
process_before_word = refl

fields_before_values : first_fault (codes "one 0 write . 6") ≡ Some BadLength
fields_before_values = refl

no_dot_behind_write : first_fault (codes "one 0 write .") ≡ Some BadNumber
no_dot_behind_write = refl

write_spelled : event_line (codes "one") (Write 0 5) ≡ codes "one 0 write 5"
unfolding digits
write_spelled = refl

snap_spelled : event_line (codes "pair") (Snap 10 (record { items = Some 4294967295 ∷ None ∷ [] })) ≡ codes "pair 10 snap 4294967295 ."
unfolding digits
snap_spelled = refl

decide_spelled : event_line (codes "one") (Decide 0 7) ≡ codes "one 0 decide 7"
unfolding digits
decide_spelled = refl
