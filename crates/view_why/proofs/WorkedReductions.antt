-- What is said of a reduction, worked by hand: two simulators with the inputs 7 and 3, and three processes.
use Rattle.std.proofs.Common.{◌≡◌, ℕ, List, [], ◌∷◌, Some, None, refl, arith}
use Rattle.std.specs.Prelude.{codes, false}
use Rattle.std.proofs.lemmas.Fmt.{decimal_digit}
use Rattle.protocol_lang.specs.Thresholds.{waits_for_all_but}
use Rattle.room_spec.specs.Rooms.{RoomSpec, with_inputs}
use Rattle.room_spec.specs.declared.version.Version.TheVariants.{Two}
use Rattle.transcript.specs.declared.event.Event.TheVariants.{Write, Decide}
use Rattle.transcript.specs.Tasks.{MayBeDecided}
use Rattle.transcript.proofs.CallerLemmas.{no_input}
use Rattle.view_why.specs.Reported.{given_inputs, judged_room}
use Rattle.view_why.specs.Words.{break_words, excess_words, inputs_words}

abbrev vote : RoomSpec
vote = record { version = Two; name = codes "vote"; inputs = 7 ∷ 7 ∷ 7 ∷ []; own = 7 ∷ 3 ∷ []; simulators = 2; rounds = 2; turns = 100; task = Some 2; fuses = []; protocol = waits_for_all_but 1 }

-- ---- its task

simulators_judge : given_inputs vote ≡ 7 ∷ 3 ∷ []
simulators_judge = refl

processes_judge : given_inputs (with_inputs vote (3 ∷ 7 ∷ 9 ∷ [])) ≡ 3 ∷ 7 ∷ 9 ∷ []
processes_judge = refl

-- 3 may be decided, which is no process's input by the block
of_a_simulator : MayBeDecided (judged_room vote) 2 [] 3
of_a_simulator = record { input = (1, omega arith, refl); few = omega arith }

of_none : MayBeDecided (judged_room vote) 2 [] 5 → ⊥
of_none may = no_input 5 (7 ∷ 3 ∷ []) refl may.input

-- ---- the words

no_input_said : inputs_words (7 ∷ 3 ∷ []) (Write 1 5) ≡ codes "from none of the inputs 7 3 may process 1 do this here"
no_input_said = rw (decimal_digit 7 (omega arith), decimal_digit 3 (omega arith), decimal_digit 1 (omega arith)) refl

no_simulator_said : excess_words vote 2 (Decide 1 5) [] ≡ codes "decides 5; no simulator has this input"
no_simulator_said = rw (decimal_digit 5 (omega arith)) refl

no_process_said : excess_words (with_inputs vote (3 ∷ 7 ∷ 9 ∷ [])) 2 (Decide 1 5) [] ≡ codes "decides 5; no process has this input"
no_process_said = rw (decimal_digit 5 (omega arith)) refl
