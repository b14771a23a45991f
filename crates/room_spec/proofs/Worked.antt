-- The definitions on blocks that were worked by hand.
use Rattle.std.proofs.Common.{◌≡◌, ℕ, List, [], ◌∷◌, ◌++◌, map, take, false, Some, None, Ok, Err, refl, arith, true, inl, ap, get_or}
use Rattle.std.specs.Prelude.{codes}
use Rattle.std.specs.Fmt.{digits}
use Rattle.std.proofs.lemmas.Bool.{ltb-true}
use Rattle.protocol_lang.specs.Reading.{reading, run, one_token, next_token}
use Rattle.protocol_lang.specs.declared.tree.Name.TheVariants as names
use Rattle.protocol_lang.specs.declared.tree.Kind.TheVariants as kinds
use Rattle.protocol_lang.specs.Trees.{Named}
use Rattle.protocol_lang.specs.Thresholds.{waits_for_all_but}
use Rattle.protocol_lang.specs.declared.fault.ParseFault.TheVariants.{Unexpected}
use Rattle.room_spec.specs.Names.{is_name}
use Rattle.room_spec.specs.Rooms.{RoomSpec, with_inputs}
use Rattle.room_spec.specs.Blocks.{body_len, block_len, fuses_from, room_in, block_in, reduction_in, reduction_block_in}
use Rattle.room_spec.specs.Grammar.{line_end, block_text, reduction_text, IsHead, Begin, IsReason}
use Rattle.room_spec.specs.declared.fault.SpecFault.TheVariants.{Truncated, BadLine, BadName, BadProtocol, Inputs, TooWide, CrashLine, Repeated, TaskLine, Processes}
use Rattle.room_spec.specs.declared.version.Version.TheVariants.{One, Two}
use Rattle.room_spec.proofs.Fuses.{no_fuses}

abbrev one : List ℕ
one = codes "bgsim 1\nroom one\ninputs 5\nsimulators 1\nrounds 1\nturns 10\nprotocol\nfirst input;\nelse decide mine;\nend\n"

abbrev room_one : RoomSpec
room_one = record {
  version = One;
  name = codes "one";
  inputs = 5 ∷ [];
  own = [];
  simulators = 1;
  rounds = 1;
  turns = 10;
  task = None;
  fuses = [];
  protocol = record { first = Named names.Input; rules = []; last = record { kind = kinds.Decide; value = Named names.Mine } };
}

one_len : block_len one ≡ Some 101
unfolding body_len
one_len = refl

one_room : block_in one ≡ Ok (room_one, 101)
unfolding body_len room_in fuses_from reading run one_token next_token
one_room = refl

one_text : block_text room_one (codes "first input;\nelse decide mine;\n") ++ line_end ≡ one
unfolding digits
one_text = refl

-- bytes behind the block are left, and `end` may end with the input
with_more : block_in (one ++ codes "end\n") ≡ Ok (room_one, 101)
unfolding body_len room_in fuses_from reading run one_token next_token
with_more = refl

without_line_end : block_in (take 100 one) ≡ Ok (room_one, 100)
unfolding body_len room_in fuses_from reading run one_token next_token
without_line_end = refl

without_end : block_in (take 99 one) ≡ Err Truncated
unfolding body_len
without_end = refl

end_first : block_in (codes "end\n") ≡ Err (BadLine 1)
unfolding body_len room_in
end_first = refl

end_in_room : block_in (codes "bgsim 1\nroom one\ninputs 5\nsimulators 1\nend\n") ≡ Err (BadLine 5)
unfolding body_len room_in
end_in_room = refl

capital : block_in (codes "bgsim 1\nroom One\nend\n") ≡ Err BadName
unfolding body_len room_in
capital = refl

no_input : block_in (codes "bgsim 1\nroom one\ninputs\nend\n") ≡ Err Inputs
unfolding body_len room_in
no_input = refl

empty_input : block_in (codes "bgsim 1\nroom one\ninputs \nend\n") ≡ Err (BadLine 3)
unfolding body_len room_in
empty_input = refl

form_before_value : block_in (codes "bgsim 1\nroom one\ninputs 4294967296 05\nend\n") ≡ Err (BadLine 3)
unfolding body_len room_in
form_before_value = refl

wide_before_turns : block_in (codes "bgsim 1\nroom one\ninputs 1 2 3 4 5 6 7 8 9\nsimulators 2\nrounds 15\nturns 0\nend\n") ≡ Err TooWide
unfolding body_len room_in
wide_before_turns = refl

-- the fuses stand in the order of their lines
fuses_of_two : block_in (codes "bgsim 1\nroom one\ninputs 5\nsimulators 2\nrounds 1\nturns 10\ncrash 1 after 4294967295\ncrash 0 after 0\nprotocol\nfirst input;\nelse decide mine;\nend\n") ≡ Ok (record room_one { simulators = 2; fuses = (1, 4294967295) ∷ (0, 0) ∷ [] }, 142)
unfolding body_len room_in fuses_from reading run one_token next_token
fuses_of_two = refl

text_with_fuse : block_text (record room_one { fuses = (0, 3) ∷ [] }) (codes "first input;\nelse decide mine;\n") ++ line_end ≡ codes "bgsim 1\nroom one\ninputs 5\nsimulators 1\nrounds 1\nturns 10\ncrash 0 after 3\nprotocol\nfirst input;\nelse decide mine;\nend\n"
unfolding digits
text_with_fuse = refl

crash_of_no_simulator : block_in (codes "bgsim 1\nroom one\ninputs 5\nsimulators 1\nrounds 1\nturns 10\ncrash 1 after 3\nprotocol\nend\n") ≡ Err (CrashLine 7)
unfolding body_len room_in fuses_from
crash_of_no_simulator = refl

second_crash : block_in (codes "bgsim 1\nroom one\ninputs 5\nsimulators 1\nrounds 1\nturns 10\ncrash 0 after 3\ncrash 0 after 4\nprotocol\nend\n") ≡ Err (Repeated 8)
unfolding body_len room_in fuses_from
second_crash = refl

form_before_repeated : block_in (codes "bgsim 1\nroom one\ninputs 5\nsimulators 1\nrounds 1\nturns 10\ncrash 0 after 3\ncrash 0 after 4294967296\nprotocol\nend\n") ≡ Err (CrashLine 8)
unfolding body_len room_in fuses_from
form_before_repeated = refl

crash_alone : block_in (codes "bgsim 1\nroom one\ninputs 5\nsimulators 1\nrounds 1\nturns 10\ncrash 0 after 3\ncrash\nend\n") ≡ Err (BadLine 8)
unfolding body_len room_in fuses_from
crash_alone = refl

half_protocol : block_in (codes "bgsim 1\nroom one\ninputs 5\nsimulators 1\nrounds 1\nturns 10\nprotocol\nfirst input;\nend\n") ≡ Err (BadProtocol (Unexpected 13))
unfolding body_len room_in fuses_from reading run one_token next_token
half_protocol = refl

-- ---- version 2

abbrev vote : RoomSpec
vote = record { version = Two; name = codes "vote"; inputs = 5 ∷ 3 ∷ 9 ∷ []; own = []; simulators = 2; rounds = 3; turns = 100; task = Some 1; fuses = []; protocol = waits_for_all_but 1 }

vote_room : block_in (codes "bgsim 2\nroom vote\ninputs 5 3 9\nsimulators 2\nrounds 3\nturns 100\ntask agree 1\nprotocol\nfirst input;\nwhen count >= n - 1 decide min;\nelse write mine;\nend\n") ≡ Ok (vote, 151)
unfolding body_len room_in fuses_from reading run one_token next_token
vote_room = refl

-- the crash lines stand behind the task
vote_with_fuse : block_in (codes "bgsim 2\nroom vote\ninputs 5 3 9\nsimulators 2\nrounds 3\nturns 100\ntask agree 16\ncrash 0 after 7\ncrash 0 after 8\nend\n") ≡ Err (Repeated 9)
unfolding body_len room_in fuses_from
vote_with_fuse = refl

task_behind_fuse : block_in (codes "bgsim 2\nroom vote\ninputs 5 3 9\nsimulators 2\nrounds 3\nturns 100\ncrash 0 after 7\ntask agree 1\nend\n") ≡ Err (BadLine 8)
unfolding body_len room_in fuses_from
task_behind_fuse = refl

second_task : block_in (codes "bgsim 2\nroom vote\ninputs 5 3 9\nsimulators 2\nrounds 3\nturns 100\ntask agree 1\ntask agree 1\nend\n") ≡ Err (BadLine 8)
unfolding body_len room_in fuses_from
second_task = refl

-- a task of version 2 in a block of version 1
task_of_version_1 : block_in (codes "bgsim 1\nroom vote\ninputs 5 3 9\nsimulators 2\nrounds 3\nturns 100\ntask agree 1\nend\n") ≡ Err (BadLine 7)
unfolding body_len room_in fuses_from
task_of_version_1 = refl

abbrev task_block : List ℕ → List ℕ
task_block line = codes "bgsim 2\nroom vote\ninputs 5 3 9\nsimulators 2\nrounds 3\nturns 100\n" ++ (line ++ codes "\nend\n")

bad_tasks : map (λ line. block_in (task_block line)) (codes "task agree 0" ∷ codes "task agree 17" ∷ codes "task agree 01" ∷ codes "task agre 1" ∷ codes "task agree" ∷ codes "task agree 1 " ∷ codes "task  agree 1" ∷ codes "task " ∷ codes "task agree 99999999999999999999" ∷ [])
    ≡ Err (TaskLine 7) ∷ Err (TaskLine 7) ∷ Err (TaskLine 7) ∷ Err (TaskLine 7) ∷ Err (TaskLine 7) ∷ Err (TaskLine 7) ∷ Err (TaskLine 7) ∷ Err (TaskLine 7) ∷ Err (TaskLine 7) ∷ []
unfolding body_len room_in
bad_tasks = refl

task_alone : block_in (task_block (codes "task")) ≡ Err (BadLine 7)
unfolding body_len room_in fuses_from
task_alone = refl

version_3 : block_in (codes "bgsim 3\nend\n") ≡ Err (BadLine 1)
unfolding body_len room_in
version_3 = refl

-- 16 bits more than four words hold
wider_than_four_words : block_in (codes "bgsim 2\nroom big\ninputs 1 2 3 4 5 6 7 8 9\nsimulators 8\nrounds 15\nturns 100\nend\n") ≡ Err TooWide
unfolding body_len room_in
wider_than_four_words = refl

two_words : block_in (codes "bgsim 2\nroom big\ninputs 1 2 3 4 5 6 7 8 9\nsimulators 2\nrounds 15\nturns 100\nprotocol\nfirst input;\nelse decide min;\nend\n") ≡ Ok (
  record {
    version = Two;
    name = codes "big";
    inputs = 1 ∷ 2 ∷ 3 ∷ 4 ∷ 5 ∷ 6 ∷ 7 ∷ 8 ∷ 9 ∷ [];
    own = [];
    simulators = 2;
    rounds = 15;
    turns = 100;
    task = None;
    fuses = [];
    protocol = record { first = Named names.Input; rules = []; last = record { kind = kinds.Decide; value = Named names.Min } };
  },
  118,
)
unfolding body_len room_in fuses_from reading run one_token next_token
two_words = refl

vote_text : block_text vote (codes "first input;\nelse decide mine;\n") ++ line_end ≡ codes "bgsim 2\nroom vote\ninputs 5 3 9\nsimulators 2\nrounds 3\nturns 100\ntask agree 1\nprotocol\nfirst input;\nelse decide mine;\nend\n"
unfolding digits
vote_text = refl

-- ---- why a line is the first fault

-- 16 inputs and 8 simulators begin a head, and no rounds can follow
abbrev sixteen : RoomSpec
sixteen = record room_one { inputs = 1 ∷ 2 ∷ 3 ∷ 4 ∷ 5 ∷ 6 ∷ 7 ∷ 8 ∷ 9 ∷ 1 ∷ 2 ∷ 3 ∷ 4 ∷ 5 ∷ 6 ∷ 7 ∷ []; simulators = 8 }

abbrev sixteen_lines : List (List ℕ)
sixteen_lines = codes "bgsim 1" ∷ codes "room one" ∷ codes "inputs 1 2 3 4 5 6 7 8 9 1 2 3 4 5 6 7" ∷ codes "simulators 8" ∷ []

sixteen_head : IsHead sixteen
sixteen_head = record { name = refl; inputs = refl; simulators = (omega arith, omega arith); rounds = (omega arith, omega arith); turns = (omega arith, omega arith); task = tt; fuses = no_fuses 8; values = refl; own = tt }

sixteen_begin : Begin false sixteen_lines
unfolding digits
sixteen_begin = record { room = sixteen; head = sixteen_head; kind = refl; fits = λ five. absurd (omega (arith, five)); more = codes "rounds 1" ∷ codes "turns 10" ∷ codes "protocol" ∷ []; parts = refl }

sixteen_wide : IsReason false TooWide sixteen sixteen_lines (codes "rounds 1")
unfolding digits
sixteen_wide = (1, refl, omega arith, omega arith, ltb-true 64 128 refl)

end_has_no_form : IsReason false (BadLine 5) sixteen sixteen_lines (codes "end")
end_has_no_form = λ form. absurd (let never = form.1.1 in cc)

second_of_one : IsReason false (Repeated 8) (record room_one { fuses = (0, 3) ∷ [] }) (codes "bgsim 1" ∷ codes "room one" ∷ codes "inputs 5" ∷ codes "simulators 1" ∷ codes "rounds 1" ∷ codes "turns 10" ∷ codes "crash 0 after 3" ∷ []) (codes "crash 0 after 4")
unfolding digits
second_of_one = ((0, 4), (refl, omega arith, refl), (codes "bgsim 1" ∷ codes "room one" ∷ codes "inputs 5" ∷ codes "simulators 1" ∷ codes "rounds 1" ∷ codes "turns 10" ∷ [], 3, [], refl))

no_name_with_a_line_end : is_name (codes "a\n") ≡ false
no_name_with_a_line_end = refl

-- ---- reductions

abbrev shared : List ℕ
shared = codes "reduction 1\nroom vote\ninputs 7 3\nprocesses 3\nrounds 2\nturns 100\ntask agree 2\nprotocol\nfirst input;\nwhen count >= n - 1 decide min;\nelse write mine;\nend\n"

abbrev two_of_three : RoomSpec
two_of_three = record { version = Two; name = codes "vote"; inputs = 7 ∷ 7 ∷ 7 ∷ []; own = 7 ∷ 3 ∷ []; simulators = 2; rounds = 2; turns = 100; task = Some 2; fuses = []; protocol = waits_for_all_but 1 }

shared_room : reduction_block_in shared ≡ Ok (two_of_three, 152)
unfolding body_len reduction_in fuses_from reading run one_token next_token
shared_room = refl

shared_text : reduction_text two_of_three (codes "first input;\nwhen count >= n - 1 decide min;\nelse write mine;\n") ++ line_end ≡ shared
unfolding digits
shared_text = refl

-- the run of three processes whose inputs are the simulators'
its_run : with_inputs two_of_three (7 ∷ 3 ∷ 7 ∷ []) ≡ record vote { inputs = 7 ∷ 3 ∷ 7 ∷ []; rounds = 2; task = Some 2 }
its_run = refl

-- neither kind of block is read as the other
not_ordinary : block_in shared ≡ Err (BadLine 1)
unfolding body_len room_in
not_ordinary = refl

not_a_reduction : reduction_block_in one ≡ Err (BadLine 1)
unfolding body_len reduction_in
not_a_reduction = refl

no_process : reduction_block_in (codes "reduction 1\nroom one\ninputs 5\nprocesses 0\nend\n") ≡ Err Processes
unfolding body_len reduction_in
no_process = refl

counts_simulators : reduction_block_in (codes "reduction 1\nroom one\ninputs 5\nsimulators 1\nend\n") ≡ Err (BadLine 4)
unfolding body_len reduction_in
counts_simulators = refl

nine_simulators : reduction_block_in (codes "reduction 1\nroom one\ninputs 1 2 3 4 5 6 7 8 9\nend\n") ≡ Err Inputs
unfolding body_len reduction_in
nine_simulators = refl

wide_reduction : reduction_block_in (codes "reduction 1\nroom one\ninputs 1 2 3 4 5 6 7 8\nprocesses 9\nrounds 15\nend\n") ≡ Err TooWide
unfolding body_len reduction_in
wide_reduction = refl

-- a crash of a simulator that there isn't
third_crash : reduction_block_in (codes "reduction 1\nroom one\ninputs 5 6\nprocesses 3\nrounds 1\nturns 10\ncrash 2 after 3\nprotocol\nend\n") ≡ Err (CrashLine 7)
unfolding body_len reduction_in fuses_from
third_crash = refl

-- why a line of a reduction is the first fault
abbrev three_lines : List (List ℕ)
three_lines = codes "reduction 1" ∷ codes "room vote" ∷ codes "inputs 7 3" ∷ []

shared_head : IsHead two_of_three
shared_head = record { name = refl; inputs = refl; simulators = (omega arith, omega arith); rounds = (omega arith, omega arith); turns = (omega arith, omega arith); task = (omega arith, omega arith); fuses = no_fuses 2; values = refl; own = (refl, refl, refl, refl) }

shared_begin : Begin true three_lines
unfolding digits
shared_begin = record { room = two_of_three; head = shared_head; kind = refl; fits = λ five. absurd (omega (arith, five)); more = codes "processes 3" ∷ codes "rounds 2" ∷ codes "turns 100" ∷ codes "task agree 2" ∷ codes "protocol" ∷ []; parts = refl }

none_of_three : IsReason true Processes two_of_three three_lines (codes "processes 0")
unfolding digits
none_of_three = (0, (codes "0", refl, refl), inl (omega arith))

simulators_have_no_form : IsReason true (BadLine 4) two_of_three three_lines (codes "simulators 2")
simulators_have_no_form = λ form. absurd (let never : 115 ≡ 112 = ap (λ (line : List ℕ). get_or line 0 0) form.1.1 in omega (arith, never))

nine_are_too_many : IsReason true Inputs two_of_three (codes "reduction 1" ∷ codes "room vote" ∷ []) (codes "inputs 1 2 3 4 5 6 7 8 9")
unfolding digits
nine_are_too_many = (1 ∷ 2 ∷ 3 ∷ 4 ∷ 5 ∷ 6 ∷ 7 ∷ 8 ∷ 9 ∷ [], (codes "1" ∷ codes "2" ∷ codes "3" ∷ codes "4" ∷ codes "5" ∷ codes "6" ∷ codes "7" ∷ codes "8" ∷ codes "9" ∷ [], refl, refl), refl)
