-- The definitions at worked values.
use Rattle.std.proofs.Common.{◌≡◌, [], ◌∷◌, Some, None, refl, codes}
use Rattle.clap.specs.declared.error.kind.ErrorKind.TheVariants.{InvalidSubcommand, MissingSubcommand, UnknownArgument, ValueValidation}
use Rattle.clap.proofs.OnLiterals.{clap_on_literals}
use Rattle.bgsim_command_line.specs.CommandLine.{file_named, file_words, words_fault}
use Rattle.bgsim_command_line.specs.declared.words.Mode.TheVariants.{Check, Run}

pub standard_input : file_named [] ≡ None
standard_input = refl

pub a_file : file_named (codes "rooms.txt" ∷ []) ≡ Some (codes "rooms.txt")
a_file = refl

pub behind_dashes : file_named (codes "--" ∷ codes "--rooms" ∷ []) ≡ Some (codes "--rooms")
behind_dashes = refl

pub behind_workers : file_named (file_words Run (codes "--workers" ∷ codes "4" ∷ codes "rooms.txt" ∷ [])) ≡ Some (codes "rooms.txt")
behind_workers = refl

pub behind_joined_workers : file_named (file_words Run (codes "--workers=4" ∷ codes "rooms.txt" ∷ [])) ≡ Some (codes "rooms.txt")
behind_joined_workers = refl

pub before_workers : file_named (file_words Run (codes "rooms.txt" ∷ codes "--workers" ∷ codes "4" ∷ [])) ≡ Some (codes "rooms.txt")
before_workers = refl

pub behind_workers_and_dashes : file_named (file_words Run (codes "--workers=4" ∷ codes "--" ∷ codes "--workers" ∷ [])) ≡ Some (codes "--workers")
behind_workers_and_dashes = refl

pub workers_alone : file_named (file_words Run (codes "--workers" ∷ codes "4" ∷ [])) ≡ None
workers_alone = refl

pub no_workers_of_check : file_words Check (codes "--workers" ∷ []) ≡ codes "--workers" ∷ []
no_workers_of_check = refl

pub check_taken : words_fault (codes "check" ∷ []) ≡ []
unfolding clap_on_literals
check_taken = refl

pub play_taken : words_fault (codes "play" ∷ []) ≡ []
unfolding clap_on_literals
play_taken = refl

pub file_taken : words_fault (codes "check" ∷ codes "rooms.txt" ∷ []) ≡ []
unfolding clap_on_literals
file_taken = refl

pub script_taken : words_fault (codes "play" ∷ codes "script.txt" ∷ []) ≡ []
unfolding clap_on_literals
script_taken = refl

pub dashes_taken : words_fault (codes "check" ∷ codes "--" ∷ codes "--rooms" ∷ []) ≡ []
unfolding clap_on_literals
dashes_taken = refl

pub second_file_refused : words_fault (codes "check" ∷ codes "a" ∷ codes "b" ∷ []) ≡ UnknownArgument ∷ []
unfolding clap_on_literals
second_file_refused = refl

pub second_script_refused : words_fault (codes "play" ∷ codes "a" ∷ codes "b" ∷ []) ≡ UnknownArgument ∷ []
unfolding clap_on_literals
second_script_refused = refl

pub other_word_refused : words_fault (codes "Play" ∷ []) ≡ UnknownArgument ∷ InvalidSubcommand ∷ []
unfolding clap_on_literals
other_word_refused = refl

pub dashes_alone_refused : words_fault (codes "--" ∷ []) ≡ MissingSubcommand ∷ []
unfolding clap_on_literals
dashes_alone_refused = refl

pub run_taken : words_fault (codes "run" ∷ []) ≡ []
unfolding clap_on_literals
run_taken = refl

pub workers_taken : words_fault (codes "run" ∷ codes "--workers" ∷ codes "3" ∷ codes "rooms.txt" ∷ []) ≡ []
unfolding clap_on_literals
workers_taken = refl

pub no_workers_refused : words_fault (codes "run" ∷ codes "--workers" ∷ codes "0" ∷ []) ≡ ValueValidation ∷ []
unfolding clap_on_literals
no_workers_refused = refl

pub seventeen_workers_refused : words_fault (codes "run" ∷ codes "--workers" ∷ codes "17" ∷ []) ≡ ValueValidation ∷ []
unfolding clap_on_literals
seventeen_workers_refused = refl

pub workers_of_check_refused : words_fault (codes "check" ∷ codes "--workers" ∷ codes "2" ∷ []) ≡ UnknownArgument ∷ []
unfolding clap_on_literals
workers_of_check_refused = refl
