-- Words that are plainly a mode and a file are taken.
use Rattle.std.proofs.Common.{◌≡◌, inl, inr, ℕ, false, List, [], ◌∷◌, Result, Ok, Err, refl, ap, subst, ◌∙◌}
use Rattle.std.specs.Prelude.{IfErr}
use Rattle.clap.specs.Kinds.{FailsBy, HasKind, Kinds}
use Rattle.clap.specs.Values.{kind_of}
use Rattle.clap.specs.Faults.{fault_of}
use Rattle.clap.specs.declared.error.Error.{Error}
use Rattle.clap.specs.declared.error.kind.ErrorKind.TheVariants.{OutOfMemory}
use Rattle.clap.proofs.OnLiterals.{clap_on_literals}
use Rattle.bgsim_command_line.specs.CommandLine.{IsPlainly, begins_with_dash, bgsim_app, word_of, words_fault}
use Rattle.bgsim_command_line.specs.declared.words.Mode.{Mode}
use Rattle.bgsim_command_line.specs.declared.words.Mode.TheVariants.{Check, Play, Run}

word_taken : (mode : Mode) → fault_of bgsim_app (word_of mode ∷ []) ≡ []
unfolding clap_on_literals
word_taken Check = refl
word_taken Play = refl
word_taken Run = refl

file_taken : (mode : Mode) (file : List ℕ) → begins_with_dash file ≡ false → fault_of bgsim_app (word_of mode ∷ file ∷ []) ≡ []
unfolding clap_on_literals
file_taken Check [] plain = refl
file_taken Play [] plain = refl
file_taken Run [] plain = refl
file_taken Check (byte ∷ bytes) plain = rw plain (rw plain refl)
file_taken Play (byte ∷ bytes) plain = rw plain (rw plain refl)
file_taken Run (byte ∷ bytes) plain = rw plain (rw plain refl)

plainly_taken : (words : List (List ℕ)) (mode : Mode) → IsPlainly words mode → words_fault words ≡ []
plainly_taken [] mode plain = absurd plain
plainly_taken (word ∷ []) mode plain = ap (λ (w : List ℕ). fault_of bgsim_app (w ∷ [])) plain ∙ word_taken mode
plainly_taken (word ∷ file ∷ []) mode plain = ap (λ (w : List ℕ). fault_of bgsim_app (w ∷ file ∷ [])) plain.0 ∙ file_taken mode file plain.1
plainly_taken (word ∷ file ∷ other ∷ others) mode plain = absurd plain

no_other_kind : (error : Error) → HasKind [] error → kind_of error ≡ OutOfMemory
no_other_kind error (inl memory) = memory
no_other_kind error (inr other) = absurd other

-- where the words may have no fault, an error is want of memory
pub only_memory : {T : Type 0} (words : List (List ℕ)) (mode : Mode) (read : Result T Error) → FailsBy (words_fault words) read → IsPlainly words mode → IfErr read (λ error. kind_of error ≡ OutOfMemory)
only_memory words mode (Ok value) kinds plain = tt
only_memory words mode (Err error) kinds plain = no_other_kind error (subst (λ (ks : Kinds). HasKind ks error) (plainly_taken words mode plain) kinds)
