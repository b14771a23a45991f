-- The exit status of a program whose words ask for nothing.
use Rattle.std.specs.Prelude.{ℕ, Bool, if◌then◌else◌}
use Rattle.std.specs.declared.io.ErrorKind.{ErrorKind as WordsFault}
use Rattle.std.specs.declared.io.ErrorKind.TheVariants as words
use Rattle.clap.specs.declared.error.kind.ErrorKind.{ErrorKind}
use Rattle.clap.specs.declared.error.kind.ErrorKind.TheVariants.{DisplayHelp, DisplayVersion, OutOfMemory}

-- where the words couldn't be taken over: one is no text, unless an allocation failed
abbrev pub unread_status : WordsFault → ℕ
unread_status words.OutOfMemory = 3
unread_status _ = 2

-- where the words gave no line: help and the version are no mistake, if their text was written
abbrev pub words_status : ErrorKind → Bool → ℕ
words_status DisplayHelp is_printed = if is_printed then 0 else 2
words_status DisplayVersion is_printed = if is_printed then 0 else 2
words_status OutOfMemory is_printed = 3
words_status _ is_printed = 2
