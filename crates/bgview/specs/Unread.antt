-- What is said of a file that was not read.
use Rattle.std.specs.Prelude.{◌≡◌, ℕ, Bool, true, false, List, Option, None, ◌++◌, codes}
use Rattle.std.specs.Option.{option_map}
use Rattle.std.specs.declared.io.ErrorKind.{ErrorKind}
use Rattle.std.specs.declared.io.ErrorKind.TheVariants.{NotFound, PermissionDenied, IsADirectory, NotADirectory}
use Rattle.bgview.specs.declared.unread.Unread.{Unread}

abbrev pub why_words : ErrorKind → List ℕ
why_words NotFound = codes "there is no such file\n"
why_words PermissionDenied = codes "it may not be read: permission denied\n"
why_words IsADirectory = codes "it is a folder\n"
why_words NotADirectory = codes "a part of its path is no folder\n"
why_words _ = codes "it can't be read\n"

-- its name, and why
abbrev pub unread_note : List ℕ → ErrorKind → List ℕ
unread_note path kind = (codes "    " ++ path) ++ (codes ": " ++ why_words kind)

abbrev pub path_of : Option Unread → Option (List ℕ)
path_of unread = option_map (λ (file : Unread). file.path.now) unread

-- if reading failed, it is known which file was not read: that of this path
abbrev pub IsUnreadIf : Bool → Option (List ℕ) → Option Unread → Type 0
IsUnreadIf true path unread = path_of unread ≡ path
IsUnreadIf false path unread = unread ≡ None
