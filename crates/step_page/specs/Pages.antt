-- A page that steps through the rooms of one or two files.
use Rattle.std.specs.Prelude.{ℕ, ◌==◌, List, [], ◌∷◌, ◌++◌, codes, if◌then◌else◌}
use Rattle.std.specs.List.{flat_map}
use Rattle.step_page.specs.declared.page.FileKind.{FileKind}
use Rattle.step_page.specs.declared.page.FileKind.TheVariants.{Script, Transcript}
use Rattle.step_page.specs.declared.parts.TheConstants.{BEGIN, END}

-- a byte in the text of an element
abbrev pub escaped_byte : ℕ → List ℕ
escaped_byte byte =
    if byte == 38 then codes "&amp;"
    else if byte == 60 then codes "&lt;"
    else if byte == 62 then codes "&gt;"
    else if byte == 13 then codes "&#13;"
    else byte ∷ []

abbrev pub escaped : List ℕ → List ℕ
escaped text = flat_map escaped_byte text

-- what begins the element of a file
abbrev pub tag_of : FileKind → List ℕ
tag_of Script = codes "<div class=\"script\" hidden>"
tag_of Transcript = codes "<div class=\"transcript\" hidden>"

-- an element that begins with a tag, and has a text
abbrev pub element_text : List ℕ → List ℕ → List ℕ
element_text tag text = tag ++ (escaped text ++ codes "</div>\n")

-- a file and the answer to it, each as the text of an element of its own
abbrev pub file_text : FileKind → List ℕ → List ℕ → List ℕ
file_text kind file answer = element_text (tag_of kind) file ++ element_text (codes "<div class=\"answer\" hidden>") answer

-- the outcomes that are open after each command of the script before it
abbrev pub open_text : List ℕ → List ℕ
open_text answer = element_text (codes "<div class=\"open\" hidden>") answer

-- a page that holds these files
unfoldable pub page_text : List ℕ → List ℕ
page_text files = BEGIN.now ++ (files ++ END.now)
