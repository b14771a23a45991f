-- How answers are written.
use Rattle.std.specs.Prelude.{Bool, true, false, if◌then◌else◌}
use Rattle.view_outcomes.specs.declared.search.Form.{Form}
use Rattle.view_outcomes.specs.declared.search.Form.TheVariants.{Text, Json}

-- by whether JSON is asked for
abbrev pub form_if : Bool → Form
form_if json = if json then Json else Text

abbrev pub is_text : Form → Bool
is_text Text = true
is_text Json = false

-- whether the run of an outcome that is shown alone is left out: in brief JSON; as text nothing would be left
abbrev pub is_brief_alone : Form → Bool → Bool
is_brief_alone Text brief = false
is_brief_alone Json brief = brief
