-- Lines of JSON.
use Rattle.std.specs.Prelude.{ℕ, List, ◌++◌, codes}
use Rattle.serde_json.specs.Data.{Data}
use Rattle.serde_json.specs.Written.{compact_text}

-- a value on a line of its own
abbrev pub json_line : Data → List ℕ
json_line it = compact_text it ++ codes "\n"
