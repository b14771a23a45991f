-- Values of JSON that are read back from their text: texts are UTF-8, numbers are unsigned, and the members of an object are in order.
use Rattle.std.specs.Prelude.{◌≡◌, ⊤, ◌<◌, ◌≤◌, ◌^◌, IsUtf8}
use Rattle.serde_json.specs.Data.{Num, unsigned, negative, float, Data, null, boolean, number, string, array, object, Items, no_items, item, Members, no_members, member, put, depth}
use Rattle.serde_json.specs.Read.{max_depth}

abbrev pub IsPlainNumber : Num → Type 0
IsPlainNumber (unsigned n) = n < 2 ^ 64
IsPlainNumber (negative z) = ⊥
IsPlainNumber (float x) = ⊥

-- the members go in one after another, each at the place of its key
abbrev pub inserted : Members → Members → Members
inserted no_members found = found
inserted (member k it ms) found = inserted ms (put k it found)

abbrev mutual
  pub IsPlain : Data → Type 0
  IsPlain null = ⊤
  IsPlain (boolean b) = ⊤
  IsPlain (number n) = IsPlainNumber n
  IsPlain (string s) = IsUtf8 s
  IsPlain (array ds) = ArePlain ds
  IsPlain (object ms) = HasPlain ms × (inserted ms no_members ≡ ms)

  pub ArePlain : Items → Type 0
  ArePlain no_items = ⊤
  ArePlain (item it ds) = IsPlain it × ArePlain ds

  pub HasPlain : Members → Type 0
  HasPlain no_members = ⊤
  HasPlain (member k it ms) = IsUtf8 k × IsPlain it × HasPlain ms

-- and it isn't nested too deep
abbrev pub IsReadable : Data → Type 0
IsReadable it = IsPlain it × (depth it ≤ max_depth)
