-- The names of rooms.
use Rattle.std.specs.Prelude.{ℕ, Bool, ◌&&◌, ◌||◌, List, length, nat_le, ◌==◌}
use Rattle.std.specs.List.{list_all}
use Rattle.room_spec.specs.declared.name.TheConstants.{MAX_NAME}

abbrev pub is_name_byte : ℕ → Bool
is_name_byte byte = nat_le 97 byte && nat_le byte 122 || nat_le 48 byte && nat_le byte 57 || byte == 95 || byte == 45

-- 1 to 32 letters from a to z, digits, underscores and dashes
abbrev pub is_name : List ℕ → Bool
is_name bytes = nat_le 1 (length bytes) && nat_le (length bytes) MAX_NAME && list_all is_name_byte bytes
