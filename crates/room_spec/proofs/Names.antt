-- A name is text.
use Rattle.std.proofs.Common.{◌≡◌, ℕ, ◌<◌, Bool, true, false, ◌&&◌, List, [], ◌∷◌, zero, suc, get_or, refl, arith}
use Rattle.std.specs.List.{list_all}
use Rattle.std.specs.Str.{IsUtf8}
use Rattle.std.proofs.lemmas.Str.{IsUtf8-from_ascii}
use Rattle.std.proofs.lemmas.Bool.Decides.{nat_tests}
use Rattle.room_spec.specs.Names.{is_name, is_name_byte}

byte_below : (byte : ℕ) → is_name_byte byte ≡ true → byte < 128
byte_below byte h = grind (arith, nat_tests)

both : (a b : Bool) → (a && b) ≡ true → (a ≡ true) × (b ≡ true)
both true b h = (refl, h)
both false b h = absurd cc

all_below : (bytes : List ℕ) → list_all is_name_byte bytes ≡ true → (i : ℕ) → get_or bytes i 0 < 128
all_below [] h i = omega arith
all_below (byte ∷ bytes) h zero = byte_below byte (both _ _ h).0
all_below (byte ∷ bytes) h (suc i) = all_below bytes (both _ _ h).1 i

pub IsUtf8-from_name : (bytes : List ℕ) → is_name bytes ≡ true → IsUtf8 bytes
IsUtf8-from_name bytes h = IsUtf8-from_ascii bytes (all_below bytes (grind arith))
