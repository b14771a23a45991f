-- Bytes that are a text, and bytes that are none.
use Rattle.std.proofs.Common.{◌≡◌, Bool, true, false, cond, List, ℕ, refl, ap}
use Rattle.std.specs.Str.{IsUtf8, is_utf8}
use Rattle.std.proofs.lemmas.Str.{IsUtf8-from_is_utf8, is_utf8-from_IsUtf8}
use Rattle.serde_json.specs.Data.{null, string}
use Rattle.json_lines.specs.Values.{text_data}

pub a_text : (bytes : List ℕ) → IsUtf8 bytes → text_data bytes ≡ string bytes
a_text bytes is = ap (λ (b : Bool). cond b (string bytes) null) (is_utf8-from_IsUtf8 bytes is)

pub no_text : (bytes : List ℕ) → (IsUtf8 bytes → ⊥) → text_data bytes ≡ null
no_text bytes not = by (is_utf8 bytes) refl
  where
    by : (b : Bool) → is_utf8 bytes ≡ b → cond b (string bytes) null ≡ null
    by true is = absurd (not (IsUtf8-from_is_utf8 bytes is))
    by false is = refl
