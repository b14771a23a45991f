-- How many values a certified room decides at most, by the threshold of its protocol.
use Rattle.std.proofs.Common.{◌≡◌, ◌↔◌, ℕ, ◌+◌, ◌<◌, ◌≤◌, Option, Some, None, refl, sym, ap, arith}
use Rattle.protocol_lang.specs.Thresholds.{waits_for_all_but}
use Rattle.room_spec.specs.Rooms.{IsCertified, RoomSpec, processes}

-- what a threshold says of a protocol
abbrev pub IsThreshold : RoomSpec → Option ℕ → Type 0
IsThreshold spec missed = (f : ℕ) → (missed ≡ Some f) ↔ (spec.protocol ≡ waits_for_all_but f)

abbrev pub IsMost : RoomSpec → Option ℕ → Type 0
IsMost spec answer = (most : ℕ) → (answer ≡ Some most) ↔ ((f : ℕ) × (most ≡ f + 1) × IsCertified spec f)

same_some : (x y : ℕ) → ◌≡◌ {A = Option ℕ} (Some x) (Some y) → x ≡ y
same_some x y is = cc

pub by_threshold : (spec : RoomSpec) (f : ℕ) → IsThreshold spec (Some f) → f < processes spec → IsCertified spec f
by_threshold spec f is fewer = record { protocol = (is f).0 refl; fewer = fewer }

pub none_certified : (spec : RoomSpec) → IsThreshold spec None → IsMost spec None
none_certified spec is most = (
  (λ e. absurd cc),
  (λ one. let e = (is one.0).1 one.2.protocol in absurd cc),
)

pub some_certified : (spec : RoomSpec) (missed : ℕ) → IsThreshold spec (Some missed) → missed < processes spec → IsMost spec (Some (missed + 1))
some_certified spec missed is fewer most = (
  (λ e. (missed, sym (same_some (missed + 1) most e), by_threshold spec missed is fewer)),
  (λ one. let same = same_some missed one.0 ((is one.0).1 one.2.protocol) in let e = one.1 in ap Some (omega (arith, same, e))),
)

pub too_many : (spec : RoomSpec) (missed : ℕ) → IsThreshold spec (Some missed) → processes spec ≤ missed → IsMost spec None
too_many spec missed is many most = (
  (λ e. absurd cc),
  (λ one. let same = same_some missed one.0 ((is one.0).1 one.2.protocol) in let fewer = one.2.fewer in absurd (omega (arith, same, fewer, many))),
)
