-- The lemmas that proofs of the crates above may name: this crate promises them, as it does the clauses of
-- its functions. All others are its own.
pub use Rattle.safe_agreement.proofs.Resolving.{is_resolved_by, has_level_at, least_two_found, least_two_is, no_level_at, no_level_from, none_within, resolved_to}
pub use Rattle.safe_agreement.proofs.Resolving.{resolves, resolves_least}
pub use Rattle.safe_agreement.proofs.Replays.{resolved_is_fixed, same_least_two, same_of_same, settles}
pub use Rattle.safe_agreement.proofs.Steps.{beside_before, keeps_twos, same_beside, same_fixed, stays_beside, stays_fixed}
