-- More lemmas that proofs of the crates above may name. They are in a file of their own since they need few others:
-- a proof that imports `CallerLemmas` loads most lemmas of this crate and of `simulator`.
pub use Rattle.room_core.proofs.settling.SpecKept.{same_spec, same_spec_steps}
