pub mod CallerLemmas
mod FieldLemmas
mod LevelLemmas
mod PackingLemmas
mod Worked
