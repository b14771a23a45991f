mod OwnInputs
mod Alike
mod Answering
mod Breaking
pub mod CallerLemmas
mod Coming
mod Following
mod JsonNumbers
mod Keeping
mod KeptTexts
mod Leading
mod JudgedInputs
mod RoomByRoom
mod RoomTexts
mod ScriptLines
mod Taking
mod WholeBlocks
