pub mod Following
pub mod Play
pub mod ReplyTexts
pub mod Script
