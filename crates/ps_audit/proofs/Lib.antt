pub mod AddedTexts
pub mod Found
pub mod NumberedLines
pub mod PrintedLines
pub mod Replies
pub mod SameBytes
