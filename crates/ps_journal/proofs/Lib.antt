pub mod HeadTexts
pub mod InOrder
pub mod KnownLines
pub mod NameLines
pub mod ReplyLines
