pub mod KeptTexts
pub mod OneFault
pub mod OneJournal
pub mod ReadBack
pub mod ReadJournals
