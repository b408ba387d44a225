pub mod PlainAnswers
pub mod SentItems
pub mod SentTexts
