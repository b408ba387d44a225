pub mod BodyLemmas
pub mod NoFloats
pub mod PlainAnswers
pub mod SentItems
pub mod SentTexts
