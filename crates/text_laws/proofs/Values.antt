pub mod Alls
pub mod Weaker
pub mod AnswerTexts
pub mod RequestTexts
