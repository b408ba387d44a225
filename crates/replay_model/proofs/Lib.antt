pub mod FewLines
pub mod Growing
pub mod Progresses
pub mod ScriptLines
pub mod Transcripts
