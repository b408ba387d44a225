pub mod BytesWords
pub mod Cuts
pub mod FlagWords
pub mod Numbers
