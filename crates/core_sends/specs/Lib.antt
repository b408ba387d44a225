pub mod Sends
pub mod ToSend
