mod Hearing
mod Messages
