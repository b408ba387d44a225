mod Counting
mod Edits
mod Starts
mod Quiet
