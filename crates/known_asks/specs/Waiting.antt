-- Reads that wait at their key, for those who change them.
pub use Rattle.ask_tables.specs.Waiting.{waits_at_key}
