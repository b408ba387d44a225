-- The call that is out for a request, or the step since which one is due: a part of the mark that it is found by.
pub use Rattle.ask_tables.specs.Marks.{stage_number}
