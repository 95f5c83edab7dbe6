-- What contracts see of a stream, and the line and the column of a position in its text.
pub use Rattle.irtext_stream.specs.Stream.{StreamView, cut, IsAt, first_of, advanced_by, advanced, after_failure, after_taken}
