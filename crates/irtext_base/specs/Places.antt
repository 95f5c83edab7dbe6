-- Positions in a stream.
pub use Rattle.irtext_stream.specs.Places.{IsPlaceAfter, IsPlaceOf}
