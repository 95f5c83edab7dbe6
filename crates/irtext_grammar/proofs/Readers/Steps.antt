-- How far a parser of several required parts has come.
pub use Rattle.irtext_tokens.proofs.Spelling.{prefixed-prefixed}
pub use Rattle.irtext_tokens.proofs.Steps.{mapped_is_followed, mapped_followed, mapped_mapped, Lens, lens, Passed, starts, turned, more, first, spaced, last, refuses, refuses_seen, more_seen, last_seen, seen_alone, ends, begins_with, begun_by, begins_refused, last_spaced, ran_out, took}
