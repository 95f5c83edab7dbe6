use Rattle.std.proofs.Common.{true≢false}
use Rattle.irtext_stream.proofs.Encoded.{ascii_begins}
use Rattle.irtext_stream.proofs.index.TextIndex.new.Goals as goal

pub returns-then-is_ascii : goal.returns-then-is_ascii
returns-then-is_ascii c = record {
  lines = c.in_ok-starts.ensures;
  single = λ e. ascii_begins c.args.text.now (rw c.as_bytes-bytes.ensures.value at c.is_ascii.ensures c.if-is_ascii.true);
  blocks = λ e. absurd (true≢false e);
  strides = rw c.as_bytes-bytes.ensures.value at (rw c.deref.ensures.value at c.in_ok-lines.ensures);
}
