-- For callers: a stream as its own view.
use Rattle.irtext_base.specs.Stream.{StreamView}

-- a stream is its own view
abbrev pub itself : StreamView → StreamView
itself v = v

-- the second stream in place of the first
abbrev pub replaced : StreamView → StreamView → StreamView
replaced v w = w
