-- For callers: what errors print as, in bytes, each with its location in front if it is known.
use Rattle.std.specs.Prelude.{List, ℕ, [], ◌++◌, Option, Some, None, codes}
use Rattle.std.specs.Option.{option_map}
use Rattle.std.specs.Str.{encode_utf8_all}
use Rattle.irtext_base.specs.Text.{Text}
use Rattle.irtext_base.specs.Causes.{cause_text, headed}
use Rattle.irtext_base.specs.declared.location.Location.{Location}
use Rattle.irtext_base.specs.declared.result.Cause.{Cause, Nested'}
use Rattle.irtext_base.specs.declared.result.Error.{Error}
use Rattle.irtext_base.specs.declared.result.ErrorKind.{ErrorKind}
use Rattle.irtext_grammar.specs.Spelling.Locations.{known_text}

-- a text between two others, if there is one
abbrev pub between : List ℕ → List ℕ → Option (List ℕ) → List ℕ
between before after None = []
between before after (Some text) = before ++ (text ++ after)

-- the bytes of a text between two others, if there is one
abbrev pub framed : List ℕ → List ℕ → Option Text → List ℕ
framed before after text = between before after (option_map encode_utf8_all text)

module _ {A : Type 0} (written : A → Text) (paths : List (List ℕ)) where
  -- an error's text after its location, if that is known
  abbrev pub located : Location A → ErrorKind → List ℕ → List ℕ
  located location kind cause = framed (codes "[") (codes "] ") (known_text written paths location) ++ headed kind cause

  -- the text of a cause; that of an inner error has its location in front
  abbrev pub located_cause : Cause A → List ℕ
  located_cause (Nested' p kind err loc) = located loc kind (located_cause err)
  located_cause cause = cause_text cause

  -- the text of an error, with its location in front
  abbrev pub located_error : Error A → List ℕ
  located_error error = located error.loc error.kind (located_cause error.err)
