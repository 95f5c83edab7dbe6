-- For callers: what parsing a whole text promises: a root with its section, and white space up to the end.
use Rattle.std.specs.Prelude.{◌≡◌, ◌⊎◌, ℕ, true, Some, List, [], ◌∷◌, length}
use Rattle.std.specs.Char.{is_whitespace}
use Rattle.irtext_base.specs.Text.{Text, after_space, front}
use Rattle.irtext_base.specs.Own.{Texts}
use Rattle.irtext_base.specs.Stream.{StreamView}
use Rattle.irtext_base.specs.Faults.{Unexpected, TheEnd, fault_of}
use Rattle.irtext_base.specs.Answers.{Outcome, Takes}
use Rattle.irtext_base.specs.Locations.{AttrView}
use Rattle.irtext_base.specs.Paths.{Written}
use Rattle.irtext_base.specs.declared.parsable.fault.ParseFault.{ParseFault}
use Rattle.irtext_graph.specs.declared.arena.Ptr.{Ptr}
use Rattle.irtext_graph.specs.declared.object.Operation.{Operation}
use Rattle.irtext_parse_state.specs.declared.parsable.state.StateStream.{StateStream}
use Rattle.irtext_grammar.specs.Contexts.Formats.{isolated}
use Rattle.irtext_grammar.specs.Contexts.Held.{whole, IsPosition}
use Rattle.irtext_grammar.specs.Grammar.Marked.{reads_root}
use Rattle.irtext_grammar.specs.Grammar.Section.{Entry}
use Rattle.irtext_grammar.specs.Grammar.Tree.{Tree}
use Rattle.irtext_grammar.specs.Names.Acts.{failures_of}
use Rattle.irtext_grammar.specs.Promises.Supported.{supported, location_verdict}
use Rattle.irtext_grammar.specs.Readers.Streams.{itself, replaced}
use Rattle.irtext_names.specs.Promises.{BuildsRoot, RefusesRoot}

-- only white space was left on the stream, and it was consumed
pub record OnlySpace (old new : StreamView) : Type 0 where
  pub space : after_space old.rest ≡ []
  pub passes : Takes itself replaced (front is_whitespace old.rest) [] old new

-- something was parsed as stated, and only white space was left after it, which was consumed
pub record EndsAfter {T A U : Type 0} (IsParsed : StateStream T A U → StateStream T A U → Type 0) (old new : StateStream T A U) : Type 0 where
  pub end : StateStream T A U
  pub parsed : IsParsed old end
  pub ends : OnlySpace end.stream new.stream
  pub state : new.state ≡ end.state

-- Something else than white space is left in this rest of the text. The fault is committed: the end of the text was expected, at the
-- first such character.
pub record ExpectsEnd {A : Type 0} (text rest : Text) (fault : ParseFault A) : Type 0 where
  pub more : ℕ
  pub left : Text
  pub follows_on : after_space rest ≡ more ∷ left
  pub because : fault_of fault.cause ≡ Unexpected (Some more) TheEnd
  pub flag : fault.committed ≡ true
  pub place : IsPosition text (length (more ∷ left)) fault.pos

module _ {T A U : Type 0} (types : Texts T) (owns : Texts A) (types_at : Text → Outcome T) (attr : Text → Outcome (AttrView A)) where
  -- a root was parsed, and only white space was left after it, which was consumed
  abbrev pub BuildsWhole : Ptr Operation → StateStream T A U → StateStream T A U → Type 0
  BuildsWhole op = EndsAfter (BuildsRoot types owns attr op)

  -- With the context's dialects, the text up to this rest parses as a tree and its section, and both resolve; but something else than
  -- white space is left after them.
  pub record LeavesMore (old : StateStream T A U) (fault : ParseFault A) : Type 0 where
    pub tree : Tree ℕ T A
    pub entries : List (Entry ℕ A (Written A))
    pub rest : Text
    pub reads : reads_root (supported old.state.ctx.now.dialects types owns) (location_verdict attr) tree entries old.stream.rest rest
    pub resolves : failures_of (isolated old.state.ctx.now.dialects) tree entries ≡ []
    pub more : ExpectsEnd (whole old.stream) rest fault

  -- no root was parsed, or something else than white space was left after it
  abbrev pub RefusesWhole : StateStream T A U → ParseFault A → Type 0
  RefusesWhole old fault = RefusesRoot types owns types_at attr old.state.ctx.now.dialects old.stream fault ⊎ LeavesMore old fault
