-- For callers: what is said of the first operation of a root that does not fit its format.
use Rattle.std.specs.Prelude.{◌≡◌, Bool, List, Option, Some, None, string_bytes}
use Rattle.std.specs.Option.{option_map, option_and_then}
use Rattle.irtext_base.specs.Faults.{id_of}
use Rattle.irtext_base.specs.Text.{Text}
use Rattle.irtext_base.specs.declared.location.Location.{Location, SrcPos}
use Rattle.irtext_base.specs.declared.location.Source.{Source}
use Rattle.irtext_base.specs.declared.location.Source.TheVariants.{InMemory}
use Rattle.irtext_base.specs.declared.text.AttrText as attr_text
use Rattle.irtext_context.specs.Context.{ContextView, OperationView, operation}
use Rattle.irtext_context.specs.Dialects.{Table}
use Rattle.irtext_graph.specs.declared.arena.Ptr.{Ptr}
use Rattle.irtext_graph.specs.declared.object.Operation.{Operation}
use Rattle.irtext_grammar.specs.Contexts.Formats.{format_of}
use Rattle.irtext_print_ops.specs.Fits.{fault_text}
use Rattle.irtext_print_ops.specs.declared.fits.FitFault.{FitFault}
use Rattle.irtext_stream.specs.declared.position.SourcePosition.{SourcePosition}
use Rattle.pliron_text.specs.Misfits.{IsFirstMisfit}
use Rattle.irtext_formatter.specs.Keys.{mistaken_key, texts_of}
use Rattle.irtext_formatter.specs.declared.misfit.Misfit.{Misfit}

-- the position, if it is one in a text in memory
abbrev pub position_of : Source → SourcePosition → Option SourcePosition
position_of InMemory at = Some at
position_of _ at = None

-- the position in a text in memory that a location gives, if it gives one
abbrev pub position_in : {A : Type 0} → Location A → Option SourcePosition
position_in (SrcPos source at) = position_of source at
position_in _ = None

module _ {T A : Type 0} (dialects : List (Text × Table)) (seen : OperationView T A) where
  -- the key of the operation's attribute that was perhaps meant to be one that its format prints, with that one
  abbrev pub mistaken_in : FitFault → Option (Text × Text)
  mistaken_in reason = option_and_then (λ format. mistaken_key format seen.attributes reason) (format_of dialects (id_of seen.id))

  -- a misfit names this operation and this reason
  pub record Describes (reason : FitFault) (misfit : Misfit) : Type 0 where
    pub id : misfit.id ≡ seen.id
    pub position : misfit.position ≡ position_in seen.loc
    pub says : string_bytes misfit.reason ≡ fault_text reason
    pub mistaken : option_map texts_of misfit.mistaken ≡ mistaken_in reason

module _ {T A : Type 0} (written : A → Text) (attributes : attr_text.Ghosts A A) (same : A → A → Bool) (ctx : ContextView T A) where
  -- a misfit describes the first operation of a root that does not fit its format, with the first reason
  pub record IsMisfitOf (root : Ptr Operation) (misfit : Misfit) : Type 0 where
    pub op : Ptr Operation
    pub seen : OperationView T A
    pub is : operation ctx op ≡ Some seen
    pub reason : FitFault
    pub describes : Describes ctx.dialects seen reason misfit
    pub first : IsFirstMisfit written attributes same ctx root op reason
