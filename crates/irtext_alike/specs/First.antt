-- For callers: how two contexts know an operation otherwise, and the first operation of a root, in the order of its text, that they do.
use Rattle.std.specs.Prelude.{◌≡◌, ◌≢◌, ◌⊎◌, List, Option, Some, None, ⊤}
use Rattle.irtext_base.specs.Text.{Text}
use Rattle.irtext_context.specs.Context.{ContextView, OperationView, operation}
use Rattle.irtext_context.specs.Dialects.{Known, Table}
use Rattle.irtext_context.specs.DialectTable.{registered}
use Rattle.irtext_graph.specs.declared.arena.Ptr.{Ptr}
use Rattle.irtext_graph.specs.declared.object.Object.{Object}
use Rattle.irtext_graph.specs.declared.object.Object.TheVariants.{TheOperation}
use Rattle.irtext_graph.specs.declared.object.Operation.{Operation}
use Rattle.irtext_graph.specs.Chained.{Among}
use Rattle.irtext_graph.specs.Graph.{IsInside}
use Rattle.irtext_graph.specs.Throughout.{all_from}
use Rattle.irtext_alike.specs.declared.unlike.Unlike.{Unlike}
use Rattle.irtext_alike.specs.declared.unlike.Unlike.TheVariants.{Unregistered, RegisteredThere, OtherFormat, OtherIsolation}
use Rattle.irtext_alike.specs.declared.unlike.UnlikeOperation.{UnlikeOperation}

-- how what is known here of an operation and what is known there differ
abbrev pub IsUnlike : Option Known → Option Known → Unlike → Type 0
IsUnlike (Some here) None Unregistered = ⊤
IsUnlike None (Some there) RegisteredThere = ⊤
IsUnlike (Some here) (Some there) OtherFormat = here.format ≢ there.format
IsUnlike (Some here) (Some there) OtherIsolation = (here.format ≡ there.format) × (here.isolated ≢ there.isolated)
IsUnlike _ _ _ = ⊥

module _ {T A : Type 0} (ctx : ContextView T A) (dialects : List (Text × Table)) where
  -- if the object is an operation and no placeholder, the dialects know it as the context does
  abbrev pub IsAlikeAt : Object → Type 0
  IsAlikeAt (TheOperation q) = (view : OperationView T A) → operation ctx q ≡ Some view → registered dialects view.id ≡ registered ctx.dialects view.id
  IsAlikeAt _ = ⊤

  -- the object is this operation, and the dialects know it otherwise
  pub record IsUnlikeAt (o : Object) (unlike : UnlikeOperation) : Type 0 where
    pub is : o ≡ TheOperation unlike.op
    pub view : OperationView T A
    pub here : operation ctx unlike.op ≡ Some view
    pub why : IsUnlike (registered ctx.dialects view.id) (registered dialects view.id) unlike.why

  -- The first operation of the root, in the order of the text, that the dialects know otherwise: each object in the root comes no earlier, or
  -- is known alike.
  pub record IsFirstUnlike (p : Ptr Operation) (unlike : UnlikeOperation) : Type 0 where
    pub inside : IsInside ctx.graph (TheOperation p) (TheOperation unlike.op)
    pub unlike_at : IsUnlikeAt (TheOperation unlike.op) unlike
    pub before : (q : Object) → IsInside ctx.graph (TheOperation p) q → Among q (all_from ctx.graph (TheOperation p) (Some (TheOperation unlike.op))) ⊎ IsAlikeAt q
