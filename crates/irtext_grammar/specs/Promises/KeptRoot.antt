-- For callers: what the types of an operation's parts ensure, so that its text is parsed back.
use Rattle.std.specs.Prelude.{IfSome, List, ℕ, Option, ⊤}
use Rattle.irtext_context.specs.Context.{ContextView, OperationView}
use Rattle.irtext_base.specs.Faults.{id_of}
use Rattle.irtext_base.specs.Locations.{AttrView, src_pos, fused, named, call_site, unknown, LocationsOf, no_location, location}
use Rattle.irtext_base.specs.Paths.{Written}
use Rattle.irtext_grammar.specs.Spelling.AttrText.{IsSpellableAttr}
use Rattle.irtext_grammar.specs.Graphs.ReservedKeys.{KeepsKeys}
use Rattle.irtext_grammar.specs.Spelling.Spellable.{Each, IsIdentifier}
use Rattle.irtext_grammar.specs.Contexts.Formats.{IsAccepted}
use Rattle.irtext_grammar.specs.Graphs.RoundTrip.{KeysDiffer}
use Rattle.irtext_grammar.specs.Contexts.Held.{entries_of, location_over}
use Rattle.irtext_grammar.specs.Graphs.Identifiers.{EntryHasIdentifiers}
use Rattle.irtext_grammar.specs.Promises.LocationsBack.{AllFit}

module _ {A : Type 0} where
  abbrev mutual
    -- the property holds of each attribute in the location
    pub AllHold : (AttrView A → Type 0) → Written A → Type 0
    AllHold P (src_pos s at) = ⊤
    AllHold P (fused metadata ls) = IfSome metadata P × RowHold P ls
    AllHold P (named name child) = AllHold P child
    AllHold P (call_site callee caller) = AllHold P callee × AllHold P caller
    AllHold P unknown = ⊤

    -- the same of each location in a list
    pub RowHold : (AttrView A → Type 0) → LocationsOf (Option (List ℕ)) A → Type 0
    RowHold P no_location = ⊤
    RowHold P (location l ls) = AllHold P l × RowHold P ls

-- What the types of an operation's parts ensure: its id and its keys are identifiers, and so are the names in its attributes; its keys
-- are distinct, and under the key of given names there are only given names; the paths and names in its location are UTF-8, the lines and
-- columns there fit, and the names in the attributes there are identifiers; and its format, if it has one, meets all its conditions.
pub record IsKept {T A : Type 0} (ctx : ContextView T A) (op : OperationView T A) : Type 0 where
  pub dialect : IsIdentifier op.id.dialect
  pub name : IsIdentifier op.id.name
  pub attributes : Each EntryHasIdentifiers (entries_of op.attributes)
  pub keys : KeepsKeys (entries_of op.attributes)
  pub differ : KeysDiffer (entries_of op.attributes)
  pub fits : AllFit (location_over ctx.paths op.loc)
  pub holds : AllHold IsSpellableAttr (location_over ctx.paths op.loc)
  pub accepted : IsAccepted ctx.dialects (id_of op.id)
