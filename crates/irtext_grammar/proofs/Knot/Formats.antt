-- Where each dialect keeps operations of accepted formats alone, each registered operation's format is accepted.
use Rattle.std.proofs.Common.{Bool, true, false, cond, Option, Some, None, List, [], ◌∷◌}
use Rattle.std.specs.Prelude.{⊤, IfSome, option_and_then}
use Rattle.std.specs.Option.{option_map}
use Rattle.std.specs.Str.{bytes_eq}
use Rattle.std.specs.Map.{lookup}
use Rattle.irtext_base.specs.Text.{Text}
use Rattle.irtext_base.specs.Format.{Id, Accepted}
use Rattle.irtext_base.specs.declared.base.identifier.OpId.{OpId}
use Rattle.irtext_context.specs.Dialects.{Known, Table, AreAccepted, same_id}
use Rattle.irtext_context.specs.DialectTable.{registered}
use Rattle.irtext_context.proofs.Dialects as context
use Rattle.irtext_context.proofs.Dialects.{accepted_found}
use Rattle.irtext_grammar.specs.Contexts.Formats.{op_id, IsAccepted}

-- each dialect keeps operations of accepted formats alone
abbrev pub AllAccepted : List (Text × Table) → Type 0
AllAccepted [] = ⊤
AllAccepted (d ∷ ds) = AreAccepted d.1.name d.1.entries × AllAccepted ds

table_accepted : (id : OpId) (test : Text → Bool) (ds : List (Text × Table)) → AllAccepted ds → context.IsAccepted (option_and_then (λ table. lookup (same_id id) table.entries) (lookup test ds))
table_accepted id test [] h = tt
table_accepted id test (d ∷ ds) h = go (test d.0) (table_accepted id test ds h.1)
  where
    go : (b : Bool) → context.IsAccepted (option_and_then (λ table. lookup (same_id id) table.entries) (lookup test ds))
        → context.IsAccepted (option_and_then (λ table. lookup (same_id id) table.entries) (cond b (Some d.1) (lookup test ds)))
    go true k = accepted_found d.1.name (same_id id) d.1.entries h.0
    go false k = k

format_accepted : (o : Option Known) → context.IsAccepted o → IfSome (option_map (λ known. known.format) o) Accepted
format_accepted None h = tt
format_accepted (Some known) h = h

-- each registered operation's format is accepted
pub each_accepted : (dialects : List (Text × Table)) → AllAccepted dialects → (id : Id) → IsAccepted dialects id
each_accepted dialects h id = format_accepted (registered dialects (op_id id)) (table_accepted (op_id id) (bytes_eq id.dialect) dialects h)
