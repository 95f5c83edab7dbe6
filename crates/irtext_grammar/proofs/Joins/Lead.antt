-- An operation that has a format is registered.
use Rattle.std.proofs.Common.{◌≡◌, true, List, Option, Some, None, refl, is_some}
use Rattle.std.specs.Option.{option_map}
use Rattle.irtext_base.specs.Text.{Text}
use Rattle.irtext_base.specs.Format.{Id, Format}
use Rattle.irtext_context.specs.Dialects.{Known, Table}
use Rattle.irtext_context.specs.DialectTable as table
use Rattle.irtext_grammar.specs.Contexts.Formats.{op_id, format_of}

module _ (dialects : List (Text × Table)) where
  unformatted : (o : Option Known) (f : Format) → option_map (λ known. known.format) o ≡ Some f → is_some o ≡ true
  unformatted None f e = absurd (cc e)
  unformatted (Some known) f e = refl

  -- an operation that has a format is registered
  pub format_known : (id : Id) (f : Format) → format_of dialects id ≡ Some f → is_some (table.registered dialects (op_id id)) ≡ true
  format_known id f e = unformatted (table.registered dialects (op_id id)) f e
