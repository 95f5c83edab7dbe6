-- For callers: the key of an attribute that was perhaps meant to be one that the operation's format prints.
use Rattle.std.specs.Prelude.{not, List, Option, None, map, filter, string_bytes}
use Rattle.std.specs.Option.{option_map}
use Rattle.irtext_base.specs.Format as format
use Rattle.irtext_base.specs.Format.{Directive, Format, keys}
use Rattle.irtext_base.specs.Text.{Text}
use Rattle.irtext_diagnostics.specs.Suggestions.{closest}
use Rattle.irtext_print.specs.Printers.PieceText.{is_key_written}
use Rattle.irtext_print_ops.specs.declared.fits.FitFault.{FitFault}
use Rattle.irtext_print_ops.specs.declared.fits.FitFault.TheVariants as fault
use Rattle.irtext_formatter.specs.declared.keys.MistakenKey.{MistakenKey}

-- the key that the operation has, and the one that was perhaps meant
abbrev pub texts_of : MistakenKey → Text × Text
texts_of mistaken = (string_bytes mistaken.written, string_bytes mistaken.meant)

module _ {X : Type 0} where
  -- the keys of the entries that no directive prints by its key
  abbrev pub unwritten_keys : List Directive → List (Text × X) → List Text
  unwritten_keys ds es = filter (λ key. not (is_key_written key ds)) (map (λ e. e.0) es)

  -- If an attribute is missing, a key that no directive prints may have been meant to be the missing one; if an attribute is not printed,
  -- its key may have been meant to be one that the format prints.
  abbrev pub mistaken_key : Format → List (Text × X) → FitFault → Option (Text × Text)
  mistaken_key (format.custom ds) es (fault.MissingAttribute key) = option_map (λ written. (written, key.now)) (closest key.now (unwritten_keys ds es))
  mistaken_key (format.custom ds) es (fault.UnwrittenAttribute key) = option_map (λ meant. (key.now, meant)) (closest key.now (keys ds))
  mistaken_key _ es reason = None
