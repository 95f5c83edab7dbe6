-- For callers: words for the printing of operations: what the caller's types mean, how deep regions are printed, and whether directives
-- print all regions and only keys that exist.
use Rattle.std.specs.Prelude.{ℕ, Bool, true, false, cond, not, ◌||◌, ◌==◌, nat_lt, List, length, Some, None, is_some, ⊤}
use Rattle.std.specs.List.{list_all}
use Rattle.irtext_base.specs.Text.{Text}
use Rattle.irtext_base.specs.Format as format
use Rattle.irtext_base.specs.Format.{Directive, count, keys, region_places, is_regions, is_header, sym_name_key}
use Rattle.irtext_base.specs.Own.{Language, texts_of, unplaced}
use Rattle.irtext_base.specs.declared.text.IrText as ir_text
use Rattle.irtext_context.specs.Context.{ContextView}
use Rattle.irtext_grammar.specs.Contexts.Formats.{format_of}
use Rattle.irtext_grammar.specs.Graphs.Graph.{Limit, lookup}
use Rattle.irtext_grammar.specs.Grammar.Tree.{Attribute, ident}
use Rattle.irtext_print.specs.declared.printable.state.RegionPrintDepthLimit.{RegionPrintDepthLimit}
use Rattle.irtext_print.specs.declared.printable.state.RegionPrintDepthLimit.TheVariants.{Unlimited, Max}

-- a directive that names no value, no block and no type
abbrev pub is_supported : Directive → Bool
is_supported (format.word s) = true
is_supported (format.attribute k) = true
is_supported format.dictionary = true
is_supported format.header = true
is_supported (format.region i) = true
is_supported format.regions = true
is_supported _ = false

-- the directives print so many regions: at least one for each directive of a single region, and exactly those if none prints the rest
abbrev pub regions_fit : List Directive → ℕ → Bool
regions_fit ds n = cond (count is_regions ds == 0) (n == length (region_places ds)) (not (nat_lt n (length (region_places ds))))

module _ {A : Type 0} (es : List (Text × Attribute A)) where
  -- each key that a directive names has an attribute
  abbrev pub has_named_keys : List Directive → Bool
  has_named_keys ds = list_all (λ k. is_some (lookup k es)) (keys ds)

  -- the attribute under the symbol's key is an identifier
  abbrev pub has_symbol : Bool
  has_symbol = elim (lookup sym_name_key es) [ Some a ↦ elim a [ ident n ↦ true | _ ↦ false ] | None ↦ false ]

  -- the symbol's name exists, if a directive prints it
  abbrev pub symbol_fits : List Directive → Bool
  symbol_fits ds = (count is_header ds == 0) || has_symbol

-- what the texts of the caller's types and attributes mean, and the formats of this context
abbrev pub language_in : {T A : Type 0} → ir_text.Ghosts T A → ir_text.Ghosts A A → ContextView T A → Language ⊤ T A
language_in types owns ctx = unplaced (texts_of types.reading types.written) (texts_of owns.reading owns.written) (format_of ctx.dialects)

-- how many levels of regions are printed, if that is limited
abbrev pub levels : RegionPrintDepthLimit → Limit
levels Unlimited = None
levels (Max n) = Some n
