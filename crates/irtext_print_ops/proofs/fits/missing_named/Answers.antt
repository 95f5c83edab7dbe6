use Rattle.std.proofs.Common.{◌∙◌, sym}
use Rattle.irtext_base.specs.FormatViews.{directives_of}
use Rattle.irtext_grammar.specs.Contexts.Held.{entries_of}
use Rattle.irtext_print_ops.proofs.Counting.{none_missing}
use Rattle.irtext_print_ops.proofs.fits.missing_named.Goals as goal

pub returns-then-not-names_keys : goal.returns-then-not-names_keys
returns-then-not-names_keys g c = sym (none_missing (entries_of c.args.attributes.now) (directives_of c.args.directives.now) (sym c.requires ∙ c.if-not-names_keys.true))
