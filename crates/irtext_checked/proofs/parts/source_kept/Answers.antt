use Rattle.std.proofs.Common.{sym, subst, ◌∙◌}
use Rattle.std.specs.Prelude.{IfSome}
use Rattle.std.specs.Str.{IsUtf8}
use Rattle.irtext_base.specs.Paths.{path_of}
use Rattle.irtext_base.specs.declared.location.Source.TheVariants.{File}
use Rattle.irtext_grammar.proofs.KeptLocations.{none_known}
use Rattle.irtext_checked.proofs.parts.source_kept.Goals as goal

pub returns-else-is_of : goal.returns-else-is_of
returns-else-is_of g c =
    let paths = c.args.ctx.now.paths in
    subst (λ src. IfSome (path_of paths src) IsUtf8) (sym c.in-File.is) (none_known paths (File c.in-File.key) (sym c.is_of.ensures ∙ c.if-is_of.false))
