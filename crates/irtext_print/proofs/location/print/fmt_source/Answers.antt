use Rattle.std.proofs.Common.{◌≡◌, ◌∙◌, ◌++◌, None, ap, sym, refl, codes, option_copied, string_bytes}
use Rattle.irtext_base.specs.Paths.{path_of}
use Rattle.irtext_grammar.specs.Spelling.Locations.{source_text}
use Rattle.std.specs.Str.{encode_utf8_all}
use Rattle.irtext_print.proofs.Printers.Locations.{word}
use Rattle.irtext_print.proofs.location.print.fmt_source.Goals as goal

pub returns-in_ok-push_str-in-None-clause-text : goal.returns-in_ok-push_str-in-None-clause-text
returns-in_ok-push_str-in-None-clause-text g c =
    let none : path_of c.args.ctx.now.paths c.args.src ≡ None = sym c.path_of.ensures ∙ ap option_copied c.in-None.is in
    c.in_ok-push_str-in-None.ensures.bytes ∙ ap (λ z. string_bytes c.args.f.now ++ z) (word (codes "<in-memory>") refl ∙ ap (λ z. encode_utf8_all (source_text z)) (sym none))
