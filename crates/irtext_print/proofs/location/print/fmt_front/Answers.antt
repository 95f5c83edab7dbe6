use Rattle.std.proofs.Common.{◌≡◌, ◌∙◌, ◌++◌, Some, None, ap, sym, refl, codes, option_copied, string_bytes}
use Rattle.irtext_base.specs.Paths.{path_of}
use Rattle.irtext_grammar.specs.Spelling.Locations.{source_text}
use Rattle.std.specs.Str.{encode_utf8_all}
use Rattle.irtext_print.proofs.Printers.Locations.{word, ending}
use Rattle.irtext_print.proofs.location.print.fmt_front.Goals as goal

pub returns-in_ok-push_str-in-Some-clause-text : goal.returns-in_ok-push_str-in-Some-clause-text
returns-in_ok-push_str-in-Some-clause-text g c =
    let some : path_of c.args.ctx.now.paths c.args.src ≡ Some c.in-Some.path.now = sym c.path_of.ensures ∙ ap option_copied c.in-Some.is in
    ending (string_bytes c.args.f.now) (string_bytes c.fmt_quoted.new.f) (string_bytes c.push_str.new.text) (source_text (path_of c.args.ctx.now.paths c.args.src)) (codes ": line: ") refl
    (c.in_ok-fmt_quoted-in-Some.ensures.text ∙ ap (λ z. string_bytes c.args.f.now ++ encode_utf8_all (source_text z)) (sym some)) c.in_ok-push_str-in-Some.ensures.bytes

pub returns-in_ok-push_str-in-None-clause-text : goal.returns-in_ok-push_str-in-None-clause-text
returns-in_ok-push_str-in-None-clause-text g c =
    let none : path_of c.args.ctx.now.paths c.args.src ≡ None = sym c.path_of.ensures ∙ ap option_copied c.in-None.is in
    c.in_ok-push_str-in-None.ensures.bytes ∙ ap (λ z. string_bytes c.args.f.now ++ z) (word (codes "<in-memory>: line: ") refl ∙ ap (λ z. encode_utf8_all (source_text z ++ codes ": line: ")) (sym none))
