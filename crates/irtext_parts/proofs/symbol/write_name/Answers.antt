use Rattle.std.proofs.Common.{◌≡◌, ◌∙◌, ◌++◌, true, false, sym, ap, subst, string_bytes}
use Rattle.std.specs.Prelude.{OnOk}
use Rattle.std.specs.Str.{IsUtf8, encode_utf8_all}
use Rattle.irtext_base.specs.Quoted.{quoted}
use Rattle.irtext_base.specs.Text.{is_identifier}
use Rattle.irtext_parts.proofs.Identifiers.{identifier_bytes}
use Rattle.irtext_parts.proofs.symbol.write_name.Goals as goal

pub returns-then-is_identifier-clause-text : goal.returns-then-is_identifier-clause-text
returns-then-is_identifier-clause-text c =
    let s = c.args.name.now in
    let b = c.as_str-text.ensures.bytes in
    let u : IsUtf8 (encode_utf8_all s.characters) = subst IsUtf8 b c.as_str-text.utf8 in
    let q : is_identifier s.characters ≡ true = sym (identifier_bytes s.characters s.passes u) ∙ (ap is_identifier (sym b) ∙ (sym c.is_identifier.ensures ∙ c.if-is_identifier.true)) in
    rw q (c.in_ok-push_str.ensures.bytes ∙ ap (λ z. string_bytes c.args.f.now ++ z) b)

pub returns-clause-text : goal.returns-clause-text
returns-clause-text c =
    let s = c.args.name.now in
    let b = c.as_str-text.ensures.bytes in
    let u : IsUtf8 (encode_utf8_all s.characters) = subst IsUtf8 b c.as_str-text.utf8 in
    let q : is_identifier s.characters ≡ false = sym (identifier_bytes s.characters s.passes u) ∙ (ap is_identifier (sym b) ∙ (sym c.is_identifier.ensures ∙ c.if-is_identifier.false)) in
    rw q (subst (λ z. OnOk c.fmt_quoted.result (string_bytes c.fmt_quoted.new.f ≡ string_bytes c.args.f.now ++ encode_utf8_all (quoted z))) c.as_str-text.ensures.characters c.fmt_quoted.ensures.text)
