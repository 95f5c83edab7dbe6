-- The bytes of a value's name are ASCII.
use Rattle.std.proofs.Common.{◌≡◌, Some, None, IfOk, string_bytes, subst}
use Rattle.irtext_grammar.specs.Spelling.PrintedNames.{value_name}
use Rattle.irtext_grammar.proofs.AsciiNames.{ascii-value, ascii-named, characters}
use Rattle.irtext_print.proofs.name.value_text.Goals as goal

-- with a given name
pub returns-in-Some : goal.returns-in-Some
returns-in-Some c = rw c.in-Some.is (characters string_bytes c.format.result (value_name (Some c.in-Some.name.now) c.args.number)
    (ascii-named c.in-Some.name.now c.args.number c.as_str-name.ensures.fits c.ranges.number.fits)
    (subst (λ name. IfOk c.format.result (λ s. string_bytes s ≡ value_name (Some name) c.args.number)) c.as_str-name.ensures.text c.format.ensures.ok))

-- without one
pub returns-in-None : goal.returns-in-None
returns-in-None c = rw c.in-None.is (characters string_bytes c.format-in-None.result (value_name None c.args.number) (ascii-value c.args.number c.ranges.number.fits) c.format-in-None.ensures.ok)
