use Rattle.std.proofs.Common.{[], ◌∷◌, ◌++◌, codes, replicate, string_bytes}
use Rattle.irtext_print.proofs.Printers.Appended.{then, piece}
use Rattle.irtext_print.proofs.Printers.Indented.{closing-ascii, indented-ascii}
use Rattle.irtext_grammar.specs.Spelling.Spell.{newline}
use Rattle.irtext_print.proofs.printable.fmt_closing.Goals as goal

pub fmt_indented-requires-clause-ascii : goal.fmt_indented-requires-clause-ascii
fmt_indented-requires-clause-ascii c = indented-ascii 256 (125 ∷ []) closing-ascii

pub returns-then-indent-gt256-clause-text : goal.returns-then-indent-gt256-clause-text
returns-then-indent-gt256-clause-text c = piece (string_bytes c.args.f.now) (string_bytes c.fmt_newline.new.f) (string_bytes c.push_str.new.text) (newline c.args.indent) (codes "}") c.in_ok-fmt_newline.ensures.text c.in_ok-push_str.ensures.bytes

pub returns-clause-text : goal.returns-clause-text
returns-clause-text c =
    then c.fmt_indented.result (λ w. piece (string_bytes c.args.f.now) (string_bytes c.push_str-2.new.text) (string_bytes c.fmt_indented.new.f) (codes "\n") (replicate c.args.indent 32 ++ codes "}") c.in_ok-push_str-2.ensures.bytes w) c.fmt_indented.ensures.text
