-- The bytes of a block's name are ASCII.
use Rattle.std.proofs.Common.{◌≡◌, ◌<◌, ◌^◌, ℕ, Some, None, IfOk, string_bytes, subst, arith}
use Rattle.irtext_grammar.specs.Spelling.PrintedNames.{block_name}
use Rattle.irtext_grammar.proofs.AsciiNames.{ascii-block, ascii-labelled, characters}
use Rattle.irtext_print.proofs.name.block_text.Goals as goal

-- a number of 32 bits has no more than 64
wider : {n : ℕ} → n < 2 ^ 32 → n < 2 ^ 64
wider small = omega arith

-- with a label
pub returns-in-Some : goal.returns-in-Some
returns-in-Some c = rw c.in-Some.is (characters string_bytes c.format.result (block_name (Some c.in-Some.label.now) (c.args.place, c.args.generation))
    (ascii-labelled c.in-Some.label.now c.args.place c.args.generation c.as_str-label.ensures.fits c.ranges.place.fits (wider c.ranges.generation.fits))
    (subst (λ label. IfOk c.format.result (λ s. string_bytes s ≡ block_name (Some label) (c.args.place, c.args.generation))) c.as_str-label.ensures.text c.format.ensures.ok))

-- without one
pub returns-in-None : goal.returns-in-None
returns-in-None c = rw c.in-None.is (characters string_bytes c.format-in-None.result (block_name None (c.args.place, c.args.generation))
    (ascii-block c.args.place c.args.generation c.ranges.place.fits (wider c.ranges.generation.fits)) c.format-in-None.ensures.ok)
