use Rattle.std.proofs.Common.{refl}
use Rattle.irtext_syntax.proofs.Seen.{gives_seen}
use Rattle.irtext_parts.specs.SymbolTexts.{symbol_text_at}
use Rattle.irtext_parts.specs.Symbols.{symbol_of}
use Rattle.irtext_parts.proofs.symbol.SymbolPart.read.Goals as goal

pub returns-in-Ok : goal.returns-in-Ok
returns-in-Ok g c = record { answers = gives_seen symbol_of c.args.stream.now.failed (symbol_text_at c.args.stream.now.rest) c.args.stream.now c.at_name_parse.new.stream c.in-Ok.name (symbol_of c.in-Ok.name) refl c.in-Ok.ensures.answers }
