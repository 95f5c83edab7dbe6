use Rattle.std.proofs.Common.{string_bytes}
use Rattle.irtext_tree.proofs.Written.{two_texts}
use Rattle.irtext_tree.specs.Trees.{heads_text}
use Rattle.irtext_tree.proofs.grown.write_tree.Goals as goal

pub returns-clause-text : goal.returns-clause-text
returns-clause-text g c = two_texts (string_bytes c.args.f.now) (string_bytes c.write_head.new.f) (string_bytes c.write_heads.new.f) (g.S.Grammar.written c.args.head.now) (heads_text g.S.Grammar.written c.args.rest.now) c.in_ok-write_head.ensures.text c.in_ok-write_heads.ensures.text
