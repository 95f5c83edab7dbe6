use Rattle.irtext_names.proofs.Added.{added_ties}
use Rattle.irtext_names.proofs.Gained.{block_added}
use Rattle.irtext_bench.proofs.graphs.named.make_block.Goals as goal

pub returns : goal.returns
returns c = added_ties (block_added c.in-Ok.made c.in-Ok.ensures.made) c.args.names.now.values c.args.names.now.labels c.requires
