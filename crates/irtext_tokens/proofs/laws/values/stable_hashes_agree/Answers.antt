use Rattle.irtext_base.proofs.StableHashes.{locations_agree, sources_agree}
use Rattle.irtext_tokens.proofs.laws.values.stable_hashes_agree.Goals as goal

pub returns-clause-sources : goal.returns-clause-sources
returns-clause-sources g c = sources_agree

pub returns-clause-locations : goal.returns-clause-locations
returns-clause-locations g c = locations_agree g.A.Hash.hash_input
