use Rattle.std.proofs.Common.{refl}
use Rattle.irtext_names.proofs.Pieces.{types_one}
use Rattle.irtext_names.proofs.operation_parts.types_gathered.Goals as goal

pub returns : goal.returns
returns g c = λ names graph. types_one names graph c.args.listed refl refl refl refl refl
