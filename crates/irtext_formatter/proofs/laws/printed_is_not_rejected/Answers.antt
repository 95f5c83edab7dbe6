use Rattle.std.proofs.Common.{refl}
use Rattle.irtext_formatter.proofs.Apart.{none_rejected}
use Rattle.irtext_formatter.proofs.laws.printed_is_not_rejected.Goals as goal

pub returns : goal.returns
returns g c layout other text out ctx after fault formats fails =
    none_rejected g.T.IrText g.A.IrText g.met.T.IrText.lawful g.met.A.IrText.lawful ctx.dialects g.A.AttrText g.A.PartialEq.eq text ctx refl layout other out after fault formats fails
