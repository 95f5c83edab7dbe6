use Rattle.std.proofs.Common.{refl}
use Rattle.irtext_formatter.proofs.Apart.{all_fit}
use Rattle.irtext_formatter.proofs.laws.printed_fits.Goals as goal

pub returns : goal.returns
returns g c layout other text out ctx after misfit formats fails =
    all_fit g.T.IrText g.A.IrText g.met.T.IrText.lawful g.met.A.IrText.lawful ctx.dialects g.A.AttrText g.A.PartialEq.eq text ctx refl layout other out after misfit formats fails
