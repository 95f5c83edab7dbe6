use Rattle.irtext_print_ops.proofs.fits.check_fits.Goals as goal

pub returns-in-Ok : goal.returns-in-Ok
returns-in-Ok g c = record { fits = c.in-Ok.ensures.fits; fault = tt }

pub returns-in-Err : goal.returns-in-Err
returns-in-Err g c = record { fits = tt; fault = c.in-Err.ensures.fault }
