-- The field says only that a proof of `can_print` exists. An entailment is a proposition, so the proof may be taken from the walk that
-- Rattle made.
use prog.Wp.{WpFn}
use Rattle.irtext_print_ir.proofs.Printers.Requirements.{asks_more}
use Rattle.irtext_print_ir.proofs.printable.displayable.Displayable.can_be_printed.Statement.{statement}
use Rattle.irtext_print_ir.proofs.printable.displayable.Displayable.can_be_printed.Lts as lts
use Rattle.irtext_print_ir.proofs.printable.displayable.Displayable.can_be_printed.Reads as reads
use Rattle.irtext_print_ir.proofs.printable.displayable.Displayable.can_be_printed.Tie as tie

pub can_be_printed_spec : {M : Type 1} → statement M
can_be_printed_spec {M} =
    tie.close (λ Ta Tb Tc L1 L2 L3 x xd t td te ted tp tpd a ad ai aid ae aed ap apd ah ahd tD aD w b1 b2 b3 b4 b5 b6 b7 b8 b9 b10 b11 𝓤 𝓛 𝓣.
    asks_more 𝓤 𝓛 5 (lts.ps Ta Tb Tc L1 L2 L3 x xd t td te ted tp tpd a ad ai aid ae aed ap apd ah ahd tD aD) (lts.r Ta Tb Tc L1 L2 L3 x xd t td te ted tp tpd a ad ai aid ae aed ap apd ah ahd tD aD) (WpFn 𝓤 𝓛.H 𝓣.C 𝓣.Λ (lts.function Ta Tb Tc L1 L2 L3 x xd t td te ted tp tpd a ad ai aid ae aed ap apd ah ahd tD aD)) (reads.Pre Ta Tb Tc L1 L2 L3 x xd t td te ted tp tpd a ad ai aid ae aed ap apd ah ahd tD aD) (λ κs v. x.can_print v.0.now.value.now v.0.now.ctx.now) (reads.Post Ta Tb Tc L1 L2 L3 x xd t td te ted tp tpd a ad ai aid ae aed ap apd ah ahd tD aD) (λ κs v. v.0.now.printable)
    (lts.spec Ta Tb Tc L1 L2 L3 x xd t td te ted tp tpd a ad ai aid ae aed ap apd ah ahd tD aD (λ κs v. x.can_print v.0.now.value.now v.0.now.ctx.now) (reads.Post Ta Tb Tc L1 L2 L3 x xd t td te ted tp tpd a ad ai aid ae aed ap apd ah ahd tD aD) (λ c. c.requires) 𝓤 𝓛 𝓣))
