use Rattle.std.proofs.Common.{◌<◌, arith, string_bytes}
use Rattle.irtext_print.proofs.Printers.Appended.{then}
use Rattle.irtext_print.proofs.Texts.{memory_put}
use Rattle.irtext_print.proofs.entries.fmt_memory_front.Goals as goal

pub returns-clause-text : goal.returns-clause-text
returns-clause-text c =
    let few : c.args.index < 1000000 = omega (arith, c.if-index-ge1000000.false) in
    then c.fmt_memory.result (λ w. memory_put c.args.index c.in-Some.line c.in-Some-in_place.column c.args.pos.now (string_bytes c.args.f.now) (string_bytes c.fmt_memory.new.f) few
    c.in-Some.ensures.few c.in-Some-in_place.ensures.few c.in-Some.ensures.value c.in-Some-in_place.ensures.value w) c.fmt_memory.ensures.text
