use Rattle.irtext_stream.proofs.Lines.{rest_of}
use Rattle.irtext_stream.proofs.Plain.{plain_found, plain_to_end}
use Rattle.irtext_stream.proofs.scan.end_of_plain.Goals as goal

pub returns-in-Some : goal.returns-in-Some
returns-in-Some c =
    let bs = c.args.text.now in
    plain_found bs _ c.args.from c.in-Some.n c.requires.within c.requires.passed_utf8 c.requires.rest_utf8 (rest_of bs c.as_bytes.result.now c.args.from c.as_bytes.ensures.value) c.in-Some.ensures

pub returns-in-None : goal.returns-in-None
returns-in-None c =
    let bs = c.args.text.now in
    plain_to_end bs _ c.args.from c.requires.within c.requires.passed_utf8 c.requires.rest_utf8 (rest_of bs c.as_bytes.result.now c.args.from c.as_bytes.ensures.value) c.in-None.ensures
