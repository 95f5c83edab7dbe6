use Rattle.std.proofs.Common.{refl}
use Rattle.irtext_stream.proofs.Slices.{comes, one_comes, none_comes, comes_where}
use Rattle.irtext_stream.proofs.scan.comes_at.Goals as goal

pub returns-in-Some : goal.returns-in-Some
returns-in-Some c =
    let bs = c.args.text.now in
    let w = c.args.word.now in
    let o = c.args.at in
    let h = c.in-Some.ensures.lookup in
    comes_where bs w o _ c.requires.within c.requires.passed_utf8 c.requires.rest_utf8 c.utf8.word (one_comes bs c.as_bytes-bytes.result.now w c.as_bytes-word.result.now o c.in-Some.b.now _ c.as_bytes-bytes.ensures.value c.as_bytes-word.ensures.value c.if-word-eq1.true h.3.0 (h.3.1 0) refl)

pub returns-in-None : goal.returns-in-None
returns-in-None c =
    let bs = c.args.text.now in
    let w = c.args.word.now in
    let o = c.args.at in
    comes_where bs w o _ c.requires.within c.requires.passed_utf8 c.requires.rest_utf8 c.utf8.word (none_comes bs c.as_bytes-bytes.result.now w c.as_bytes-word.result.now o c.as_bytes-bytes.ensures.value c.as_bytes-word.ensures.value c.if-word-eq1.true c.in-None.ensures.lookup.3)

pub returns : goal.returns
returns c =
    let bs = c.args.text.now in
    let w = c.args.word.now in
    let o = c.args.at in
    comes_where bs w o c.starts_with.result c.requires.within c.requires.passed_utf8 c.requires.rest_utf8 c.utf8.word (comes bs c.as_bytes-bytes.result.now w c.as_bytes-word.result.now o c.starts_with.result c.as_bytes-bytes.ensures.value c.as_bytes-word.ensures.value c.starts_with.ensures.value)
