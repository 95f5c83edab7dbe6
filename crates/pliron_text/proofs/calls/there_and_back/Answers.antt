use Rattle.std.proofs.Common.{◌<◌, ◌^◌, refl, subst, length, string_bytes}
use Rattle.std.proofs.lemmas.Str.{IsUtf8-string_bytes}
use Rattle.irtext_grammar.proofs.Graphs.OwnEquality.{sound, reflexive}
use Rattle.irtext_print.specs.Printers.Appended.{fresh}
use Rattle.irtext_names.specs.OnlyNew.{OnlyNew}
use Rattle.pliron_text.proofs.Back.{is_back, read_printed}
use Rattle.pliron_text.proofs.calls.there_and_back.Goals as goal

pub returns-in-Err-clause-refused : goal.returns-in-Err-clause-refused
returns-in-Err-clause-refused g c = λ nowhere x sees shown closed. c.in-Err.ensures.refused

-- ---- the text was parsed back
pub returns-in-Ok-read_text : goal.returns-in-Ok-read_text
returns-in-Ok-read_text g c =
    let facts = is_back g.T.IrText g.A.IrText g.A.AttrText g.A.PartialEq.eq c.args.ctx.now c.args.op c.keeps_parts.ensures.all.counters.nested (fresh c.args.layout.now.width c.args.layout.now.indent c.args.layout.now.limit)
    g.met.T.IrText.lawful g.met.A.IrText.lawful g.met.A.AttrText.unreserved (sound g.A.PartialEq.eq g.met.A.IrText.decides refl) (reflexive g.A.PartialEq.eq g.met.A.IrText.decides refl)
    (string_bytes c.in-Ok.text) (IsUtf8-string_bytes c.in-Ok.text) (subst (λ z. length z < 2 ^ 64) c.as_str-bytes.ensures.value c.bytes_counted.ensures) c.in-Ok.ensures.text
    c.as_str-bytes.result.now c.as_str-bytes.ensures.value c.args.other.now c.requires.known (c.keeps_parts.ensures.kept c.args.op) in
    let root = c.in-Ok-read_text.root in
    let left = c.read_text.new.ctx in
    let reads = c.in-Ok-read_text.ensures.reads in
    record {
      reads = read_printed g.T.IrText g.A.IrText g.A.AttrText g.A.PartialEq.eq c.args.ctx.now c.args.op c.keeps_parts.ensures.all.counters.nested (fresh c.args.layout.now.width c.args.layout.now.indent c.args.layout.now.limit)
          (string_bytes c.in-Ok.text) c.in-Ok.ensures.text c.as_str-bytes.result.now c.as_str-bytes.ensures.value c.args.other.now root left reads;
      back = λ nowhere x sees shown closed. (facts nowhere x sees).back shown closed root left reads;
      whole = λ nowhere x sees shown closed. (facts nowhere x sees).whole shown closed root left reads;
      limited = λ nowhere x sees fits out. (facts nowhere x sees).limited fits out root left reads;
      only = subst (λ z. OnlyNew root z left) reads.begins.context (subst (OnlyNew root reads.old.state.ctx.now) reads.ends reads.builds.only);
      refused = λ nowhere x sees shown closed. tt;
      objects = tt;
    }

-- ---- it was not
pub returns-clause-refused : goal.returns-clause-refused
returns-clause-refused g c = λ nowhere x sees shown closed.
    (is_back g.T.IrText g.A.IrText g.A.AttrText g.A.PartialEq.eq c.args.ctx.now c.args.op c.keeps_parts.ensures.all.counters.nested (fresh c.args.layout.now.width c.args.layout.now.indent c.args.layout.now.limit)
    g.met.T.IrText.lawful g.met.A.IrText.lawful g.met.A.AttrText.unreserved (sound g.A.PartialEq.eq g.met.A.IrText.decides refl) (reflexive g.A.PartialEq.eq g.met.A.IrText.decides refl)
    (string_bytes c.in-Ok.text) (IsUtf8-string_bytes c.in-Ok.text) (subst (λ z. length z < 2 ^ 64) c.as_str-bytes.ensures.value c.bytes_counted.ensures) c.in-Ok.ensures.text
    c.as_str-bytes.result.now c.as_str-bytes.ensures.value c.args.other.now c.requires.known (c.keeps_parts.ensures.kept c.args.op) nowhere x sees).refused shown closed c.in-Err-read_text.fault c.in-Err-read_text.ensures.refuses
