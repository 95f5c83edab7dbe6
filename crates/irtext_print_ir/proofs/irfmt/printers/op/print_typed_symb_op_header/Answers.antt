use Rattle.std.proofs.Common.{◌≡◌, ◌++◌, Option, Some, None, Result, Ok, Err, OnErr, sym, true≢false, string_bytes}
use Rattle.std.specs.Option.{IsSomeAnd}
use Rattle.std.specs.Result.{IsErr}
use Rattle.std.specs.Str.{encode_utf8_all}
use Rattle.std.specs.declared.string.String.{String}
use Rattle.std.specs.declared.alloc.Global.{Global}
use Rattle.irtext_base.proofs.OnlyAppended.{appends_next, appends_this, failed_after}
use Rattle.irtext_base.specs.Appending.{OnlyAppends}
use Rattle.irtext_base.specs.Text.{Text}
use Rattle.irtext_print.proofs.Printers.Appended.{after_call}
use Rattle.irtext_print_ir.proofs.Printers.OpPrinters.{typed_appended}
use Rattle.irtext_print_ir.proofs.irfmt.printers.op.print_typed_symb_op_header.Goals as goal

-- the text of a part was appended
part_appended : {old new : String Global} (o : Option Text) → IsSomeAnd o (λ t. string_bytes new ≡ string_bytes old ++ encode_utf8_all t) → OnlyAppends old new
part_appended None h = absurd h
part_appended (Some t) h = appends_this (encode_utf8_all t) h

-- what a call that failed left, where its result was turned into another error
failed_call : {X Y E F : Type 0} (P : Type 0) (r : Result X E) (answer : Result Y F) → OnErr r (IsErr answer) → OnErr answer P → OnErr r P
failed_call P (Ok x) answer h p = tt
failed_call P (Err e) (Ok y) h p = absurd (true≢false (sym h))
failed_call P (Err e) (Err x) h p = p

pub returns-clause-prints : goal.returns-clause-prints
returns-clause-prints g c =
    let header = c.in_ok-print_symb_op_header.ensures.prints in
    after_call c.memory_alone.result c.write_text.result c.memory_alone.ensures.ok c.write_text.ensures.text (λ p. record {
      view = header.view;
      alive = header.alive;
      text = typed_appended header.view (g.T.IrText.written c.args.ty.now) (string_bytes c.args.f.now) (string_bytes c.print_symb_op_header.new.f) (string_bytes c.push_str.new.text) (string_bytes c.write_text.new.f)
          header.text c.in_ok-push_str.ensures.bytes p;
    })

pub returns-clause-appended : goal.returns-clause-appended
returns-clause-appended g c =
    let header = c.in_ok-print_symb_op_header.ensures.prints in
    failed_after c.memory_alone.result c.write_text.new.f (appends_next {now = c.print_symb_op_header.new.f} {new = c.push_str.new.text} (part_appended _ header.text) _ c.in_ok-push_str.ensures.bytes)
    (failed_call _ c.memory_alone.result c.write_text.result c.memory_alone.ensures.err c.write_text.ensures.appended)
