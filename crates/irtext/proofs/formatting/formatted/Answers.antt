use Rattle.std.proofs.Common.{◌≡◌, ◌∙◌, sym, subst, string_bytes}
use Rattle.std.proofs.lemmas.Str.{IsUtf8-string_bytes}
use Rattle.irtext_context.specs.Context.{ContextView}
use Rattle.irtext.specs.Formatting.{demo_context}
use Rattle.irtext.specs.Roots.{ReadsRoot}
use Rattle.irtext.proofs.Answering.{rejected_fault, unprinted_fault, where_ok}
use Rattle.irtext.proofs.formatting.formatted.Goals as goal

pub returns-in-Err-clause-fault : goal.returns-in-Err-clause-fault
returns-in-Err-clause-fault g c =
    let demo = where_ok (c.register.new.ctx ≡ demo_context) c.register.result c.register.ensures (sym c.is_err.ensures.value ∙ c.if-is_err.false) in
    rejected_fault g.T.IrText g.A.IrText g.A.AttrText g.A.PartialEq.eq c.args.form (string_bytes c.args.text) (IsUtf8-string_bytes c.args.text) c.register.new.ctx demo c.read_root.new.ctx.paths c.in-Err.error c.in-Err.ensures.rejected c.rejection.result c.rejection.ensures

pub returns-in-Ok-print_text-clause-text : goal.returns-in-Ok-print_text-clause-text
returns-in-Ok-print_text-clause-text g c =
    let demo = where_ok (c.register.new.ctx ≡ demo_context) c.register.result c.register.ensures (sym c.is_err.ensures.value ∙ c.if-is_err.false) in
    record {
      utf8 = IsUtf8-string_bytes c.args.text;
      root = c.in-Ok.root;
      after = c.read_root.new.ctx;
      reads = subst (λ (z : ContextView g.row.T.Denot g.row.A.Denot). ReadsRoot g.T.IrText g.A.IrText (string_bytes c.args.text) z c.in-Ok.root c.read_root.new.ctx) demo c.in-Ok.ensures.reads;
      prints = c.in-Ok-print_text.ensures.text;
    }

pub returns-in-Err-print_text-clause-fault : goal.returns-in-Err-print_text-clause-fault
returns-in-Err-print_text-clause-fault g c =
    let demo = where_ok (c.register.new.ctx ≡ demo_context) c.register.result c.register.ensures (sym c.is_err.ensures.value ∙ c.if-is_err.false) in
    unprinted_fault g.T.IrText g.A.IrText g.A.AttrText g.A.PartialEq.eq c.args.form (string_bytes c.args.text) (IsUtf8-string_bytes c.args.text) c.register.new.ctx demo c.in-Ok.root c.read_root.new.ctx c.in-Ok.ensures.reads c.in-Err-print_text.field-0 c.in-Err-print_text.ensures.refused c.read_root.new.ctx.paths c.unprinted.result c.unprinted.ensures
