use Rattle.std.proofs.Common.{◌∙◌, refl, ap}
use Rattle.std.specs.Prelude.{string_bytes}
use Rattle.irtext_stream.specs.Classes.{after_spaces}
use Rattle.irtext_formatter.specs.Lines.{then_root}
use Rattle.irtext_formatter.specs.Rows.{follows}
use Rattle.irtext_formatter.specs.Stands.{held_by}
use Rattle.irtext_formatter.proofs.Standing.{begun, stepped, failed, kept_first, kept_on}
use Rattle.irtext_formatter.proofs.format.print_all.Goals as goal

pub loop-left-init : goal.loop-left-init
loop-left-init g c =
    let is = c.is_left-left.ensures in
    record {
      lent = is.lent;
      ready = λ e. is.ready c.requires.ready;
      stands = λ text at bare. (
        string_bytes c.args.out.now,
        begun g.T.IrText g.A.IrText g.A.AttrText g.A.PartialEq.eq c.args.layout text (held_by c.args.roots.now) c.is_left-left.new.self (string_bytes c.args.out.now) c.is_left-left.result (is.place ∙ ap after_spaces at) (ap (λ s. s.ctx.now) is.state) (is.left ∙ ap (λ v. follows v.rest) at) bare,
        kept_first c.args.kept (string_bytes c.args.out.now),
      );
    }

pub loop-left-preserved : goal.loop-left-preserved
loop-left-preserved g c =
    let on = c.in-Ok.ensures.goes_on in
    record {
      lent = c.append_next.ensures.lent ∙ c.loop-left.invariant.lent;
      ready = λ e. (on.1.left e).1;
      stands = λ text at bare.
          let so_far = c.loop-left.invariant.stands text at bare in (
            then_root so_far.0 on.0,
            stepped g.T.IrText g.A.IrText g.A.AttrText g.A.PartialEq.eq c.args.layout text (held_by c.args.roots.now) c.loop-left.roots c.append_next.new.roots so_far.0 (then_root so_far.0 on.0) on.0 c.in-Ok.followed (so_far.1.going c.loop-left-test.true) on.1 refl,
            kept_on c.args.kept so_far.0 (string_bytes c.loop-left.out) (string_bytes c.make_room.new.out) on.0 (string_bytes c.append_next.new.out) so_far.2 c.make_room.ensures on.2,
          );
    }

pub returns-in-Err-clause-fails : goal.returns-in-Err-clause-fails
returns-in-Err-clause-fails g c = λ text at bare.
    let so_far = c.loop-left.invariant.stands text at bare in
    failed g.T.IrText g.A.IrText g.A.AttrText g.A.PartialEq.eq c.args.layout text (held_by c.args.roots.now) c.loop-left.roots so_far.0 c.in-Err.fault (so_far.1.going c.loop-left-test.true) c.in-Err.ensures.fails
