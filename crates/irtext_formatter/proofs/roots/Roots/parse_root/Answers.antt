use Rattle.std.proofs.Common.{subst}
use Rattle.irtext_formatter.proofs.Rooted.{reads, is_live, ready_still, begins, can_take_back, all_new, shorter}
use Rattle.irtext_formatter.specs.Rows.{IsSound}
use Rattle.irtext_formatter.proofs.roots.Roots.parse_root.Goals as goal

pub returns-clause-reads : goal.returns-clause-reads
returns-clause-reads g c = λ ready. reads g.T.IrText g.A.IrText c.args.self.now (record { stream = c.outermost_parse-parsed.new.s; made = c.made_in-self.result; begin = c.position-self.result }) ready (subst (λ x. IsSound x.graph) c.context_of.ensures (record { nested = c.keeps_sound.ensures.nested; used = c.keeps_sound.ensures.used })) c.outermost_parse-parsed.result (c.outermost_parse-parsed.ensures.resolves.builds ready.fresh)

pub returns-clause-refuses : goal.returns-clause-refuses
returns-clause-refuses g c = λ ready. c.outermost_parse-parsed.ensures.first.fails ready.fresh

pub returns-clause-ready : goal.returns-clause-ready
returns-clause-ready g c = λ ready. ready_still g.T.IrText g.A.IrText c.args.self.now (record { stream = c.outermost_parse-parsed.new.s; made = c.made_in-self.result; begin = c.position-self.result }) ready c.outermost_parse-parsed.ensures.undone.rest c.outermost_parse-parsed.result (c.outermost_parse-parsed.ensures.resolves.builds ready.fresh)

pub returns-clause-begin : goal.returns-clause-begin
returns-clause-begin g c = λ ready. begins g.T.IrText g.A.IrText c.args.self.now (record { stream = c.outermost_parse-parsed.new.s; made = c.made_in-self.result; begin = c.position-self.result }) c.position-self.ensures c.outermost_parse-parsed.result (c.outermost_parse-parsed.ensures.resolves.builds ready.fresh)

pub returns-clause-objects : goal.returns-clause-objects
returns-clause-objects g c = c.outermost_parse-parsed.ensures.undone.objects

pub returns-clause-back : goal.returns-clause-back
returns-clause-back g c = λ ready. can_take_back g.T.IrText g.A.IrText c.args.self.now (record { stream = c.outermost_parse-parsed.new.s; made = c.made_in-self.result; begin = c.position-self.result }) c.made_in-self.ensures.made c.made_in-self.ensures.older c.made_in-self.ensures.closed c.outermost_parse-parsed.result (c.outermost_parse-parsed.ensures.keeps ready.fresh)

pub returns-clause-inside : goal.returns-clause-inside
returns-clause-inside g c = λ ready. all_new g.T.IrText g.A.IrText c.args.self.now (record { stream = c.outermost_parse-parsed.new.s; made = c.made_in-self.result; begin = c.position-self.result }) c.made_in-self.ensures.made c.outermost_parse-parsed.result (c.outermost_parse-parsed.ensures.keeps ready.fresh) (c.outermost_parse-parsed.ensures.resolves.builds ready.fresh)

pub returns-clause-shorter : goal.returns-clause-shorter
returns-clause-shorter g c = λ ready. shorter g.T.IrText g.A.IrText c.args.self.now (record { stream = c.outermost_parse-parsed.new.s; made = c.made_in-self.result; begin = c.position-self.result }) c.outermost_parse-parsed.result c.outermost_parse-parsed.ensures.first.read

pub returns-clause-live : goal.returns-clause-live
returns-clause-live g c = λ ready. is_live g.T.IrText g.A.IrText c.args.self.now (record { stream = c.outermost_parse-parsed.new.s; made = c.made_in-self.result; begin = c.position-self.result }) c.outermost_parse-parsed.result (c.outermost_parse-parsed.ensures.resolves.builds ready.fresh)
