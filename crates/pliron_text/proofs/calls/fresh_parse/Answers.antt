use Rattle.pliron_text.proofs.calls.fresh_parse.Goals as goal

pub returns-clause-builds : goal.returns-clause-builds
returns-clause-builds g c = c.outermost_parse.ensures.resolves.builds c.requires.fresh

pub returns-clause-unresolved : goal.returns-clause-unresolved
returns-clause-unresolved g c = c.outermost_parse.ensures.first.fails c.requires.fresh

pub returns-clause-objects : goal.returns-clause-objects
returns-clause-objects g c = c.outermost_parse.ensures.undone.objects
