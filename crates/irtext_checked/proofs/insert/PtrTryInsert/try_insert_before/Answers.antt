use Rattle.irtext_checked.proofs.insert.PtrTryInsert.try_insert_before.Goals as goal

pub put_before-requires : goal.put_before-requires
put_before-requires g c = rw (c.object.ensures, c.object-item.ensures) (g.K.Kind.alike c.args.mark c.args.self)
