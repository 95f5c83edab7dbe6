use Rattle.irtext_checked.proofs.insert.PtrTryInsert.try_insert_after.Goals as goal

pub put_after-requires : goal.put_after-requires
put_after-requires g c = rw (c.object.ensures, c.object-item.ensures) (g.K.Kind.alike c.args.mark c.args.self)
