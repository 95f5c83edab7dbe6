use Rattle.pliron_text.proofs.OlderText.{text_stays, root_stays, refused_stays, still_refused}
use Rattle.pliron_text.proofs.laws.older.older_roots_print_as_before.Goals as goal

pub returns : goal.returns
returns g c p old new older = record {
  text = text_stays g.T.IrText g.A.IrText g.A.AttrText g.A.PartialEq.eq p old new older;
  root = root_stays g.T.IrText g.A.IrText g.A.AttrText g.A.PartialEq.eq p old new older;
  refused = refused_stays g.T.IrText g.A.IrText g.A.AttrText g.A.PartialEq.eq p old new older;
  still_refused = still_refused g.T.IrText g.A.IrText g.A.AttrText g.A.PartialEq.eq p old new older;
}
