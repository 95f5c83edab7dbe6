use Rattle.std.proofs.Common.{refl}
use Rattle.irtext_base.specs.Own.{texts_of}
use Rattle.irtext_grammar.proofs.Graphs.OwnEquality.{sound, reflexive}
use Rattle.pliron_text.proofs.PrintedBack.{none_read}
use Rattle.pliron_text.proofs.laws.headline.limited_root_is_refused.Goals as goal

pub returns : goal.returns
returns g c ctx p x width n limit bytes printed left q old new follows_on same b =
    none_read (texts_of g.T.IrText.reading g.T.IrText.written) g.A.IrText.reading g.A.IrText.written g.met.T.IrText.lawful g.met.A.IrText.lawful g.met.A.AttrText.unreserved g.A.AttrText.outlined g.A.AttrText.print_once g.A.PartialEq.eq
    (sound g.A.PartialEq.eq g.met.A.IrText.decides refl) (reflexive g.A.PartialEq.eq g.met.A.IrText.decides refl) ctx p x width n bytes limit printed old follows_on same left q new b
