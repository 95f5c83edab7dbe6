use Rattle.std.proofs.Common.{refl}
use Rattle.irtext_base.specs.Own.{texts_of}
use Rattle.irtext_grammar.specs.Contexts.Nested.{printing_over}
use Rattle.irtext_grammar.proofs.Graphs.OwnEquality.{sound, reflexive}
use Rattle.irtext_tokens.specs.AttrTexts.{attr_at}
use Rattle.pliron_text.proofs.PrintedBack.{without_limit, gives_back_whole}
use Rattle.pliron_text.proofs.ReadClosed.{builds_there, printed_represents, read_closed}
use Rattle.pliron_text.proofs.laws.headline.read_root_comes_back.Goals as goal

pub returns-clause-closed : goal.returns-clause-closed
returns-clause-closed g c p before after x width n limit bytes root =
    read_closed (texts_of g.T.IrText.reading g.T.IrText.written) g.A.IrText.reading g.A.IrText.written g.A.AttrText.outlined g.A.AttrText.print_once g.A.PartialEq.eq p before after x root.read root.counters root.printed.sees root.printed.fits root.printed.kept.distinct

pub returns-clause-represented : goal.returns-clause-represented
returns-clause-represented g c p before after x width n limit bytes root = (
  _,
  builds_there (texts_of g.T.IrText.reading g.T.IrText.written) g.A.IrText.reading g.A.IrText.written g.A.AttrText.outlined g.A.AttrText.print_once g.A.PartialEq.eq p before after x root.read root.counters root.printed.sees root.printed.fits,
  printed_represents (texts_of g.T.IrText.reading g.T.IrText.written) g.A.IrText.reading g.A.IrText.written g.A.AttrText.outlined g.A.AttrText.print_once g.A.PartialEq.eq p before after x root.read root.counters root.printed.sees root.printed.fits,
)

pub returns-clause-whole : goal.returns-clause-whole
returns-clause-whole g c p before after x width n limit bytes root shown q old new follows_on same b =
    let closed = read_closed (texts_of g.T.IrText.reading g.T.IrText.written) g.A.IrText.reading g.A.IrText.written g.A.AttrText.outlined g.A.AttrText.print_once g.A.PartialEq.eq p before after x root.read root.counters root.printed.sees root.printed.fits root.printed.kept.distinct in
    gives_back_whole (texts_of g.T.IrText.reading g.T.IrText.written) g.A.IrText.reading g.A.IrText.written g.met.T.IrText.lawful g.met.A.IrText.lawful g.met.A.AttrText.unreserved g.A.AttrText.outlined g.A.AttrText.print_once g.A.PartialEq.eq
    (sound g.A.PartialEq.eq g.met.A.IrText.decides refl) (reflexive g.A.PartialEq.eq g.met.A.IrText.decides refl) after.state.ctx.now p x width n bytes (without_limit (texts_of g.T.IrText.reading g.T.IrText.written) (texts_of g.A.IrText.reading g.A.IrText.written) (attr_at g.A.IrText.reading) (printing_over after.state.ctx.now g.A.AttrText.outlined g.A.AttrText.print_once g.A.PartialEq.eq) after.state.ctx.now p x width n limit bytes root.printed shown) closed.0 old follows_on same closed.1 q new b
