use Rattle.std.proofs.Common.{refl}
use Rattle.irtext_base.specs.Own.{texts_of}
use Rattle.irtext_grammar.specs.Contexts.Nested.{printing_over}
use Rattle.irtext_grammar.proofs.Graphs.OwnEquality.{sound, reflexive}
use Rattle.irtext_tokens.specs.AttrTexts.{attr_at}
use Rattle.pliron_text.proofs.PrintedBack.{without_limit, gives_back_root, gives_back_whole, not_refused}
use Rattle.pliron_text.proofs.laws.headline.printed_root_comes_back.Goals as goal

pub returns-clause-builds : goal.returns-clause-builds
returns-clause-builds g c ctx p x width n limit bytes printed shown closed q old new follows_on same b =
    gives_back_root (texts_of g.T.IrText.reading g.T.IrText.written) g.A.IrText.reading g.A.IrText.written g.met.T.IrText.lawful g.met.A.IrText.lawful g.met.A.AttrText.unreserved g.A.AttrText.outlined g.A.AttrText.print_once g.A.PartialEq.eq
    (sound g.A.PartialEq.eq g.met.A.IrText.decides refl) (reflexive g.A.PartialEq.eq g.met.A.IrText.decides refl) ctx p x width n bytes (without_limit (texts_of g.T.IrText.reading g.T.IrText.written) (texts_of g.A.IrText.reading g.A.IrText.written) (attr_at g.A.IrText.reading) (printing_over ctx g.A.AttrText.outlined g.A.AttrText.print_once g.A.PartialEq.eq) ctx p x width n limit bytes printed shown) closed old follows_on same q new b

pub returns-clause-whole : goal.returns-clause-whole
returns-clause-whole g c ctx p x width n limit bytes printed shown closed named q old new follows_on same b =
    gives_back_whole (texts_of g.T.IrText.reading g.T.IrText.written) g.A.IrText.reading g.A.IrText.written g.met.T.IrText.lawful g.met.A.IrText.lawful g.met.A.AttrText.unreserved g.A.AttrText.outlined g.A.AttrText.print_once g.A.PartialEq.eq
    (sound g.A.PartialEq.eq g.met.A.IrText.decides refl) (reflexive g.A.PartialEq.eq g.met.A.IrText.decides refl) ctx p x width n bytes (without_limit (texts_of g.T.IrText.reading g.T.IrText.written) (texts_of g.A.IrText.reading g.A.IrText.written) (attr_at g.A.IrText.reading) (printing_over ctx g.A.AttrText.outlined g.A.AttrText.print_once g.A.PartialEq.eq) ctx p x width n limit bytes printed shown) closed old follows_on same named q new b

pub returns-clause-never_refused : goal.returns-clause-never_refused
returns-clause-never_refused g c ctx p x width n limit bytes printed shown closed types_at old fault follows_on same there =
    not_refused (texts_of g.T.IrText.reading g.T.IrText.written) g.A.IrText.reading g.A.IrText.written g.met.T.IrText.lawful g.met.A.IrText.lawful g.met.A.AttrText.unreserved g.A.AttrText.outlined g.A.AttrText.print_once g.A.PartialEq.eq
    (sound g.A.PartialEq.eq g.met.A.IrText.decides refl) (reflexive g.A.PartialEq.eq g.met.A.IrText.decides refl) ctx p x width n bytes (without_limit (texts_of g.T.IrText.reading g.T.IrText.written) (texts_of g.A.IrText.reading g.A.IrText.written) (attr_at g.A.IrText.reading) (printing_over ctx g.A.AttrText.outlined g.A.AttrText.print_once g.A.PartialEq.eq) ctx p x width n limit bytes printed shown) closed old follows_on same types_at fault there
