use Rattle.std.proofs.Common.{◌∙◌, ap, map, refl}
use Rattle.irtext_print.specs.Mentions as mentions
use Rattle.irtext_print.proofs.Noted.{inserted, noted_place}
use Rattle.irtext_print.proofs.mentions.Mentions.note.Goals as goal

pub returns-in-Ok-clause-known : goal.returns-in-Ok-clause-known
returns-in-Ok-clause-known g c =
    ap (map (λ r. r.now)) c.in-Ok.ensures.keys ∙ inserted (mentions.asking g.A.AttrText.print_once g.A.PartialEq.eq) c.args.attr c.args.self.now.known.keys

pub returns-in-Ok-clause-place : goal.returns-in-Ok-clause-place
returns-in-Ok-clause-place g c = λ more.
    noted_place (mentions.asking g.A.AttrText.print_once g.A.PartialEq.eq) (λ a. (g.met.A.IrText.decides a a).1 refl) c.args.attr c.args.self.now.known.keys c.insert_full.new.set.keys c.in-Ok.place
    c.in-Ok.ensures.keys c.in-Ok.ensures.index more
