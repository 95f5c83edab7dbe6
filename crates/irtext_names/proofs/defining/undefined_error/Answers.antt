use Rattle.std.proofs.Common.{inl, inr, length}
use Rattle.irtext_names.specs.Definitions.{numbers_of}
use Rattle.irtext_names.proofs.Numbered.{known_at, item_there, number_there}
use Rattle.irtext_names.proofs.defining.undefined_error.Goals as goal

pub name_error-requires : goal.name_error-requires
name_error-requires g c =
    let ns = c.args.defined.now in
    let i = c.args.undefined.index in
    let read = c.index.result.now in
    known_at (length c.args.names.now.names) (numbers_of ns) i read.name (number_there ns i read (item_there ns i read c.requires.within c.index.ensures)) c.requires.known

pub returns-in-MultipleDefinitions : goal.returns-in-MultipleDefinitions
returns-in-MultipleDefinitions g c = elim c.name_error.ensures [
  | inl ran_out ↦ inl ran_out
  | inr says ↦ inr (record {
    twice = c.in-MultipleDefinitions.is;
    read = c.index.result.now;
    is = item_there c.args.defined.now c.args.undefined.index c.index.result.now c.requires.within c.index.ensures;
    says = says;
  })
]
