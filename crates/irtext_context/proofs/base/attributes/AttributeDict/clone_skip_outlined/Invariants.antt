use Rattle.std.proofs.Common.{◌≡◌, []}
use Rattle.std.specs.Str.{bytes_eq}
use Rattle.indexmap.specs.IndexMap.{insert_all}
use Rattle.irtext_context.specs.Dictionary.{without_outlined}
use Rattle.irtext_context.specs.Entries.{entries_left}
use Rattle.irtext_context.proofs.base.attributes.AttributeDict.clone_skip_outlined.Given as goal

-- what is left to copy, put into the copy, makes the same as all that is to be copied, put into an empty one
abbrev pub invariant-loop-key : goal.invariant-loop-key
invariant-loop-key g l =
    insert_all bytes_eq l.others (without_outlined g.A.AttrText.outlined (entries_left l.key-iterator))
    ≡ insert_all bytes_eq [] (without_outlined g.A.AttrText.outlined l.self)
